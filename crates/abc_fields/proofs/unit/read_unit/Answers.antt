use Rattle.std.proofs.Common.{rules, ◌≡◌}
use Rattle.abc_fields.specs.Unit.{unit_of}
use Rattle.abc_fields.proofs.Readings.{exact_reading}
use Rattle.abc_fields.proofs.Units.{unit_read}
use Rattle.abc_fields.proofs.unit.read_unit.Goals as goal

pub returns : goal.returns
returns c =
    let e : c.ok_or.result ≡ unit_of c.args.value.now = search rules in
    let read = unit_read c.args.value.now c.ok_or.result e in
    record { value = e; exact = exact_reading read; range = read.range }
