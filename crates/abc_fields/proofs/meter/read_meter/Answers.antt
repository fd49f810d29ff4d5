use Rattle.std.proofs.Common.{rules, ◌≡◌}
use Rattle.abc_fields.specs.Meter.{meter_of}
use Rattle.abc_fields.proofs.Readings.{exact_reading}
use Rattle.abc_fields.proofs.MeterTexts.{meter_read}
use Rattle.abc_fields.proofs.meter.read_meter.Goals as goal

pub returns : goal.returns
returns c =
    let e : c.ok_or.result ≡ meter_of c.args.value.now = search rules in
    let read = meter_read c.args.value.now c.ok_or.result e in
    record { value = e; exact = exact_reading read; range = read.range }
