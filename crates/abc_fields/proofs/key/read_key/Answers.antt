use Rattle.std.proofs.Common.{◌≡◌, ap, ◌∙◌}
use Rattle.std.specs.Option.{ok_or}
use Rattle.abc_fields.specs.declared.fault_code.FaultCode.TheVariants.{BadKey}
use Rattle.abc_fields.specs.Key.{key_of}
use Rattle.abc_fields.proofs.Readings.{exact_reading}
use Rattle.abc_fields.proofs.Keys.{key_read}
use Rattle.abc_fields.proofs.key.read_key.Goals as goal

pub returns : goal.returns
returns c =
    let e : c.ok_or.result ≡ key_of c.args.value.now = c.ok_or.ensures.value ∙ ap (λ o. ok_or o BadKey) c.key_in.ensures in
    let read = key_read c.args.value.now c.ok_or.result e in
    record { value = e; exact = exact_reading read; range = read.range }
