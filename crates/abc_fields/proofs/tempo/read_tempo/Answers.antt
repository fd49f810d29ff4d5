use Rattle.std.proofs.Common.{◌≡◌, ◌∙◌, ap}
use Rattle.std.specs.Prelude.{ok_or}
use Rattle.abc_fields.specs.declared.fault_code.FaultCode.TheVariants.{BadTempo}
use Rattle.abc_fields.specs.Tempo.{tempo_of}
use Rattle.abc_fields.proofs.Readings.{exact_reading}
use Rattle.abc_fields.proofs.Tempos.{tempo_read}
use Rattle.abc_fields.proofs.tempo.read_tempo.Goals as goal

pub returns : goal.returns
unfolding tempo_of
returns c =
    let e : c.ok_or.result ≡ tempo_of c.args.value.now = c.ok_or.ensures.value ∙ ap (λ m. ok_or m BadTempo) c.tempo_in.ensures in
    let read = tempo_read c.args.value.now c.ok_or.result e in
    record { value = e; exact = exact_reading read; range = read.range }
