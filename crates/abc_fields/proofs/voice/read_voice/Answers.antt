use Rattle.std.proofs.Common.{ap, ◌∙◌}
use Rattle.std.specs.Option.{ok_or}
use Rattle.abc_fields.specs.declared.fault_code.FaultCode.TheVariants.{BadVoice}
use Rattle.abc_fields.specs.Voice.{voice_of}
use Rattle.abc_fields.proofs.Readings.{exact_reading}
use Rattle.abc_fields.proofs.Voices.{voice_read}
use Rattle.abc_fields.proofs.voice.read_voice.Goals as goal

pub returns-clause-value : goal.returns-clause-value
unfolding voice_of
returns-clause-value c = c.ok_or.ensures.value ∙ ap (λ o. ok_or o BadVoice) c.voice_in.ensures.value

pub returns-clause-exact : goal.returns-clause-exact
returns-clause-exact c = exact_reading (voice_read c.args.value.now c.ok_or.result (returns-clause-value c))
