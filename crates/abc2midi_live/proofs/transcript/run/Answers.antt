use Rattle.abc2midi_live.proofs.Runs.{runs_exit}
use Rattle.abc2midi_live.proofs.transcript.run.Goals as goal

pub returns-in_err-_dialogue : goal.returns-in_err-_dialogue
returns-in_err-_dialogue g c = record { value = runs_exit c.from_residual.result c.in_err-_dialogue.field-0.0 _ _ _ c.from_residual.ensures c.in_err-_dialogue.ensures.value }
