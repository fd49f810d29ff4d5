use Rattle.abc2midi_live.proofs.Runs.{runs_exit}
use Rattle.abc2midi_live.proofs.transcript.run_before_exit.Goals as goal

pub returns-in_err-dialogue : goal.returns-in_err-dialogue
returns-in_err-dialogue g c = record { value = runs_exit c.from_residual.result c.in_err-dialogue.field-0.0 _ _ _ c.from_residual.ensures c.in_err-dialogue.ensures.value }
