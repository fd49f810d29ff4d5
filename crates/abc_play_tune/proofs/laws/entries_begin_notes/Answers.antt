use Rattle.abc_play_tune.proofs.AllTones.{groups_entries}
use Rattle.abc_play_tune.proofs.Begun.{begins_notes}
use Rattle.abc_play_tune.proofs.laws.entries_begin_notes.Goals as goal

pub returns-clause-notes : goal.returns-clause-notes
returns-clause-notes c = begins_notes

pub returns-clause-order : goal.returns-clause-order
returns-clause-order c = groups_entries
