use Rattle.abc_bars.proofs.LookBack.Marks.{empty_chords_give_none, empty_chords_leave_all}
use Rattle.abc_bars.proofs.laws.faults.empty_chords.Goals as goal

pub returns-clause-none : goal.returns-clause-none
returns-clause-none c = empty_chords_give_none

pub returns-clause-all : goal.returns-clause-all
returns-clause-all c = empty_chords_leave_all
