use Rattle.abc_bars.proofs.LookBack.Marks.{bad_marks_do_not_act}
use Rattle.abc_bars.proofs.laws.faults.bad_marks_of_cells.Goals as goal

pub returns : goal.returns
returns c = bad_marks_do_not_act
