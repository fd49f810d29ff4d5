use Rattle.abc_bars_notes.proofs.Acting.{marks_act, factors_act}
use Rattle.abc_bars_notes.proofs.laws.acting_marks.Goals as goal

pub returns-clause-marks : goal.returns-clause-marks
returns-clause-marks c = marks_act

pub returns-clause-factors : goal.returns-clause-factors
returns-clause-factors c = factors_act
