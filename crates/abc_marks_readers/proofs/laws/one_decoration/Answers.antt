use Rattle.abc_marks_readers.proofs.Decorations.{reads}
use Rattle.abc_marks_readers.proofs.laws.one_decoration.Goals as goal

pub returns : goal.returns
returns c = reads
