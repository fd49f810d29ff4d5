use Rattle.abc_marks_readers.proofs.ChordKinds.{reads}
use Rattle.abc_marks_readers.proofs.laws.one_kind.Goals as goal

pub returns : goal.returns
returns c = reads
