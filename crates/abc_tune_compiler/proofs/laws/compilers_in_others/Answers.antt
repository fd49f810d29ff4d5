use Rattle.abc_tune_compiler.proofs.Embedding.{has_same_book, has_same_tune}
use Rattle.abc_tune_compiler.proofs.laws.compilers_in_others.Goals as goal

pub returns-clause-tunes : goal.returns-clause-tunes
returns-clause-tunes g c = has_same_tune

pub returns-clause-book : goal.returns-clause-book
returns-clause-book g c = has_same_book
