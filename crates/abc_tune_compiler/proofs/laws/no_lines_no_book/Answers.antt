use Rattle.abc_tune_compiler.proofs.Moves.{no_lines_no_book}
use Rattle.abc_tune_compiler.proofs.laws.no_lines_no_book.Goals as goal

pub returns : goal.returns
returns g c = no_lines_no_book
