use Rattle.abc_tune_compiler.proofs.Moves.{cells_move, items_move, faults_move, tunes_move}
use Rattle.abc_tune_compiler.proofs.laws.tunes_move.Goals as goal

pub returns-clause-cells : goal.returns-clause-cells
returns-clause-cells g c = cells_move

pub returns-clause-items : goal.returns-clause-items
returns-clause-items g c = items_move

pub returns-clause-faults : goal.returns-clause-faults
returns-clause-faults g c = faults_move

pub returns-clause-tunes : goal.returns-clause-tunes
returns-clause-tunes g c = tunes_move
