use Rattle.abc_fold.proofs.Kept.{kept_of}
use Rattle.abc_fold.proofs.chain.Chain.kept.Goals as goal

pub returns-clause-resumable : goal.returns-clause-resumable
returns-clause-resumable g c = λ steps opening laws folds.
    kept_of steps laws opening c.args.self.now c.args.i _ folds c.copy_piece.ensures
