use Rattle.std.proofs.Common.{◌<◌, IfOk, length, sym, subst}
use Rattle.abc_fold.specs.Chain.{ChainView, Folds, IsKeptAt}
use Rattle.abc_live_text.proofs.pieces.kept_piece.Goals as goal

pub kept-requires : goal.kept-requires
kept-requires g c = subst (λ (x : ChainView g.row.F-State.Denot g.row.F-Cell.Denot g.row.F-Items.Denot). c.args.i < length x.cells) (sym c.get.ensures) c.requires

pub returns-clause-place : goal.returns-clause-place
returns-clause-place g c = subst (λ (x : ChainView g.row.F-State.Denot g.row.F-Cell.Denot g.row.F-Items.Denot). IfOk c.kept.result
    (λ piece. IsKeptAt x c.args.i piece)) c.get.ensures c.kept.ensures.place

pub returns-clause-resumable : goal.returns-clause-resumable
returns-clause-resumable g c = λ steps opening laws folds. c.kept.ensures.resumable steps opening laws
    (subst (λ (x : ChainView g.row.F-State.Denot g.row.F-Cell.Denot g.row.F-Items.Denot). Folds steps opening x) (sym c.get.ensures) folds)
