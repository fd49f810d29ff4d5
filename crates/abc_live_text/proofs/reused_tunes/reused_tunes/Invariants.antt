use Rattle.std.proofs.Common.{take, drop}
use Rattle.std.specs.List.{AllZip}
use Rattle.abc_live_text.specs.Pieces.{IsChain}
use Rattle.abc_live_text.specs.ReusedTunes.{KnowsAlong}
use Rattle.abc_live_cost.specs.OldItems.{HasItemsOf}
use Rattle.abc_live_text.proofs.reused_tunes.reused_tunes.Given as goal

abbrev pub invariant-loop-place : goal.invariant-loop-place
invariant-loop-place g l = record {
  items : (opening : g.row.F-State.Denot) → AllZip (IsChain (g.F.Fold.steps l.fold) opening l.rows) l.chains l.tunes
      → AllZip (HasItemsOf (drop 1 l.old.items)) (take l.place l.chains) l.reused_tunes.items;
  along : (opening : g.row.F-State.Denot) → AllZip (IsChain (g.F.Fold.steps l.fold) opening l.rows) l.chains l.tunes
      → KnowsAlong (g.F.Fold.steps l.fold) l.old.items opening l.rows (take l.place l.tunes) l.reused_tunes.items;
}
