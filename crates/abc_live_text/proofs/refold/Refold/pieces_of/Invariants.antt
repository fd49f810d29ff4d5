use Rattle.std.proofs.Common.{◌≡◌, ◌-◌, All, IfSome, take, drop}
use Rattle.std.specs.List.{flat_map}
use Rattle.abc_fold.specs.Piece.{IsKept, cells_of}
use Rattle.abc_live_cost.specs.Origin.{Origin}
use Rattle.abc_live_text.specs.PieceEnd.{EndsAt}
use Rattle.abc_live_text.specs.Pieces.{cells_in, kept_states_in, kept_states_of}
use Rattle.abc_live_text.proofs.refold.Refold.pieces_of.Given as goal

abbrev pub invariant-loop-i : goal.invariant-loop-i
invariant-loop-i g l = record {
  cells : cells_of l.pieces ≡ flat_map cells_in (take (l.i - l.block.from) (drop l.block.from l.self.rows.now));
  kept_states : kept_states_in l.pieces ≡ flat_map (kept_states_of l.self.chains.now.items) (take (l.i - l.block.from) (drop l.block.from l.self.rows.now));
  kept : All (IsKept (g.F.Fold.steps l.self.fold.now)) l.pieces;
  ends : IfSome l.end (λ (end : Origin). EndsAt l.self.chains.now.items l.pieces end.source end.first);
}
