use Rattle.std.proofs.Common.{◌≡◌, ◌<◌, ◌++◌, All, IfSome, take, true}
use Rattle.std.specs.Option.{IsSomeAnd}
use Rattle.abc_fold.specs.Piece.{IsKept, cells_of}
use Rattle.abc_live_text.specs.PieceEnd.{EndsAt}
use Rattle.abc_live_text.specs.Pieces.{address_from, kept_states_in, kept_states_at}
use Rattle.abc_live_text.proofs.refold.Refold.append_cells.Given as goal

abbrev pub invariant-loop-k : goal.invariant-loop-k
invariant-loop-k g l = record {
  cells : cells_of l.pieces ≡ cells_of l.initial.pieces ++ take l.k l.row.cells;
  kept_states : kept_states_in l.pieces ≡ kept_states_in l.initial.pieces ++ kept_states_at l.self.chains.now.items l.row.origin (take l.k l.row.cells);
  kept : All (IsKept (g.F.Fold.steps l.self.fold.now)) l.pieces;
  known : l.known ≡ true → IsSomeAnd (address_from l.k l.row.origin) (λ at. EndsAt l.self.chains.now.items l.pieces at.0 at.1);
  ends : 0 < l.k → IfSome (address_from l.k l.row.origin) (λ at. EndsAt l.self.chains.now.items l.pieces at.0 at.1);
}
