use Rattle.std.proofs.Common.{◌≡◌, ℕ, ◌+◌, length, true, drop}
use Rattle.abc_fold.specs.Piece.{steps_needed}
use Rattle.abc_fold.proofs.Folding.{IsAhead, IsWithin}
use Rattle.abc_fold.proofs.Following.{IsLeftAfter}
use Rattle.abc_fold.proofs.chain.fold_pieces.Given as goal

-- There is room for what is still to come.
abbrev pub HasRooms : (count i states cells items : ℕ) → Type 0
HasRooms count i states cells items = (states + i ≡ count + 1) × (cells + i ≡ count) × (items + i ≡ count)

abbrev pub invariant-loop-i : goal.invariant-loop-i
invariant-loop-i g l = record {
  ahead : IsAhead (g.F.Fold.steps l.fold) l.opening l.pieces l.state (drop l.i l.pieces) l.states.items l.cells.items l.items.items;
  within : IsWithin (g.F.Work.Counts.counts l.initial.work) (g.F.Work.Counts.counts l.work)
      (steps_needed (g.F.Fold.steps l.fold) l.state (drop l.i l.pieces)) (steps_needed (g.F.Fold.steps l.fold) l.opening l.pieces);
  left : l.is_reused ≡ true → IsLeftAfter l.pieces l.i l.state;
  rooms : HasRooms (length l.pieces) l.i l.states.room l.cells.room l.items.room;
}
