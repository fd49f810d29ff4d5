-- Which pieces follow each other. Not in ABC 2.1.
use Rattle.std.specs.Prelude.{◌≡◌, ℕ, ◌-◌, ◌<◌, Bool, true, List, length, Some, slice_get}
use Rattle.abc_fold.specs.declared.piece.Piece.{Piece}
use Rattle.abc_fold.specs.declared.piece.Piece.TheVariants.{New, Kept}

-- A kept piece was left in this very state.
abbrev pub IsLeftIn : {F State Cell Items Work : Type 0} → State → Piece F State Cell Items Work → Type 0
IsLeftIn state (New cell) = ⊥
IsLeftIn state (Kept cell entered left items) = state ≡ left

-- A kept piece was entered in the very state in which the kept one before it was left.
abbrev pub Follows : {F State Cell Items Work : Type 0} → Piece F State Cell Items Work → Piece F State Cell Items Work → Type 0
Follows before (New cell) = ⊥
Follows before (Kept cell entered left items) = IsLeftIn entered before

-- A piece follows the last of some pieces, if there is one.
abbrev pub FollowsLast : {F State Cell Items Work : Type 0} → List (Piece F State Cell Items Work) → Piece F State Cell Items Work
    → Type 0
FollowsLast {F = F} {State = State} {Cell = Cell} {Items = Items} {Work = Work} pieces piece =
    (before : Piece F State Cell Items Work) → slice_get pieces (length pieces - 1) ≡ Some before → Follows before piece

-- If a mark says so, a piece after the first one follows the one before it.
abbrev pub AreMarked : {F State Cell Items Work : Type 0} → List (Piece F State Cell Items Work) → List Bool → Type 0
AreMarked {F = F} {State = State} {Cell = Cell} {Items = Items} {Work = Work} pieces marks =
    (i : ℕ) (before piece : Piece F State Cell Items Work) → 0 < i → slice_get marks i ≡ Some true
    → slice_get pieces (i - 1) ≡ Some before → slice_get pieces i ≡ Some piece → Follows before piece

-- Each piece has a mark, and the marks are right.
pub record HasMarks {F State Cell Items Work : Type 0} (pieces : List (Piece F State Cell Items Work))
    (marks : List Bool) : Type 0 where
  pub count : length marks ≡ length pieces
  pub right : AreMarked pieces marks
