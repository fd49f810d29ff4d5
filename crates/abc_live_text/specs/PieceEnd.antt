-- The places of pieces in old chains. Not in ABC 2.1.
use Rattle.std.specs.Prelude.{◌≡◌, ℕ, ◌+◌, ◌-◌, List, length, slice_get, Option, Some, None}
use Rattle.abc_fold.specs.declared.piece.Piece.{Piece}
use Rattle.abc_fold.specs.declared.piece.Piece.TheVariants.{New, Kept}
use Rattle.abc_fold.specs.Chain.{ChainView}
use Rattle.abc_live_text.specs.Pieces.{entries_at}

-- A kept piece was left in the state that the chain of a number has at a place.
abbrev pub IsLeftAt : {F State Cell Items Work : Type 0} → List (ChainView State Cell Items) → ℕ → ℕ
    → Piece F State Cell Items Work → Type 0
IsLeftAt chains source place (New cell) = ⊥
IsLeftAt chains source place (Kept cell entered left items) = slice_get (entries_at chains source) place ≡ Some left

-- A kept piece was entered in the state that the chain has at its address, and left in the one after it.
abbrev pub LiesAt : {F State Cell Items Work : Type 0} → List (ChainView State Cell Items) → Option (ℕ × ℕ)
    → Piece F State Cell Items Work → Type 0
LiesAt chains None piece = Unit {0}
LiesAt chains (Some address) (New cell) = ⊥
LiesAt chains (Some address) (Kept cell entered left items) =
    (slice_get (entries_at chains address.0) address.1 ≡ Some entered)
    × (slice_get (entries_at chains address.0) (address.1 + 1) ≡ Some left)

-- The last of some pieces, if there is one, was left in the state that the chain of a number has at a place.
abbrev pub EndsAt : {F State Cell Items Work : Type 0} → List (ChainView State Cell Items) → List (Piece F State Cell Items Work)
    → ℕ → ℕ → Type 0
EndsAt {F = F} {State = State} {Cell = Cell} {Items = Items} {Work = Work} chains pieces source place =
    (last : Piece F State Cell Items Work) → slice_get pieces (length pieces - 1) ≡ Some last → IsLeftAt chains source place last
