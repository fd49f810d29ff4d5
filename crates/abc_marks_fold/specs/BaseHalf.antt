-- What the performed reading shares with the written one.
use Rattle.std.specs.Prelude.{◌≡◌, ℕ, is_some, if◌then◌else◌, List, [], ◌∷◌, ◌++◌, flat_map, Option, Some, None}
use Rattle.std.specs.Str.{bytes_eq}
use Rattle.abc_bars_body.specs.SameEntry.{bar_steps}
use Rattle.abc_fold.specs.Steps.{items_from, state_after}
use Rattle.abc_marks_fold.specs.PerformedSteps.{performed_steps}
use Rattle.abc_marks_fold.specs.declared.performed_cell.PerformedCell.{PerformedCell}
use Rattle.abc_marks_fold.specs.declared.performed_cell.PerformedCell.TheVariants as cells
use Rattle.abc_marks_fold.specs.declared.performed_state.PerformedState.{PerformedState}
use Rattle.abc_scan.specs.declared.spanned.Spanned.{Spanned}
use Rattle.abc_scan.specs.declared.token.TokenKind.{TokenKind}

-- The block that is open after a line that ends one of this name.
abbrev pub block_after_end : Option (List ℕ) → List ℕ → Option (List ℕ)
block_after_end None name = None
block_after_end (Some opened) name = if bytes_eq opened name then None else Some opened

-- The block that is open after a cell. A line that begins one is a comment in another one.
abbrev pub block_after : Option (List ℕ) → PerformedCell → Option (List ℕ)
block_after None (cells.Begin name) = Some name
block_after (Some opened) (cells.Begin name) = Some opened
block_after block (cells.End name) = block_after_end block name
block_after block _ = block

-- A cell as the written reading reads it, if it is outside text blocks.
abbrev pub heard_in : Option (List ℕ) → PerformedCell → List (List (Spanned TokenKind))
heard_in None (cells.Read base written) = base ∷ []
heard_in _ _ = []

-- The cells outside text blocks.
abbrev pub heard : Option (List ℕ) → List PerformedCell → List (List (Spanned TokenKind))
heard block [] = []
heard block (cell ∷ rest) = heard_in block cell ++ heard (block_after block cell) rest

-- Items, faults and states are those of the written reading along the cells outside text blocks.
pub record HasBaseHalf : Type 0 where
  pub items : (state : PerformedState) (cells : List PerformedCell) →
      flat_map (λ given. given.base.items) (items_from performed_steps state cells)
      ≡ flat_map (λ given. given.items) (items_from bar_steps state.base (heard state.block cells))
  pub faults : (state : PerformedState) (cells : List PerformedCell) →
      flat_map (λ given. given.base.faults) (items_from performed_steps state cells)
      ≡ flat_map (λ given. given.faults) (items_from bar_steps state.base (heard state.block cells))
  pub state : (state : PerformedState) (cells : List PerformedCell) →
      (state_after performed_steps.next state cells).base ≡ state_after bar_steps.next state.base (heard state.block cells)
