-- The fold over the cells of a performed tune, by definition.
use Rattle.std.specs.Prelude.{◌≡◌, ℕ, Bool, true, is_some, if◌then◌else◌, List, [], Option, Some, None, refl}
use Rattle.std.specs.Str.{bytes_eq}
use Rattle.abc_bars_body.specs.declared.entry.Entry.{Entry}
use Rattle.abc_bars_body.specs.Step.{entry_step}
use Rattle.abc_bars_items.specs.Item.{no_items}
use Rattle.abc_bars_voice.specs.Equality.{Equality, by_code}
use Rattle.abc_fold.specs.Steps.{Steps, IsResumable, resumable_where_equal}
use Rattle.abc_marks.specs.declared.mark.Mark.{Mark}
use Rattle.abc_marks.specs.declared.performed_items.PerformedItems.{PerformedItems}
use Rattle.abc_marks_fold.specs.contracts.performed_state.PerformedState.{the_row}
use Rattle.abc_marks_fold.specs.declared.performed_cell.PerformedCell.{PerformedCell}
use Rattle.abc_marks_fold.specs.declared.performed_cell.PerformedCell.TheVariants as cells
use Rattle.abc_marks_fold.specs.declared.performed_state.PerformedState.{PerformedState}
use Rattle.abc_marks_fold.specs.CellMarks.{cell_given}

-- A state of the written reading outside text blocks.
abbrev pub outside : Entry → PerformedState
outside base = record { base = base; block = None }

-- The state after a line that begins a text block of this name. In a block it is a comment. ABC 2.1 section 11.1.
abbrev pub begun : PerformedState → List ℕ → PerformedState
begun state name = if is_some state.block then state else record state { block = Some name }

-- The state after a line that ends a text block of this name, by the name of the block that is open.
abbrev pub ended_in : PerformedState → Option (List ℕ) → List ℕ → PerformedState
ended_in state None name = state
ended_in state (Some opened) name = if bytes_eq opened name then record state { block = None } else state

abbrev pub ended : PerformedState → List ℕ → PerformedState
ended state name = ended_in state state.block name

-- The state after a cell: in a text block the written reading takes no step.
abbrev pub next_of : PerformedState → PerformedCell → PerformedState
next_of state (cells.Begin name) = begun state name
next_of state (cells.End name) = ended state name
next_of state (cells.Directive marks) = state
next_of state (cells.Read base written) = if is_some state.block then state else outside (entry_step state.base base).0

-- Marks and no items.
abbrev pub given_alone : List Mark → PerformedItems
given_alone marks = record { base = no_items; marks = marks }

-- Nothing is given.
abbrev pub no_given : PerformedItems
no_given = given_alone []

-- What a cell gives: nothing in a text block, else the items of the written reading and the marks.
abbrev pub gives_of : PerformedState → PerformedCell → PerformedItems
gives_of state (cells.Begin name) = no_given
gives_of state (cells.End name) = no_given
gives_of state (cells.Directive marks) = if is_some state.block then no_given else given_alone marks
gives_of state (cells.Read base written) = if is_some state.block then no_given else cell_given state.base base written

-- States, by each of their components.
abbrev pub state_equality : Equality PerformedState
state_equality = by_code the_row.coded

unfoldable pub same_state : PerformedState → PerformedState → Bool
same_state = state_equality.same

-- It decides exactly whether they are equal.
pub same_state_decides : (a b : PerformedState) → (same_state a b ≡ true → a ≡ b) × (a ≡ b → same_state a b ≡ true)
unfolding same_state
same_state_decides a b = state_equality.exact a b

-- The fold: the state after a cell, what it gives, and which states are equivalent.
abbrev pub performed_steps : Steps PerformedState PerformedCell PerformedItems
performed_steps = record { next = next_of; gives = gives_of; alike = same_state }

-- Equivalent states may replace each other: they are equal.
pub performed_resumable : IsResumable performed_steps
performed_resumable = resumable_where_equal performed_steps (λ a b. (same_state_decides a b).0) (λ a. (same_state_decides a a).1 refl)
