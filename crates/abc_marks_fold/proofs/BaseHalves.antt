-- The performed reading has the items, the faults and the states of the written one.
use Rattle.std.proofs.Common.{◌≡◌, ℕ, Bool, true, false, List, [], ◌∷◌, ◌++◌, if◌then◌else◌, refl, ap, ◌∙◌}
use Rattle.std.specs.Prelude.{Option, Some, None, flat_map}
use Rattle.std.specs.Str.{bytes_eq}
use Rattle.abc_bars_body.specs.SameEntry.{bar_steps}
use Rattle.abc_bars_body.specs.Step.{entry_step}
use Rattle.abc_bars_body.specs.declared.entry.Entry.{Entry}
use Rattle.abc_bars_items.specs.Item.{Items, no_items}
use Rattle.abc_fold.specs.Steps.{items_from, state_after}
use Rattle.abc_marks_fold.specs.BaseHalf.{HasBaseHalf, block_after_end, heard}
use Rattle.abc_marks_fold.specs.PerformedSteps.{performed_steps}
use Rattle.abc_marks_fold.specs.declared.performed_cell.PerformedCell.{PerformedCell}
use Rattle.abc_marks_fold.specs.declared.performed_cell.PerformedCell.TheVariants as cells
use Rattle.abc_marks_fold.specs.declared.performed_state.PerformedState.{PerformedState}

-- A state by its parts.
abbrev at : Entry → Option (List ℕ) → PerformedState
at base block = record { base = base; block = block }

abbrev IsSameState : Entry → Option (List ℕ) → List PerformedCell → Type 0
IsSameState base block rest =
    (state_after performed_steps.next (at base block) rest).base ≡ state_after bar_steps.next base (heard block rest)

end_state : (same : Bool) (base : Entry) (opened : List ℕ) (rest : List PerformedCell)
    → ((block : Option (List ℕ)) → IsSameState base block rest)
    → (state_after performed_steps.next (if same then at base None else at base (Some opened)) rest).base
    ≡ state_after bar_steps.next base (heard (if same then None else Some opened) rest)
end_state true base opened rest ih = ih None
end_state false base opened rest ih = ih (Some opened)

same_state : (base : Entry) (block : Option (List ℕ)) (all : List PerformedCell) → IsSameState base block all
same_state base block [] = refl
same_state base None (cells.Begin name ∷ rest) = same_state base (Some name) rest
same_state base (Some opened) (cells.Begin name ∷ rest) = same_state base (Some opened) rest
same_state base None (cells.End name ∷ rest) = same_state base None rest
same_state base (Some opened) (cells.End name ∷ rest) =
    end_state (bytes_eq opened name) base opened rest (λ block. same_state base block rest)
same_state base None (cells.Directive marks ∷ rest) = same_state base None rest
same_state base (Some opened) (cells.Directive marks ∷ rest) = same_state base (Some opened) rest
same_state base None (cells.Read cell written ∷ rest) = same_state (entry_step base cell).0 None rest
same_state base (Some opened) (cells.Read cell written ∷ rest) = same_state base (Some opened) rest

module _ {A : Type 0} (of : Items → List A) (none : of no_items ≡ []) where
  abbrev IsSameList : Entry → Option (List ℕ) → List PerformedCell → Type 0
  IsSameList base block rest =
      flat_map (λ given. of given.base) (items_from performed_steps (at base block) rest)
      ≡ flat_map of (items_from bar_steps base (heard block rest))

  silent : (l r : List A) → l ≡ r → of no_items ++ l ≡ r
  silent l r same = ap (λ n. n ++ l) none ∙ same

  end_list : (same : Bool) (base : Entry) (opened : List ℕ) (rest : List PerformedCell)
      → ((block : Option (List ℕ)) → IsSameList base block rest)
      → flat_map (λ given. of given.base) (items_from performed_steps (if same then at base None else at base (Some opened)) rest)
      ≡ flat_map of (items_from bar_steps base (heard (if same then None else Some opened) rest))
  end_list true base opened rest ih = ih None
  end_list false base opened rest ih = ih (Some opened)

  same_list : (base : Entry) (block : Option (List ℕ)) (all : List PerformedCell) → IsSameList base block all
  same_list base block [] = refl
  same_list base None (cells.Begin name ∷ rest) = silent _ _ (same_list base (Some name) rest)
  same_list base (Some opened) (cells.Begin name ∷ rest) = silent _ _ (same_list base (Some opened) rest)
  same_list base None (cells.End name ∷ rest) = silent _ _ (same_list base None rest)
  same_list base (Some opened) (cells.End name ∷ rest) =
      silent _ _ (end_list (bytes_eq opened name) base opened rest (λ block. same_list base block rest))
  same_list base None (cells.Directive marks ∷ rest) = silent _ _ (same_list base None rest)
  same_list base (Some opened) (cells.Directive marks ∷ rest) = silent _ _ (same_list base (Some opened) rest)
  same_list base None (cells.Read cell written ∷ rest) =
      ap (λ l. of (entry_step base cell).1 ++ l) (same_list (entry_step base cell).0 None rest)
  same_list base (Some opened) (cells.Read cell written ∷ rest) = silent _ _ (same_list base (Some opened) rest)

pub has_base_half : HasBaseHalf
has_base_half = record {
  items = λ state all. same_list (λ given. given.items) refl state.base state.block all;
  faults = λ state all. same_list (λ given. given.faults) refl state.base state.block all;
  state = λ state all. same_state state.base state.block all;
}
