-- If nothing waits for an ending's sign, nothing is moved.
use Rattle.std.proofs.Common.{◌≡◌, true, false, not, cond, List, [], ◌∷◌, ◌++◌, refl, ap, ◌∙◌}
use Rattle.std.proofs.lemmas.Bool.{and_parts, not-true}
use Rattle.abc_bars_items.specs.declared.item.Item.{Item}
use Rattle.abc_repeat.specs.Mark.{is_ending}
use Rattle.abc_voices_sections.specs.declared.ending_fields.EndingRegion.{EndingRegion}
use Rattle.abc_voices_sections.specs.EndingFields.{waits, region_after, nothing_waits, with_waiting, ordered_from}
use Rattle.abc_voices_sections.specs.Step.{mark_of}

-- a step that does not wait, after none that waits, is unchanged
single_run : {A : Type 0} (item_of : A → Item) (step : A) → with_waiting item_of [] step ≡ step ∷ []
single_run item_of step = elim (is_ending (mark_of (item_of step))) as (λ b. cond b (step ∷ []) (step ∷ []) ≡ step ∷ []) [
  | true ↦ refl
  | false ↦ refl
]

pub nothing_moves : {A : Type 0} (item_of : A → Item) (region : EndingRegion) (steps : List A)
    → nothing_waits item_of region steps ≡ true → ordered_from item_of region [] steps ≡ steps
nothing_moves item_of region [] h = refl
nothing_moves item_of region (step ∷ steps) h =
    let following = region_after region (mark_of (item_of step)) in
    let both = and_parts (not (waits region (item_of step))) (nothing_waits item_of following steps) h in
    let stays : waits region (item_of step) ≡ false = not-true (waits region (item_of step)) both.0 in
    ap (λ b. cond b (ordered_from item_of region (step ∷ []) steps) (with_waiting item_of [] step ++ ordered_from item_of following [] steps)) stays
    ∙ (λ i. single_run item_of step i ++ nothing_moves item_of following steps both.1 i)

-- if nothing waits, the steps are those that repeats and endings play
