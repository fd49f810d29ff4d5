-- Whether something waits for an ending's sign, by the runs of a part.
use Rattle.std.proofs.Common.{◌≡◌, true, not, ◌&&◌, List, [], ◌∷◌, ◌++◌, get_or, refl, sym, ap, ◌∙◌}
use Rattle.std.proofs.lemmas.List.Elements.{All-head, All-tail}
use Rattle.abc_bars_items.specs.declared.item.Item.{Item}
use Rattle.abc_repeat.specs.declared.mark.Mark.TheVariants as marks
use Rattle.abc_repeat.specs.Mark.{is_play}
use Rattle.abc_repeat.specs.Runs.{Run}
use Rattle.abc_voices_sections.specs.declared.ending_fields.EndingRegion.{EndingRegion}
use Rattle.abc_voices_sections.specs.declared.ending_fields.EndingRegion.TheVariants.{Common, Inside, AfterBar}
use Rattle.abc_voices_sections.specs.EndingFields.{waits, region_after, nothing_waits}
use Rattle.abc_voices_sections.specs.Step.{mark_of}
use Rattle.abc_voices_sections.specs.ItemRuns.{AreAllPlayed, IsRun, together, single}
use Rattle.abc_voices_sections.proofs.Whole.{takes_turn}

-- after what takes its turn
abbrev after_turn : EndingRegion → EndingRegion
after_turn AfterBar = Common
after_turn Inside = Inside
after_turn Common = Common

past_turn : (region : EndingRegion) (item : Item) → is_play (mark_of item) ≡ true → region_after region (mark_of item) ≡ after_turn region
past_turn region item h = ap (region_after region) (takes_turn (mark_of item) h) ∙ by_region region
  where
    by_region : (region : EndingRegion) → region_after region marks.Play ≡ after_turn region
    by_region AfterBar = refl
    by_region Inside = refl
    by_region Common = refl

-- what takes its turn there waits for nothing, and changes nothing
one_goes : {A : Type 0} (item_of : A → Item) (region : EndingRegion) (step : A) (rest : List A) → is_play (mark_of (item_of step)) ≡ true
    → nothing_waits item_of (after_turn region) (step ∷ rest) ≡ nothing_waits item_of (after_turn region) rest
one_goes item_of AfterBar step rest h = ap (λ next. nothing_waits item_of next rest) (past_turn Common (item_of step) h)
one_goes item_of Inside step rest h = ap (λ next. nothing_waits item_of next rest) (past_turn Inside (item_of step) h)
one_goes item_of Common step rest h = ap (λ next. nothing_waits item_of next rest) (past_turn Common (item_of step) h)

pub rest_goes : {A : Type 0} (item_of : A → Item) (region : EndingRegion) (steps rest : List A) → AreAllPlayed item_of steps
    → nothing_waits item_of (after_turn region) (steps ++ rest) ≡ nothing_waits item_of (after_turn region) rest
rest_goes item_of region [] rest h = refl
rest_goes item_of region (step ∷ steps) rest h =
    one_goes item_of region step (steps ++ rest) (All-head (λ one. is_play (mark_of (item_of one)) ≡ true) step steps h)
    ∙ rest_goes item_of region steps rest (All-tail (λ one. is_play (mark_of (item_of one)) ≡ true) step steps h)

turn_past : (region : EndingRegion) → after_turn region ≡ region_after region marks.Play
turn_past AfterBar = refl
turn_past Inside = refl
turn_past Common = refl

-- whether something waits from a run on: its first step decides, and its mark decides for the rest
pub run_goes : {A : Type 0} (item_of : A → Item) (region : EndingRegion) (run : Run A) (first : A) (rest : List A) → IsRun item_of run → first ≡ get_or run.items 0 first
    → nothing_waits item_of region (run.items ++ rest) ≡ (not (waits region (item_of first)) && nothing_waits item_of (region_after region run.mark) rest)
run_goes item_of region _ first rest (together step steps turns) is =
    let here = All-head (λ one. is_play (mark_of (item_of one)) ≡ true) step steps turns in
    let others = All-tail (λ one. is_play (mark_of (item_of one)) ≡ true) step steps turns in
    ap (λ next. not (waits region (item_of step)) && nothing_waits item_of next (steps ++ rest)) (past_turn region (item_of step) here)
    ∙ ap (λ b. not (waits region (item_of step)) && b) (rest_goes item_of region steps rest others)
    ∙ ap (λ next. not (waits region (item_of step)) && nothing_waits item_of next rest) (turn_past region)
    ∙ ap (λ one. not (waits region (item_of one)) && nothing_waits item_of (region_after region marks.Play) rest) (sym is)
run_goes item_of region _ first rest (single step) is =
    ap (λ one. not (waits region (item_of one)) && nothing_waits item_of (region_after region (mark_of (item_of step))) rest) (sym is)
