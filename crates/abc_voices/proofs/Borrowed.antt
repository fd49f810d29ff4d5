-- The stages of a tune whose items are borrowed are those of its items.
use Rattle.std.proofs.Common.{◌≡◌, ℕ, ◌+◌, ◌<◌, Bool, List, [], ◌∷◌, get_or, length, map, refl, sym, ap, subst, ◌∙◌}
use Rattle.std.specs.Borrow.{Bor}
use Rattle.std.specs.Prelude.{◌||◌, All, Option, Some, None, IfSome, slice_get, option_map}
use Rattle.std.specs.List.{list_any}
use Rattle.std.proofs.lemmas.List.Elements.{All-get_or}
use Rattle.std.proofs.lemmas.List.Sums.{sum_by-cons}
use Rattle.std.proofs.lemmas.Option.{slice_get-map}
use Rattle.abc_bars_items.specs.declared.item.Item.{Item}
use Rattle.abc_repeat.specs.Order.{sections_of}
use Rattle.abc_voices.specs.Layout.{played_sections}
use Rattle.abc_voices.specs.Opening.{order_after, after_all}
use Rattle.abc_voices.specs.Turns.{IsPart, IsStage, stages_in, steps_of, parts_differ, is_stage_uneven}
use Rattle.abc_voices_sections.specs.Items.{items_of}
use Rattle.abc_voices_sections.specs.Section.{letters, sections}
use Rattle.abc_voices_sections.specs.Stage.{content, part_items, stage_items}
use Rattle.abc_voices_sections.specs.Table.{sections_at}
use Rattle.abc_voices_sections.specs.Turns.{length_along}
use Rattle.abc_voices_sections.specs.Turns as turns
use Rattle.abc_voices_sections.specs.declared.section.Section.{Section}
use Rattle.abc_voices_sections.specs.declared.stage.Stage.{Stage}
use Rattle.abc_voices_sections.specs.declared.stage.VoicePart.{VoicePart}
use Rattle.abc_voices_sections.specs.declared.turns.Turn.{Turn}
use Rattle.abc_voices_sections.specs.AsItems.{section_as}
use Rattle.abc_voices_sections.proofs.Items.{of_map}
use Rattle.abc_voices_sections.proofs.StagesAsItems.{sections_at-content}
use Rattle.abc_voices.proofs.Fitting.Kept.{got}
use Rattle.abc_voices.proofs.Layouts.{played_here}

-- the sections that are played
pub played_items : (tune : List Item) (found : List (Section (Bor Item))) (order : List ℕ) → map content found ≡ sections tune
    → order ≡ sections_of (after_all order_after None tune) (letters tune) → map (section_as (λ step. step.now)) (sections_at found order) ≡ played_sections tune
played_items tune found order p q = sections_at-content found order ∙ played_here tune (map content found) order p q

-- the stages of turns
pub stages_in-items : (those : List (Turn (Bor Item))) → stages_in those ≡ map stage_items (turns.stages_in those)
stages_in-items [] = refl
stages_in-items (turn ∷ those) = ap (λ l. stage_items turn.stage.now ∷ l) (stages_in-items those)

-- how long they are
pub length_along-items : (those : List (Turn (Bor Item))) → length_along (turns.stages_in those) ≡ length_along (stages_in those)
length_along-items [] = refl
length_along-items (turn ∷ those) =
    sum_by-cons (λ (stage : Stage (Bor Item)). stage.longest.0) turn.stage.now (turns.stages_in those)
    ∙ ap (λ n. turn.stage.now.longest.0 + n) (length_along-items those)
    ∙ sym (sum_by-cons (λ (stage : Stage Item). stage.longest.0) (stage_items turn.stage.now) (stages_in those))

-- what the voice at an index plays of a stage
pub steps_of-part : (stage : Stage (Bor Item)) (voice : ℕ) (part : VoicePart (Bor Item)) → slice_get stage.parts voice ≡ Some part
    → steps_of (slice_get (stage_items stage).parts voice) ≡ items_of part.steps
steps_of-part stage voice part found = ap steps_of (slice_get-map part_items stage.parts voice ∙ ap (option_map part_items) found)

pub steps_of-none : (stage : Stage (Bor Item)) (voice : ℕ) → slice_get stage.parts voice ≡ None → steps_of (slice_get (stage_items stage).parts voice) ≡ []
steps_of-none stage voice none = ap steps_of (slice_get-map part_items stage.parts voice ∙ ap (option_map part_items) none)

pub IsPart-part : (stage : Stage (Bor Item)) (voice : ℕ) (part : VoicePart (Bor Item)) → IsStage (stage_items stage) → slice_get stage.parts voice ≡ Some part
    → IsPart stage.longest (part_items part)
IsPart-part stage voice part is found =
    let seen : slice_get (stage_items stage).parts voice ≡ Some (part_items part) = slice_get-map part_items stage.parts voice ∙ ap (option_map part_items) found in
    subst (λ (one : Option (VoicePart Item)). IfSome one (IsPart stage.longest)) seen (got (IsPart stage.longest) (stage_items stage).parts voice is.parts)

-- one of the parts of a stage
pub IsPart-played : (stage : Stage (Bor Item)) (parts : List (VoicePart (Bor Item))) (k : ℕ) (part : VoicePart (Bor Item)) → parts ≡ stage.parts
    → k < length parts → part ≡ get_or parts k part → IsStage (stage_items stage) → IsPart stage.longest (part_items part)
IsPart-played stage parts k part same within here is =
    let P : VoicePart (Bor Item) → Type 0 = λ one. IsPart stage.longest (part_items one) in
    let all : All P parts = subst (All P) (sym same) (of_map (IsPart stage.longest) part_items stage.parts is.parts) in
    subst P (sym here) (All-get_or P parts k part within all)

any_map : {X Y : Type 0} (test : Y → Bool) (f : X → Y) (xs : List X) → list_any test (map f xs) ≡ list_any (λ x. test (f x)) xs
any_map test f [] = refl
any_map test f (x ∷ xs) = ap (λ b. test (f x) || b) (any_map test f xs)

any_alike : {X : Type 0} (test other : X → Bool) → ((x : X) → test x ≡ other x) → (xs : List X) → list_any test xs ≡ list_any other xs
any_alike test other same [] = refl
any_alike test other same (x ∷ xs) = λ i. same x i || any_alike test other same xs i

-- whether they are uneven
pub uneven-items : (stage : Stage (Bor Item)) → list_any (λ a. list_any (λ b. parts_differ (part_items a) (part_items b)) stage.parts) stage.parts ≡ is_stage_uneven (stage_items stage)
uneven-items stage =
    let differs : VoicePart Item → Bool = λ a. list_any (parts_differ a) (map part_items stage.parts) in
    sym (any_map differs part_items stage.parts
    ∙ any_alike (λ a. differs (part_items a)) (λ a. list_any (λ b. parts_differ (part_items a) (part_items b)) stage.parts)
    (λ a. any_map (parts_differ (part_items a)) part_items stage.parts) stage.parts)
