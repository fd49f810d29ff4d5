-- The sections of a tune by steps are its sections.
use Rattle.std.proofs.Common.{◌≡◌, ℕ, zero, suc, ◌+◌, true, false, cond, List, [], ◌∷◌, ◌++◌, map, refl, ap, ◌∙◌, append-nil}
use Rattle.std.specs.Borrow.{Bor}
use Rattle.std.specs.Prelude.{filter_map, slice_get, None}
use Rattle.std.specs.List.{cons_option}
use Rattle.std.proofs.lemmas.List.{map-append}
use Rattle.std.proofs.lemmas.List.Elements.{filter-append}
use Rattle.abc_bars_items.specs.declared.item.Item.{Item}
use Rattle.abc_repeat.specs.Order.{sections_of}
use Rattle.abc_voices.specs.Opening.{order_after, after_all}
use Rattle.abc_voices_sections.specs.Items.{items_of}
use Rattle.abc_voices_sections.specs.Section as sections
use Rattle.abc_voices_sections.specs.Section.{is_section, letters, opening_voice, voice_after}
use Rattle.abc_play_sections.specs.declared.step.PlayStep.{PlayStep}
use Rattle.abc_play_sections.specs.declared.step.PlayStep.TheVariants as steps
use Rattle.abc_play_sections.specs.Step.{as_item, is_item, items_among, without_bar_lines}
use Rattle.abc_play_tune.specs.Laws.{PlaysSections}
use Rattle.abc_play_tune.specs.Play.{step_sections}
use Rattle.abc_play_tune.specs.Steps.{is_bar, steps_with, steps_from, sections_from, without_places}

-- an item's steps before others
with_item : (place : ℕ) (item : Item) (own : List PlayStep) → items_among (steps_with place item own) ≡ items_among own
with_item place item own = elim (is_bar item) as (λ b. items_among (cond b (steps.BarLine place ∷ own) own) ≡ items_among own) [
  | true ↦ refl
  | false ↦ refl
]

-- the items among the steps of items are the items
pub items_among-steps : (place : ℕ) (tune : List (Bor Item)) → items_among (steps_from place tune) ≡ items_of tune
items_among-steps place [] = refl
items_among-steps place (item ∷ tune) =
    with_item place item.now (steps.Item item place ∷ steps_from (place + 1) tune)
    ∙ ap (λ l. item.now ∷ l) (items_among-steps (place + 1) tune)

-- one step more
among_more : (held : List PlayStep) (step : PlayStep) → items_among (held ++ step ∷ []) ≡ items_among held ++ items_among (step ∷ [])
among_more held step = ap (map as_item) (filter-append is_item held (step ∷ [])) ∙ map-append as_item (without_bar_lines held) (without_bar_lines (step ∷ []))

-- the sections of steps
cut_alike : (opening : List ℕ) (held : List PlayStep) (voice : List ℕ) (own : List PlayStep)
    → map without_places (sections_from opening held voice own) ≡ sections.sections_from opening (items_among held) voice (items_among own)
cut_alike opening held voice [] = refl
cut_alike opening held voice (steps.Item item place ∷ rest) =
    let step = steps.Item item place in
    let next = voice_after voice item.now in
    elim (is_section item.now) as (λ b. map without_places (cond b ((opening, held) ∷ sections_from voice [] voice rest) (sections_from opening (held ++ step ∷ []) next rest))
    ≡ cond b ((opening, items_among held) ∷ sections.sections_from voice [] voice (items_among rest)) (sections.sections_from opening (items_among held ++ item.now ∷ []) next (items_among rest))) [
      | true ↦ ap (λ l. (opening, items_among held) ∷ l) (cut_alike voice [] voice rest)
      | false ↦
          cut_alike opening (held ++ step ∷ []) next rest
          ∙ ap (λ l. sections.sections_from opening l next (items_among rest)) (among_more held step)
    ]
cut_alike opening held voice (steps.BarLine place ∷ rest) =
    cut_alike opening (held ++ steps.BarLine place ∷ []) voice rest
    ∙ ap (λ l. sections.sections_from opening l voice (items_among rest)) (among_more held (steps.BarLine place) ∙ append-nil (items_among held))

sections_alike : (tune : List (Bor Item)) → map without_places (step_sections tune) ≡ sections.sections (items_of tune)
sections_alike tune =
    let voice = opening_voice (items_of tune) in
    cut_alike voice [] voice (steps_from 0 tune)
    ∙ ap (sections.sections_from voice [] voice) (items_among-steps 0 tune)

abbrev Stepped : Type 0
Stepped = List ℕ × List PlayStep

one_section : (found : List Stepped) (place : ℕ) (rest : List Stepped)
    → map without_places (cons_option (slice_get found place) rest) ≡ cons_option (slice_get (map without_places found) place) (map without_places rest)
one_section [] place rest = refl
one_section (section ∷ found) zero rest = refl
one_section (section ∷ found) (suc place) rest = one_section found place rest

found_sections : (found : List Stepped) (places : List ℕ) → map without_places (filter_map (slice_get found) places) ≡ filter_map (slice_get (map without_places found)) places
found_sections found [] = refl
found_sections found (place ∷ places) =
    one_section found place (filter_map (slice_get found) places)
    ∙ ap (cons_option (slice_get (map without_places found) place)) (found_sections found places)

-- the sections that are played
pub plays_sections : PlaysSections
plays_sections tune =
    let order = sections_of (after_all order_after None (items_of tune)) (letters (items_of tune)) in
    found_sections (step_sections tune) order
    ∙ ap (λ found. filter_map (slice_get found) order) (sections_alike tune)
