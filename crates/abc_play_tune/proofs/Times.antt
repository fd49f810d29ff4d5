-- The time of steps is that of the items among them.
use Rattle.std.proofs.Common.{◌≡◌, ℕ, ◌+◌, max, List, [], ◌∷◌, refl, sym, ap, ◌∙◌, arith}
use Rattle.std.proofs.lemmas.List.Sums.{sum_by-cons}
use Rattle.abc_voices_sections.specs.Play.{duration}
use Rattle.abc_voices_sections.specs.PlayedSection.{section_length}
use Rattle.abc_voices_sections.specs.Step.{length_of}
use Rattle.abc_play_sections.specs.declared.step.PlayStep.{PlayStep}
use Rattle.abc_play_sections.specs.declared.step.PlayStep.TheVariants as steps
use Rattle.abc_play_sections.specs.Play.{steps_in}
use Rattle.abc_play_sections.specs.Step.{as_item, items_among}
use Rattle.abc_play_sections.proofs.Items.{plays_items}
use Rattle.abc_play_tune.specs.Stage.{time_of, section_time}
use Rattle.abc_play_tune.specs.Steps.{without_places}

-- a bar line that is passed takes no time
time_alike : (own : List PlayStep) → time_of own ≡ duration (items_among own)
time_alike [] = refl
time_alike (steps.Item item place ∷ own) =
    sum_by-cons (λ step. length_of (as_item step)) (steps.Item item place) own
    ∙ ap (λ n. length_of item.now + n) (time_alike own)
    ∙ sym (sum_by-cons length_of item.now (items_among own))
time_alike (steps.BarLine place ∷ own) =
    let more = sum_by-cons (λ step. length_of (as_item step)) (steps.BarLine place) own in
    let same : time_of (steps.BarLine place ∷ own) ≡ time_of own = omega (arith, more) in
    same ∙ time_alike own

-- how long a section is
pub section_time-alike : (voices : List (List ℕ)) (section : List ℕ × List PlayStep) → section_time voices section ≡ section_length voices (without_places section)
section_time-alike [] section = refl
section_time-alike (voice ∷ voices) section =
    let own = time_alike (steps_in section voice) ∙ ap duration (plays_items section.0 voice section.1) in
    λ i. max (own i) (section_time-alike voices section i)
