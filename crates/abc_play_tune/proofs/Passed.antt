-- The entries of a play that are rests and bar lines are those that are passed.
use Rattle.std.proofs.Common.{◌≡◌, ℕ, List, [], ◌∷◌, ◌++◌, refl, ap, ◌∙◌}
use Rattle.std.specs.List.{cons_option}
use Rattle.std.specs.Prelude.{filter_map}
use Rattle.std.proofs.lemmas.List.Elements.{filter_map-append}
use Rattle.abc_bars_items.specs.declared.item.Item.{Item}
use Rattle.abc_bars_items.specs.declared.item.Item.TheVariants as items
use Rattle.abc_bars_items.specs.declared.item.Tone.{Tone}
use Rattle.abc_voices_sections.specs.Step.{tones_of}
use Rattle.abc_play_sections.specs.declared.step.PlayStep.{PlayStep}
use Rattle.abc_play_sections.specs.declared.step.PlayStep.TheVariants as steps
use Rattle.abc_play_sections.specs.Step.{as_item}
use Rattle.abc_play_tune.specs.Entries.{entries_from, item_entries, previous_after, step_entries, tone_entries}
use Rattle.abc_play_tune.specs.Laws.{PlaysRestsAndBars, passed_entry, passed_item, passed_step, passed_timed}
use Rattle.abc_play_tune.specs.Play.{play_of_voice}
use Rattle.abc_play_tune.specs.declared.entry.PlayEntry.{PlayEntry}
use Rattle.abc_play_tune.specs.declared.timed.TimedStep.{TimedStep}

-- tones are none
no_tones : (previous : List Tone) (at place : ℕ) (past tones : List Tone) → filter_map passed_entry (tone_entries previous at place past tones) ≡ []
no_tones previous at place past [] = refl
no_tones previous at place past (tone ∷ tones) = no_tones previous at place (past ++ tone ∷ []) tones

item_passed : (previous : List Tone) (at place : ℕ) (item : Item) (later : List PlayEntry)
    → filter_map passed_entry (item_entries previous at place item ++ later) ≡ cons_option (passed_item at place item) (filter_map passed_entry later)
item_passed previous at place (items.Tone tones time) later =
    filter_map-append passed_entry (tone_entries previous at place [] tones) later
    ∙ ap (λ l. l ++ filter_map passed_entry later) (no_tones previous at place [] tones)
item_passed previous at place (items.Rest time bar) later = refl
item_passed previous at place _ later = refl

step_passed : (previous : List Tone) (at : ℕ) (step : PlayStep) (later : List PlayEntry)
    → filter_map passed_entry (step_entries previous at step ++ later) ≡ cons_option (passed_step at step) (filter_map passed_entry later)
step_passed previous at (steps.Item item place) later = item_passed previous at place item.now later
step_passed previous at (steps.BarLine place) later = refl

all_passed : (previous : List Tone) (timed : List TimedStep) → filter_map passed_entry (entries_from previous timed) ≡ filter_map passed_timed timed
all_passed previous [] = refl
all_passed previous (one ∷ others) =
    let next = previous_after previous (tones_of (as_item one.step)) in
    step_passed previous one.at.0 one.step (entries_from next others) ∙ ap (cons_option (passed_timed one)) (all_passed next others)

pub plays_rests_and_bars : PlaysRestsAndBars
plays_rests_and_bars tune voice = all_passed [] (play_of_voice tune voice)
