-- Chords whose tones begin one after another. ABC 2.1 section 4.14.
use Rattle.std.specs.Prelude.{ℕ, ◌+◌, ◌-◌, ◌*◌, true, List, [], ◌∷◌, ◌++◌, length, map, take}
use Rattle.abc_time.specs.declared.grains.Grains.{Grains}
use Rattle.abc_bars_items.specs.declared.item.Item.TheVariants as items
use Rattle.abc_bars_items.specs.declared.item.Tone.{Tone}
use Rattle.abc_perform_note.specs.Spread.{spread_step}
use Rattle.abc_perform_item.specs.declared.performed.Performed.{Performed}
use Rattle.abc_perform_item.specs.declared.performed.Place.{Place}
use Rattle.abc_perform_item.specs.declared.performed.Source.TheVariants as sources

-- A tone in a step: as long as the step, and tied to itself in the next one. Not in ABC 2.1.
abbrev pub step_tone : Grains → Tone → Tone
step_tone step tone = record tone { length = step; tied = true }

-- A step, with the tones that sound in it.
abbrev pub step_item : Place → Grains → List Tone → Performed
step_item place step tones = record { item = items.Tone (map (step_tone step) tones) step; source = sources.Item place }

-- The steps from one on, each with one tone more.
abbrev pub step_items : Place → Grains → List Tone → ℕ → List Tone → List Performed
step_items place step tones index [] = []
step_items place step tones index (tone ∷ rest) =
    step_item place step (take (index + 1) tones) ∷ step_items place step tones (index + 1) rest

-- A tone in what is left of its chord after the steps: it sounds on to its end. Not in ABC 2.1.
abbrev pub later_tone : Grains → Tone → Tone
later_tone steps tone = record tone { length = record { 0 = tone.length.0 - steps.0 } }

-- What is left of a chord after the steps, with all of its tones.
abbrev pub last_item : Place → Grains → List Tone → Grains → Performed
last_item place steps tones length =
    record { item = items.Tone (map (later_tone steps) tones) (record { 0 = length.0 - steps.0 }); source = sources.Item place }

-- How long each step of a chord is.
abbrev pub step_of : List Tone → Grains → Grains
step_of tones long = record { 0 = spread_step long.0 (length tones) }

-- How long the steps are together.
abbrev pub steps_of : List Tone → Grains → Grains
steps_of tones long = record { 0 = (length tones - 1) * spread_step long.0 (length tones) }

-- A chord whose tones begin one after another and sound on together.
abbrev pub spread_items : Place → List Tone → Grains → List Performed
spread_items place tones long =
    step_items place (step_of tones long) tones 0 (take (length tones - 1) tones)
    ++ last_item place (steps_of tones long) tones long ∷ []
