-- When a tune ends: with its sections, or with a note that lasts longer. Not in ABC 2.1.
use Rattle.std.specs.Prelude.{◌≡◌, ◌≤◌, ◌⊎◌, ℕ, List, sum_by, All, Any}
use Rattle.std.specs.List.{flat_map}
use Rattle.abc_bars_items.specs.declared.item.Item.{Item}
use Rattle.abc_voices_score.specs.declared.score.Sounding.{Sounding}
use Rattle.abc_voices_sections.specs.PlayedSection.{section_length}
use Rattle.abc_voices.specs.Layout.{played_sections, score_of}
use Rattle.abc_voices.specs.Track.{voice_names}

-- How long the sections of a tune are that are played, one after another.
abbrev pub length_of_sections : List Item → ℕ
length_of_sections tune = sum_by (section_length (voice_names tune)) (played_sections tune)

-- The notes of all voices of a tune.
abbrev pub all_notes_of : List Item → List Sounding
all_notes_of tune = flat_map (λ notes. notes) (score_of tune).voices

-- The end of a tune comes no earlier than its sections and each of its notes are over, and as soon.
pub record EndsInTime (tune : List Item) : Type 0 where
  pub sections : length_of_sections tune ≤ (score_of tune).end.0
  pub notes : All (λ note. note.off.0 ≤ (score_of tune).end.0) (all_notes_of tune)
  pub soon : ((score_of tune).end.0 ≡ length_of_sections tune)
      ⊎ Any (λ note. (score_of tune).end.0 ≡ note.off.0) (all_notes_of tune)

-- So for each tune.
abbrev pub EndsOnce : Type 0
EndsOnce = (tune : List Item) → EndsInTime tune
