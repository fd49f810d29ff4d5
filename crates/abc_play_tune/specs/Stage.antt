-- What the voices of a tune play of a section, with places. Not in ABC 2.1.
use Rattle.std.specs.Prelude.{ℕ, List}
use Rattle.abc_voices_sections.specs.Play as plays
use Rattle.abc_voices_sections.specs.PlayedSection as sections
use Rattle.abc_voices_sections.specs.Stage.{stage_in}
use Rattle.abc_voices_sections.specs.declared.stage.Stage.{Stage}
use Rattle.abc_play_sections.specs.declared.step.PlayStep.{PlayStep}
use Rattle.abc_play_sections.specs.Step.{as_item}

-- How many grains steps take one after another.
abbrev pub time_of : List PlayStep → ℕ
time_of own = plays.time_of as_item own

-- How many steps a voice plays of a section, and how long that takes.
abbrev pub size_in : List ℕ × List PlayStep → List ℕ → ℕ
size_in section voice = sections.count_in as_item section voice

abbrev pub length_in : List ℕ × List PlayStep → List ℕ → ℕ
length_in section voice = sections.time_in as_item section voice

-- How long a section is: as long as the longest of its voices.
abbrev pub section_time : List (List ℕ) → List ℕ × List PlayStep → ℕ
section_time voices section = sections.section_time as_item voices section

-- What each voice plays of a section, and how long the section is.
abbrev pub stage_of : List (List ℕ) → List ℕ × List PlayStep → Stage PlayStep
stage_of voices section = stage_in as_item voices section
