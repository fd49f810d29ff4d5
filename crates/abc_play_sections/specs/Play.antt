-- The steps that a voice plays of a section. ABC 2.1 sections 4.8 to 4.10.
use Rattle.std.specs.Prelude.{ℕ, List}
use Rattle.abc_voices_sections.specs.declared.section.Section.{Section}
use Rattle.abc_voices_sections.specs.Play as plays
use Rattle.abc_voices_sections.specs.PlayedSection as sections
use Rattle.abc_voices_sections.specs.Section.{own_steps}
use Rattle.abc_voices_sections.specs.Stage.{steps_at}
use Rattle.abc_play_sections.specs.declared.step.PlayStep.{PlayStep}
use Rattle.abc_play_sections.specs.Step.{as_item}

-- A section: the current voice at its beginning, and its steps.
abbrev pub content : Section PlayStep → List ℕ × List PlayStep
content section = steps_at section

-- The steps of a voice from a place on, at which `current` is the current voice.
abbrev pub part_from : List ℕ → List ℕ → List PlayStep → List PlayStep
part_from voice current steps = own_steps as_item voice current steps

-- What is played of steps that are in the order of their play.
abbrev pub expanded : List PlayStep → List PlayStep
expanded steps = plays.expanded as_item steps

-- The steps that a voice plays of a section, in order of play.
abbrev pub steps_in : List ℕ × List PlayStep → List ℕ → List PlayStep
steps_in section voice = sections.steps_in as_item section voice
