-- A play with places is the play without them.
use Rattle.std.specs.Prelude.{◌≡◌, ℕ, List}
use Rattle.abc_voices_sections.specs.PlayedSection.{play_in}
use Rattle.abc_play_sections.specs.declared.step.PlayStep.{PlayStep}
use Rattle.abc_play_sections.specs.Play.{steps_in}
use Rattle.abc_play_sections.specs.Step.{items_among}

-- Without the bar lines that are passed, a voice plays the same items of a section.
abbrev pub PlaysItems : Type 0
PlaysItems = (opening voice : List ℕ) (steps : List PlayStep)
    → items_among (steps_in (opening, steps) voice) ≡ play_in (opening, items_among steps) voice
