-- Steps that are played at their moments. Not in ABC 2.1.
use Rattle.std.specs.Prelude.{ℕ, ◌+◌, List, [], ◌∷◌, ◌++◌, Option, Some, None, slice_get}
use Rattle.abc_voices_sections.specs.Step.{length_of}
use Rattle.abc_play_sections.specs.declared.step.PlayStep.{PlayStep}
use Rattle.abc_play_sections.specs.Play.{steps_in}
use Rattle.abc_play_sections.specs.Step.{as_item}
use Rattle.abc_play_tune.specs.Stage.{section_time}
use Rattle.abc_voices_sections.specs.declared.stage.VoicePart.{VoicePart}
use Rattle.abc_voices_sections.specs.declared.stage.Stage.{Stage}
use Rattle.abc_play_tune.specs.declared.timed.TimedStep.{TimedStep}

-- Steps that are played one after another from a moment on.
abbrev pub timed_from : ℕ → List PlayStep → List TimedStep
timed_from at [] = []
timed_from at (step ∷ others) = record { at = record { 0 = at }; step = step } ∷ timed_from (at + length_of (as_item step)) others

-- What a voice plays of sections that are played from a moment on. A section lasts as long as its longest voice.
abbrev pub timed_in : List (List ℕ) → List ℕ → ℕ → List (List ℕ × List PlayStep) → List TimedStep
timed_in voices voice at [] = []
timed_in voices voice at (section ∷ rest) =
    timed_from at (steps_in section voice) ++ timed_in voices voice (at + section_time voices section) rest

-- The steps of a part, if there is one.
abbrev pub steps_of : Option (VoicePart PlayStep) → List PlayStep
steps_of None = []
steps_of (Some part) = part.steps

-- What the voice at a place plays of a stage, and of stages one after another, from a moment on.
abbrev pub timed_at : ℕ → ℕ → Stage PlayStep → List TimedStep
timed_at voice at stage = timed_from at (steps_of (slice_get stage.parts voice))

abbrev pub timed_along : ℕ → ℕ → List (Stage PlayStep) → List TimedStep
timed_along voice at [] = []
timed_along voice at (stage ∷ stages) = timed_at voice at stage ++ timed_along voice (at + stage.longest.0) stages
