-- Stages with places that are played one after another. Not in ABC 2.1.
use Rattle.std.specs.Prelude.{◌≡◌, ◌≤◌, All}
use Rattle.abc_time.specs.declared.grains.Grains.{Grains}
use Rattle.abc_voices_sections.specs.declared.stage.VoicePart.{VoicePart}
use Rattle.abc_voices_sections.specs.declared.stage.Stage.{Stage}
use Rattle.abc_play_sections.specs.declared.step.PlayStep.{PlayStep}
use Rattle.abc_play_tune.specs.Stage.{time_of}

-- A part with its own length, which is at most that of its stage.
pub record IsPart (longest : Grains) (part : VoicePart PlayStep) : Type 0 where
  pub length : part.length.0 ≡ time_of part.steps
  pub short : part.length.0 ≤ longest.0

-- A stage of such parts.
pub record IsStage (stage : Stage PlayStep) : Type 0 where
  pub parts : All (IsPart stage.longest) stage.parts
