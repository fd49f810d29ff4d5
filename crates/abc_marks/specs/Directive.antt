-- The directives of the accompaniment and of transposition. They are extensions of abc2midi.
use Rattle.std.specs.Prelude.{ℤ, ◌≤◌, ◌<◌, ◌≤ℤ◌, neg_ℤ, pos, All, List, length}
use Rattle.abc_bars_items.specs.declared.program.TheConstants.{HIGHEST_PROGRAM}
use Rattle.abc_bars_items.specs.Velocity.{IsVelocity}
use Rattle.abc_marks.specs.declared.directive.PlayingDirective.{PlayingDirective}
use Rattle.abc_marks.specs.declared.directive.PlayingDirective.TheVariants as directives
use Rattle.abc_marks.specs.declared.directive.Step.{Step}
use Rattle.abc_marks.specs.declared.directive.StepSound.{StepSound}
use Rattle.abc_marks.specs.declared.directive.StepSound.TheVariants as sounds
use Rattle.abc_marks.specs.declared.directive.TheConstants.{MOST_STEPS}

-- A step plays one of the first four notes of a chord, if it plays one alone.
abbrev pub IsStepSound : StepSound → Type 0
IsStepSound (sounds.Note index lower) = index < 4
IsStepSound _ = Unit {0}

-- A step of a pattern: its count is 1 to 99.
pub record IsStep (step : Step) : Type 0 where
  pub sound : IsStepSound step.sound
  pub some : 1 ≤ step.count
  pub few : step.count ≤ 99

-- A pattern: 1 to 64 steps.
pub record IsPattern (steps : List Step) : Type 0 where
  pub some : 1 ≤ length steps
  pub few : length steps ≤ MOST_STEPS
  pub each : All IsStep steps

-- A transposition of at most five octaves up or down.
pub record IsTransposition (half_tones : ℤ) : Type 0 where
  pub low : neg_ℤ (pos 60) ≤ℤ half_tones
  pub high : half_tones ≤ℤ pos 60

-- What a directive can hold.
abbrev pub IsPlayingDirective : PlayingDirective → Type 0
IsPlayingDirective (directives.Pattern steps) = IsPattern steps
IsPlayingDirective directives.AccompanimentOn = Unit {0}
IsPlayingDirective directives.AccompanimentOff = Unit {0}
IsPlayingDirective (directives.Transpose half_tones) = IsTransposition half_tones
IsPlayingDirective (directives.ChordVelocity velocity) = IsVelocity velocity
IsPlayingDirective (directives.BassVelocity velocity) = IsVelocity velocity
IsPlayingDirective (directives.ChordProgram program) = program ≤ HIGHEST_PROGRAM
IsPlayingDirective (directives.BassProgram program) = program ≤ HIGHEST_PROGRAM
