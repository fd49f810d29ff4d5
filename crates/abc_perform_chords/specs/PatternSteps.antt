-- When the steps of a pattern begin and end in a bar. The patterns are those of abc2midi.
use Rattle.std.specs.Prelude.{◌≡◌, ℕ, ◌+◌, ◌*◌, ◌/◌, List, [], ◌∷◌, sum_by}
use Rattle.abc_marks.specs.declared.directive.Step.{Step}
use Rattle.abc_perform_chords.specs.declared.pattern_steps.StepSpan.{StepSpan}

-- The counts of all steps.
abbrev pub total_count : List Step → ℕ
total_count pattern = sum_by (λ step. step.count) pattern

-- The moment of a bar that some of its counts precede, rounded down.
abbrev pub moment_of : ℕ → ℕ → ℕ → ℕ
moment_of bar total counted = bar * counted / total

-- The steps from one on, that some counts precede.
abbrev pub spans_from : ℕ → ℕ → ℕ → List Step → List StepSpan
spans_from bar total counted [] = []
spans_from bar total counted (step ∷ pattern) =
    record {
      sound = step.sound;
      from = record { 0 = moment_of bar total counted };
      to = record { 0 = moment_of bar total (counted + step.count) };
    }
    ∷ spans_from bar total (counted + step.count) pattern

-- Spans that follow one another without gaps, from one moment to another.
abbrev pub IsChain : ℕ → ℕ → List StepSpan → Type 0
IsChain from to [] = from ≡ to
IsChain from to (span ∷ spans) = (span.from.0 ≡ from) × IsChain span.to.0 to spans

-- The steps of a pattern fill a bar: they are as long together.
pub record FillsBar (bar : ℕ) (spans : List StepSpan) : Type 0 where
  pub chain : IsChain 0 bar spans
