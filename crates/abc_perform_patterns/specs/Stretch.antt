-- The steps of a pattern along a stretch of a voice. The patterns are those of abc2midi.
use Rattle.std.specs.Prelude.{ℕ, zero, suc, ◌+◌, ◌-◌, ◌/◌, nat_lt, min, Bool, true, false, if◌then◌else◌, List, [], ◌∷◌, ◌++◌}
use Rattle.abc_time.specs.declared.grains.Grains.{Grains}
use Rattle.abc_perform_chords.specs.declared.pattern_steps.StepSpan.{StepSpan}
use Rattle.abc_perform_note.specs.Length.{IsLengthOfANote}

-- A step of a bar, whose moments are not later than a note may be long.
pub record IsSpanIn (span : StepSpan) : Type 0 where
  pub from : IsLengthOfANote span.from.0
  pub to : IsLengthOfANote span.to.0

-- A step, if it takes time.
abbrev pub some_step : StepSpan → List StepSpan
some_step step = if nat_lt step.from.0 step.to.0 then step ∷ [] else []

-- A step of a bar that begins at a moment, as far as the stretch goes.
abbrev pub clipped : ℕ → ℕ → StepSpan → StepSpan
clipped begin length span =
    record span { from = record { 0 = begin + span.from.0 }; to = record { 0 = min (begin + span.to.0) length } }

-- The steps of a bar that begins at a moment, as far as the stretch goes.
abbrev pub clipped_all : ℕ → ℕ → List StepSpan → List StepSpan
clipped_all begin length [] = []
clipped_all begin length (span ∷ spans) = some_step (clipped begin length span) ++ clipped_all begin length spans

-- The steps of some bars, the first of which begins at a moment.
abbrev pub repeated_steps : ℕ → ℕ → ℕ → ℕ → List StepSpan → List StepSpan
repeated_steps zero begin bar length spans = []
repeated_steps (suc bars) begin bar length spans =
    clipped_all begin length spans ++ repeated_steps bars (begin + bar) bar length spans

-- How many bars a stretch begins.
abbrev pub bars_in : ℕ → ℕ → ℕ
bars_in length bar = (length + (bar - 1)) / bar

-- A step of a bar that lacks its first part.
abbrev pub ending : ℕ → StepSpan → StepSpan
ending lack span = record span { from = record { 0 = span.from.0 - lack }; to = record { 0 = span.to.0 - lack } }

-- The steps of a bar that lacks its first part.
abbrev pub ending_all : ℕ → List StepSpan → List StepSpan
ending_all lack [] = []
ending_all lack (span ∷ spans) = some_step (ending lack span) ++ ending_all lack spans

-- The steps of a pattern along a stretch, by its steps in one bar: the pattern is repeated. A pickup has the end of the pattern.
abbrev pub stretch_steps : Bool → ℕ → ℕ → List StepSpan → List StepSpan
stretch_steps true bar length spans = ending_all (bar - length) spans
stretch_steps false bar length spans = repeated_steps (bars_in length bar) 0 bar length spans
