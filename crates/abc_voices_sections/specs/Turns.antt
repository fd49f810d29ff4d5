-- Stages played one after another. Not in ABC 2.1.
use Rattle.std.specs.Prelude.{ℕ, List, map, sum_by}
use Rattle.abc_voices_sections.specs.declared.stage.Stage.{Stage}
use Rattle.abc_voices_sections.specs.declared.turns.Turn.{Turn}

-- The stages of some turns.
abbrev pub stages_in : {A : Type 0} → List (Turn A) → List (Stage A)
stages_in turns = map (λ turn. turn.stage.now) turns

-- How long stages are one after another.
abbrev pub length_along : {A : Type 0} → List (Stage A) → ℕ
length_along stages = sum_by (λ stage. stage.longest.0) stages
