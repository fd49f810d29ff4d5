-- The pattern of the accompaniment that a meter has. The patterns are those of abc2midi.
use Rattle.std.specs.Prelude.{ℕ, zero, suc, ◌-◌, ◌/◌, ◌==◌, ◌&&◌, ◌||◌, Bool, if◌then◌else◌, List, [], ◌∷◌, ◌++◌}
use Rattle.abc_fields.specs.declared.meter.Meter.{Meter}
use Rattle.abc_fields.specs.declared.meter.Meter.TheVariants.{Free, Of}
use Rattle.abc_marks.specs.declared.directive.Step.{Step}
use Rattle.abc_marks.specs.declared.directive.StepSound.{StepSound}
use Rattle.abc_marks.specs.declared.directive.StepSound.TheVariants as sounds

-- A step of count 1.
abbrev pub step_of : StepSound → Step
step_of sound = record { sound = sound; count = 1 }

-- Steps some number of times.
abbrev pub repeated : ℕ → List Step → List Step
repeated zero steps = []
repeated (suc times) steps = steps ++ repeated times steps

-- 4/4 and 2/2.
abbrev pub has_four : ℕ → ℕ → Bool
has_four num den = (num == 4) && (den == 4) || (num == 2) && (den == 2)

-- 6/8, 9/8 and 12/8.
abbrev pub is_compound : ℕ → ℕ → Bool
is_compound num den = (den == 8) && ((num == 6) || (num == 9) || (num == 12))

-- Bass, rest and chord in each beat.
abbrev pub compound_pattern : ℕ → List Step
compound_pattern beats = repeated beats (step_of sounds.Bass ∷ step_of sounds.Rest ∷ step_of sounds.Chord ∷ [])

-- A bass and then chords, each with a rest after it.
abbrev pub plain_pattern : ℕ → List Step
plain_pattern chords =
    step_of sounds.Bass ∷ step_of sounds.Rest ∷ repeated chords (step_of sounds.Chord ∷ step_of sounds.Rest ∷ [])

-- The pattern of a bar with some parts: of 4/4 and 2/2 bass, chord, bass and chord; of a compound meter a bass and a chord in each
-- beat; of any other meter a bass in the first part and a chord in each later one.
abbrev pub pattern_of_parts : ℕ → ℕ → List Step
pattern_of_parts num den =
    if has_four num den then plain_pattern 1 ++ plain_pattern 1
    else (if is_compound num den then compound_pattern (num / 3) else plain_pattern (num - 1))

-- The pattern that a meter has. Without a meter, chord and bass sound together.
abbrev pub default_pattern : Meter → List Step
default_pattern Free = step_of sounds.Both ∷ []
default_pattern (Of num den) = pattern_of_parts num den
