-- Patterns of the accompaniment. They are extensions of abc2midi.
use Rattle.std.specs.Prelude.{ℕ, zero, suc, true, false, ◌&&◌, ◌==◌, nat_le, if◌then◌else◌, List, [], ◌∷◌, length, take, drop, Option, Some, None}
use Rattle.std.specs.List.{prefix_len}
use Rattle.std.specs.Option.{option_map, option_and_then}
use Rattle.abc_text.specs.Digit.{is_digit}
use Rattle.abc_text.specs.Number.{number_of}
use Rattle.abc_marks.specs.declared.directive.Step.{Step}
use Rattle.abc_marks.specs.declared.directive.StepSound.{StepSound}
use Rattle.abc_marks.specs.declared.directive.StepSound.TheVariants as sounds
use Rattle.abc_marks.specs.declared.directive.TheConstants.{MOST_STEPS}

-- What a step of this letter plays: `f` the bass, `c` the chord, `b` both, `z` nothing, `g` to `j` one note of the chord, and the
-- capitals the same an octave lower.
abbrev pub sound_of : ℕ → Option StepSound
sound_of letter =
    if letter == 102 then Some sounds.Bass
    else (if letter == 99 then Some sounds.Chord
    else (if letter == 98 then Some sounds.Both
    else (if letter == 122 then Some sounds.Rest
    else (if letter == 103 then Some (sounds.Note 0 false)
    else (if letter == 104 then Some (sounds.Note 1 false)
    else (if letter == 105 then Some (sounds.Note 2 false)
    else (if letter == 106 then Some (sounds.Note 3 false)
    else (if letter == 71 then Some (sounds.Note 0 true)
    else (if letter == 72 then Some (sounds.Note 1 true)
    else (if letter == 73 then Some (sounds.Note 2 true)
    else (if letter == 74 then Some (sounds.Note 3 true)
    else None)))))))))))

-- The count, if it is 1 to 99.
abbrev pub count_in_range : ℕ → Option ℕ
count_in_range count = if nat_le 1 count && nat_le count 99 then Some count else None

-- The count that digits spell: one without digits.
abbrev pub count_of : List ℕ → Option ℕ
count_of digits = if length digits == 0 then Some 1 else option_and_then count_in_range (number_of digits)

-- The step at the front of a text, and the rest after it.
abbrev pub step_at : List ℕ → Option (Step × List ℕ)
step_at [] = None
step_at (letter ∷ following) =
    let size = prefix_len is_digit following in
    option_and_then
    (λ sound. option_map (λ count. (record { sound = sound; count = count }, drop size following)) (count_of (take size following)))
    (sound_of letter)

-- The steps that a text spells, if it has at most this many, and nothing else.
abbrev pub steps_of : ℕ → List ℕ → Option (List Step)
steps_of most [] = Some []
steps_of zero (b ∷ bs) = None
steps_of (suc most) (b ∷ bs) =
    option_and_then (λ first. option_map (λ more. first.0 ∷ more) (steps_of most first.1)) (step_at (b ∷ bs))

-- The pattern that a text spells: 1 to 64 steps.
unfoldable pub pattern_of : List ℕ → Option (List Step)
pattern_of text = if length text == 0 then None else steps_of MOST_STEPS text
