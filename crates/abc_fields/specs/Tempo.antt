-- The tempo of a field Q:. ABC 2.1 section 3.1.8.
use Rattle.std.specs.Prelude.{◌≤◌, ℕ, zero, suc, ◌+◌, ◌*◌, ◌/◌, ◌%◌, ◌==◌, ◌&&◌, nat_le, if◌then◌else◌, List, [], ◌∷◌, take, drop}
use Rattle.std.specs.Prelude.{Option, Some, None, option_map, option_and_then, Result, ok_or}
use Rattle.abc_time.specs.declared.ratio.Ratio.{Ratio}
use Rattle.abc_time.specs.Ratio.{IsRatio}
use Rattle.abc_fields.specs.declared.fault_code.FaultCode.{FaultCode}
use Rattle.abc_fields.specs.declared.fault_code.FaultCode.TheVariants.{BadTempo}
use Rattle.abc_fields.specs.declared.tempo.Tempo.{Tempo}
use Rattle.abc_fields.specs.declared.tempo.Tempo.TheVariants.{Unset, Units, Beat}
use Rattle.abc_text.specs.Blank.{trim_start, trim_end}
use Rattle.abc_text.specs.Number.{number_of}
use Rattle.abc_text.specs.Word.{bytes_before_blank}
use Rattle.abc_text.specs.Cut.{cut_at}
use Rattle.abc_text.specs.Byte.{quote, slash, equals_sign}
use Rattle.abc_text.specs.Power.{is_power_up_to}
use Rattle.abc_text.specs.declared.digit.TheConstants.{LARGEST_NUMBER}

-- A number from 1, or none.
abbrev pub if_positive : ℕ → Option ℕ
if_positive n = if n == 0 then None else Some n

-- The number from 1 that a text spells.
unfoldable pub positive_number : List ℕ → Option ℕ
positive_number text = option_and_then if_positive (number_of text)

-- A fraction in 512ths, if both its parts are accepted.
unfoldable pub part_of : ℕ → ℕ → Option ℕ
part_of above below =
    if nat_le 1 above && nat_le above 512 && is_power_up_to 9 below then Some (above * (512 / below)) else None

-- The fraction that a word spells, in 512ths.
unfoldable pub fraction_of : List ℕ → Option ℕ
fraction_of word =
    option_and_then
    (λ parts. option_and_then (λ above. option_and_then (part_of above) (number_of parts.1)) (number_of parts.0))
    (cut_at slash word)

-- The part before the first blank of a text.
unfoldable pub word_in_front : List ℕ → List ℕ
word_in_front text = take (bytes_before_blank text) text

-- The rest after that part and its blanks.
unfoldable pub after_word : List ℕ → List ℕ
after_word text = trim_start (drop (bytes_before_blank text) text)

-- A fraction added to the sum of the rest.
abbrev pub add_fraction : ℕ → Option ℕ → Option ℕ
add_fraction part rest = option_map (λ sum. part + sum) rest

-- The sum of this fraction and the rest, which is empty or a text with a sum.
abbrev pub sum_with : (List ℕ → Option ℕ) → List ℕ → ℕ → Option ℕ
sum_with sum_rest [] part = Some part
sum_with sum_rest (b ∷ bs) part = add_fraction part (sum_rest (b ∷ bs))

-- The sum of at most `most` fractions, in 512ths.
unfoldable pub sum_of : ℕ → List ℕ → Option ℕ
sum_of zero text = None
sum_of (suc most) text = option_and_then (sum_with (sum_of most) (after_word text)) (fraction_of (word_in_front text))

-- Both parts halved at most `most` times, while the upper one is even.
unfoldable pub halve : ℕ → ℕ → ℕ → Ratio
halve zero num den = record { num = num; den = den }
halve (suc most) num den = if num % 2 == 0 then halve most (num / 2) (den / 2) else record { num = num; den = den }

-- A number of 512ths in lowest terms.
abbrev pub lowest_terms : ℕ → Ratio
lowest_terms sum = halve 9 sum 512

-- This number of beats per minute, each of this number of 512ths.
abbrev pub beats : ℕ → Option ℕ → Option Tempo
beats sum n = option_map (λ k. Beat (lowest_terms sum) k) n

-- The tempo of a text, by its parts before and after its first `=`, if it has one.
abbrev pub bare_by : List ℕ → Option (List ℕ × List ℕ) → Option Tempo
bare_by text None = option_map (λ n. Units n) (positive_number text)
bare_by text (Some parts) = option_and_then (λ sum. beats sum (positive_number (trim_start parts.1))) (sum_of 16 parts.0)

-- The tempo of a text without quotes.
unfoldable pub bare_tempo : List ℕ → Option Tempo
bare_tempo text = bare_by text (cut_at equals_sign text)

-- The tempo of the part before a quoted text and after it.
unfoldable pub tempo_around : List ℕ → List ℕ → Option Tempo
tempo_around [] [] = Some Unset
tempo_around [] (b ∷ bs) = bare_tempo (trim_start (b ∷ bs))
tempo_around (b ∷ bs) [] = bare_tempo (trim_end (b ∷ bs))
tempo_around (b ∷ bs) (c ∷ cs) = None

-- The tempo of a value, by its parts before and after its first quote, if it has one.
abbrev pub tempo_by : List ℕ → Option (List ℕ × List ℕ) → Option Tempo
tempo_by value None = bare_tempo value
tempo_by value (Some parts) = option_and_then (λ more. tempo_around parts.0 more.1) (cut_at quote parts.1)

-- The tempo of a value.
unfoldable pub tempo_in : List ℕ → Option Tempo
tempo_in [] = Some Unset
tempo_in (b ∷ bs) = tempo_by (b ∷ bs) (cut_at quote (b ∷ bs))

-- The tempo of a value, or its fault.
unfoldable pub tempo_of : List ℕ → Result Tempo FaultCode
tempo_of value = ok_or (tempo_in value) BadTempo

-- The numbers of each tempo that is read.
abbrev pub IsInRange : Tempo → Type 0
IsInRange Unset = Unit {0}
IsInRange (Units n) = (1 ≤ n) × (n ≤ LARGEST_NUMBER)
IsInRange (Beat beat n) = IsRatio beat × (1 ≤ n) × (n ≤ LARGEST_NUMBER)
