-- Lengths of notes and rests. ABC 2.1 section 4.3.
use Rattle.std.specs.Prelude.{◌≤◌, ℕ, ◌&&◌, nat_le, Bool, true, false, if◌then◌else◌, List, [], ◌∷◌, ◌++◌, Option, Some, None}
use Rattle.std.specs.Prelude.{option_map, option_and_then, IsSomeAnd}
use Rattle.std.specs.Result.{result_ok}
use Rattle.abc_scan.specs.declared.length.WrittenLength.{WrittenLength}
use Rattle.abc_scan.specs.declared.length.WrittenLength.TheVariants.{Factor, Refused}
use Rattle.abc_text.specs.declared.digit.TheConstants.{LARGEST_NUMBER}
use Rattle.abc_time.specs.declared.grains.Grains.{Grains}
use Rattle.abc_time.specs.declared.ratio.Ratio.{Ratio}
use Rattle.abc_time.specs.Grains.{grains_of_the_longest_length}
use Rattle.abc_time.specs.Length.{IsLength, length_of}
use Rattle.abc_bars_voice.specs.UnitLength.{unit_grains}

-- Whether a part of a ratio is in range.
abbrev pub is_ratio_part : ℕ → Bool
is_ratio_part n = nat_le 1 n && nat_le n LARGEST_NUMBER

-- The ratio of two numbers, if both are in range.
abbrev pub ratio_of : ℕ → ℕ → Option Ratio
ratio_of num den = if is_ratio_part num && is_ratio_part den then Some (record { num = num; den = den }) else None

-- The factor that a length text says, if it is accepted.
abbrev pub written_ratio : WrittenLength → Option Ratio
written_ratio (Factor num den) = ratio_of num den
written_ratio Refused = None

-- The factors of a note's own length text, and of that after its chord.
abbrev pub texts_of : WrittenLength → Option WrittenLength → List (Option Ratio)
texts_of own None = written_ratio own ∷ []
texts_of own (Some outer) = written_ratio own ∷ written_ratio outer ∷ []

-- The ratios, if all of them are there.
abbrev pub all_ratios : List (Option Ratio) → Option (List Ratio)
all_ratios [] = Some []
all_ratios (None ∷ rest) = None
all_ratios (Some ratio ∷ rest) = option_map (λ ratios. ratio ∷ ratios) (all_ratios rest)

-- The unit times the factors of texts and those of the note's place. There is none if a text is refused, or if the product is no
-- whole number of grains or above 1,024 whole notes. Not in ABC 2.1.
abbrev pub length_by : Ratio → List (Option Ratio) → List Ratio → Option Grains
length_by unit texts factors = option_and_then (λ written. result_ok (length_of unit (written ++ factors))) (all_ratios texts)

-- The length is g grains. No text is refused, and g is exactly the unit times the factors of texts and those of the note's
-- place. It is at most 1,024 whole notes.
abbrev pub HasLength : Ratio → List (Option Ratio) → List Ratio → ℕ → Type 0
HasLength unit texts factors g =
    IsSomeAnd (all_ratios texts) (λ written. IsLength unit (written ++ factors) g × (g ≤ grains_of_the_longest_length))

-- A length and that it is not refused, or the plain unit and that it is.
abbrev pub or_unit : Ratio → Option Grains → Grains × Bool
or_unit unit None = (unit_grains unit, true)
or_unit unit (Some length) = (length, false)

-- The length of a note or rest, and whether what is written is refused: then it is one unit long. Not in ABC 2.1.
abbrev pub length_or_unit : Ratio → List (Option Ratio) → List Ratio → Grains × Bool
length_or_unit unit texts factors = or_unit unit (length_by unit texts factors)
