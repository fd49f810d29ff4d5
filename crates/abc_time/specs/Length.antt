-- The length that a unit and its factors make.
use Rattle.std.specs.Prelude.{ℕ, List, ◌*◌, ◌/◌, ◌%◌, ◌==◌, nat_le, map, Result, Ok, Err, if◌then◌else◌, ◌≡◌}
use Rattle.abc_time.specs.declared.grains.Grains.{Grains}
use Rattle.abc_time.specs.declared.lengths.LengthFault.{LengthFault}
use Rattle.abc_time.specs.declared.lengths.LengthFault.TheVariants.{NotWhole, TooLong}
use Rattle.abc_time.specs.declared.ratio.Ratio.{Ratio}
use Rattle.abc_time.specs.Grains.{grains_of_a_whole_note, grains_of_the_longest_length}
use Rattle.abc_time.specs.Product.{product_of}

-- The product of the numerators, the unit's among them. Not in ABC 2.1.
abbrev pub numerator_of : Ratio → List Ratio → ℕ
numerator_of unit factors = unit.num * product_of (map (λ r. r.num) factors)

-- The product of the denominators, the unit's among them. Not in ABC 2.1.
abbrev pub denominator_of : Ratio → List Ratio → ℕ
denominator_of unit factors = unit.den * product_of (map (λ r. r.den) factors)

-- The unit of length times the factors is g grains, exactly (ABC 2.1 sections 4.3, 4.4 and 4.13;
-- grains are not in ABC 2.1).
abbrev pub IsLength : Ratio → List Ratio → ℕ → Type 0
IsLength unit factors g = g * denominator_of unit factors ≡ grains_of_a_whole_note * numerator_of unit factors

-- n divided by d as a length: a whole number up to 1,024 whole notes. Not in ABC 2.1.
unfoldable pub quotient_of : ℕ → ℕ → Result Grains LengthFault
quotient_of n d =
    if n % d == 0 then
    (if nat_le (n / d) grains_of_the_longest_length then Ok (record { 0 = n / d }) else Err TooLong)
    else Err NotWhole

-- The length that a unit and its factors make, or the reason why there is none. Not in ABC 2.1.
unfoldable pub length_of : Ratio → List Ratio → Result Grains LengthFault
length_of unit factors = quotient_of (grains_of_a_whole_note * numerator_of unit factors) (denominator_of unit factors)
