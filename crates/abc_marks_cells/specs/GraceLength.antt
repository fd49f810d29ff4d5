-- How long grace notes want to sound. ABC 2.1 section 4.12 leaves it open.
use Rattle.std.specs.Prelude.{ℕ, ◌*◌, ◌/◌, ◌&&◌, Bool, nat_le, if◌then◌else◌}
use Rattle.abc_text.specs.declared.digit.TheConstants.{LARGEST_NUMBER}
use Rattle.abc_time.specs.declared.grains.Grains.{Grains}
use Rattle.abc_time.specs.declared.ratio.Ratio.{Ratio}
use Rattle.abc_time.specs.Grains.{grains_of_the_longest_length}
use Rattle.abc_scan.specs.declared.length.WrittenLength.{WrittenLength}
use Rattle.abc_scan.specs.declared.length.WrittenLength.TheVariants.{Factor, Refused}
use Rattle.abc_bars_voice.specs.UnitLength.{unit_grains}

-- A quarter of the unit.
abbrev pub quarter_unit : Ratio → Grains
quarter_unit unit = record { 0 = (unit_grains unit).0 / 4 }

-- A quarter of the unit times a factor, rounded down.
abbrev pub quarter_times : Ratio → ℕ → ℕ → ℕ
quarter_times unit num den = (unit_grains unit).0 * num / (4 * den)

-- Whether a part of a factor is in range.
abbrev pub is_factor : ℕ → Bool
is_factor n = nat_le 1 n && nat_le n LARGEST_NUMBER

-- A length, or a quarter of the unit if it is above 1,024 whole notes.
abbrev pub within_longest : Ratio → ℕ → Grains
within_longest unit wanted = if nat_le wanted grains_of_the_longest_length then record { 0 = wanted } else quarter_unit unit

-- What a grace note of this written length wants: a quarter of it. A length that is refused or too long counts as one unit.
abbrev pub wanted_length : Ratio → WrittenLength → Grains
wanted_length unit (Factor num den) =
    if is_factor num && is_factor den then within_longest unit (quarter_times unit num den) else quarter_unit unit
wanted_length unit Refused = quarter_unit unit
