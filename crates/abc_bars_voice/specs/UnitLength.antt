-- Unit note lengths.
use Rattle.std.specs.Prelude.{◌≡◌, ◌*◌, ◌/◌, nat_lt, if◌then◌else◌}
use Rattle.abc_fields.specs.declared.meter.Meter.{Meter}
use Rattle.abc_fields.specs.declared.meter.Meter.TheVariants.{Free, Of}
use Rattle.abc_text.specs.Power.{IsPowerUpTo}
use Rattle.abc_time.specs.declared.grains.Grains.{Grains}
use Rattle.abc_time.specs.declared.ratio.Ratio.{Ratio}
use Rattle.abc_time.specs.Grains.{grains_of_a_whole_note}

-- A whole note, or a half, a quarter and so on of it, down to a 512th (ABC 2.1 section 3.1.7; the bound is not in
-- ABC 2.1).
pub record IsUnitPart (part : Ratio) : Type 0 where
  pub one : part.num ≡ 1
  pub power : IsPowerUpTo 9 part.den

-- In a meter below 3/4 the unit is a sixteenth, otherwise, and in free meter, an eighth (ABC 2.1
-- section 3.1.7).
abbrev pub unit_by : Meter → Ratio
unit_by Free = record { num = 1; den = 8 }
unit_by (Of num den) = if nat_lt (4 * num) (3 * den) then record { num = 1; den = 16 } else record { num = 1; den = 8 }

-- The length of one unit.
unfoldable pub unit_grains : Ratio → Grains
unit_grains unit = record { 0 = grains_of_a_whole_note / unit.den }
