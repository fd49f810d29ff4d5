-- Fractions as a tune book writes them.
use Rattle.std.specs.Prelude.{◌≤◌}
use Rattle.abc_text.specs.declared.digit.TheConstants.{LARGEST_NUMBER}
use Rattle.abc_time.specs.declared.ratio.Ratio.{Ratio}

-- Both parts of a ratio are from 1 to the largest number of nine decimal digits. Not in ABC 2.1.
pub record IsRatio (r : Ratio) : Type 0 where
  pub num_least : 1 ≤ r.num
  pub num_most : r.num ≤ LARGEST_NUMBER
  pub den_least : 1 ≤ r.den
  pub den_most : r.den ≤ LARGEST_NUMBER
