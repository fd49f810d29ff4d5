-- The grammar of a unit note length, the value of a field L:. ABC 2.1 section 3.1.7.
use Rattle.std.specs.Prelude.{ℕ, ◌≡◌, ◌⊎◌, List, ◌++◌, codes}
use Rattle.abc_time.specs.declared.ratio.Ratio.{Ratio}
use Rattle.abc_text.specs.Number.{IsNumber}
use Rattle.abc_text.specs.Power.{IsPowerUpTo}

-- `1/` and a number that is a power of two up to 512.
pub record IsPartOfWhole (text : List ℕ) (n : ℕ) : Type 0 where
  pub below : List ℕ
  pub spelling : text ≡ codes "1/" ++ below
  pub number : IsNumber below n
  pub power : IsPowerUpTo 9 n

-- A whole note, `1`, or a part of it.
pub record IsUnit (text : List ℕ) (unit : Ratio) : Type 0 where
  pub one : unit.num ≡ 1
  pub part : ((text ≡ codes "1") × (unit.den ≡ 1)) ⊎ IsPartOfWhole text unit.den
