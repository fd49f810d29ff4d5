-- A product that takes one ratio after another.
use Rattle.std.proofs.Common.{◌≡◌, ℕ, ◌+◌, ◌*◌, ◌/◌, ◌%◌, ◌<◌, List, length, get_or, map, take, arith, ap}
use Rattle.std.proofs.Math.Nat.{div-mul_cancel, dvd_of_mod-eq-zero}
use Rattle.abc_time.specs.declared.ratio.Ratio.{Ratio}
use Rattle.abc_time.specs.Length.{denominator_of, numerator_of}
use Rattle.abc_time.specs.Product.{product_of}
use Rattle.abc_time.proofs.Products.{product_of-map-take}

pub quotient_times : (n d : ℕ) → n % d ≡ 0 → n / d * d ≡ n
quotient_times n d e = div-mul_cancel d (dvd_of_mod-eq-zero d e)

-- a quotient times a numerator, by the parts of a ratio
pub scaled : (number q product den num d n : ℕ) → q * den ≡ number → product ≡ q * num → den ≡ d → num ≡ n → product * d ≡ number * n
scaled number q product den num d n back e f g =
    omega (arith, ap (λ x. x * num) back, ap (λ x. x * den) e, ap (λ x. product * x) f, ap (λ x. number * x) g)

-- a number that was multiplied by the numerators and divided by the denominators of the unit and of the first i factors
abbrev pub IsScaled : ℕ → Ratio → List Ratio → ℕ → ℕ → Type 0
IsScaled number unit factors product i = product * denominator_of unit (take i factors) ≡ number * numerator_of unit (take i factors)

pub IsScaled-step : (number : ℕ) (unit : Ratio) (factors : List Ratio) (product next i : ℕ) (d : Ratio) → IsScaled number unit factors product i → i < length factors
    → next * (get_or factors i d).den ≡ product * (get_or factors i d).num → IsScaled number unit factors next (i + 1)
IsScaled-step number unit factors product next i d h inside e =
    rw (product_of-map-take (λ (r : Ratio). r.den) factors i d inside, product_of-map-take (λ (r : Ratio). r.num) factors i d inside)
    (regrouped next product number unit.den unit.num (product_of (map (λ r. r.den) (take i factors))) (product_of (map (λ r. r.num) (take i factors))) _ _ e h)
  where
    regrouped : (x p n c m a b d g : ℕ) → x * d ≡ p * g → p * (c * a) ≡ n * (m * b) → x * (c * (a * d)) ≡ n * (m * (b * g))
    regrouped x p n c m a b d g e h = omega (arith, ap (λ y. y * (c * a)) e, ap (λ y. y * g) h)
