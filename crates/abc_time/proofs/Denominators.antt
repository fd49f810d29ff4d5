-- Dividing by one denominator after another.
use Rattle.std.proofs.Common.{◌∙◌, ◌≡◌, ℕ, ◌+◌, ◌*◌, ◌<◌, ◌≤◌, List, length, get_or, map, take, drop, arith, ap, sym, subst}
use Rattle.std.proofs.Math.Nat.{mul_assoc, mul_comm, mul-pos, mul-dvd-mul_left, dvd-mul_right, dvd_trans, dvd_of_mul-dvd-mul_left}
use Rattle.std.proofs.lemmas.List.{take-map, take-append-drop}
use Rattle.std.proofs.lemmas.List.Elements.{All-take, All-map}
use Rattle.std.specs.List.{All}
use Rattle.std.specs.Int.{◌∣◌}
use Rattle.abc_time.specs.declared.ratio.Ratio.{Ratio}
use Rattle.abc_time.specs.Length.{denominator_of}
use Rattle.abc_time.specs.Product.{product_of}
use Rattle.abc_time.specs.Ratio.{IsRatio}
use Rattle.abc_time.proofs.Products.{product_of-append, product_of-map-take, product_of-positive}

-- the product was before, and was divided by the unit's denominator and those of the first i factors
pub record IsDivided (before : ℕ) (unit : Ratio) (factors : List Ratio) (now : List ℕ) (i : ℕ) : Type 0 where
  pub quotient : product_of now * denominator_of unit (take i factors) ≡ before
  pub positive : All (λ n. 1 ≤ n) now

-- the denominators of the first i + 1 factors divide the whole
dens-dvd : (factors : List Ratio) (i : ℕ) → product_of (map (λ r. r.den) (take i factors)) ∣ product_of (map (λ r. r.den) factors)
dens-dvd factors i =
    let all = map (λ (r : Ratio). r.den) factors in
    let whole : product_of (take i all) * product_of (drop i all) ≡ product_of all =
    sym (product_of-append (take i all) (drop i all)) ∙ ap product_of (take-append-drop i all) in
    subst (λ l. product_of l ∣ product_of all) (take-map (λ (r : Ratio). r.den) i factors)
    (subst (λ n. product_of (take i all) ∣ n) whole (dvd-mul_right (product_of (take i all)) (product_of (drop i all))))

dens-positive : (factors : List Ratio) → All IsRatio factors → 1 ≤ product_of (map (λ r. r.den) factors)
dens-positive factors h =
    product_of-positive _ (All-map (λ n. 1 ≤ n) (λ (r : Ratio). r.den) factors (λ k d in'. (h k d in').den_least))

pub denominator_positive : (unit : Ratio) (factors : List Ratio) → IsRatio unit → All IsRatio factors → 1 ≤ denominator_of unit factors
denominator_positive unit factors u h = mul-pos u.den_least (dens-positive factors h)

pub IsDivided-step : (before : ℕ) (unit : Ratio) (factors : List Ratio) (now next : List ℕ) (i : ℕ) (d : Ratio)
    → IsDivided before unit factors now i → i < length factors → product_of next * (get_or factors i d).den ≡ product_of now
    → All (λ n. 1 ≤ n) next → IsDivided before unit factors next (i + 1)
IsDivided-step before unit factors now next i d h inside e p = record {
  quotient = rw (product_of-map-take (λ (r : Ratio). r.den) factors i d inside) (regrouped _ unit.den _ _ (product_of now) before e h.quotient);
  positive = p;
} where
  regrouped : (n u t e m b : ℕ) → n * e ≡ m → m * (u * t) ≡ b → n * (u * (t * e)) ≡ b
  regrouped n u t e m b p q = omega (arith, ap (λ x. x * (u * t)) p, q)

-- if the unit's denominator does not divide the product, all of them together do not either
pub not_divided_first : (before : ℕ) (unit : Ratio) (factors : List Ratio) → ¬ (unit.den ∣ before) → ¬ (denominator_of unit factors ∣ before)
not_divided_first before unit factors h all = h (dvd_trans unit.den (dvd-mul_right unit.den _) all)

-- if the denominator of factor i does not divide the rest, all of them together do not divide the product
pub not_divided_next : (before : ℕ) (unit : Ratio) (factors : List Ratio) (now : List ℕ) (i : ℕ) (d : Ratio)
    → IsDivided before unit factors now i → i < length factors → IsRatio unit → All IsRatio factors
    → ¬ ((get_or factors i d).den ∣ product_of now) → ¬ (denominator_of unit factors ∣ before)
not_divided_next before unit factors now i d h inside u fs broken all =
    let some : 1 ≤ denominator_of unit (take i factors) = denominator_positive unit (take i factors) u (All-take IsRatio i factors fs) in
    let front : denominator_of unit (take (i + 1) factors) ∣ denominator_of unit factors = mul-dvd-mul_left _ unit.den (dens-dvd factors (i + 1)) in
    let e : denominator_of unit (take (i + 1) factors) ≡ denominator_of unit (take i factors) * (get_or factors i d).den =
    ap (λ n. unit.den * n) (product_of-map-take (λ (r : Ratio). r.den) factors i d inside) ∙ sym (mul_assoc unit.den _ _) in
    broken (dvd_of_mul-dvd-mul_left (get_or factors i d).den some
    (subst (λ n. n ∣ denominator_of unit (take i factors) * product_of now) e
    (subst (λ n. denominator_of unit (take (i + 1) factors) ∣ n) (sym h.quotient ∙ mul_comm (product_of now) (denominator_of unit (take i factors)))
    (dvd_trans _ front all))))
