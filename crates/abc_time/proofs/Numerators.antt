-- One numerator after another.
use Rattle.std.proofs.Common.{◌≡◌, ◌≢◌, ℕ, ◌+◌, ◌*◌, ◌<◌, ◌≤◌, List, [], ◌∷◌, zero, suc, length, get_or, set, take, replicate, arith, ap, sym, subst, refl, lit≤}
use Rattle.std.proofs.lemmas.List.{get_or-set_other, get_or-replicate, length-set}
use Rattle.std.proofs.lemmas.List.Elements.{All-cons, All-set, All-replicate}
use Rattle.std.specs.List.{All}
use Rattle.abc_time.specs.declared.ratio.Ratio.{Ratio}
use Rattle.abc_time.specs.Length.{numerator_of}
use Rattle.abc_time.specs.Product.{product_of}
use Rattle.abc_time.specs.Ratio.{IsRatio}
use Rattle.abc_time.proofs.Products.{product_of-map-take}

-- the places of `now` hold a whole note, the unit's numerator and those of the first i factors, and then ones
pub record HasNumerators (whole : ℕ) (unit : Ratio) (factors : List Ratio) (now : List ℕ) (i : ℕ) : Type 0 where
  pub product : product_of now ≡ whole * numerator_of unit (take i factors)
  pub places : length now ≡ 7
  pub spare : (k : ℕ) → i + 2 ≤ k → k < length now → get_or now k 0 ≡ 1
  pub positive : All (λ n. 1 ≤ n) now

-- a place that holds 1 takes v
product_of-put : (xs : List ℕ) (j v : ℕ) → j < length xs → get_or xs j 0 ≡ 1 → product_of (set xs j v) ≡ product_of xs * v
product_of-put [] j v inside e = absurd (omega arith)
product_of-put (x ∷ xs) zero v inside e = omega (arith, ap (λ n. n * product_of xs * v) e)
product_of-put (x ∷ xs) (suc j) v inside e =
    let inner : j < length xs = omega arith in
    omega (arith, ap (λ n. x * n) (product_of-put xs j v inner e))

pub HasNumerators-start : (whole : ℕ) (unit : Ratio) (factors : List Ratio) (first : ℕ) → 1 ≤ whole → IsRatio unit → first ≡ unit.num
    → HasNumerators whole unit factors (whole ∷ first ∷ 1 ∷ 1 ∷ 1 ∷ 1 ∷ 1 ∷ []) 0
HasNumerators-start whole unit factors first some u e = record {
  product = omega (arith, ap (λ n. whole * n) e);
  places = refl;
  spare = ones;
  positive =
      All-cons (λ n. 1 ≤ n) whole (first ∷ replicate 5 1) some
      (All-cons (λ n. 1 ≤ n) first (replicate 5 1) (subst (λ n. 1 ≤ n) (sym e) u.num_least) (All-replicate (λ n. 1 ≤ n) 5 1 (lit≤ tt)));
} where
  ones : (k : ℕ) → 0 + 2 ≤ k → k < 7 → get_or (whole ∷ first ∷ 1 ∷ 1 ∷ 1 ∷ 1 ∷ 1 ∷ []) k 0 ≡ 1
  ones zero low in' = absurd (omega arith)
  ones (suc zero) low in' = absurd (omega arith)
  ones (suc (suc k)) low in' = get_or-replicate 5 k 1 0 (omega arith)

pub HasNumerators-step : (whole : ℕ) (unit : Ratio) (factors : List Ratio) (now : List ℕ) (i : ℕ) (d : Ratio)
    → HasNumerators whole unit factors now i → i < length factors → length factors ≤ 5 → All IsRatio factors
    → HasNumerators whole unit factors (set now (i + 2) (get_or factors i d).num) (i + 1)
HasNumerators-step whole unit factors now i d h inside room fs =
    let v = (get_or factors i d).num in
    let room : i + 2 < length now = omega (arith, h.places) in
    record {
      product =
          rw (product_of-map-take (λ (r : Ratio). r.num) factors i d inside) (regrouped _ _ whole unit.num _ v (product_of-put now (i + 2) v room (h.spare (i + 2) (omega arith) room)) h.product);
      places = rw length-set h.places;
      spare = λ k low in'.
          let ne : k ≢ i + 2 = omega arith in
          let lt : k < length now = omega (arith, length-set {A = ℕ}) in
          rw get_or-set_other (h.spare k (omega arith) lt);
      positive = All-set (λ n. 1 ≤ n) now (i + 2) v (fs i d inside).num_least h.positive;
    } where
      regrouped : (p m w u t v : ℕ) → p ≡ m * v → m ≡ w * (u * t) → p ≡ w * (u * (t * v))
      regrouped p m w u t v e f = omega (arith, e, ap (λ x. x * v) f)
