-- Laws of products.
use Rattle.std.proofs.Common.{◌∙◌, ◌≡◌, ℕ, ◌+◌, ◌*◌, ◌^◌, ◌<◌, ◌≤◌, List, [], ◌∷◌, ◌++◌, zero, suc, length, get_or, set, map, take, drop, arith, ap, sym, refl}
use Rattle.std.proofs.Math.Nat.{mul-pos, one-mul, mul-one, mul_assoc, le-mul_of_pos_right}
use Rattle.std.proofs.lemmas.List.{drop_more, take_more, take-append-drop, take-map, get_or-map, length-map}
use Rattle.std.specs.List.{All}
use Rattle.std.proofs.lemmas.List.Elements.{All-head, All-tail, All-drop}
use Rattle.abc_time.specs.Product.{product_of}

pub product_of-append : (xs ys : List ℕ) → product_of (xs ++ ys) ≡ product_of xs * product_of ys
product_of-append [] ys = sym (one-mul (product_of ys))
product_of-append (x ∷ xs) ys = ap (λ n. x * n) (product_of-append xs ys) ∙ sym (mul_assoc x (product_of xs) (product_of ys))

-- an item v * g that is replaced by v
pub product_of-set : (xs : List ℕ) (i v g : ℕ) → i < length xs → v * g ≡ get_or xs i 0 → product_of (set xs i v) * g ≡ product_of xs
product_of-set [] i v g inside e = absurd (omega arith)
product_of-set (x ∷ xs) zero v g inside e = omega (arith, ap (λ n. n * product_of xs) e)
product_of-set (x ∷ xs) (suc i) v g inside e =
    let inner : i < length xs = omega arith in
    omega (arith, ap (λ n. x * n) (product_of-set xs i v g inner e))

pub product_of-positive : (xs : List ℕ) → All (λ n. 1 ≤ n) xs → 1 ≤ product_of xs
product_of-positive [] h = omega arith
product_of-positive (x ∷ xs) h =
    mul-pos (All-head (λ n. 1 ≤ n) x xs h) (product_of-positive xs (All-tail (λ n. 1 ≤ n) x xs h))

pub product_of-drop : (xs : List ℕ) (i : ℕ) → i < length xs → product_of (drop i xs) ≡ get_or xs i 0 * product_of (drop (i + 1) xs)
product_of-drop xs i inside = ap product_of (drop_more xs i 0 inside)

pub product_of-take : (xs : List ℕ) (i : ℕ) → i < length xs → product_of (take (i + 1) xs) ≡ product_of (take i xs) * get_or xs i 0
product_of-take xs i inside =
    ap product_of (take_more xs i 0 inside) ∙ product_of-append (take i xs) (get_or xs i 0 ∷ [])
    ∙ ap (λ n. product_of (take i xs) * n) (mul-one (get_or xs i 0))

pub product_of-take-le : (xs : List ℕ) (i : ℕ) → All (λ n. 1 ≤ n) xs → product_of (take i xs) ≤ product_of xs
product_of-take-le xs i h =
    let e : product_of xs ≡ product_of (take i xs) * product_of (drop i xs) =
    ap product_of (sym (take-append-drop i xs)) ∙ product_of-append (take i xs) (drop i xs) in
    rw e (le-mul_of_pos_right _ (product_of-positive _ (All-drop (λ n. 1 ≤ n) i xs h)))

-- the product of the values of f for the first i + 1 items
pub product_of-map-take : {X : Type 0} (f : X → ℕ) (xs : List X) (i : ℕ) (d : X) → i < length xs
    → product_of (map f (take (i + 1) xs)) ≡ product_of (map f (take i xs)) * f (get_or xs i d)
product_of-map-take f xs i d inside =
    let inner : i < length (map f xs) = rw length-map inside in
    ap product_of (sym (take-map f (i + 1) xs)) ∙ product_of-take (map f xs) i inner
    ∙ ap (λ n. product_of (take i (map f xs)) * n) (get_or-map f xs i d 0 inside)
    ∙ ap (λ l. product_of l * f (get_or xs i d)) (take-map f i xs)

-- one more factor of a product in a loop
pub product_of-next : (xs : List ℕ) (i product next : ℕ) → i < length xs → product ≡ product_of (take i xs)
    → next ≡ product * get_or xs i 0 → next ≡ product_of (take (i + 1) xs)
product_of-next xs i product next inside so_far e =
    e ∙ ap (λ n. n * get_or xs i 0) so_far ∙ sym (product_of-take xs i inside)

-- if one more factor exceeds every u64, so does the whole product
pub product_of-above : (xs : List ℕ) (i product limit : ℕ) → All (λ n. 1 ≤ n) xs → i < length xs → product ≡ product_of (take i xs)
    → ¬ (product * get_or xs i 0 < 2 ^ 64) → limit < 2 ^ 64 → ¬ (product_of xs ≤ limit)
product_of-above xs i product limit positive inside so_far over fits small =
    let e = product_of-next xs i product (product * get_or xs i 0) inside so_far refl in
    let h = product_of-take-le xs (i + 1) positive in
    over (omega arith)
