-- Places of names in lists that have no name twice.
use Rattle.std.proofs.Common.{◌≡◌, ℕ, zero, suc, ◌+◌, ◌<◌, nat_lt, Bool, true, false, not, ◌||◌, cond, List, [], ◌∷◌, ◌++◌, length, map, take, Some, None, refl, ap, subst, ◌∙◌, add-one, arith}
use Rattle.std.proofs.lemmas.Bool.Decides.{nat_tests}
use Rattle.std.proofs.lemmas.Map.Keys.{IsDistinct-head, IsDistinct-tail}
use Rattle.std.specs.Cmp.{IsEquivalence}
use Rattle.std.specs.List.{AllByRecursion, IsDistinct, list_any, position, prefix_len, slice_get}
use Rattle.std.specs.Map.{keys_of}
use Rattle.std.specs.Option.{option_map}

-- The number of elements in front, with one more.
one_more : (n size : ℕ) → cond (nat_lt (1 + n) (suc size)) (Some (1 + n)) None ≡ option_map (λ k. k + 1) (cond (nat_lt n size) (Some n) None)
one_more n size = grind (arith, nat_tests)

-- The first element passes.
pub place_here : {K : Type 0} (p : K → Bool) (x : K) (xs : List K) → p x ≡ true → position p (x ∷ xs) ≡ Some 0
place_here p x xs h = rw h (grind (arith, nat_tests))

-- The first element does not pass.
pub place_following : {K : Type 0} (p : K → Bool) (x : K) (xs : List K) → p x ≡ false → position p (x ∷ xs) ≡ option_map (λ k. k + 1) (position p xs)
place_following p x xs h = rw h (one_more (prefix_len (λ y. not (p y)) xs) (length xs))

-- An element that passes has a place.
pub find_place : {K : Type 0} (p : K → Bool) (xs : List K) → list_any p xs ≡ true → (at : ℕ) × (position p xs ≡ Some at)
find_place p [] there = cc
find_place {K} p (x ∷ xs) there = by (p x) refl there (find_place p xs)
  where
    by : (b : Bool) → p x ≡ b → (b || list_any p xs) ≡ true → (list_any p xs ≡ true → (at : ℕ) × (position p xs ≡ Some at)) → (at : ℕ) × (position p (x ∷ xs) ≡ Some at)
    by true is found rest = (0, place_here p x xs is)
    by false is found rest =
        let r = rest found in
        (r.0 + 1, place_following p x xs is ∙ ap (option_map (λ k. k + 1)) r.1)

-- No element passes.
pub no_place : {K : Type 0} (p : K → Bool) (xs : List K) → AllByRecursion (λ x. p x ≡ false) xs → position p xs ≡ None
no_place p [] none = refl
no_place p (x ∷ xs) none = place_following p x xs none.0 ∙ ap (option_map (λ k. k + 1)) (no_place p xs none.1)

-- What holds of each name holds of the one at a place.
name_at : {K V : Type 0} (P : K → Type 0) (vs : List (K × V)) (i : ℕ) (v : K × V) → AllByRecursion P (keys_of vs) → slice_get vs i ≡ Some v → P v.0
name_at P [] i v each at = absurd (cc)
name_at P (w ∷ vs) zero v each at = let same : w ≡ v = cc in subst (λ u. P u.0) same each.0
name_at P (w ∷ vs) (suc i) v each at = name_at P vs i v each.1 at

-- The names before a place are not the one there.
others_before : {K V W : Type 0} {eq : K → K → Bool} → IsEquivalence eq → (g : K × V → W) (vs : List (K × V)) (i : ℕ) (v : K × V) →
    IsDistinct eq (keys_of vs) → slice_get vs i ≡ Some v → AllByRecursion (λ k. eq v.0 k ≡ false) (keys_of (map (λ u. (u.0, g u)) (take i vs)))
others_before laws g [] i v distinct at = absurd (cc)
others_before laws g (w ∷ vs) zero v distinct at = tt
others_before {eq} laws g (w ∷ vs) (suc i) v distinct at = (
  laws.symm v.0 w.0 ∙ name_at (λ k. eq w.0 k ≡ false) vs i v (IsDistinct-head eq w.0 (keys_of vs) distinct) at,
  others_before laws g vs i v (IsDistinct-tail eq w.0 (keys_of vs) distinct) at,
)

-- The values of the voices before a place do not include that voice's name.
pub new_before : {K V W : Type 0} {eq : K → K → Bool} → IsEquivalence eq → (g : K × V → W) (vs : List (K × V)) (i : ℕ) (v : K × V) →
    IsDistinct eq (keys_of vs) → slice_get vs i ≡ Some v → position (eq v.0) (keys_of (map (λ u. (u.0, g u)) (take i vs))) ≡ None
new_before {eq} laws g vs i v distinct at = no_place (eq v.0) _ (others_before laws g vs i v distinct at)

-- The values of the elements up to a place, and of the one there.
made_on : {X Y : Type 0} (f : X → Y) (xs : List X) (i : ℕ) (x : X) → slice_get xs i ≡ Some x → map f (take (suc i) xs) ≡ map f (take i xs) ++ f x ∷ []
made_on f [] i x at = absurd (cc)
made_on f (y ∷ xs) zero x at = let same : y ≡ x = cc in ap (λ z. f z ∷ []) same
made_on f (y ∷ xs) (suc i) x at = ap (λ ys. f y ∷ ys) (made_on f xs i x at)

-- The same, with the next place as code counts it.
pub one_more_made : {X Y : Type 0} (f : X → Y) (xs : List X) (i : ℕ) (x : X) → slice_get xs i ≡ Some x → map f (take (i + 1) xs) ≡ map f (take i xs) ++ f x ∷ []
one_more_made f xs i x at = rw add-one (made_on f xs i x at)

-- Something is at a place inside a list.
pub inside_some : {X : Type 0} (xs : List X) (i : ℕ) → i < length xs → None ≡ slice_get xs i → ⊥
inside_some [] i inside none = omega arith
inside_some (x ∷ xs) zero inside none = cc
inside_some (x ∷ xs) (suc i) inside none = inside_some xs i (omega arith) none
