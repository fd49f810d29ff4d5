-- Laws of lists and options.
use Rattle.std.proofs.Common.{◌≡◌, ℕ, zero, suc, ◌+◌, ◌<◌, true, false, Bool, List, [], ◌∷◌, ◌++◌, map, take, drop, length}
use Rattle.std.proofs.Common.{Option, Some, None, option_map, find, refl, sym, ap, ◌∙◌, ⊎_elim, arith, suc-add, zero-add}
use Rattle.std.proofs.lemmas.Bool.{cases_Bool}
use Rattle.std.proofs.lemmas.List.Folds.{find-append}
use Rattle.std.specs.Option.{option_or}
use Rattle.abc_live_cost.specs.Past.{row_at}

pub find-map : {A B : Type 0} (p : B → Bool) (g : A → B) (xs : List A) → find p (map g xs) ≡ option_map g (find (λ x. p (g x)) xs)
find-map p g [] = refl
find-map p g (x ∷ xs) = ⊎_elim (λ (e : p (g x) ≡ true). simp e) (λ (e : p (g x) ≡ false). simp e (find-map p g xs)) (cases_Bool (p (g x)))

pub or_none : {A : Type 0} (o : Option A) → option_or o None ≡ o
or_none None = refl
or_none (Some a) = refl

pub find_after : {A : Type 0} (p : A → Bool) (xs ys : List A) → find p xs ≡ None → find p (xs ++ ys) ≡ find p ys
find_after p xs ys e = find-append p xs ys ∙ ap (λ o. option_or o (find p ys)) e

pub find_before : {A : Type 0} (p : A → Bool) (xs ys : List A) → find p ys ≡ None → find p (xs ++ ys) ≡ find p xs
find_before p xs ys e = find-append p xs ys ∙ (ap (λ o. option_or (find p xs) o) e ∙ or_none (find p xs))

pub row_before : {A : Type 0} (xs ys : List (List A)) (i : ℕ) → i < length xs → row_at (xs ++ ys) i ≡ row_at xs i
row_before [] ys i h = absurd (omega arith)
row_before (x ∷ xs) ys zero h = refl
row_before (x ∷ xs) ys (suc i) h = row_before xs ys i (omega arith)

pub row_after : {A : Type 0} (xs ys : List (List A)) (i : ℕ) → row_at (xs ++ ys) (length xs + i) ≡ row_at ys i
row_after [] ys i = ap (λ k. row_at ys k) (zero-add i)
row_after (x ∷ xs) ys i = rw suc-add (row_after xs ys i)

pub row_take : {A : Type 0} (n : ℕ) (xs : List (List A)) (i : ℕ) → i < n → row_at (take n xs) i ≡ row_at xs i
row_take zero xs i h = absurd (omega arith)
row_take (suc n) [] i h = refl
row_take (suc n) (x ∷ xs) zero h = refl
row_take (suc n) (x ∷ xs) (suc i) h = row_take n xs i (omega arith)

pub row_drop : {A : Type 0} (n : ℕ) (xs : List (List A)) (i : ℕ) → row_at (drop n xs) i ≡ row_at xs (n + i)
row_drop zero xs i = ap (λ k. row_at xs k) (sym (zero-add i))
row_drop (suc n) [] i = refl
row_drop (suc n) (x ∷ xs) i = rw suc-add (row_drop n xs i)
