-- Elements of lists by their places.
use Rattle.std.proofs.Common.{◌≡◌, ℕ, zero, suc, ◌+◌, ◌-◌, ◌<◌, ◌≤◌, List, [], ◌∷◌, ◌++◌, length, take, drop, Option, Some}
use Rattle.std.proofs.Common.{None, slice_get, refl, sym, ap, ◌∙◌, arith, inl, inr}
use Rattle.std.specs.Prelude.{IfOk, OnErr, OnOk, Result, Ok, Err}
use Rattle.std.proofs.Math.Seq.{drop-cons}
use Rattle.std.proofs.lemmas.List.{drop-drop, take_all, take_more, take-append-drop}
use Rattle.std.proofs.lemmas.Option.{slice_get_within, slice_get_cases, get_or_from_slice_get}

-- the one at a place, and those after it
pub one_on : {X : Type 0} (xs : List X) (i : ℕ) (x : X) → slice_get xs i ≡ Some x → drop i xs ≡ x ∷ drop (i + 1) xs
one_on xs i x is =
    let next : suc i ≡ i + 1 = omega arith in
    drop-cons xs i x (slice_get_within xs i x is) ∙ ap (λ y. y ∷ drop (suc i) xs) (get_or_from_slice_get xs i x x is) ∙ ap (λ k. x ∷ drop k xs) next

-- those up to a place, and the one there
pub take_next : {X : Type 0} (xs : List X) (k : ℕ) (x : X) → slice_get xs k ≡ Some x → take (k + 1) xs ≡ take k xs ++ x ∷ []
take_next xs k x is = take_more xs k x (slice_get_within xs k x is) ∙ ap (λ y. take k xs ++ y ∷ []) (get_or_from_slice_get xs k x x is)

pub past : {X : Type 0} (xs : List X) (i : ℕ) → slice_get xs i ≡ None → length xs ≤ i
past xs i is = elim (slice_get_cases xs i).1 [ inl some ↦ absurd (let e = sym is ∙ some.2 in cc) | inr following ↦ following.0 ]

-- there is one at each place
pub never_none : {X : Type 0} (xs : List X) (i : ℕ) → slice_get xs i ≡ None → i < length xs → ⊥
never_none xs i is inside = let following = past xs i is in omega (arith, following, inside)

take_past : {X : Type 0} (xs : List X) (k : ℕ) → slice_get xs k ≡ None → take (k + 1) xs ≡ take k xs
take_past xs k is =
    let following = past xs k is in
    take_all (k + 1) xs (omega (arith, following)) ∙ sym (take_all k xs following)

take_same_step : {X : Type 0} (xs ys : List X) (k : ℕ) (x y : Option X) → slice_get xs k ≡ x → slice_get ys k ≡ y → x ≡ y → take k xs ≡ take k ys → take (k + 1) xs ≡ take (k + 1) ys
take_same_step xs ys k None None here there same front = take_past xs k here ∙ front ∙ sym (take_past ys k there)
take_same_step xs ys k None (Some y) here there same front = absurd cc
take_same_step xs ys k (Some x) None here there same front = absurd cc
take_same_step xs ys k (Some x) (Some y) here there same front =
    let one : x ≡ y = cc in
    take_next xs k x here ∙ ap (λ l. l ++ x ∷ []) front ∙ ap (λ z. take k ys ++ z ∷ []) one ∙ sym (take_next ys k y there)

-- lists that are the same up to a place and at it
pub take_same : {X : Type 0} (xs ys : List X) (k : ℕ) → slice_get xs k ≡ slice_get ys k → take k xs ≡ take k ys → take (k + 1) xs ≡ take (k + 1) ys
take_same xs ys k same front = take_same_step xs ys k (slice_get xs k) (slice_get ys k) refl refl same front

-- lists that are the same up to a place and from it on
pub parts_same : {X : Type 0} (xs ys : List X) (k : ℕ) → take k xs ≡ take k ys → drop k xs ≡ drop k ys → xs ≡ ys
parts_same xs ys k front rest = sym (take-append-drop k xs) ∙ ap (λ l. l ++ drop k xs) front ∙ ap (λ l. take k ys ++ l) rest ∙ take-append-drop k ys

-- lists that are the same from a place on are so from each later one on
pub drop_later : {X : Type 0} (xs ys : List X) (k n : ℕ) → k ≤ n → drop k xs ≡ drop k ys → drop n xs ≡ drop n ys
drop_later xs ys k n order same =
    let later : k + (n - k) ≡ n = omega (arith, order) in
    ap (λ m. drop m xs) (sym later) ∙ sym (drop-drop (n - k) k xs) ∙ ap (drop (n - k)) same ∙ drop-drop (n - k) k ys ∙ ap (λ m. drop m ys) later

pub get_after : {X : Type 0} (n : ℕ) (xs : List X) (k : ℕ) → slice_get (drop n xs) k ≡ slice_get xs (n + k)
get_after zero xs k = let e : k ≡ 0 + k = omega arith in ap (slice_get xs) e
get_after (suc n) [] k = refl
get_after (suc n) (x ∷ xs) k = let e : suc (n + k) ≡ suc n + k = omega arith in get_after n xs k ∙ ap (slice_get (x ∷ xs)) e

get_front : {X : Type 0} (n : ℕ) (xs : List X) (k : ℕ) → k < n → slice_get (take n xs) k ≡ slice_get xs k
get_front zero xs k order = absurd (omega (arith, order))
get_front (suc n) [] k order = refl
get_front (suc n) (x ∷ xs) zero order = refl
get_front (suc n) (x ∷ xs) (suc k) order = get_front n xs k (omega (arith, order))

-- two lists that are the same before a place, or from two places on
pub same_before : {X : Type 0} (xs ys : List X) (n k : ℕ) → k < n → take n ys ≡ take n xs → slice_get xs k ≡ slice_get ys k
same_before xs ys n k before same = sym (get_front n xs k before) ∙ ap (λ l. slice_get l k) (sym same) ∙ get_front n ys k before

pub same_after : {X : Type 0} (xs ys : List X) (from to i k : ℕ) → from ≤ i → to ≤ k → k - to ≡ i - from → drop to ys ≡ drop from xs → slice_get xs i ≡ slice_get ys k
same_after xs ys from to i k here there apart same =
    let one : i ≡ from + (i - from) = omega (arith, here) in
    let other : to + (i - from) ≡ k = omega (arith, there, apart) in
    ap (slice_get xs) one ∙ sym (get_after from xs (i - from)) ∙ ap (λ l. slice_get l (i - from)) (sym same) ∙ get_after to ys (i - from) ∙ ap (slice_get ys) other

-- what follows from two facts of an answer
pub ok_both : {A E : Type 0} (answer : Result A E) (P Q R : A → Type 0) → ((x : A) → P x → Q x → R x) → IfOk answer P → IfOk answer Q → IfOk answer R
ok_both (Ok x) P Q R follows one other = follows x one other
ok_both (Err e) P Q R follows one other = tt

-- a fact of an answer that has a value
pub on_ok : {A E P : Type 0} (answer : Result A E) (value : A) → answer ≡ Ok value → OnOk answer P → P
on_ok (Ok x) value is done = done
on_ok (Err e) value is done = absurd cc

-- a fact that holds in any case
pub on_err : {A E P : Type 0} (answer : Result A E) → P → OnErr answer P
on_err (Ok x) done = tt
on_err (Err e) done = done

-- if none is left to be put
pub put_none : {X : Type 0} (xs : List X) (k : ℕ) (rest : List X) → length rest ≡ 0 → xs ≡ take k xs ++ (rest ++ drop (k + length rest) xs)
put_none xs k [] none = let count : k ≡ k + 0 = omega arith in sym (take-append-drop k xs) ∙ ap (λ n. take k xs ++ drop n xs) count
put_none xs k (x ∷ rest) none = absurd (omega (arith, none))
