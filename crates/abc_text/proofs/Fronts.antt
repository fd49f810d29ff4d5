-- The longest front of a list whose elements pass a test, and a list that is cut before its last element.
use Rattle.std.proofs.Common.{◌≡◌, ℕ, suc, ◌+◌, ◌-◌, ◌<◌, ◌≤◌, Bool, true, false, List, [], ◌∷◌, ◌++◌, length, get_or, take, drop, reverse, refl, sym, ap, ◌∙◌, subst, ◌⊎◌, inl, inr, ⊎_elim, arith}
use Rattle.std.proofs.Common.{add-zero, drop-cons}
use Rattle.std.specs.Prelude.{not}
use Rattle.std.specs.List.{prefix_len, AllPass}
use Rattle.std.proofs.Math.Seq.{take-append_seam, drop-append_seam}
use Rattle.std.proofs.lemmas.Bool.{cond-true, cond-false, cases_Bool, not-true}
use Rattle.std.proofs.lemmas.List.{reverse-append, take-append-drop, drop_all}
use Rattle.std.proofs.lemmas.List.Elements.{All-nil, All-cons, All-head, All-tail, All-append}

one_more : (n : ℕ) → 1 + n ≡ suc n
one_more n = omega arith

-- the front passes
pub front_passes : (p : ℕ → Bool) (xs : List ℕ) → AllPass p (take (prefix_len p xs) xs)
front_passes p [] = All-nil _
front_passes p (x ∷ xs) = ⊎_elim
    (λ yes. subst (λ n. AllPass p (take n (x ∷ xs))) (sym (cond-true (p x) (1 + prefix_len p xs) 0 yes ∙ one_more (prefix_len p xs)))
    (All-cons (λ y. p y ≡ true) x (take (prefix_len p xs) xs) yes (front_passes p xs)))
    (λ fails. subst (λ n. AllPass p (take n (x ∷ xs))) (sym (cond-false (p x) (1 + prefix_len p xs) 0 fails)) (All-nil _))
    (cases_Bool (p x))

-- the rest is empty, or begins with an element that does not pass
pub front_stops : (p : ℕ → Bool) (xs : List ℕ) → (drop (prefix_len p xs) xs ≡ []) ⊎ ((y : ℕ) × (ys : List ℕ) × (drop (prefix_len p xs) xs ≡ y ∷ ys) × (p y ≡ false))
front_stops p [] = inl refl
front_stops p (x ∷ xs) = ⊎_elim
    (λ yes. subst (λ n. (drop n (x ∷ xs) ≡ []) ⊎ ((y : ℕ) × (ys : List ℕ) × (drop n (x ∷ xs) ≡ y ∷ ys) × (p y ≡ false)))
    (sym (cond-true (p x) (1 + prefix_len p xs) 0 yes ∙ one_more (prefix_len p xs))) (front_stops p xs))
    (λ fails. subst (λ n. (drop n (x ∷ xs) ≡ []) ⊎ ((y : ℕ) × (ys : List ℕ) × (drop n (x ∷ xs) ≡ y ∷ ys) × (p y ≡ false))) (sym (cond-false (p x) (1 + prefix_len p xs) 0 fails))
    (inr (x, xs, refl, fails)))
    (cases_Bool (p x))

-- a list that passes, and the rest
pub front_append : (p : ℕ → Bool) (xs rest : List ℕ) → AllPass p xs → prefix_len p (xs ++ rest) ≡ length xs + prefix_len p rest
front_append p [] rest h = omega arith
front_append p (x ∷ xs) rest h = cond-true (p x) _ _ (All-head (λ y. p y ≡ true) x xs h) ∙ (let e = front_append p xs rest (All-tail (λ y. p y ≡ true) x xs h) in omega (arith, e))

-- the front is such a list if the rest begins with no element that passes
pub front_exact : (p : ℕ → Bool) (xs rest : List ℕ) → AllPass p xs → prefix_len p rest ≡ 0 → prefix_len p (xs ++ rest) ≡ length xs
front_exact p xs rest h none = front_append p xs rest h ∙ ap (λ n. length xs + n) none ∙ add-zero (length xs)

pub take_exact : (n : ℕ) (xs rest : List ℕ) → n ≡ length xs → take n (xs ++ rest) ≡ xs
take_exact n xs rest e = ap (λ k. take k (xs ++ rest)) e ∙ take-append_seam xs rest

pub drop_exact : (n : ℕ) (xs rest : List ℕ) → n ≡ length xs → drop n (xs ++ rest) ≡ rest
drop_exact n xs rest e = ap (λ k. drop k (xs ++ rest)) e ∙ drop-append_seam xs rest

-- a test that fails at the first element
pub front_none : (p : ℕ → Bool) (x : ℕ) (xs : List ℕ) → p x ≡ false → prefix_len p (x ∷ xs) ≡ 0
front_none p x xs h = cond-false (p x) _ _ h

-- no element passes the opposite test
pub front_other : (p : ℕ → Bool) (xs rest : List ℕ) → AllPass (λ b. not (p b)) xs → 1 ≤ length xs → prefix_len p (xs ++ rest) ≡ 0
front_other p [] rest h some = absurd (omega arith)
front_other p (x ∷ xs) rest h some = front_none p x (xs ++ rest) (not-true (p x) (All-head (λ b. not (p b) ≡ true) x xs h))

-- a list that passes, read from its end
pub AllPass-reverse : (p : ℕ → Bool) (xs : List ℕ) → AllPass p xs → AllPass p (reverse xs)
AllPass-reverse p [] h = h
AllPass-reverse p (x ∷ xs) h = subst (AllPass p) (sym (reverse-append (x ∷ []) xs)) (All-append (λ y. p y ≡ true) (reverse xs) (x ∷ []) (AllPass-reverse p xs (All-tail (λ y. p y ≡ true) x xs h))
    (All-cons (λ y. p y ≡ true) x [] (All-head (λ y. p y ≡ true) x xs h) (All-nil _)))

-- a list without elements
pub empty_list : (xs : List ℕ) → length xs ≡ 0 → xs ≡ []
empty_list [] h = refl
empty_list (x ∷ xs) h = absurd (omega arith)

-- a list with elements ends with its last one
pub last_split : (xs : List ℕ) → 0 < length xs → xs ≡ take (length xs - 1) xs ++ get_or xs (length xs - 1) 0 ∷ []
last_split xs some =
    let n = length xs - 1 in
    let inside : n < length xs = omega arith in
    let past : length xs ≤ suc n = omega arith in
    sym (take-append-drop n xs) ∙ ap (λ l. take n xs ++ l) (drop-cons xs n 0 inside ∙ ap (λ l. get_or xs n 0 ∷ l) (drop_all (suc n) xs past))
