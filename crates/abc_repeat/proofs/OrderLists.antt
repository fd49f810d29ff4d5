-- Copies of a list, and the last element of a list.
use Rattle.std.proofs.Common.{◌≡◌, ℕ, zero, suc, ◌+◌, ◌*◌, ◌<◌, List, [], ◌∷◌, ◌++◌, length, replicate, Option, None, Some, IsSome, refl, sym, ap, ◌∙◌, arith, length-append}
use Rattle.std.specs.List.{concat, filter_map}
use Rattle.std.specs.Option.{option_to_list}
use Rattle.std.proofs.lemmas.List.Elements.{filter_map-append}

-- the play of copies of letters
pub filter_map-copies : (section : ℕ → Option ℕ) (n : ℕ) (item : List ℕ) → filter_map section (concat (replicate n item)) ≡ concat (replicate n (filter_map section item))
filter_map-copies section zero item = refl
filter_map-copies section (suc n) item =
    filter_map-append section item (concat (replicate n item)) ∙ ap (λ l. filter_map section item ++ l) (filter_map-copies section n item)

pub length-copies : (n : ℕ) (xs : List ℕ) → length (concat (replicate n xs)) ≡ n * length xs
length-copies zero xs = omega arith
length-copies (suc n) xs = length-append xs (concat (replicate n xs)) ∙ ap (λ k. length xs + k) (length-copies n xs) ∙ omega arith

-- two lists with one element after each
push_same : (xs ys : List ℕ) (j k : ℕ) → xs ++ j ∷ [] ≡ ys ++ k ∷ [] → (xs ≡ ys) × (j ≡ k)
push_same [] [] j k e = (refl, cc)
push_same [] (y ∷ ys) j k e = absurd (omega (arith, ap length e, length-append ys (k ∷ [])))
push_same (x ∷ xs) [] j k e = absurd (omega (arith, ap length e, length-append xs (j ∷ [])))
push_same (x ∷ xs) (y ∷ ys) j k e =
    let rest : xs ++ j ∷ [] ≡ ys ++ k ∷ [] = cc in
    let same = push_same xs ys j k rest in
    let first : x ≡ y = cc in
    (ap (λ z. z ∷ xs) first ∙ ap (λ l. y ∷ l) same.0, same.1)

-- the list and the element that `pop` returns
pub popped : (all xs rest : List ℕ) (k : ℕ) (last : Option ℕ) → all ≡ xs ++ k ∷ [] → all ≡ rest ++ option_to_list last → (0 < length all → IsSome last) → (rest ≡ xs) × (last ≡ Some k)
popped all xs rest k None is split some = let h : IsSome {T = ℕ} None = some (omega (arith, ap length is, length-append xs (k ∷ []))) in cc
popped all xs rest k (Some j) is split some = let same = push_same rest xs j k (sym split ∙ is) in (same.0, ap Some same.1)

pub popped_none : (all rest : List ℕ) (last : Option ℕ) → all ≡ [] → all ≡ rest ++ option_to_list last → (rest ≡ []) × (last ≡ None)
popped_none all [] None is split = (refl, refl)
popped_none all (x ∷ rest) None is split = absurd (omega (arith, ap length (sym is ∙ split)))
popped_none all rest (Some j) is split = absurd (omega (arith, ap length (sym is ∙ split), length-append rest (j ∷ [])))
