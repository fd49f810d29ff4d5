-- Laws of sums.
use Rattle.std.proofs.Common.{◌≡◌, ℕ, ◌+◌, ◌≤◌, ◌<◌, Bool, true, false, cond, leb, List, [], ◌∷◌, Option, Some, None, refl, sym, ap, ◌∙◌, arith, add_assoc, Bor}
use Rattle.std.specs.List.{slice_split}
use Rattle.std.specs.Prelude.{◌==◌}
use Rattle.std.proofs.lemmas.Bool.{cond-true, cond-false}
use Rattle.std.proofs.lemmas.Bool.Decides.{nat_tests}
use Rattle.std.proofs.lemmas.Iterator.{YieldsList}
use Rattle.abc_text.specs.Number.{number_of}
use Rattle.abc_fields.specs.Meter.{add_numbers, sum_of_words, at_most_255, add_word, sum_of}

none_tested : (total n : ℕ) (t : Bool) → t ≡ leb (total + n) 255 → cond t (Some (total + n)) None ≡ None → 255 < total + n
none_tested total n true e h = cc
none_tested total n false e h = grind (arith, nat_tests)

some_tested : (total n m : ℕ) (t : Bool) → t ≡ leb (total + n) 255 → cond t (Some (total + n)) None ≡ Some m → (total + n ≡ m) × (m ≤ 255)
some_tested total n m true e h = let same : total + n ≡ m = cc in let small : total + n ≤ 255 = grind (arith, nat_tests) in (same, omega arith)
some_tested total n m false e h = cc

-- if one more number is too much, so are all
plus_none : (total : ℕ) (n rest : Option ℕ) → add_word total n ≡ None → at_most_255 (add_numbers (Some total) (add_numbers n rest)) ≡ None
plus_none total None rest h = refl
plus_none total (Some n) None h = refl
plus_none total (Some n) (Some r) h =
    let over : 255 < total + n = none_tested total n (leb (total + n) 255) refl h in
    cond-false (leb (total + (n + r)) 255) _ _ (grind (arith, nat_tests))

-- otherwise the sum goes on
plus_some : (total m : ℕ) (n rest : Option ℕ) → add_word total n ≡ Some m → (at_most_255 (add_numbers (Some m) rest) ≡ at_most_255 (add_numbers (Some total) (add_numbers n rest))) × (m ≤ 255)
plus_some total m None rest h = cc
plus_some total m (Some n) None h = (refl, (some_tested total n m (leb (total + n) 255) refl h).1)
plus_some total m (Some n) (Some r) h =
    let p = some_tested total n m (leb (total + n) 255) refl h in
    (ap (λ x. at_most_255 (Some x)) (ap (λ x. x + r) (sym p.0) ∙ add_assoc total n r), p.1)

-- the words that follow, and the sum of those before them, give the sum of a text
pub record IsSummed {S : Type 0} (steps : S → Option (Bor (List ℕ)) → S → Type 0) (s : S) (text : List ℕ) (total : ℕ) : Type 0 where
  pub left : List (List ℕ)
  pub yields : YieldsList steps (λ x. x.now) s left
  pub rest : at_most_255 (add_numbers (Some total) (sum_of_words left)) ≡ sum_of text
  pub small : total ≤ 255

none_is_zero : (o : Option ℕ) → add_numbers (Some 0) o ≡ o
none_is_zero None = refl
none_is_zero (Some n) = ap Some (omega arith)

pub IsSummed-start : {S : Type 0} (steps : S → Option (Bor (List ℕ)) → S → Type 0) (s : S) (text : List ℕ) → YieldsList steps (λ x. x.now) s (slice_split (λ b. b == 43) text) → IsSummed steps s text 0
unfolding sum_of
IsSummed-start steps s text h =
    record { left = slice_split (λ b. b == 43) text; yields = h; rest = ap at_most_255 (none_is_zero (sum_of_words (slice_split (λ b. b == 43) text))); small = omega arith }

-- one more word
record IsNext {S : Type 0} (steps : S → Option (Bor (List ℕ)) → S → Type 0) (t : S) (text word : List ℕ) (total : ℕ) : Type 0 where
  left : List (List ℕ)
  yields : YieldsList steps (λ x. x.now) t left
  rest : at_most_255 (add_numbers (Some total) (add_numbers (number_of word) (sum_of_words left))) ≡ sum_of text

next_at : {S : Type 0} (steps : S → Option (Bor (List ℕ)) → S → Type 0) (s t : S) (text : List ℕ) (total : ℕ) (x : Bor (List ℕ)) (left : List (List ℕ)) → YieldsList steps (λ x. x.now) s left
    → at_most_255 (add_numbers (Some total) (sum_of_words left)) ≡ sum_of text → steps s (Some x) t → IsNext steps t text x.now total
next_at steps s t text total x [] h rest step = absurd (h.runs x t step)
next_at steps s t text total x (word ∷ left) h rest step =
    let k = h.runs.1 x t step in
    record { left = left; yields = record { runs = k.1 }; rest = ap (λ w. at_most_255 (add_numbers (Some total) (add_numbers (number_of w) (sum_of_words left)))) k.0 ∙ rest }

next : {S : Type 0} (steps : S → Option (Bor (List ℕ)) → S → Type 0) (s t : S) (text : List ℕ) (total : ℕ) (x : Bor (List ℕ)) → IsSummed steps s text total → steps s (Some x) t
    → IsNext steps t text x.now total
next steps s t text total x h step = next_at steps s t text total x h.left h.yields h.rest step

pub IsSummed-over : {S : Type 0} (steps : S → Option (Bor (List ℕ)) → S → Type 0) (s t : S) (text : List ℕ) (total : ℕ) (x : Bor (List ℕ)) → IsSummed steps s text total → steps s (Some x) t
    → add_word total (number_of x.now) ≡ None → None ≡ sum_of text
IsSummed-over steps s t text total x h step over =
    let k = next steps s t text total x h step in sym (plus_none total (number_of x.now) (sum_of_words k.left) over) ∙ k.rest

pub IsSummed-more : {S : Type 0} (steps : S → Option (Bor (List ℕ)) → S → Type 0) (s t : S) (text : List ℕ) (total m : ℕ) (x : Bor (List ℕ)) → IsSummed steps s text total → steps s (Some x) t
    → add_word total (number_of x.now) ≡ Some m → IsSummed steps t text m
IsSummed-more steps s t text total m x h step more =
    let k = next steps s t text total x h step in
    let p = plus_some total m (number_of x.now) (sum_of_words k.left) more in
    record { left = k.left; yields = k.yields; rest = p.0 ∙ k.rest; small = p.1 }

end_at : {S : Type 0} (steps : S → Option (Bor (List ℕ)) → S → Type 0) (s t : S) (text : List ℕ) (total : ℕ) (left : List (List ℕ)) → YieldsList steps (λ x. x.now) s left
    → at_most_255 (add_numbers (Some total) (sum_of_words left)) ≡ sum_of text → total ≤ 255 → steps s None t → Some total ≡ sum_of text
end_at steps s t text total (word ∷ left) h rest small step = absurd (h.runs.0 t step)
end_at steps s t text total [] h rest small step =
    sym (cond-true (leb (total + 0) 255) _ _ (grind (arith, nat_tests)) ∙ ap Some (omega arith)) ∙ rest

pub IsSummed-end : {S : Type 0} (steps : S → Option (Bor (List ℕ)) → S → Type 0) (s t : S) (text : List ℕ) (total : ℕ) → IsSummed steps s text total → steps s None t → Some total ≡ sum_of text
IsSummed-end steps s t text total h step = end_at steps s t text total h.left h.yields h.rest h.small step
