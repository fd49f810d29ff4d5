-- Laws of sums of fractions.
use Rattle.std.proofs.Common.{◌≡◌, ℕ, zero, suc, ◌+◌, ◌-◌, ◌<◌, ◌≤◌, true, false, List, [], ◌∷◌, length, Option, Some, None, refl, sym, ap, ◌∙◌, arith}
use Rattle.std.specs.Prelude.{◌==◌, option_and_then}
use Rattle.std.proofs.lemmas.Bool.{eqb-true}
use Rattle.abc_fields.proofs.Fractions.{sum_of-suc}
use Rattle.abc_fields.specs.Tempo.{fraction_of, word_in_front, after_word, add_fraction, sum_with, sum_of}

-- a step of the sum
left_over : (i : ℕ) → i < 16 → 16 - i ≡ suc (16 - (i + 1))
left_over i h = omega arith

at_step : (i : ℕ) (text word : List ℕ) (o : Option ℕ) → i < 16 → word ≡ word_in_front text → o ≡ fraction_of word
    → sum_of (16 - i) text ≡ option_and_then (sum_with (sum_of (16 - (i + 1))) (after_word text)) o
at_step i text word o h e f =
    ap (λ n. sum_of n text) (left_over i h) ∙ sum_of-suc (16 - (i + 1)) text ∙ ap (option_and_then (sum_with (sum_of (16 - (i + 1))) (after_word text))) (ap fraction_of (sym e) ∙ sym f)

pub sum_of-none : (i : ℕ) (text word : List ℕ) → i < 16 → word ≡ word_in_front text → None ≡ fraction_of word → sum_of (16 - i) text ≡ None
sum_of-none i text word h e f = at_step i text word None h e f

pub sum_of-last : (i : ℕ) (text word following : List ℕ) (part : ℕ) → i < 16 → word ≡ word_in_front text → following ≡ after_word text → Some part ≡ fraction_of word → true ≡ (length following == 0)
    → sum_of (16 - i) text ≡ Some part
sum_of-last i text word [] part h e b f none = at_step i text word (Some part) h e f ∙ ap (λ l. sum_with (sum_of (16 - (i + 1))) l part) (sym b)
sum_of-last i text word (x ∷ xs) part h e b f none = absurd (omega (arith, eqb-true (length (x ∷ xs)) 0 (sym none)))

pub sum_of-more : (i : ℕ) (text word following : List ℕ) (part : ℕ) → i < 16 → word ≡ word_in_front text → following ≡ after_word text → Some part ≡ fraction_of word → false ≡ (length following == 0)
    → sum_of (16 - i) text ≡ add_fraction part (sum_of (16 - (i + 1)) following)
sum_of-more i text word [] part h e b f some = cc
sum_of-more i text word (x ∷ xs) part h e b f some = at_step i text word (Some part) h e f ∙ ap (λ l. sum_with (sum_of (16 - (i + 1))) l part) (sym b)

pub sum_of-end : (i : ℕ) (text : List ℕ) → 16 ≤ i → sum_of (16 - i) text ≡ None
unfolding sum_of
sum_of-end i text h = let n : 16 - i ≡ zero = omega arith in ap (λ n. sum_of n text) n

pub added-added : (a b : ℕ) (o : Option ℕ) → add_fraction (a + b) o ≡ add_fraction a (add_fraction b o)
added-added a b None = refl
added-added a b (Some n) = let e : a + b + n ≡ a + (b + n) = omega arith in ap Some e

pub added-zero : (o : Option ℕ) → add_fraction 0 o ≡ o
added-zero None = refl
added-zero (Some n) = let e : 0 + n ≡ n = omega arith in ap Some e
