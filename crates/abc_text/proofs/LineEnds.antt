-- Laws of the carriage return at the end of a line.
use Rattle.std.proofs.Common.{◌≡◌, ℕ, ◌+◌, ◌-◌, ◌≤◌, true, false, cond, List, [], ◌∷◌, ◌++◌, length, take, drop, refl, sym, ap, ◌∙◌, ⊎_elim, arith, length-append, length-take-le}
use Rattle.std.specs.Prelude.{◌==◌, nat_eq}
use Rattle.std.specs.List.{ends_with}
use Rattle.std.specs.Cmp.Lexicographic.{pointwise}
use Rattle.std.proofs.lemmas.Bool.{cond-true, cond-false, cond_both, cases_Bool, eqb-true, eqb-false, and_left, ne_eqb}
use Rattle.abc_text.specs.Byte.{carriage_return}
use Rattle.abc_text.specs.LineEnd.{without_return, DropsOneReturn}
use Rattle.abc_text.proofs.Fronts.{take_exact, drop_exact}

no_return : (b : ℕ) → (b ≡ carriage_return → ⊥) → pointwise nat_eq (carriage_return ∷ []) (b ∷ []) ≡ false
no_return b other = and_left _ _ (ne_eqb carriage_return b (λ e. other (sym e)))

-- the last byte of a line
return_at : (text : List ℕ) (b : ℕ) → without_return (text ++ b ∷ []) ≡ cond (b == carriage_return) text (text ++ b ∷ [])
return_at text b =
    let line = text ++ b ∷ [] in
    let long : length line ≡ length text + 1 = length-append text (b ∷ []) in
    let last : drop (length line - 1) line ≡ b ∷ [] = drop_exact (length line - 1) text (b ∷ []) (omega (arith, long)) in
    let front : take (length line - 1) line ≡ text = take_exact (length line - 1) text (b ∷ []) (omega (arith, long)) in
    ⊎_elim
    (λ test_is.
    let test : ends_with nat_eq line (carriage_return ∷ []) ≡ true = ap (pointwise nat_eq (carriage_return ∷ [])) last ∙ ap (λ x. pointwise nat_eq (carriage_return ∷ []) (x ∷ [])) (eqb-true b
    carriage_return test_is) in
    cond-true _ _ _ test ∙ front ∙ sym (cond-true (b == carriage_return) text line test_is))
    (λ other.
    let test : ends_with nat_eq line (carriage_return ∷ []) ≡ false = ap (pointwise nat_eq (carriage_return ∷ [])) last ∙ no_return b (eqb-false b carriage_return other) in
    cond-false _ _ _ test ∙ sym (cond-false (b == carriage_return) text line other))
    (cases_Bool (b == carriage_return))

pub drops_one_return : DropsOneReturn
drops_one_return = (refl, return_at)

-- dropping it makes no line longer
pub without_return-le : (line : List ℕ) → length (without_return line) ≤ length line
without_return-le line =
    cond_both (ends_with nat_eq line (carriage_return ∷ [])) (take (length line - 1) line) line (λ l. length l ≤ length line)
    (λ _. let short = length-take-le (length line - 1) line (omega arith) in omega (arith, short))
    (λ _. omega arith)
