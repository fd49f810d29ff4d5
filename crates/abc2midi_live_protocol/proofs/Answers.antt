-- Laws of the texts of answers.
use Rattle.std.proofs.Common.{◌≡◌, ℕ, ◌+◌, ◌<◌, List, [], ◌∷◌, ◌++◌, length, take, get_or, refl, sym, ap, ◌∙◌, append_assoc}
use Rattle.std.proofs.Common.{append-nil}
use Rattle.std.specs.Prelude.{decimal}
use Rattle.std.proofs.lemmas.List.{take_more}
use Rattle.abc2midi_live_protocol.specs.Answer.{number_list}

number_list-append : (xs ys : List ℕ) → number_list (xs ++ ys) ≡ number_list xs ++ number_list ys
unfolding number_list
number_list-append [] ys = refl
number_list-append (x ∷ xs) ys = ap (λ l. (32 ∷ decimal x) ++ l) (number_list-append xs ys) ∙ sym (append_assoc (32 ∷ decimal x) (number_list xs) (number_list ys))

-- no number is listed
pub number_list-none : (text : List ℕ) (xs : List ℕ) → text ++ number_list (take 0 xs) ≡ text
unfolding number_list
number_list-none text xs = append-nil text

number_list-one : (n : ℕ) → number_list (n ∷ []) ≡ 32 ∷ decimal n
unfolding number_list
number_list-one n = append-nil (32 ∷ decimal n)

-- one more number is listed
pub number_list-more : (text now pushed new digits : List ℕ) (xs : List ℕ) (i : ℕ) → i < length xs → now ≡ text ++ number_list (take i xs)
    → pushed ≡ now ++ 32 ∷ [] → new ≡ pushed ++ digits → digits ≡ decimal (get_or xs i 0) → new ≡ text ++ number_list (take (i + 1) xs)
number_list-more text now pushed new digits xs i h e pushed_is new_is digits_are =
    let n = get_or xs i 0 in
    new_is ∙ ap (λ p. p ++ digits) pushed_is ∙ append_assoc now (32 ∷ []) digits ∙ ap (λ t. t ++ 32 ∷ digits) e ∙ ap (λ d. (text ++ number_list (take i xs)) ++ 32 ∷ d) digits_are
    ∙ append_assoc text (number_list (take i xs)) (32 ∷ decimal n) ∙ ap (λ l. text ++ (number_list (take i xs) ++ l)) (sym (number_list-one n))
    ∙ ap (λ l. text ++ l) (sym (number_list-append (take i xs) (n ∷ []))) ∙ ap (λ l. text ++ number_list l) (sym (take_more xs i 0 h))
