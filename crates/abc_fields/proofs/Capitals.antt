-- The letters that an order plays are the capitals in it.
use Rattle.std.proofs.Common.{◌≡◌, ℕ, zero, suc, ◌<◌, true, false, not, ◌&&◌, ◌||◌, Bool, cond, List, [], ◌∷◌, replicate, Ok, refl, sym, ap, ◌∙◌, arith}
use Rattle.std.specs.List.{list_any, concat}
use Rattle.std.specs.Char.{is_ascii_digit, is_ascii_uppercase}
use Rattle.std.proofs.lemmas.Bool.Decides.{nat_tests}
use Rattle.std.proofs.lemmas.List.Elements.{All-weaker}
use Rattle.std.proofs.lemmas.List.Folds.{list_any-append, list_any_none}
use Rattle.abc_text.proofs.Decimals.{digit_range}
use Rattle.abc_fields.specs.Parts.{is_ignored, order_bytes, parts_of, is_order}
use Rattle.abc_fields.specs.Letters.{letters_of}
use Rattle.abc_fields.specs.Spelling.Parts.{IsCount, once, times, IsOrder, part, group, following}
use Rattle.abc_fields.proofs.Orders.{below_upper, accepted_order, accepts}
use Rattle.abc_fields.proofs.LetterLaws.{parts_letters}

or_false : (t : Bool) → (t || false) ≡ t
or_false true = refl
or_false false = refl

or_same : (t : Bool) → (t || t) ≡ t
or_same true = refl
or_same false = refl

ignored_other : (b : ℕ) → is_ignored b ≡ true → is_ascii_uppercase b ≡ false
ignored_other b ignored = grind (arith, nat_tests)

module _ (p : ℕ → Bool) where
  -- whether one of the capitals of a text passes
  abbrev among : List ℕ → Bool
  among text = list_any (λ b. is_ascii_uppercase b && p b) text

  no_capital : (b : ℕ) → is_ascii_uppercase b ≡ false → (is_ascii_uppercase b && p b) ≡ false
  no_capital b other = ap (λ t. t && p b) other

  -- a count
  digits_none : {count : List ℕ} {n : ℕ} → IsCount count n → among count ≡ false
  digits_none once = refl
  digits_none (times {text} {n} number positive) =
      list_any_none (λ b. is_ascii_uppercase b && p b) text
      (All-weaker (λ y. is_ascii_digit y ≡ true) (λ y. (is_ascii_uppercase y && p y) ≡ false) (λ b digit. no_capital b (below_upper b (digit_range b digit).1)) text number.digits)

  some_count : {count : List ℕ} {n : ℕ} → IsCount count n → 0 < n
  some_count once = omega arith
  some_count (times number positive) = positive

  -- copies
  letter_copies : (n letter : ℕ) → list_any p (replicate (suc n) letter) ≡ p letter
  letter_copies zero letter = or_false (p letter)
  letter_copies (suc n) letter = ap (λ t. p letter || t) (letter_copies n letter) ∙ or_same (p letter)

  list_copies : (n : ℕ) (letters : List ℕ) → list_any p (concat (replicate (suc n) letters)) ≡ list_any p letters
  list_copies zero letters = list_any-append p letters [] ∙ or_false (list_any p letters)
  list_copies (suc n) letters = list_any-append p letters (concat (replicate (suc n) letters)) ∙ ap (λ t. list_any p letters || t) (list_copies n letters) ∙ or_same (list_any p letters)

  part_capitals : (n letter : ℕ) → 0 < n → list_any p (replicate n letter) ≡ p letter
  part_capitals zero letter some = absurd (omega arith)
  part_capitals (suc n) letter some = letter_copies n letter

  group_capitals : (n : ℕ) (letters : List ℕ) → 0 < n → list_any p (concat (replicate n letters)) ≡ list_any p letters
  group_capitals zero letters some = absurd (omega arith)
  group_capitals (suc n) letters some = list_copies n letters

  order_capitals : {depth : ℕ} {text letters : List ℕ} → IsOrder depth text letters → list_any p letters ≡ among text
  order_capitals (part {depth} {letter} {n} {count} upper counted) =
      part_capitals n letter (some_count counted)
      ∙ sym (ap (λ t. (is_ascii_uppercase letter && p letter) || t) (digits_none counted) ∙ or_false (is_ascii_uppercase letter && p letter) ∙ ap (λ t. t && p letter) upper)
  order_capitals (group {depth} {n} {inner} {count} {letters} few order counted) =
      group_capitals n letters (some_count counted)
      ∙ order_capitals order
      ∙ sym (list_any-append (λ b. is_ascii_uppercase b && p b) inner (41 ∷ count) ∙ ap (λ t. among inner || t) (digits_none counted) ∙ or_false (among inner))
  order_capitals (following {depth} {front} {back} {first} {second} before after) =
      list_any-append p first second
      ∙ ap (λ t. t || list_any p second) (order_capitals before)
      ∙ ap (λ t. among front || t) (order_capitals after)
      ∙ sym (list_any-append (λ b. is_ascii_uppercase b && p b) front back)

  -- dots and blanks are no capitals
  read_capitals : (text : List ℕ) → among (order_bytes text) ≡ among text
  read_capitals [] = refl
  read_capitals (b ∷ text) =
      elim (is_ignored b) as (λ t. is_ignored b ≡ t → among (cond (not t) (b ∷ order_bytes text) (order_bytes text)) ≡ among (b ∷ text)) [
        | true ↦ λ ignored. read_capitals text ∙ sym (ap (λ t. t || among text) (no_capital b (ignored_other b ignored)))
        | false ↦ λ read. ap (λ t. (is_ascii_uppercase b && p b) || t) (read_capitals text)
      ] refl

pub any_capital : (p : ℕ → Bool) (value : List ℕ) → parts_of value ≡ Ok tt → list_any p (letters_of value) ≡ list_any (λ b. is_ascii_uppercase b && p b) value
any_capital p value order =
    let h = accepted_order value (accepts (is_order value) order) in
    ap (list_any p) (sym (parts_letters value h.0 h.1)) ∙ order_capitals p h.1 ∙ read_capitals p value
