-- A text is a sum exactly if the sum of its words is read.
use Rattle.std.proofs.Common.{◌≡◌, ℕ, ◌+◌, ◌≤◌, ◌==◌, Bool, true, false, cond, leb, List, [], ◌∷◌, ◌++◌, length, sum, Option, Some, None, refl, sym, ap, ◌∙◌, subst, arith, All}
use Rattle.std.specs.Char.{is_ascii_digit}
use Rattle.std.specs.List.{AllZip, slice_split, join_with_byte}
use Rattle.std.proofs.lemmas.Bool.{leb-true, cond-true, both_ways, or_right}
use Rattle.std.proofs.lemmas.Bool.Decides.{nat_tests}
use Rattle.std.proofs.lemmas.List.Elements.{All-cons, All-same, All-append, All-weaker}
use Rattle.std.proofs.lemmas.List.Folds.{list_any-append, list_any_none}
use Rattle.std.proofs.lemmas.List.Sums.{sum_by-cons}
use Rattle.std.proofs.lemmas.List.Splits.{slice_split_none, slice_split_at, length-slice_split, join_with_byte-slice_split}
use Rattle.abc_text.specs.Number.{IsNumber, number_of}
use Rattle.abc_fields.specs.Meter.{add_numbers, sum_of_words, at_most_255, sum_of, has_plus}
use Rattle.abc_fields.specs.Spelling.Meter.{IsSum}
use Rattle.abc_text.proofs.Numbers.{number_of-spells, number_of-spelled}

abbrev is_plus : ℕ → Bool
is_plus b = b == 43

-- the parts of a sum of two
added_from : (o p : Option ℕ) (n : ℕ) → add_numbers o p ≡ Some n → (a : ℕ) × (b : ℕ) × (o ≡ Some a) × (p ≡ Some b) × (n ≡ a + b)
added_from None p n e = cc
added_from (Some a) None n e = cc
added_from (Some a) (Some b) n e = let same : n ≡ a + b = cc in (a, b, refl, refl, same)

sum-cons : (n : ℕ) (numbers : List ℕ) → sum (n ∷ numbers) ≡ n + sum numbers
sum-cons n numbers = sum_by-cons (λ x. x) n numbers

-- the numbers of words
words_from : (words : List (List ℕ)) (n : ℕ) → sum_of_words words ≡ Some n → (numbers : List ℕ) × AllZip IsNumber words numbers × (n ≡ sum numbers)
words_from [] n e = let same : n ≡ 0 = cc in ([], tt, same)
words_from (word ∷ words) n e =
    let k = added_from (number_of word) (sum_of_words words) n e in
    let more = words_from words k.1 k.3 in
    (k.0 ∷ more.0, (number_of-spells word k.0 k.2, more.1), k.4 ∙ ap (λ x. k.0 + x) more.2 ∙ sym (sum-cons k.0 more.0))

joined : (words : List (List ℕ)) (numbers : List ℕ) → AllZip IsNumber words numbers → 1 ≤ length words → IsSum (join_with_byte 43 words) numbers
joined [] numbers h some = absurd (omega arith)
joined (w ∷ []) [] h some = absurd h
joined (w ∷ []) (n ∷ []) h some = h.0
joined (w ∷ []) (n ∷ m ∷ ns) h some = absurd h.1
joined (w ∷ v ∷ ws) [] h some = absurd h
joined (w ∷ v ∷ ws) (n ∷ []) h some = absurd h.1
joined (w ∷ v ∷ ws) (n ∷ m ∷ ns) h some = (w, join_with_byte 43 (v ∷ ws), refl, h.0, joined (v ∷ ws) (m ∷ ns) h.1 (omega arith))

words_of_sum : (text : List ℕ) (n : ℕ) → sum_of_words (slice_split is_plus text) ≡ Some n → (numbers : List ℕ) × IsSum text numbers × (n ≡ sum numbers)
words_of_sum text n e =
    let k = words_from (slice_split is_plus text) n e in
    let some : 1 ≤ length (slice_split is_plus text) = omega (arith, length-slice_split is_plus text) in
    (k.0, subst (λ t. IsSum t k.0) (join_with_byte-slice_split 43 text) (joined (slice_split is_plus text) k.0 k.1 some), k.2)

-- the bytes of a number
digit_is_no_plus : (b : ℕ) → is_ascii_digit b ≡ true → is_plus b ≡ false
digit_is_no_plus b h = grind (arith, nat_tests)

no_plus : (text : List ℕ) (n : ℕ) → IsNumber text n → All (λ b. is_plus b ≡ false) text
no_plus text n h = All-weaker (λ b. is_ascii_digit b ≡ true) (λ b. is_plus b ≡ false) digit_is_no_plus text h.digits

sum_of_words-to : (text numbers : List ℕ) → IsSum text numbers → sum_of_words (slice_split is_plus text) ≡ Some (sum numbers)
sum_of_words-to text [] h = absurd h
sum_of_words-to text (n ∷ []) h =
    ap sum_of_words (slice_split_none is_plus text (no_plus text n h)) ∙ ap (λ o. add_numbers o (Some 0)) (number_of-spelled text n h) ∙ ap Some (sym (sum-cons n []))
sum_of_words-to text (n ∷ m ∷ more) h =
    ap (λ t. sum_of_words (slice_split is_plus t)) h.2 ∙ ap sum_of_words (slice_split_at is_plus h.0 43 h.1 (no_plus h.0 n h.3) refl)
    ∙ ap (λ o. add_numbers o (sum_of_words (slice_split is_plus h.1))) (number_of-spelled h.0 n h.3) ∙ ap (add_numbers (Some n)) (sum_of_words-to h.1 (m ∷ more) h.4)
    ∙ ap Some (sym (sum-cons n (m ∷ more)))

-- up to 255
at_most-tested : (m n : ℕ) (t : Bool) → t ≡ leb m 255 → cond t (Some m) None ≡ Some n → (m ≡ n) × (n ≤ 255)
at_most-tested m n true e h = let same : m ≡ n = cc in (same, subst (λ x. x ≤ 255) same (leb-true m 255 (sym e)))
at_most-tested m n false e h = cc

at_most-from : (o : Option ℕ) (n : ℕ) → at_most_255 o ≡ Some n → (o ≡ Some n) × (n ≤ 255)
at_most-from None n h = cc
at_most-from (Some m) n h = let k = at_most-tested m n (leb m 255) refl h in (ap Some k.0, k.1)

pub sum_of-from : (text : List ℕ) (n : ℕ) → sum_of text ≡ Some n → (numbers : List ℕ) × IsSum text numbers × (n ≡ sum numbers) × (n ≤ 255)
unfolding sum_of
sum_of-from text n e =
    let k = at_most-from (sum_of_words (slice_split is_plus text)) n e in
    let h = words_of_sum text n k.0 in
    (h.0, h.1, h.2, k.1)

pub sum_of-to : (text numbers : List ℕ) → IsSum text numbers → sum numbers ≤ 255 → sum_of text ≡ Some (sum numbers)
unfolding sum_of
sum_of-to text numbers h small = ap at_most_255 (sum_of_words-to text numbers h) ∙ cond-true (leb (sum numbers) 255) _ _ (grind (arith, nat_tests))

-- two numbers or more have a plus, and one has none
pub has_plus-to : (text numbers : List ℕ) → IsSum text numbers → 2 ≤ length numbers → has_plus text ≡ true
has_plus-to text [] h some = absurd h
has_plus-to text (n ∷ []) h some = absurd (omega arith)
has_plus-to text (n ∷ m ∷ more) h some = ap has_plus h.2 ∙ list_any-append is_plus h.0 (43 ∷ h.1) ∙ or_right _ _ refl

pub has_plus-from : (text numbers : List ℕ) → IsSum text numbers → has_plus text ≡ true → 2 ≤ length numbers
has_plus-from text [] h plus = absurd h
has_plus-from text (n ∷ []) h plus = absurd (both_ways (has_plus text) (list_any_none is_plus text (no_plus text n h)) plus)
has_plus-from text (n ∷ m ∷ more) h plus = omega arith

-- no byte of a sum is a stroke or a parenthesis
pub record IsSumByte (b : ℕ) : Type 0 where
  pub no_stroke : (b == 47) ≡ false
  pub not_open : (b == 40) ≡ false

digit_IsSumByte : (b : ℕ) → is_ascii_digit b ≡ true → IsSumByte b
digit_IsSumByte b h = record { no_stroke = grind (arith, nat_tests); not_open = grind (arith, nat_tests) }

number_bytes : (text : List ℕ) (n : ℕ) → IsNumber text n → All IsSumByte text
number_bytes text n h = All-weaker (λ b. is_ascii_digit b ≡ true) IsSumByte digit_IsSumByte text h.digits

pub sum_bytes : (text numbers : List ℕ) → IsSum text numbers → All IsSumByte text
sum_bytes text [] h = absurd h
sum_bytes text (n ∷ []) h = number_bytes text n h
sum_bytes text (n ∷ m ∷ more) h =
    All-same IsSumByte text (h.0 ++ 43 ∷ h.1) h.2
    (All-append IsSumByte h.0 (43 ∷ h.1) (number_bytes h.0 n h.3) (All-cons IsSumByte 43 h.1 (record { no_stroke = refl; not_open = refl }) (sum_bytes h.1 (m ∷ more) h.4)))
