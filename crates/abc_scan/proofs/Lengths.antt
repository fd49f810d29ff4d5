-- The length at the front of a text is the longest one that the grammar has there.
use Rattle.std.proofs.Common.{◌≡◌, ℕ, zero, suc, ◌+◌, ◌-◌, ◌<◌, ◌≤◌, true, false, Some, None, List, [], ◌∷◌, ◌++◌, length, take, drop, replicate, refl, sym, ap, ◌∙◌, subst, ⊎_elim, arith}
use Rattle.std.proofs.Common.{append_assoc, length-drop}
use Rattle.std.specs.Prelude.{◌==◌, if◌then◌else◌}
use Rattle.std.specs.List.{prefix_len, AllPass}
use Rattle.std.proofs.lemmas.Bool.{cond-true, cond-false, cond_both, cases_Bool, eqb-true, eq-eqb, ne_eqb, or_parts}
use Rattle.std.proofs.lemmas.List.{length-replicate}
use Rattle.std.proofs.lemmas.List.Elements.{All-nil, All-head}
use Rattle.std.proofs.lemmas.List.Sums.{prefix_len-le-length}
use Rattle.abc_text.specs.Digit.{is_digit, decimal}
use Rattle.abc_scan.specs.declared.length.WrittenLength.{WrittenLength}
use Rattle.abc_scan.specs.declared.length.WrittenLength.TheVariants.{Factor}
use Rattle.abc_scan.specs.Length.{is_slash, begins_length, number_or, factor, written_length, IsLength, over_size, slashes_size, under_size, length_size, length_at}
use Rattle.abc_text.proofs.Decimals.{digit_range}
use Rattle.abc_text.proofs.Fronts.{front_passes, front_append, drop_exact, front_none}
use Rattle.abc_scan.proofs.Marks.{cut_in_three, same_text, run_covers, same_covers, same_pass}
use Rattle.abc_scan.proofs.Readings.{Covers, covers_both}

-- the length read, and its size in bytes
abbrev pub read_length : List ℕ → WrittenLength × ℕ
read_length text = (length_at text, length_size text)

-- a digit is no slash
digit_no_slash : (b : ℕ) → is_digit b ≡ true → is_slash b ≡ false
digit_no_slash b h = let range = digit_range b h in ne_eqb b 47 (λ e. absurd (omega arith))

no_slash : (under rest : List ℕ) → AllPass is_digit under → 0 < length under → prefix_len is_slash (under ++ rest) ≡ 0
no_slash [] rest digits some = absurd (omega arith)
no_slash (d ∷ ds) rest digits some = front_none is_slash d (ds ++ rest) (digit_no_slash d (All-head (λ b. is_digit b ≡ true) d ds digits))

-- the digits after the slashes, if these are all slashes
abbrev read_under : List ℕ → List ℕ × ℕ
read_under text = (take (under_size text) (drop (slashes_size text) text), under_size text)

under_covers : (s : ℕ) (under rest : List ℕ) → AllPass is_digit under → (0 < length under → s ≡ 1) → s ≡ slashes_size (replicate s 47 ++ (under ++ rest))
    → Covers (read_under (replicate s 47 ++ (under ++ rest))) under under
under_covers s [] rest digits one exact =
    let text = replicate s 47 ++ rest in
    (omega arith, λ e. ap (λ n. take n (drop (slashes_size text) text)) e)
under_covers s (d ∷ ds) rest digits one exact =
    let text = replicate s 47 ++ ((d ∷ ds) ++ rest) in
    let following : drop (slashes_size text) text ≡ (d ∷ ds) ++ rest =
    drop_exact (slashes_size text) (replicate s 47) ((d ∷ ds) ++ rest) (sym exact ∙ sym (length-replicate s 47)) in
    let count : under_size text ≡ prefix_len is_digit ((d ∷ ds) ++ rest) =
    cond-true _ _ _ (eq-eqb (slashes_size text) 1 (sym exact ∙ one (omega arith))) ∙ ap (prefix_len is_digit) following in
    subst (λ (r : List ℕ × ℕ). Covers r (d ∷ ds) (d ∷ ds)) (λ i. (take (sym count i) (sym following i), sym count i)) (run_covers is_digit (d ∷ ds) rest digits)

-- slashes, and the digits after them
abbrev read_tail : List ℕ → (ℕ × List ℕ) × ℕ
read_tail text = ((slashes_size text, (read_under text).0), slashes_size text + under_size text)

tail_covers : (s : ℕ) (under rest : List ℕ) → AllPass is_digit under → (0 < length under → s ≡ 1)
    → Covers (read_tail (replicate s 47 ++ (under ++ rest))) (replicate s 47 ++ under) (s, under)
tail_covers s under rest digits one =
    let text = replicate s 47 ++ (under ++ rest) in
    let count = front_append is_slash (replicate s 47) (under ++ rest) (same_pass s 47) in
    covers_both (slashes_size text, slashes_size text) (read_under text) (replicate s 47) under s under (same_covers 47 s (under ++ rest))
    (λ exact. under_covers s under rest digits one (sym (length-replicate s 47) ∙ exact))
    (λ some. omega (arith, count, no_slash under rest digits some))

-- the parts by the count of the first digits
size_from : (text rest : List ℕ) (n : ℕ) → over_size text ≡ n → drop n text ≡ rest → length_size text ≡ n + slashes_size rest + under_size rest
unfolding length_size
size_from text rest n count cut = let e : drop (over_size text) text ≡ rest = ap (λ k. drop k text) count ∙ cut in λ i. count i + slashes_size (e i) + under_size (e i)

value_from : (text rest : List ℕ) (n : ℕ) → over_size text ≡ n → drop n text ≡ rest
    → length_at text ≡ written_length (take n text) (slashes_size rest) (take (under_size rest) (drop (slashes_size rest) rest))
unfolding length_at
value_from text rest n count cut = let e : drop (over_size text) text ≡ rest = ap (λ k. drop k text) count ∙ cut in λ i. written_length (take (count i) text) (slashes_size (e i)) (take
    (under_size (e i)) (drop (slashes_size (e i)) (e i)))

-- no digit is at the first slash
no_digits : (s : ℕ) (under rest : List ℕ) → (0 < length under → s ≡ 1) → 0 < length (replicate s 47 ++ under) → prefix_len is_digit (replicate s 47 ++ (under ++ rest)) ≡ 0
no_digits zero under rest one some = let e : zero ≡ 1 = one some in absurd (omega arith)
no_digits (suc s) under rest one some = front_none is_digit 47 (replicate s 47 ++ (under ++ rest)) refl

pub length_longest : (front rest : List ℕ) (value : WrittenLength) → IsLength front value → Covers (read_length (front ++ rest)) front value
length_longest front rest value is =
    let tail = replicate is.slashes 47 ++ is.under in
    let own = replicate is.slashes 47 ++ (is.under ++ rest) in
    let text = is.over ++ own in
    let parts : front ++ rest ≡ text =
    ap (λ l. l ++ rest) is.spelling ∙ append_assoc is.over tail rest ∙ ap (λ l. is.over ++ l) (append_assoc (replicate is.slashes 47) is.under rest) in
    let following = drop (over_size text) text in
    let count = front_append is_digit is.over own is.over_digits in
    let covers = covers_both (take (over_size text) text, over_size text) (read_tail following) is.over tail is.over (is.slashes, is.under)
    (run_covers is_digit is.over own is.over_digits)
    (λ exact. subst (λ l. Covers (read_tail l) tail (is.slashes, is.under)) (sym (drop_exact (over_size text) is.over own (sym exact)))
    (tail_covers is.slashes is.under rest is.under_digits is.one_slash))
    (λ some. omega (arith, count, no_digits is.slashes is.under rest is.one_slash some)) in
    let size = size_from text following (over_size text) refl refl in
    let long = ap length is.spelling in
    let whole = ap length_size parts in (
      omega (arith, long, whole, size, covers.0),
      λ e.
          let same = covers.1 (omega (arith, long, whole, size, e)) in
          is.value_is ∙ (λ i. written_length (same i).0 (same i).1.0 (same i).1.1) ∙ sym (ap length_at parts ∙ value_from text following (over_size text) refl refl),
    )

under_digits_of : (rest : List ℕ) → AllPass is_digit (take (under_size rest) (drop (slashes_size rest) rest))
under_digits_of rest = cond_both (slashes_size rest == 1) (prefix_len is_digit (drop (slashes_size rest) rest)) 0 (λ n. AllPass is_digit (take n (drop (slashes_size rest) rest))) (λ _. front_passes
    is_digit (drop (slashes_size rest) rest)) (λ _. All-nil _)

one_slash_of : (rest : List ℕ) → 0 < length (take (under_size rest) (drop (slashes_size rest) rest)) → slashes_size rest ≡ 1
one_slash_of rest some = ⊎_elim
    (λ yes. eqb-true (slashes_size rest) 1 yes)
    (λ fails. let none : take (under_size rest) (drop (slashes_size rest) rest) ≡ [] = ap (λ n. take n (drop (slashes_size rest) rest)) (cond-false _ _ _ fails) in absurd
    (omega (arith, some, ap length none)))
    (cases_Bool (slashes_size rest == 1))

-- and it is one
pub length_sound : (text : List ℕ) → IsLength (take (length_size text) text) (length_at text)
unfolding length_size length_at
length_sound text =
    let rest = drop (over_size text) text in
    let following = drop (slashes_size rest) rest in
    record {
      over = take (over_size text) text;
      slashes = slashes_size rest;
      under = take (under_size rest) following;
      spelling = cut_in_three (over_size text) (slashes_size rest) (under_size rest) text ∙ ap (λ l. take (over_size text) text ++ (l ++ take (under_size rest) following)) (same_text 47 rest);
      over_digits = front_passes is_digit text;
      under_digits = under_digits_of rest;
      one_slash = one_slash_of rest;
      value_is = refl;
    }

under_size-le : (rest : List ℕ) → under_size rest ≤ length (drop (slashes_size rest) rest)
under_size-le rest = cond_both (slashes_size rest == 1) (prefix_len is_digit (drop (slashes_size rest) rest)) 0 (λ n. n ≤ length (drop (slashes_size rest) rest)) (λ _. prefix_len-le-length is_digit
    (drop (slashes_size rest) rest)) (λ _. omega arith)

pub length_size-le : (text : List ℕ) → length_size text ≤ length text
length_size-le text =
    let rest = drop (over_size text) text in
    let size = size_from text rest (over_size text) refl refl in
    let over = prefix_len-le-length is_digit text in
    let slashes = prefix_len-le-length is_slash rest in
    let under = under_size-le rest in
    omega (arith, size, over, slashes, under, length-drop (over_size text) text, length-drop (slashes_size rest) rest)

-- no length is written without a digit or a slash
record NoneAfter (rest : List ℕ) : Type 0 where
  pub over : over_size rest ≡ 0
  pub slashes : slashes_size rest ≡ 0
  pub under : under_size rest ≡ 0

none_after : (rest : List ℕ) → begins_length rest ≡ false → NoneAfter rest
none_after [] none = record { over = refl; slashes = refl; under = refl }
none_after (b ∷ bs) none =
    let parts = or_parts (is_digit b) (is_slash b) none in
    let slashes : slashes_size (b ∷ bs) ≡ 0 = front_none is_slash b bs parts.1 in
    record {
      over = front_none is_digit b bs parts.0;
      slashes = slashes;
      under = ap (λ n. if n == 1 then prefix_len is_digit (drop n (b ∷ bs)) else 0) slashes;
    }

pub unwritten : (b : ℕ) (bs : List ℕ) → begins_length (b ∷ bs) ≡ false → (length_size (b ∷ bs) ≡ 0) × (length_at (b ∷ bs) ≡ Factor 1 1)
unwritten b bs none =
    let text = b ∷ bs in
    let following = none_after text none in (
      size_from text text 0 following.over refl ∙ (λ i. 0 + following.slashes i + following.under i),
      value_from text text 0 following.over refl ∙ (λ i. written_length (take 0 text) (following.slashes i) (take (following.under i) (drop (following.slashes i) text))),
    )

-- one digit with no length after it
one_digit_number : (d : ℕ) → 49 ≤ d → number_or (d ∷ []) 1 ≡ Some (d - 48)
one_digit_number d more =
    let value : decimal (d ∷ []) ≡ d - 48 = omega arith in
    cond-false (decimal (d ∷ []) == 0) None (Some (decimal (d ∷ []))) (ne_eqb (decimal (d ∷ [])) 0 (λ e. absurd (omega (arith, value, e)))) ∙ ap Some value

pub one_digit : (d : ℕ) (rest : List ℕ) → 49 ≤ d → is_digit d ≡ true → begins_length rest ≡ false → (length_size (d ∷ rest) ≡ 1) × (length_at (d ∷ rest) ≡ Factor (d - 48) 1)
one_digit d rest more digit none =
    let text = d ∷ rest in
    let following = none_after rest none in
    let over : over_size text ≡ 1 = cond-true _ _ _ digit ∙ ap (λ n. 1 + n) following.over in (
      size_from text rest 1 over refl ∙ (λ i. 1 + following.slashes i + following.under i),
      value_from text rest 1 over refl
          ∙ (λ i. written_length (take 1 text) (following.slashes i) (take (following.under i) (drop (following.slashes i) rest)))
          ∙ ap (λ o. factor o (Some 1)) (one_digit_number d more),
    )
