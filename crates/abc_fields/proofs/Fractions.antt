-- Laws of fractions and of their sums.
use Rattle.std.proofs.Common.{◌≡◌, ℕ, zero, suc, ◌+◌, ◌*◌, ◌/◌, ◌%◌, ◌^◌, ◌<◌, ◌≤◌, Bool, true, false, List, [], ◌∷◌, ◌++◌, length, take, drop, Option, Some, None, refl, sym, ap, ◌∙◌, subst, ◌⊎◌, inl}
use Rattle.std.proofs.Common.{inr, ⊎_elim, arith, length-append, append_assoc}
use Rattle.std.specs.Prelude.{◌==◌, not, nat_le, option_and_then}
use Rattle.std.specs.Char.{is_ascii_digit}
use Rattle.std.specs.List.{prefix_len, AllPass}
use Rattle.std.proofs.Math.Nat.{le-mul_of_pos_right, eq_of_mul-eq-mul_right, dvd_of_mod-eq-zero, div-mul_cancel}
use Rattle.std.proofs.lemmas.Nat.{pow_pos}
use Rattle.std.proofs.lemmas.Bool.{cond-true, eqb-true, leb-true, le-leb, and_parts, and_from, not_from_true, agree_below_at}
use Rattle.std.proofs.lemmas.Bool.Decides.{nat_tests}
use Rattle.std.proofs.lemmas.Option.{cond_some, same_Some}
use Rattle.std.proofs.lemmas.List.{append-nil, take-append-drop}
use Rattle.std.proofs.lemmas.List.Elements.{All-nil, All-cons, All-append, All-weaker, All-head}
use Rattle.abc_text.specs.Blank.{is_blank, trim_start, AreBlanks}
use Rattle.abc_text.specs.Number.{number_of, IsNumber}
use Rattle.abc_text.specs.Cut.{cut_at}
use Rattle.abc_text.specs.Power.{IsPowerUpTo}
use Rattle.abc_text.specs.Word.{bytes_before_blank}
use Rattle.abc_fields.specs.Tempo.{part_of, fraction_of, word_in_front, after_word, add_fraction, sum_with, sum_of}
use Rattle.abc_fields.specs.Spelling.Tempo.{IsFraction, IsSum}
use Rattle.abc_text.proofs.Powers.{power_from, power_to}
use Rattle.abc_fields.proofs.Readings.{bound, map_some}
use Rattle.abc_text.proofs.Numbers.{number_of-spells, number_of-spelled}
use Rattle.abc_text.proofs.Fronts.{front_stops, front_exact, front_none, front_other, take_exact, drop_exact}
use Rattle.abc_text.proofs.Cuts.{cut_at-found, cut_at-cuts}
use Rattle.abc_text.proofs.Blanks.{trim_start-gap, trim_start-blanks, trim_start-parts, trim_start-some}

-- the powers of two up to 512 divide it
powers : (k : ℕ) → k < 10 → (512 % 2 ^ k == 0) ≡ true
powers k h = agree_below_at (λ n. 512 % 2 ^ n == 0) (λ _. true) 10 k refl h

-- a part of 512ths
pub part_of-Some : (above below part : ℕ) → part_of above below ≡ Some part
    → (k : ℕ) × (k ≤ 9) × (2 ^ k ≡ below) × (1 ≤ above) × (above ≤ 512) × (part * 2 ^ k ≡ above * 512)
unfolding part_of
part_of-Some above below part e =
    let found = cond_some _ _ _ e in
    let outer = and_parts _ _ found.0 in
    let inner = and_parts _ _ outer.0 in
    let is = power_from 9 below outer.1 in
    let few : is.power ≤ 9 = is.small in
    let same : 2 ^ is.power ≡ below = sym is.value in
    let whole : 512 % below ≡ 0 = eqb-true _ 0 (subst (λ b. (512 % b == 0) ≡ true) same (powers is.power (omega arith))) in
    let times : 512 / below * below ≡ 512 = div-mul_cancel below (dvd_of_mod-eq-zero below whole) in
    let value : above * (512 / below) ≡ part = found.1 in
    let total : part * below ≡ above * 512 = multiplied above below (512 / below) part times value in
    (is.power, few, same, leb-true 1 above inner.0, leb-true above 512 inner.1, subst (λ b. part * b ≡ above * 512) (sym same) total)
  where
    multiplied : (a b q s : ℕ) → q * b ≡ 512 → a * q ≡ s → s * b ≡ a * 512
    multiplied a b q s e f = omega (arith, ap (λ x. a * x) e, ap (λ x. x * b) f)

pub part_of-is : (above below part k : ℕ) → k ≤ 9 → 2 ^ k ≡ below → 1 ≤ above → above ≤ 512 → part * 2 ^ k ≡ above * 512 → part_of above below ≡ Some part
unfolding part_of
part_of-is above below part k few e least most value =
    let whole : (512 % below == 0) ≡ true = subst (λ b. (512 % b == 0) ≡ true) e (powers k (omega arith)) in
    let times : 512 / below * below ≡ 512 = div-mul_cancel below (dvd_of_mod-eq-zero below (eqb-true _ 0 whole)) in
    let some : 1 ≤ below = subst (λ b. 1 ≤ b) e (pow_pos k) in
    let same : above * (512 / below) ≡ part = eq_of_mul-eq-mul_right _ some _ _ (multiplied above below (512 / below) part times (subst (λ b. part * b ≡ above * 512) e value)) in
    let small : nat_le above 512 ≡ true = le-leb above 512 most in
    let is : IsPowerUpTo 9 below = record { power = k; small = few; value = sym e } in
    cond-true _ _ _ (and_from _ _ (and_from _ _ (le-leb 1 above least) small) (power_to 9 below is)) ∙ ap Some same
  where
    multiplied : (a b q s : ℕ) → q * b ≡ 512 → s * b ≡ a * 512 → a * q * b ≡ s * b
    multiplied a b q s e f = omega (arith, ap (λ x. a * x) e, f)

-- the bytes of numbers, fractions and sums
pub number_bytes : (p : ℕ → Bool) → ((b : ℕ) → is_ascii_digit b ≡ true → p b ≡ true) → (text : List ℕ) (n : ℕ) → IsNumber text n → AllPass p text
number_bytes p digit text n is = All-weaker (λ b. is_ascii_digit b ≡ true) (λ b. p b ≡ true) digit text is.digits

pub fraction_bytes : (p : ℕ → Bool) → ((b : ℕ) → is_ascii_digit b ≡ true → p b ≡ true) → p 47 ≡ true → (text : List ℕ) (part : ℕ) → IsFraction text part → AllPass p text
fraction_bytes p digit slash text part is =
    subst (AllPass p) (sym is.spelling)
    (All-append (λ b. p b ≡ true) is.above (47 ∷ is.below) (number_bytes p digit is.above _ is.above_is)
    (All-cons (λ b. p b ≡ true) 47 is.below slash (number_bytes p digit is.below _ is.below_is)))

pub sum_bytes : (p : ℕ → Bool) → ((b : ℕ) → is_ascii_digit b ≡ true → p b ≡ true) → p 47 ≡ true → ((b : ℕ) → is_blank b ≡ true → p b ≡ true)
    → (most : ℕ) (text : List ℕ) (sum : ℕ) → IsSum most text sum → AllPass p text
sum_bytes p digit slash blank zero text sum is = absurd is
sum_bytes p digit slash blank (suc most) text sum (inl last) =
    subst (AllPass p) (sym last.spelling)
    (All-append (λ b. p b ≡ true) last.word last.gap (fraction_bytes p digit slash last.word sum last.word_is)
    (All-weaker (λ b. is_blank b ≡ true) (λ b. p b ≡ true) blank last.gap last.gap_is))
sum_bytes p digit slash blank (suc most) text sum (inr first) =
    subst (AllPass p) (sym first.spelling)
    (All-append (λ b. p b ≡ true) first.word (first.gap ++ first.rest) (fraction_bytes p digit slash first.word first.part first.word_is)
    (All-append (λ b. p b ≡ true) first.gap first.rest (All-weaker (λ b. is_blank b ≡ true) (λ b. p b ≡ true) blank first.gap first.gap_is)
    (sum_bytes p digit slash blank most first.rest first.rest_sum first.rest_is)))

-- digits and slashes are no blanks, and no digit is such a byte
pub digit_visible : (b : ℕ) → is_ascii_digit b ≡ true → not (is_blank b) ≡ true
digit_visible b h = grind (arith, nat_tests)

pub digit_other : (byte b : ℕ) → byte < 48 ⊎ 57 < byte → is_ascii_digit b ≡ true → not (b == byte) ≡ true
digit_other byte b (inl low) h = grind (arith, nat_tests)
digit_other byte b (inr high) h = grind (arith, nat_tests)

blank_hidden : (b : ℕ) → is_blank b ≡ true → not (is_blank b) ≡ false
blank_hidden b h = not_from_true (is_blank b) h

-- a fraction is a word
pub fraction_visible : (text : List ℕ) (part : ℕ) → IsFraction text part → AllPass (λ b. not (is_blank b)) text
fraction_visible text part is = fraction_bytes (λ b. not (is_blank b)) digit_visible refl text part is

pub fraction_some : (text : List ℕ) (part : ℕ) → IsFraction text part → 1 ≤ length text
fraction_some text part is = let long = ap length is.spelling ∙ length-append is.above (47 ∷ is.below) in omega (arith, long)

-- the fraction read is the one that a word spells
pub fraction_of-Some : (text : List ℕ) (part : ℕ) → fraction_of text ≡ Some part → IsFraction text part
unfolding fraction_of
fraction_of-Some text part e =
    let cut = bound _ (cut_at 47 text) part e in
    let parts : List ℕ × List ℕ = cut.0 in
    let above = bound _ (number_of parts.0) part cut.2 in
    let below = bound (part_of above.0) (number_of parts.1) part above.2 in
    let is = cut_at-cuts 47 text parts cut.1 in
    let p = part_of-Some above.0 below.0 part below.2 in
    record {
      above = parts.0;
      below = parts.1;
      num = above.0;
      power = p.0;
      spelling = is.spelling;
      above_is = number_of-spells parts.0 above.0 above.1;
      below_is = subst (IsNumber parts.1) (sym p.2) (number_of-spells parts.1 below.0 below.1);
      num_least = p.3;
      num_most = p.4;
      power_most = p.1;
      value = p.5;
    }

pub fraction_of-is : (text : List ℕ) (part : ℕ) → IsFraction text part → fraction_of text ≡ Some part
unfolding fraction_of
fraction_of-is text part is =
    let clean = number_bytes (λ b. not (b == 47)) (λ b. digit_other 47 b (inl (omega arith))) is.above is.num is.above_is in
    let cut : cut_at 47 text ≡ Some (is.above, is.below) = ap (cut_at 47) is.spelling ∙ cut_at-found 47 is.above is.below clean in
    rw (cut, number_of-spelled is.above is.num is.above_is, number_of-spelled is.below (2 ^ is.power) is.below_is)
    (part_of-is is.num (2 ^ is.power) part is.power is.power_most refl is.num_least is.num_most is.value)

-- a word is cut off a text
pub record IsWord (text : List ℕ) : Type 0 where
  pub gap : List ℕ
  pub spelling : text ≡ word_in_front text ++ (gap ++ after_word text)
  pub gap_is : AreBlanks gap
  pub gap_some : (after_word text ≡ []) ⊎ (1 ≤ length gap)

pub word_cut : (text : List ℕ) → IsWord text
unfolding word_in_front after_word
word_cut text =
    let n = bytes_before_blank text in
    let rest = drop n text in
    let whole : text ≡ take n text ++ rest = sym (take-append-drop n text) in
    ⊎_elim
    (λ none.
    let parts = trim_start-parts rest in
    let following : trim_start rest ≡ [] = ap trim_start none ∙ trim_start-blanks [] (All-nil _) in
    record { gap = parts.0; spelling = whole ∙ ap (λ l. take n text ++ l) parts.1; gap_is = parts.2; gap_some = inl following })
    (λ stop.
    let parts = trim_start-some rest stop.0 stop.1 stop.2 (not_hidden (is_blank stop.0) stop.3) in
    record { gap = parts.0; spelling = whole ∙ ap (λ l. take n text ++ l) parts.1; gap_is = parts.2; gap_some = inr parts.3 })
    (front_stops (λ b. not (is_blank b)) text)
  where
    not_hidden : (t : Bool) → not t ≡ false → t ≡ true
    not_hidden true e = refl
    not_hidden false e = cc

-- a word and blanks
gap_hidden : (gap rest : List ℕ) → AreBlanks gap → 1 ≤ length gap → prefix_len (λ b. not (is_blank b)) (gap ++ rest) ≡ 0
gap_hidden [] rest h some = absurd (omega arith)
gap_hidden (b ∷ bs) rest h some = front_none (λ b. not (is_blank b)) b (bs ++ rest) (blank_hidden b (All-head (λ b. is_blank b ≡ true) b bs h))

gap_or_end : (gap : List ℕ) → AreBlanks gap → prefix_len (λ b. not (is_blank b)) gap ≡ 0
gap_or_end [] h = refl
gap_or_end (b ∷ bs) h = front_none (λ b. not (is_blank b)) b bs (blank_hidden b (All-head (λ b. is_blank b ≡ true) b bs h))

word_in_front-is : (text word more : List ℕ) → text ≡ word ++ more → AllPass (λ b. not (is_blank b)) word → prefix_len (λ b. not (is_blank b)) more ≡ 0 → word_in_front text ≡ word
unfolding word_in_front
word_in_front-is text word more e visible stops = ap (λ t. take (bytes_before_blank t) t) e ∙ take_exact _ word more (front_exact (λ b. not (is_blank b)) word more visible stops)

after_word-is : (text word more : List ℕ) → text ≡ word ++ more → AllPass (λ b. not (is_blank b)) word → prefix_len (λ b. not (is_blank b)) more ≡ 0 → after_word text ≡ trim_start more
unfolding after_word
after_word-is text word more e visible stops =
    ap (λ t. trim_start (drop (bytes_before_blank t) t)) e ∙ ap trim_start (drop_exact _ word more (front_exact (λ b. not (is_blank b)) word more visible stops))

-- a sum begins with a digit
begins_with : (text word more rest : List ℕ) (part : ℕ) → text ≡ word ++ more → IsFraction word part → (prefix_len is_blank (text ++ rest) ≡ 0) × (1 ≤ length text)
begins_with text word more rest part e is =
    let some = fraction_some word part is in
    let long = ap length e ∙ length-append word more in
    let hidden = front_other is_blank word (more ++ rest) (fraction_visible word part is) some in
    (ap (λ t. prefix_len is_blank (t ++ rest)) e ∙ ap (prefix_len is_blank) (append_assoc word more rest) ∙ hidden, omega (arith, long, some))

pub sum_begins : (most : ℕ) (text : List ℕ) (sum : ℕ) → IsSum most text sum → (rest : List ℕ) → (prefix_len is_blank (text ++ rest) ≡ 0) × (1 ≤ length text)
sum_begins zero text sum is rest = absurd is
sum_begins (suc most) text sum (inl last) rest = begins_with text last.word last.gap rest sum last.spelling last.word_is
sum_begins (suc most) text sum (inr first) rest = begins_with text first.word (first.gap ++ first.rest) rest first.part first.spelling first.word_is

-- the sum read is the one that a text spells
pub sum_of-suc : (most : ℕ) (text : List ℕ) → sum_of (suc most) text ≡ option_and_then (sum_with (sum_of most) (after_word text)) (fraction_of (word_in_front text))
unfolding sum_of
sum_of-suc most text = refl

sum_of-zero : (text : List ℕ) → sum_of 0 text ≡ None
unfolding sum_of
sum_of-zero text = refl

-- by the text after the first word
sum_by : (most : ℕ) (text : List ℕ) (sum : ℕ) → ((rest : List ℕ) (n : ℕ) → sum_of most rest ≡ Some n → IsSum most rest n) → (following : List ℕ) → after_word text ≡ following
    → (part : ℕ) → IsFraction (word_in_front text) part → sum_with (sum_of most) (after_word text) part ≡ Some sum → IsWord text → IsSum (suc most) text sum
sum_by most text sum rest_is [] b part word total cut =
    let one : Some part ≡ Some sum = sym (ap (λ l. sum_with (sum_of most) l part) b) ∙ total in
    let same : part ≡ sum = same_Some part sum one in
    inl (record {
      word = word_in_front text;
      gap = cut.gap;
      spelling = cut.spelling ∙ ap (λ l. word_in_front text ++ (cut.gap ++ l)) b ∙ ap (λ l. word_in_front text ++ l) (append-nil cut.gap);
      word_is = subst (IsFraction (word_in_front text)) same word;
      gap_is = cut.gap_is;
    })
sum_by most text sum rest_is (x ∷ xs) b part word total cut =
    let more = map_some (λ n. part + n) (sum_of most (x ∷ xs)) sum (sym (ap (λ l. sum_with (sum_of most) l part) b) ∙ total) in
    inr (record {
      word = word_in_front text;
      gap = cut.gap;
      rest = x ∷ xs;
      part = part;
      rest_sum = more.0;
      spelling = cut.spelling ∙ ap (λ l. word_in_front text ++ (cut.gap ++ l)) b;
      word_is = word;
      gap_is = cut.gap_is;
      gap_some = ⊎_elim (λ none. let no : [] ≡ x ∷ xs = sym none ∙ b in cc) (λ some. some) cut.gap_some;
      rest_is = rest_is (x ∷ xs) more.0 more.1;
      total = more.2;
    })

pub sum_of-Some : (most : ℕ) (text : List ℕ) (sum : ℕ) → sum_of most text ≡ Some sum → IsSum most text sum
sum_of-Some zero text sum e = let none = sum_of-zero text in cc
sum_of-Some (suc most) text sum e =
    let found = bound (sum_with (sum_of most) (after_word text)) (fraction_of (word_in_front text)) sum (sym (sum_of-suc most text) ∙ e) in
    let word = fraction_of-Some (word_in_front text) found.0 found.1 in
    sum_by most text sum (λ rest n. sum_of-Some most rest n) (after_word text) refl found.0 word found.2 (word_cut text)

more_than_none : (f : List ℕ → Option ℕ) (rest : List ℕ) (part : ℕ) → 1 ≤ length rest → sum_with f rest part ≡ add_fraction part (f rest)
more_than_none f [] part some = absurd (omega arith)
more_than_none f (x ∷ xs) part some = refl

pub sum_of-is : (most : ℕ) (text : List ℕ) (sum : ℕ) → IsSum most text sum → sum_of most text ≡ Some sum
sum_of-is zero text sum is = absurd is
sum_of-is (suc most) text sum (inl last) =
    let visible = fraction_visible last.word sum last.word_is in
    let stops = gap_or_end last.gap last.gap_is in
    let word : word_in_front text ≡ last.word = word_in_front-is text last.word last.gap last.spelling visible stops in
    let following : after_word text ≡ [] = after_word-is text last.word last.gap last.spelling visible stops ∙ trim_start-blanks last.gap last.gap_is in
    let read : fraction_of (word_in_front text) ≡ Some sum = ap fraction_of word ∙ fraction_of-is last.word sum last.word_is in
    sum_of-suc most text ∙ ap (option_and_then (sum_with (sum_of most) (after_word text))) read ∙ ap (λ l. sum_with (sum_of most) l sum) following
sum_of-is (suc most) text sum (inr first) =
    let visible = fraction_visible first.word first.part first.word_is in
    let stops = gap_hidden first.gap first.rest first.gap_is first.gap_some in
    let begins = sum_begins most first.rest first.rest_sum first.rest_is [] in
    let rest_visible : prefix_len is_blank first.rest ≡ 0 = ap (prefix_len is_blank) (sym (append-nil first.rest)) ∙ begins.0 in
    let word : word_in_front text ≡ first.word = word_in_front-is text first.word (first.gap ++ first.rest) first.spelling visible stops in
    let following : after_word text ≡ first.rest =
    after_word-is text first.word (first.gap ++ first.rest) first.spelling visible stops ∙ trim_start-gap first.gap first.rest first.gap_is rest_visible in
    let read : fraction_of (word_in_front text) ≡ Some first.part = ap fraction_of word ∙ fraction_of-is first.word first.part first.word_is in
    let rest_read : sum_of most first.rest ≡ Some first.rest_sum = sum_of-is most first.rest first.rest_sum first.rest_is in
    sum_of-suc most text ∙ ap (option_and_then (sum_with (sum_of most) (after_word text))) read ∙ ap (λ l. sum_with (sum_of most) l first.part) following
    ∙ more_than_none (sum_of most) first.rest first.part begins.1 ∙ ap (add_fraction first.part) rest_read ∙ ap Some (sym first.total)

-- the size of sums
pub record IsWithin (sum limit : ℕ) : Type 0 where
  pub least : 1 ≤ sum
  pub most : sum ≤ limit

part_within : (part num p : ℕ) → 1 ≤ p → 1 ≤ num → num ≤ 512 → part * p ≡ num * 512 → IsWithin part 262144
part_within zero num p some least most e = absurd (omega arith)
part_within (suc part) num p some least most e =
    let more = le-mul_of_pos_right (suc part) some in
    record { least = omega arith; most = omega (arith, more, e) }

pub sum_within : (most : ℕ) (text : List ℕ) (sum : ℕ) → IsSum most text sum → IsWithin sum (most * 262144)
sum_within zero text sum is = absurd is
sum_within (suc most) text sum (inl last) =
    let word = last.word_is in
    let one = part_within sum word.num (2 ^ word.power) (pow_pos word.power) word.num_least word.num_most word.value in
    record { least = one.least; most = omega (arith, one.most) }
sum_within (suc most) text sum (inr first) =
    let word = first.word_is in
    let one = part_within first.part word.num (2 ^ word.power) (pow_pos word.power) word.num_least word.num_most word.value in
    let rest = sum_within most first.rest first.rest_sum first.rest_is in
    record { least = omega (arith, one.least, first.total); most = omega (arith, one.most, rest.most, first.total) }
