-- The ending mark at the front of a text is the longest one that the grammar has there.
use Rattle.std.proofs.Common.{◌≡◌, ℕ, ◌+◌, Bool, true, Option, Some, None, List, [], ◌∷◌, ◌++◌, take, drop, refl, sym, ap, ◌∙◌, subst, inl, inr, ⊎_elim, arith, append_assoc}
use Rattle.std.specs.Prelude.{IfSome, ◌==◌, ◌||◌, ◌⊎◌, fold}
use Rattle.std.specs.List.{AllPass}
use Rattle.std.specs.Option.{option_map}
use Rattle.std.proofs.lemmas.Bool.{cond-false, cond_both, ne_eqb, or_left}
use Rattle.std.proofs.lemmas.List.{drop-drop}
use Rattle.std.proofs.lemmas.List.Elements.{All-head, All-append, All-cons, All-weaker}
use Rattle.abc_text.specs.Digit.{is_digit}
use Rattle.abc_text.specs.Number.{IsNumber}
use Rattle.abc_text.proofs.Decimals.{digit_range}
use Rattle.abc_scan.specs.declared.ending.PassRange.{PassRange}
use Rattle.abc_scan.specs.Front.{IsFront, after_byte}
use Rattle.abc_scan.specs.Ending.{IsOnePass, IsFromTo, IsRange, IsRanges, ArePasses, with_range, passes_of, IsEnding, range_at, next_range, and_more, more_from, ranges_after, ranges_at, as_passes}
use Rattle.abc_scan.specs.Ending.{passes_at, ending_at}
use Rattle.abc_scan.proofs.Marks.{take_one_more}
use Rattle.abc_scan.proofs.Readings.{Finds, IsSpelled, front_more, mapped, weaker, byte_first}
use Rattle.abc_scan.proofs.Passes.{passes_are, one_outcome}
use Rattle.abc_scan.proofs.Ranges.{more_at, ranges_from, ranges_longest, ranges_sound}

-- the loop over the ranges: the first one, one more, and none at all
pub passes_first : (text : List ℕ) (range : PassRange) (size : ℕ) → range_at text ≡ Some (range, size)
    → passes_at text ≡ Some (fold with_range (with_range (Some 0) range) (more_from 0 (drop size text)).0, size + (more_from 0 (drop size text)).1)
unfolding passes_at
passes_first text range size read = ap (option_map as_passes) (ranges_from text (range, size) read)

pub passes_next : (text : List ℕ) (size : ℕ) (passes : Option ℕ) (range : PassRange) (more : ℕ) → next_range (drop size text) ≡ Some (range, more)
    → passes_at text ≡ Some (fold with_range passes (more_from 0 (drop size text)).0, size + (more_from 0 (drop size text)).1)
    → passes_at text ≡ Some (fold with_range (with_range passes range) (more_from 0 (drop (size + more) text)).0, size + more + (more_from 0 (drop (size + more) text)).1)
passes_next text size passes range more read before =
    let following = drop size text in
    let next : more_from 0 following ≡ and_more (Some (range, more)) (more_from 0 (drop (size + more) text)) = more_at following (Some (range, more)) read ∙ ap (λ l. and_more (Some (range, more))
    (more_from 0 l)) (drop-drop more size text) in
    let sum : size + (more + (more_from 0 (drop (size + more) text)).1) ≡ size + more + (more_from 0 (drop (size + more) text)).1 = omega arith in
    before ∙ (λ i. Some (fold with_range passes (next i).0, size + (next i).1)) ∙ ap (λ n. Some (fold with_range (with_range passes range) (more_from 0 (drop (size + more) text)).0, n)) sum

pub passes_none : (text : List ℕ) → range_at text ≡ None → passes_at text ≡ None
unfolding passes_at ranges_at
passes_none text read = ap (λ o. option_map as_passes (option_map (ranges_after text) o)) read

-- passes, at least as long as any ranges there
passes_longest : (front rest : List ℕ) (ranges : List PassRange) → IsRanges front ranges → Finds (passes_at (front ++ rest)) front (passes_of ranges)
unfolding passes_at
passes_longest front rest ranges is =
    let found = ranges_longest ranges front rest is in
    record {
      found = passes_of found.found;
      size = found.size;
      is_read = ap (option_map as_passes) found.is_read;
      long = found.long;
      same = λ e. ap passes_of (found.same e);
    }

-- no ranges begin with a bracket
bare_read : (text : List ℕ) (d : ℕ) (bs : List ℕ) → text ≡ d ∷ bs → is_digit d ≡ true → ending_at true text ≡ passes_at text
unfolding ending_at
bare_read text d bs cut is =
    let range = digit_range d is in
    subst (λ l. ending_at true l ≡ passes_at l) (sym cut) (cond-false _ _ _ (ne_eqb d 91 (λ e. absurd (omega arith))))

bracket_read : (after_bar : Bool) (bs : List ℕ) → ending_at after_bar (91 ∷ bs) ≡ option_map after_byte (passes_at bs)
unfolding ending_at
bracket_read after_bar bs = refl

ending_by : (after_bar : Bool) (bracket written rest : List ℕ) (passes : Option ℕ) (d : ℕ) (bs : List ℕ) → (bracket ≡ 91 ∷ []) ⊎ ((bracket ≡ []) × (after_bar ≡ true))
    → Finds (passes_at (written ++ rest)) written passes → written ++ rest ≡ d ∷ bs → is_digit d ≡ true → Finds (ending_at after_bar (bracket ++ (written ++ rest))) (bracket ++ written) passes
ending_by after_bar bracket written rest passes d bs is found cut digit = ⊎_elim
    (λ (one : bracket ≡ 91 ∷ []). subst (λ l. Finds (ending_at after_bar (l ++ (written ++ rest))) (l ++ written) passes) (sym one) (record {
      found = found.found;
      size = 1 + found.size;
      is_read = bracket_read after_bar (written ++ rest) ∙ ap (option_map after_byte) found.is_read;
      long = omega (arith, found.long);
      same = λ e. found.same (omega (arith, e));
    }))
    (λ (none : (bracket ≡ []) × (after_bar ≡ true)). subst (λ l. Finds (ending_at after_bar (l ++ (written ++ rest))) (l ++ written) passes) (sym none.0) (record {
      found = found.found;
      size = found.size;
      is_read = ap (λ t. ending_at t (written ++ rest)) none.1 ∙ bare_read (written ++ rest) d bs cut digit ∙ found.is_read;
      long = found.long;
      same = found.same;
    }))
    is

-- ranges are made of digits, commas and dashes, and the first byte is a digit
abbrev pub is_range_byte : ℕ → Bool
is_range_byte b = is_digit b || ((b == 44) || (b == 45))

abbrev pub RangeText : List ℕ → Type 0
RangeText text = AllPass is_range_byte text × ((digit : ℕ) × (rest : List ℕ) × (text ≡ digit ∷ rest) × (is_digit digit ≡ true))

number_text : (text : List ℕ) (n : ℕ) → IsNumber text n → RangeText text
number_text [] n is = let some = is.some in absurd (omega arith)
number_text (b ∷ bs) n is = (
  All-weaker (λ x. is_digit x ≡ true) (λ x. is_range_byte x ≡ true) (λ x h. or_left (is_digit x) ((x == 44) || (x == 45)) h) (b ∷ bs) is.digits,
  (b, bs, refl, All-head (λ x. is_digit x ≡ true) b bs is.digits),
)

joined_text : (front : List ℕ) (b : ℕ) (rest : List ℕ) → RangeText front → is_range_byte b ≡ true → RangeText rest → RangeText (front ++ (b ∷ rest))
joined_text front b rest (all, (digit, more, spelling, is)) joins later = (
  All-append (λ x. is_range_byte x ≡ true) front (b ∷ rest) all (All-cons (λ x. is_range_byte x ≡ true) b rest joins later.0),
  (digit, more ++ (b ∷ rest), ap (λ l. l ++ (b ∷ rest)) spelling, is),
)

range_text : (text : List ℕ) (range : PassRange) → IsRange text range → RangeText text
range_text text range is = ⊎_elim
    (λ (one : IsOnePass text range). number_text text range.first one.first_is)
    (λ (two : IsFromTo text range). subst RangeText (sym two.spelling)
    (joined_text two.first_text 45 two.last_text (number_text two.first_text range.first two.first_is) refl (number_text two.last_text range.last two.last_is)))
    is

pub ranges_text : (ranges : List PassRange) (text : List ℕ) → IsRanges text ranges → RangeText text
ranges_text [] text is = absurd is
ranges_text (range ∷ []) text is = range_text text range is
ranges_text (range ∷ next ∷ more) text (front, rest, spelling, one, several) =
    subst RangeText (sym spelling) (joined_text front 44 rest (range_text front range one) refl (ranges_text (next ∷ more) rest several))

pub ending_longest : (after_bar : Bool) (front rest : List ℕ) (passes : Option ℕ) → IsEnding after_bar front passes → Finds (ending_at after_bar (front ++ rest)) front passes
ending_longest after_bar front rest passes is =
    let (all, (digit, more, first, digit_is)) = ranges_text is.ranges is.written is.ranges_are in
    let parts : front ++ rest ≡ is.bracket ++ (is.written ++ rest) = ap (λ l. l ++ rest) is.spelling ∙ append_assoc is.bracket is.written rest in
    let named = one_outcome is.ranges (passes_of is.ranges) passes (passes_are is.ranges) is.passes_are in
    let found = subst (Finds (passes_at (is.written ++ rest)) is.written) named (passes_longest is.written rest is.ranges is.ranges_are) in
    let whole = ending_by after_bar is.bracket is.written rest passes digit (more ++ rest) is.bracket_is found (ap (λ l. l ++ rest) first) digit_is in
    subst (λ l. Finds (ending_at after_bar l) front passes) (sym parts) (subst (λ l. Finds (ending_at after_bar (is.bracket ++ (is.written ++ rest))) l passes) (sym is.spelling) whole)

-- and it is one
abbrev Passes : List ℕ → Option ℕ × ℕ → Type 0
Passes text ending = IsFront text ending.1 × ((ranges : List PassRange) × IsRanges (take ending.1 text) ranges × ArePasses ranges ending.0)

passes_sound : (text : List ℕ) → IfSome (passes_at text) (Passes text)
unfolding passes_at
passes_sound text = mapped (IsSpelled IsRanges text) (Passes text) as_passes (ranges_at text) (λ ranges is. (is.0, (ranges.0, is.1, passes_are ranges.0))) (ranges_sound text)

bracket_known : (after_bar : Bool) (bs : List ℕ) (passes : Option ℕ × ℕ) → Passes bs passes → IsSpelled (IsEnding after_bar) (91 ∷ bs) (after_byte passes)
bracket_known after_bar bs passes (front, (ranges, ranges_are, named)) = (
  front_more passes.1 91 bs front.inside,
  record {
    bracket = 91 ∷ [];
    written = take passes.1 bs;
    ranges = ranges;
    spelling = take_one_more passes.1 91 bs;
    bracket_is = inl refl;
    ranges_are = ranges_are;
    passes_are = named;
  },
)

bare_known : (after_bar : Bool) (text : List ℕ) (passes : Option ℕ × ℕ) → after_bar ≡ true → Passes text passes → IsSpelled (IsEnding after_bar) text passes
bare_known after_bar text passes after (front, (ranges, ranges_are, named)) =
    (front, record { bracket = []; written = take passes.1 text; ranges = ranges; spelling = refl; bracket_is = inr (refl, after); ranges_are = ranges_are; passes_are = named })

pub ending_sound : (after_bar : Bool) (text : List ℕ) → IfSome (ending_at after_bar text) (IsSpelled (IsEnding after_bar) text)
unfolding ending_at
ending_sound after_bar [] = tt
ending_sound after_bar (b ∷ bs) =
    byte_first (IsSpelled (IsEnding after_bar)) 91 b bs (option_map after_byte (passes_at bs)) _
    (mapped (Passes bs) (IsSpelled (IsEnding after_bar) (91 ∷ bs)) after_byte (passes_at bs) (λ passes is. bracket_known after_bar bs passes is) (passes_sound bs))
    (cond_both after_bar (passes_at (b ∷ bs)) None (λ o. IfSome o (IsSpelled (IsEnding after_bar) (b ∷ bs)))
    (λ after. weaker (Passes (b ∷ bs)) (IsSpelled (IsEnding after_bar) (b ∷ bs)) (passes_at (b ∷ bs)) (λ passes is. bare_known after_bar (b ∷ bs) passes after is) (passes_sound (b ∷ bs)))
    (λ _. tt))
