-- The list of ranges at the front of a text is the longest one that the grammar has there.
use Rattle.std.proofs.Common.{◌≡◌, ℕ, zero, suc, ◌+◌, ◌-◌, ◌≤◌, Option, Some, None, List, [], ◌∷◌, ◌++◌, length, take, drop, refl, sym, ap, ◌∙◌, subst, inl, inr, ⊎_elim, arith, append_assoc}
use Rattle.std.proofs.Common.{length-append, length-drop, take-add}
use Rattle.std.specs.Prelude.{IfSome, ◌⊎◌}
use Rattle.std.specs.Option.{option_map}
use Rattle.abc_text.specs.Number.{IsNumber}
use Rattle.abc_text.proofs.Fronts.{drop_exact}
use Rattle.abc_scan.specs.declared.ending.PassRange.{PassRange}
use Rattle.abc_scan.specs.Front.{IsFront, after_byte}
use Rattle.abc_scan.specs.Number.{number_at}
use Rattle.abc_scan.specs.Ending.{IsOnePass, IsFromTo, IsRange, IsRanges, last_at, range_of, range_after, range_at, next_range, range_size, and_more, more_from, ranges_after, ranges_at}
use Rattle.abc_scan.proofs.Marks.{take_one_more}
use Rattle.abc_scan.proofs.Readings.{Finds, IsSpelled, mapped, weaker, byte_first}
use Rattle.abc_scan.proofs.Numbers.{number_longest, number_exact, number_sound}

range_from : (text : List ℕ) (first size : ℕ) → number_at text ≡ Some (first, size) → range_at text ≡ Some (range_of first size (last_at (drop size text)))
unfolding range_at
range_from text first size read = ap (option_map (range_after text)) read

-- one number
one_or_more : (first size : ℕ) (o : Option (ℕ × ℕ))
    → (size ≤ (range_of first size o).1) × ((range_of first size o).1 ≡ size → (range_of first size o).0 ≡ (let range : PassRange = record { first = first; last = first } in range))
one_or_more first size None = (omega arith, λ e. refl)
one_or_more first size (Some last) = (omega arith, λ e. absurd (omega arith))

one_longest : (front rest : List ℕ) (range : PassRange) → IsOnePass front range → Finds (range_at (front ++ rest)) front range
one_longest front rest range is =
    let text = front ++ rest in
    let n = number_longest front rest range.first is.first_is in
    let last = last_at (drop n.size text) in
    let more = one_or_more n.found n.size last in
    record {
      found = (range_of n.found n.size last).0;
      size = (range_of n.found n.size last).1;
      is_read = range_from text n.found n.size n.is_read;
      long = omega (arith, n.long, more.0);
      same = λ e.
          let first : range.first ≡ n.found = n.same (omega (arith, n.long, more.0, e)) in
          let value = more.1 (omega (arith, n.long, more.0, e)) in
          (λ i. record { first = first i; last = (is.last_is ∙ first) i }) ∙ sym value;
    }

-- two numbers
from_to_read : (low high rest : List ℕ) (range : PassRange) → IsNumber low range.first → range_at (low ++ (45 ∷ (high ++ rest))) ≡ Some (range_of range.first (length low) (number_at (high ++ rest)))
from_to_read low high rest range low_is =
    let tail = 45 ∷ (high ++ rest) in
    range_from (low ++ tail) range.first (length low) (number_exact low tail range.first low_is refl)
    ∙ ap (λ l. Some (range_of range.first (length low) (last_at l))) (drop_exact (length low) low tail refl)

from_to_parts : (front rest : List ℕ) (range : PassRange) (is : IsFromTo front range) → front ++ rest ≡ is.first_text ++ (45 ∷ (is.last_text ++ rest))
from_to_parts front rest range is = ap (λ l. l ++ rest) is.spelling ∙ append_assoc is.first_text (45 ∷ is.last_text) rest

from_to_length : (front : List ℕ) (range : PassRange) (is : IsFromTo front range) → length front ≡ length is.first_text + 1 + length is.last_text
from_to_length front range is = let long = length-append is.first_text (45 ∷ is.last_text) in omega (arith, ap length is.spelling, long)

from_to_longest : (front rest : List ℕ) (range : PassRange) → IsFromTo front range → Finds (range_at (front ++ rest)) front range
from_to_longest front rest range is =
    let low = is.first_text in
    let high = is.last_text in
    let n = number_longest high rest range.last is.last_is in
    let long = from_to_length front range is in
    record {
      found = (range_of range.first (length low) (Some (n.found, n.size))).0;
      size = (range_of range.first (length low) (Some (n.found, n.size))).1;
      is_read = ap range_at (from_to_parts front rest range is) ∙ from_to_read low high rest range is.first_is ∙ ap (λ o. Some (range_of range.first (length low) o)) n.is_read;
      long = omega (arith, long, n.long);
      same = λ e. let last : range.last ≡ n.found = n.same (omega (arith, long, n.long, e)) in λ i. record { first = range.first; last = last i };
    }

range_longest : (front rest : List ℕ) (range : PassRange) → IsRange front range → Finds (range_at (front ++ rest)) front range
range_longest front rest range is = ⊎_elim (λ one. one_longest front rest range one) (λ two. from_to_longest front rest range two) is

-- before a comma, just the same is read
range_exact : (front rest : List ℕ) (range : PassRange) → IsRange front range → range_at (front ++ (44 ∷ rest)) ≡ Some (range, length front)
range_exact front rest range is = ⊎_elim
    (λ (one : IsOnePass front range).
    range_from (front ++ (44 ∷ rest)) range.first (length front) (number_exact front (44 ∷ rest) range.first one.first_is refl)
    ∙ ap (λ l. Some (range_of range.first (length front) (last_at l))) (drop_exact (length front) front (44 ∷ rest) refl)
    ∙ ap (λ n. Some ((let r : PassRange = record { first = range.first; last = n } in r), length front)) (sym one.last_is))
    (λ (two : IsFromTo front range).
    let low = two.first_text in
    let high = two.last_text in
    ap range_at (from_to_parts front (44 ∷ rest) range two)
    ∙ from_to_read low high (44 ∷ rest) range two.first_is
    ∙ ap (λ o. Some (range_of range.first (length low) o)) (number_exact high (44 ∷ rest) range.last two.last_is refl)
    ∙ ap (λ n. Some (range, n)) (sym (from_to_length front range two)))
    is

-- the range read is one of the grammar: a dash and a number
abbrev IsDashed : List ℕ → ℕ × ℕ → Type 0
IsDashed text last = (1 + last.1 ≤ length text) × (take (1 + last.1) text ≡ 45 ∷ take last.1 (drop 1 text)) × IsNumber (take last.1 (drop 1 text)) last.0

last_sound : (text : List ℕ) → IfSome (last_at text) (IsDashed text)
last_sound [] = tt
last_sound (b ∷ bs) =
    byte_first IsDashed 45 b bs (number_at bs) None
    (weaker (IsSpelled IsNumber bs) (IsDashed (45 ∷ bs)) (number_at bs) (λ last is. (omega (arith, is.0.inside), take_one_more last.1 45 bs, is.1)) (number_sound bs)) tt

range_here : (text : List ℕ) (first size : ℕ) (o : Option (ℕ × ℕ)) → IsFront text size → IsNumber (take size text) first → IfSome o (IsDashed (drop size text))
    → IsSpelled IsRange text (range_of first size o)
range_here text first size None front first_is dashed = (front, inl (record { first_is = first_is; last_is = refl }))
range_here text first size (Some last) front first_is dashed =
    let sum : size + 1 + last.1 ≡ size + (1 + last.1) = omega arith in (
      record { some = omega arith; inside = omega (arith, length-drop size text, dashed.0, front.inside) },
      inr (record {
        first_text = take size text;
        last_text = take last.1 (drop 1 (drop size text));
        spelling = ap (λ n. take n text) sum ∙ take-add size (1 + last.1) text ∙ ap (λ l. take size text ++ l) dashed.1;
        first_is = first_is;
        last_is = dashed.2;
      }),
    )

pub range_sound : (text : List ℕ) → IfSome (range_at text) (IsSpelled IsRange text)
unfolding range_at
range_sound text =
    mapped (IsSpelled IsNumber text) (IsSpelled IsRange text) (range_after text) (number_at text)
    (λ first is. range_here text first.0 first.1 (last_at (drop first.1 text)) is.0 is.1 (last_sound (drop first.1 text)))
    (number_sound text)

-- a comma, and a range of `n` bytes
abbrev IsNextRange : List ℕ → PassRange × ℕ → Type 0
IsNextRange text range = (n : ℕ) × (range.1 ≡ 1 + n) × (text ≡ 44 ∷ drop 1 text) × IsSpelled IsRange (drop 1 text) (range.0, n)

next_sound : (text : List ℕ) → IfSome (next_range text) (IsNextRange text)
next_sound [] = tt
next_sound (b ∷ bs) =
    byte_first IsNextRange 44 b bs (option_map after_byte (range_at bs)) None
    (mapped (IsSpelled IsRange bs) (IsNextRange (44 ∷ bs)) after_byte (range_at bs) (λ range is. (range.1, refl, refl, is)) (range_sound bs)) tt

-- the bytes inside a range are passed over
more_inside : (inside : ℕ) (text : List ℕ) → more_from inside text ≡ more_from 0 (drop inside text)
more_inside zero [] = refl
more_inside (suc inside) [] = refl
more_inside zero (b ∷ bs) = refl
more_inside (suc inside) (b ∷ bs) = more_inside inside bs

more_by : (b : ℕ) (bs : List ℕ) (o : Option (PassRange × ℕ)) → IfSome o (IsNextRange (b ∷ bs)) → and_more o (more_from (range_size o - 1) bs) ≡ and_more o (more_from 0 (drop (range_size o) (b ∷ bs)))
more_by b bs None next = refl
more_by b bs (Some (range, zero)) next = absurd (omega (arith, next.1))
more_by b bs (Some (range, suc k)) next =
    let e : suc k - 1 ≡ k = omega arith in
    ap (λ n. and_more (Some (range, suc k)) (more_from n bs)) e ∙ ap (and_more (Some (range, suc k))) (more_inside k bs)

-- the first range, and the ranges after it
pub more_first : (text : List ℕ) → more_from 0 text ≡ and_more (next_range text) (more_from 0 (drop (range_size (next_range text)) text))
more_first [] = refl
more_first (b ∷ bs) = more_by b bs (next_range (b ∷ bs)) (next_sound (b ∷ bs))

pub more_at : (text : List ℕ) (o : Option (PassRange × ℕ)) → next_range text ≡ o → more_from 0 text ≡ and_more o (more_from 0 (drop (range_size o) text))
more_at text o e = more_first text ∙ ap (λ p. and_more p (more_from 0 (drop (range_size p) text))) e

-- nothing more takes no bytes
none_by : (text : List ℕ) (o : Option (PassRange × ℕ)) → IfSome o (IsNextRange text) → (and_more o (more_from 0 (drop (range_size o) text))).1 ≡ 0
    → (and_more o (more_from 0 (drop (range_size o) text))).0 ≡ []
none_by text None next e = refl
none_by text (Some range) next e = absurd (omega (arith, e, next.1))

none_more : (text : List ℕ) → (more_from 0 text).1 ≡ 0 → (more_from 0 text).0 ≡ []
none_more text e =
    subst (λ (more : List PassRange × ℕ). more.1 ≡ 0 → more.0 ≡ []) (sym (more_first text)) (none_by text (next_range text) (next_sound text)) e

pub ranges_from : (text : List ℕ) (first : PassRange × ℕ) → range_at text ≡ Some first → ranges_at text ≡ Some (ranges_after text first)
unfolding ranges_at
ranges_from text first read = ap (option_map (ranges_after text)) read

-- a comma, and the list read after it
list_after : (bs : List ℕ) (o : Option (PassRange × ℕ)) (ranges : List PassRange) (size : ℕ) → range_at bs ≡ o → option_map (ranges_after bs) o ≡ Some (ranges, size)
    → more_from 0 (44 ∷ bs) ≡ (ranges, 1 + size)
list_after bs None ranges size read e = cc
list_after bs (Some first) ranges size read e =
    let same : ranges_after bs first ≡ (ranges, size) = cc in
    let next : next_range (44 ∷ bs) ≡ Some (first.0, 1 + first.1) = ap (option_map after_byte) read in
    let sum : 1 + first.1 ≡ suc first.1 = omega arith in
    let after : drop (1 + first.1) (44 ∷ bs) ≡ drop first.1 bs = ap (λ n. drop n (44 ∷ bs)) sum in
    let total : 1 + first.1 + (more_from 0 (drop first.1 bs)).1 ≡ 1 + size = (let s = ap (λ (x : List PassRange × ℕ). x.1) same in omega (arith, s)) in
    more_at (44 ∷ bs) (Some (first.0, 1 + first.1)) next
    ∙ ap (λ l. and_more (Some (first.0, 1 + first.1)) (more_from 0 l)) after
    ∙ (λ i. ((same i).0, total i))

more_after : (bs : List ℕ) (ranges : List PassRange) (size : ℕ) → ranges_at bs ≡ Some (ranges, size) → more_from 0 (44 ∷ bs) ≡ (ranges, 1 + size)
unfolding ranges_at
more_after bs ranges size read = list_after bs (range_at bs) ranges size refl read

pub ranges_longest : (ranges : List PassRange) (front rest : List ℕ) → IsRanges front ranges → Finds (ranges_at (front ++ rest)) front ranges
ranges_longest [] front rest is = absurd is
ranges_longest (range ∷ []) front rest is =
    let text = front ++ rest in
    let first = range_longest front rest range is in
    let following = drop first.size text in
    let more = more_from 0 following in
    record {
      found = first.found ∷ more.0;
      size = first.size + more.1;
      is_read = ranges_from text (first.found, first.size) first.is_read;
      long = omega (arith, first.long);
      same = λ e.
          let value : range ≡ first.found = first.same (omega (arith, first.long, e)) in
          let none : more.0 ≡ [] = none_more following (omega (arith, first.long, e)) in
          λ i. value i ∷ sym none i;
    }
ranges_longest (range ∷ next ∷ others) front rest (one, several, spelling, one_is, several_are) =
    let text = front ++ rest in
    let tail = several ++ rest in
    let parts : text ≡ one ++ (44 ∷ tail) = ap (λ l. l ++ rest) spelling ∙ append_assoc one (44 ∷ several) rest in
    let later = ranges_longest (next ∷ others) several rest several_are in
    let read : range_at text ≡ Some (range, length one) = ap range_at parts ∙ range_exact one tail range one_is in
    let following : drop (length one) text ≡ 44 ∷ tail = ap (drop (length one)) parts ∙ drop_exact (length one) one (44 ∷ tail) refl in
    let more : more_from 0 (drop (length one) text) ≡ (later.found, 1 + later.size) = ap (more_from 0) following ∙ more_after tail later.found later.size later.is_read in
    let long : length front ≡ length one + (1 + length several) = (let l = length-append one (44 ∷ several) in omega (arith, ap length spelling, l)) in
    record {
      found = range ∷ later.found;
      size = length one + (1 + later.size);
      is_read = ranges_from text (range, length one) read ∙ (λ i. Some (range ∷ (more i).0, length one + (more i).1));
      long = omega (arith, long, later.long);
      same = λ e. ap (λ l. range ∷ l) (later.same (omega (arith, long, e)));
    }

-- the list of ranges read is one of the grammar
abbrev IsMore : List ℕ → List PassRange × ℕ → Type 0
IsMore text more = (more.1 ≤ length text) × (((more.0 ≡ []) × (more.1 ≡ 0)) ⊎ ((rest : List ℕ) × (take more.1 text ≡ 44 ∷ rest) × IsRanges rest more.0))

with_more : (text : List ℕ) (range : PassRange) (size : ℕ) (ranges : List PassRange) (more : ℕ) → IsSpelled IsRange text (range, size) → IsMore (drop size text) (ranges, more)
    → IsSpelled IsRanges text (range ∷ ranges, size + more)
with_more text range size [] more is (inside, tail) = ⊎_elim
    (λ (none : ([] ≡ []) × (more ≡ 0)). let sum : size ≡ size + more = omega (arith, none.1) in subst (λ n. IsFront text n × IsRange (take n text) range) sum is)
    (λ (some : (rest : List ℕ) × (take more (drop size text) ≡ 44 ∷ rest) × IsRanges rest []). absurd some.2)
    tail
with_more text range size (next ∷ others) more is (inside, tail) = ⊎_elim
    (λ (none : (next ∷ others ≡ []) × (more ≡ 0)). let e = none.0 in cc)
    (λ (some : (rest : List ℕ) × (take more (drop size text) ≡ 44 ∷ rest) × IsRanges rest (next ∷ others)). (
      record { some = omega (arith, is.0.some); inside = omega (arith, is.0.inside, inside, length-drop size text) },
      (take size text, some.0, take-add size more text ∙ ap (λ l. take size text ++ l) some.1, is.1, some.2),
    ))
    tail

comma_more : (text : List ℕ) (range : PassRange × ℕ) (more : List PassRange × ℕ) → IsNextRange text range → IsMore (drop range.1 text) more → IsMore text (range.0 ∷ more.0, range.1 + more.1)
comma_more text range more (n, size, spelling, one) is =
    let rest = drop 1 text in
    let sum : range.1 ≡ suc n = omega (arith, size) in
    let list = with_more rest range.0 n more.0 more.1 one (subst (λ l. IsMore l more) (λ i. drop (sum i) (spelling i)) is) in
    let total : range.1 + more.1 ≡ suc (n + more.1) = omega (arith, sum) in (
      omega (arith, list.0.inside, total, ap length spelling),
      inr (take (n + more.1) rest, (λ i. take (total i) (spelling i)), list.1),
    )

more_is : (fuel : ℕ) (text : List ℕ) (o : Option (PassRange × ℕ)) → next_range text ≡ o → IfSome o (IsNextRange text) → length text ≤ fuel → IsMore text (more_from 0 text)
more_is fuel text None read next enough = subst (IsMore text) (sym (more_at text None read)) (omega arith, inl (refl, refl))
more_is zero text (Some range) read next enough = absurd (omega (arith, ap length next.2))
more_is (suc fuel) text (Some range) read next enough =
    let following = drop range.1 text in
    let less : length following ≤ fuel = omega (arith, length-drop range.1 text, next.1, ap length next.2) in
    subst (IsMore text) (sym (more_at text (Some range) read)) (comma_more text range (more_from 0 following) next (more_is fuel following (next_range following) refl (next_sound following) less))

pub ranges_sound : (text : List ℕ) → IfSome (ranges_at text) (IsSpelled IsRanges text)
unfolding ranges_at
ranges_sound text =
    mapped (IsSpelled IsRange text) (IsSpelled IsRanges text) (ranges_after text) (range_at text)
    (λ first is.
    let following = drop first.1 text in
    let more = more_from 0 following in
    with_more text first.0 first.1 more.0 more.1 is (more_is (length following) following (next_range following) refl (next_sound following) (omega arith)))
    (range_sound text)
