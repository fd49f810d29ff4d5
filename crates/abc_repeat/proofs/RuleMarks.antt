-- Marks by the rules, and by the tests of the computed play.
use Rattle.std.proofs.Common.{◌≡◌, ℕ, ◌<◌, ltb, Bool, true, false, not, ◌&&◌, ◌⊎◌, inl, inr, ⊎_elim, List, [], ◌∷◌, ◌++◌, refl, sym, ap, ◌∙◌, arith}
use Rattle.std.specs.Prelude.{All}
use Rattle.std.specs.List.{AllPass}
use Rattle.std.proofs.lemmas.Bool.{cases_Bool, cases_lt, and_parts, not-true, or_cases, or_left, or_right}
use Rattle.std.proofs.lemmas.Bool.Decides.{nat_tests}
use Rattle.std.proofs.lemmas.List.Elements.{All-nil, All-cons, All-head, All-tail, All-weaker}
use Rattle.abc_repeat.specs.declared.mark.Mark.{Mark}
use Rattle.abc_repeat.specs.declared.mark.Mark.TheVariants as marks
use Rattle.abc_repeat.specs.Mark.{is_ending, is_repeat, is_double, is_single, closes_common, closes_ending}
use Rattle.abc_repeat.specs.Strain.{in_common, in_ending, leads_to_ending, goes_on}
use Rattle.abc_repeat.specs.PlayLaws.{IsSign, IsRepeatBar, IsDoubleBar, IsEndBar, EndsEnding, IsCommonBar, EndsCommon, IsBetween, SignComes}
use Rattle.abc_repeat.proofs.Readings.{single_stays}

and_both : (a b : Bool) → a ≡ true → b ≡ true → (a && b) ≡ true
and_both true b e f = f
and_both false b e f = cc

not_both : {b : Bool} → b ≡ true → b ≡ false → ⊥
not_both e f = cc

pub ltb-some : (n : ℕ) → 0 < n → ltb 0 n ≡ true
ltb-some n h = grind (arith, nat_tests)

pub test_some : (n : ℕ) → ltb 0 n ≡ true → 0 < n
test_some n h = grind (arith, nat_tests)

pub ltb-none : (n : ℕ) → n ≡ 0 → ltb 0 n ≡ false
ltb-none n e = ap (ltb 0) e

pub test_none : (n : ℕ) → ltb 0 n ≡ false → n ≡ 0
test_none n h = ⊎_elim (λ some. absurd (not_both (ltb-some n some) h)) (λ none. omega arith) (cases_lt 0 n)

none_at_all : (n : ℕ) → ¬ (0 < n) → n ≡ 0
none_at_all n h = ⊎_elim (λ some. absurd (h some)) (λ none. omega arith) (cases_lt 0 n)

repeat_tested : (m : Mark) → IsRepeatBar m → is_repeat m ≡ true
repeat_tested marks.Play h = absurd h
repeat_tested (marks.Bar closes opens double) h =
    ⊎_elim (λ k. or_left (ltb 0 closes) (ltb 0 opens) (ltb-some closes k)) (λ k. or_right (ltb 0 closes) (ltb 0 opens) (ltb-some opens k)) h
repeat_tested (marks.Ending numbers) h = absurd h

repeat_by_test : (m : Mark) → is_repeat m ≡ true → IsRepeatBar m
repeat_by_test (marks.Bar closes opens double) e = ⊎_elim (λ k. inl (test_some closes k)) (λ k. inr (test_some opens k)) (or_cases (ltb 0 closes) (ltb 0 opens) e)
repeat_by_test _ e = cc

double_tested : (m : Mark) → IsDoubleBar m → is_double m ≡ true
double_tested (marks.Bar closes opens double) h = h
double_tested _ h = absurd h

double_by_test : (m : Mark) → is_double m ≡ true → IsDoubleBar m
double_by_test (marks.Bar closes opens double) e = e
double_by_test _ e = cc

pub closes_ending-tested : (m : Mark) → IsEndBar m → closes_ending m ≡ true
closes_ending-tested m h = ⊎_elim (λ k. or_left (is_repeat m) (is_double m) (repeat_tested m k)) (λ k. or_right (is_repeat m) (is_double m) (double_tested m k)) h

pub end_by_test : (m : Mark) → closes_ending m ≡ true → IsEndBar m
end_by_test m e = ⊎_elim (λ k. inl (repeat_by_test m k)) (λ k. inr (double_by_test m k)) (or_cases (is_repeat m) (is_double m) e)

pub closes_common-tested : (before : ℕ) (m : Mark) → IsCommonBar before m → closes_common (ltb 0 before) m ≡ true
closes_common-tested before m h = ⊎_elim
    (λ k. or_left (is_repeat m) _ (repeat_tested m k))
    (λ k. or_right (is_repeat m) _ (and_both (is_double m) (not (ltb 0 before)) (double_tested m k.0) (ap not (ltb-none before k.1))))
    h

pub common_by_test : (before : ℕ) (m : Mark) → closes_common (ltb 0 before) m ≡ true → IsCommonBar before m
common_by_test before m e = ⊎_elim
    (λ k. inl (repeat_by_test m k))
    (λ k. let parts = and_parts (is_double m) (not (ltb 0 before)) k in inr (double_by_test m parts.0, test_none before (not-true (ltb 0 before) parts.1)))
    (or_cases (is_repeat m) (is_double m && not (ltb 0 before)) e)

-- a mark inside an ending
pub inside_by_test : (m : Mark) → in_ending m ≡ true → ¬ EndsEnding m
inside_by_test marks.Play e h = ⊎_elim (λ k. k) (λ k. ⊎_elim (λ j. j) (λ j. j) k) h
inside_by_test (marks.Bar closes opens double) e h =
    ⊎_elim (λ k. k) (λ k. not_both (closes_ending-tested (marks.Bar closes opens double) k) (single_stays (marks.Bar closes opens double) e)) h
inside_by_test (marks.Ending numbers) e h = cc

pub in_ending-tested : (m : Mark) → ¬ EndsEnding m → in_ending m ≡ true
in_ending-tested marks.Play h = refl
in_ending-tested (marks.Bar closes opens true) h = absurd (h (inr (inr refl)))
in_ending-tested (marks.Bar closes opens false) h =
    let first : closes ≡ 0 = none_at_all closes (λ k. h (inr (inl (inl k)))) in
    let second : opens ≡ 0 = none_at_all opens (λ k. h (inr (inl (inr k)))) in
    (λ i. is_single (marks.Bar (first i) (second i) false))
in_ending-tested (marks.Ending numbers) h = absurd (h (inl tt))

-- a mark between a bar and the next sign
pub between_by_test : (m : Mark) → is_single m ≡ true → IsBetween m
between_by_test (marks.Bar closes opens double) e = ((λ k. cc), inside_by_test (marks.Bar closes opens double) e)
between_by_test _ e = cc

pub is_single-tested : (m : Mark) → IsBetween m → is_single m ≡ true
is_single-tested marks.Play h = absurd (h.0 refl)
is_single-tested (marks.Bar closes opens double) h = in_ending-tested (marks.Bar closes opens double) h.1
is_single-tested (marks.Ending numbers) h = absurd (h.1 (inl tt))

sign_by_test : (m : Mark) → is_ending m ≡ false → ¬ IsSign m
sign_by_test (marks.Ending numbers) e h = cc
sign_by_test _ e h = h

sign_tested : (m : Mark) → ¬ IsSign m → is_ending m ≡ false
sign_tested (marks.Ending numbers) h = absurd (h tt)
sign_tested _ h = refl

-- a mark inside a common part
pub common_inside_by_test : (before : ℕ) (m : Mark) → in_common (ltb 0 before) m ≡ true → ¬ EndsCommon before m
common_inside_by_test before m e h =
    let parts = and_parts (not (is_ending m)) (not (closes_common (ltb 0 before) m)) e in
    ⊎_elim (sign_by_test m (not-true (is_ending m) parts.0)) (λ k. not_both (closes_common-tested before m k) (not-true (closes_common (ltb 0 before) m) parts.1)) h

pub in_common-tested : (before : ℕ) (m : Mark) → ¬ EndsCommon before m → in_common (ltb 0 before) m ≡ true
in_common-tested before m h =
    let plain : is_ending m ≡ false = sign_tested m (λ k. h (inl k)) in
    let goes : closes_common (ltb 0 before) m ≡ false = ⊎_elim (λ k. absurd (h (inr (common_by_test before m k)))) (λ k. k) (cases_Bool (closes_common (ltb 0 before) m)) in
    and_both (not (is_ending m)) (not (closes_common (ltb 0 before) m)) (ap not plain) (ap not goes)

-- the next sign
pub leads_by_test : (ms : List Mark) → leads_to_ending ms ≡ true → SignComes ms
leads_by_test [] e = cc
leads_by_test (marks.Play ∷ rest) e = cc
leads_by_test (marks.Bar closes opens double ∷ rest) e =
    let bar = marks.Bar closes opens double in
    let parts = and_parts (is_single bar) (leads_to_ending rest) e in
    let following = leads_by_test rest parts.1 in
    (bar ∷ following.0, following.1, following.2, All-cons IsBetween bar following.0 (between_by_test bar parts.0) following.3, ap (λ l. bar ∷ l) following.4)
leads_by_test (marks.Ending numbers ∷ rest) e = ([], numbers, rest, All-nil IsBetween, refl)

gap_leads : (gap rest : List Mark) (numbers : ℕ) → All IsBetween gap → leads_to_ending (gap ++ marks.Ending numbers ∷ rest) ≡ true
gap_leads [] rest numbers h = refl
gap_leads (m ∷ gap) rest numbers h =
    or_right (is_ending m) _ (and_both (is_single m) (leads_to_ending (gap ++ marks.Ending numbers ∷ rest))
    (is_single-tested m (All-head IsBetween m gap h)) (gap_leads gap rest numbers (All-tail IsBetween m gap h)))

pub leads_to_ending-tested : (ms : List Mark) → SignComes ms → leads_to_ending ms ≡ true
leads_to_ending-tested ms h = ap leads_to_ending h.4 ∙ gap_leads h.0 h.2 h.1 h.3

-- a bar after which no ending of the strain comes
pub goes_on-last : (closes opens : ℕ) (double : Bool) (rest : List Mark) → (0 < opens) ⊎ (¬ SignComes rest) → goes_on (marks.Bar closes opens double) rest ≡ false
goes_on-last closes opens double rest h = ⊎_elim
    (λ k. ap (λ b. not b && leads_to_ending rest) (ltb-some opens k))
    (λ k. and_none (not (ltb 0 opens)) (leads_to_ending rest) (⊎_elim (λ j. absurd (k (leads_by_test rest j))) (λ j. j) (cases_Bool (leads_to_ending rest))))
    h
  where
    and_none : (a b : Bool) → b ≡ false → (a && b) ≡ false
    and_none true b e = e
    and_none false b e = refl

pub last_by_test : (closes opens : ℕ) (double : Bool) (rest : List Mark) → goes_on (marks.Bar closes opens double) rest ≡ false → (0 < opens) ⊎ (¬ SignComes rest)
last_by_test closes opens double rest e = ⊎_elim
    (λ k. inl (test_some opens k))
    (λ k. inr (λ comes. not_both (leads_to_ending-tested rest comes) (sym (ap (λ b. not b && leads_to_ending rest) k) ∙ e)))
    (cases_Bool (ltb 0 opens))

-- lists of such marks
pub all_inside_by_test : (ms : List Mark) → AllPass in_ending ms → All (λ m. ¬ EndsEnding m) ms
all_inside_by_test ms h = All-weaker (λ m. in_ending m ≡ true) (λ m. ¬ EndsEnding m) inside_by_test ms h

pub all_inside_tested : (ms : List Mark) → All (λ m. ¬ EndsEnding m) ms → AllPass in_ending ms
all_inside_tested ms h = All-weaker (λ m. ¬ EndsEnding m) (λ m. in_ending m ≡ true) in_ending-tested ms h

pub all_between_by_test : (ms : List Mark) → AllPass is_single ms → All IsBetween ms
all_between_by_test ms h = All-weaker (λ m. is_single m ≡ true) IsBetween between_by_test ms h

pub all_between_tested : (ms : List Mark) → All IsBetween ms → AllPass is_single ms
all_between_tested ms h = All-weaker IsBetween (λ m. is_single m ≡ true) is_single-tested ms h

pub all_common_by_test : (before : ℕ) (ms : List Mark) → AllPass (in_common (ltb 0 before)) ms → All (λ m. ¬ EndsCommon before m) ms
all_common_by_test before ms h = All-weaker (λ m. in_common (ltb 0 before) m ≡ true) (λ m. ¬ EndsCommon before m) (common_inside_by_test before) ms h

pub all_common_tested : (before : ℕ) (ms : List Mark) → All (λ m. ¬ EndsCommon before m) ms → AllPass (in_common (ltb 0 before)) ms
all_common_tested before ms h = All-weaker (λ m. ¬ EndsCommon before m) (λ m. in_common (ltb 0 before) m ≡ true) (in_common-tested before) ms h
