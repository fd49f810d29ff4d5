-- Marks are strains in one way at least: the texts that they are cut into.
use Rattle.std.proofs.Common.{◌≡◌, ℕ, Bool, true, false, not, ◌&&◌, ◌||◌, Some, None, List, [], ◌∷◌, ◌++◌, map, refl, sym, ap, ◌∙◌, subst, ⊎_elim, append_assoc, append-nil}
use Rattle.std.specs.List.{AllPass}
use Rattle.std.proofs.lemmas.Bool.{cases_Bool, and_parts, not-true}
use Rattle.std.proofs.lemmas.List.Elements.{All-nil, All-cons, All-head, All-tail}
use Rattle.abc_repeat.specs.declared.mark.Mark.{Mark}
use Rattle.abc_repeat.specs.declared.mark.Mark.TheVariants as marks
use Rattle.abc_repeat.specs.Mark.{is_ending, is_single, opens_next, closes_common, closes_ending}
use Rattle.abc_repeat.specs.Strain.{Ending, Strain, without_endings, endings_text, in_common, in_ending, leads_to_ending, goes_on, IsInnerRun}
use Rattle.abc_repeat.specs.Strain.{without_bar, with_bar, AreEndings, to_the_end, to_a_bar, another, IsStrains, last_common, last_endings, common_part}
use Rattle.abc_repeat.specs.Strain.{with_endings, put_first, texts_of, with_mark, strain_of, strains_from}
use Rattle.std.proofs.Common.{ltb, arith}
use Rattle.std.proofs.lemmas.Bool.Decides.{nat_tests}
use Rattle.abc_repeat.proofs.Cuts.{one_or_cut}
use Rattle.abc_repeat.proofs.Readings.{single_stays, stays, ends, inside_stays, bar_stays, bar_ends, sign_stays}

-- the marks inside an ending, and the strains that they make: the common part of the first is the run
data IsInside : List Mark → List Strain → Type 0 where
  last_run : (body : List Mark) → AllPass in_ending body → IsInside body (without_endings body ∷ [])
  closed_run : (body rest : List Mark) (bar : Mark) (strains : List Strain) → AllPass in_ending body → closes_ending bar ≡ true → goes_on bar rest ≡ false → IsStrains (opens_next bar) rest strains
      → IsInside (body ++ bar ∷ rest) (without_endings (body ++ bar ∷ []) ∷ strains)
  run_to_end : (run : List Mark) (endings : List Ending) → IsInnerRun run → AreEndings endings None → IsInside (run ++ endings_text endings) (record { common = run; endings = endings } ∷ [])
  run_to_bar : (run rest : List Mark) (endings : List Ending) (bar : Mark) (strains : List Strain) → IsInnerRun run
      → AreEndings endings (Some bar) → goes_on bar rest ≡ false → IsStrains (opens_next bar) rest strains
      → IsInside ((run ++ endings_text endings) ++ rest) (record { common = run; endings = endings } ∷ strains)

-- a mark before the first of some strains
abbrev on_first : Mark → List Strain → List Strain
on_first m [] = []
on_first m (strain ∷ strains) = with_mark m strain ∷ strains

sign_inner : (numbers : ℕ) (ms : List Mark) (strains : List Strain) → IsInside ms strains → IsInside (marks.Ending numbers ∷ ms) (on_first (marks.Ending numbers) strains)
sign_inner numbers ms strains (last_run body h) =
    subst (λ l. IsInside (marks.Ending numbers ∷ l) (record { common = []; endings = record { numbers = numbers; run = body } ∷ [] } ∷ [])) (append-nil body)
    (run_to_end [] (record { numbers = numbers; run = body } ∷ []) (without_bar [] (All-nil (λ m. in_ending m ≡ true))) (to_the_end numbers body h))
sign_inner numbers ms strains (closed_run body rest bar later h closes stops following) =
    subst (λ l. IsInside (marks.Ending numbers ∷ l) (record { common = []; endings = record { numbers = numbers; run = body ++ bar ∷ [] } ∷ [] } ∷ later))
    (let e : ((body ++ bar ∷ []) ++ []) ++ rest ≡ body ++ bar ∷ rest = simp (append_assoc, append-nil) in e)
    (run_to_bar [] rest (record { numbers = numbers; run = body ++ bar ∷ [] } ∷ []) bar later (without_bar [] (All-nil (λ m. in_ending m ≡ true))) (to_a_bar numbers body bar h closes) stops following)
sign_inner numbers ms strains (run_to_end run endings inner are) =
    run_to_end [] (record { numbers = numbers; run = run } ∷ endings) (without_bar [] (All-nil (λ m. in_ending m ≡ true))) (another numbers run endings None inner are)
sign_inner numbers ms strains (run_to_bar run rest endings bar later inner are stops following) =
    run_to_bar [] rest (record { numbers = numbers; run = run } ∷ endings) bar later (without_bar [] (All-nil (λ m. in_ending m ≡ true)))
    (another numbers run endings (Some bar) inner are) stops following

sign_outer : (opened : Bool) (numbers : ℕ) (ms : List Mark) (strains : List Strain) → IsInside ms strains → IsStrains opened (marks.Ending numbers ∷ ms) (on_first (marks.Ending numbers) strains)
sign_outer opened numbers ms strains (last_run body h) =
    subst (λ l. IsStrains opened (marks.Ending numbers ∷ l) (record { common = []; endings = record { numbers = numbers; run = body } ∷ [] } ∷ [])) (append-nil body)
    (last_endings opened [] (record { numbers = numbers; run = body } ∷ []) (All-nil (λ m. in_common opened m ≡ true)) (to_the_end numbers body h))
sign_outer opened numbers ms strains (closed_run body rest bar later h closes stops following) =
    subst (λ l. IsStrains opened (marks.Ending numbers ∷ l) (record { common = []; endings = record { numbers = numbers; run = body ++ bar ∷ [] } ∷ [] } ∷ later))
    (let e : ((body ++ bar ∷ []) ++ []) ++ rest ≡ body ++ bar ∷ rest = simp (append_assoc, append-nil) in e)
    (with_endings opened [] rest (record { numbers = numbers; run = body ++ bar ∷ [] } ∷ []) bar later (All-nil (λ m. in_common opened m ≡ true)) (to_a_bar numbers body bar h closes) stops following)
sign_outer opened numbers ms strains (run_to_end run endings inner are) =
    last_endings opened [] (record { numbers = numbers; run = run } ∷ endings) (All-nil (λ m. in_common opened m ≡ true)) (another numbers run endings None inner are)
sign_outer opened numbers ms strains (run_to_bar run rest endings bar later inner are stops following) =
    with_endings opened [] rest (record { numbers = numbers; run = run } ∷ endings) bar later (All-nil (λ m. in_common opened m ≡ true))
    (another numbers run endings (Some bar) inner are) stops following

pub with_plain : (m : Mark) (strain : Strain) → is_ending m ≡ false → with_mark m strain ≡ record strain { common = m ∷ strain.common }
with_plain (marks.Ending numbers) strain e = cc
with_plain _ strain e = refl

-- a mark before a run
run_more : (m : Mark) (run : List Mark) → in_ending m ≡ true → IsInnerRun run → IsInnerRun (m ∷ run)
run_more m run e (without_bar body h) = without_bar (m ∷ body) (All-cons (λ x. in_ending x ≡ true) m body e h)
run_more m run e (with_bar body gap bar h closes opens singles) = with_bar (m ∷ body) gap bar (All-cons (λ x. in_ending x ≡ true) m body e h) closes opens singles

inside_more : (m : Mark) (ms : List Mark) (strains : List Strain) → in_ending m ≡ true → is_ending m ≡ false → IsInside ms strains → IsInside (m ∷ ms) (on_first m strains)
inside_more m ms strains e plain (last_run body h) =
    subst (λ s. IsInside (m ∷ body) (s ∷ [])) (sym (with_plain m (without_endings body) plain)) (last_run (m ∷ body) (All-cons (λ x. in_ending x ≡ true) m body e h))
inside_more m ms strains e plain (closed_run body rest bar later h closes stops following) =
    subst (λ s. IsInside (m ∷ (body ++ bar ∷ rest)) (s ∷ later)) (sym (with_plain m (without_endings (body ++ bar ∷ [])) plain))
    (closed_run (m ∷ body) rest bar later (All-cons (λ x. in_ending x ≡ true) m body e h) closes stops following)
inside_more m ms strains e plain (run_to_end run endings inner are) =
    subst (λ s. IsInside (m ∷ (run ++ endings_text endings)) (s ∷ []))
    (sym (with_plain m (record { common = run; endings = endings }) plain)) (run_to_end (m ∷ run) endings (run_more m run e inner) are)
inside_more m ms strains e plain (run_to_bar run rest endings bar later inner are stops following) =
    subst (λ s. IsInside (m ∷ ((run ++ endings_text endings) ++ rest)) (s ∷ later)) (sym (with_plain m (record { common = run; endings = endings }) plain))
    (run_to_bar (m ∷ run) rest endings bar later (run_more m run e inner) are stops following)

outside_more : (opened : Bool) (m : Mark) (ms : List Mark) (strains : List Strain) → in_common opened m ≡ true → is_ending m ≡ false
    → IsStrains opened ms strains → IsStrains opened (m ∷ ms) (on_first m strains)
outside_more o m ms strains e plain (last_common same common h) =
    subst (λ s. IsStrains same (m ∷ common) (s ∷ [])) (sym (with_plain m (without_endings common) plain)) (last_common same (m ∷ common) (All-cons (λ x. in_common same x ≡ true) m common e h))
outside_more o m ms strains e plain (last_endings same common endings h are) =
    subst (λ s. IsStrains same (m ∷ (common ++ endings_text endings)) (s ∷ [])) (sym (with_plain m (record { common = common; endings = endings }) plain))
    (last_endings same (m ∷ common) endings (All-cons (λ x. in_common same x ≡ true) m common e h) are)
outside_more o m ms strains e plain (common_part same body rest bar later h closes following) =
    subst (λ s. IsStrains same (m ∷ (body ++ bar ∷ rest)) (s ∷ later)) (sym (with_plain m (without_endings (body ++ bar ∷ [])) plain))
    (common_part same (m ∷ body) rest bar later (All-cons (λ x. in_common same x ≡ true) m body e h) closes following)
outside_more o m ms strains e plain (with_endings same common rest endings bar later h are stops following) =
    subst (λ s. IsStrains same (m ∷ ((common ++ endings_text endings) ++ rest)) (s ∷ later)) (sym (with_plain m (record { common = common; endings = endings }) plain))
    (with_endings same (m ∷ common) rest endings bar later (All-cons (λ x. in_common same x ≡ true) m common e h) are stops following)

-- the marks between endings: no signs, and only single bars
leads_single : (m : Mark) (rest : List Mark) → in_ending m ≡ true → leads_to_ending (m ∷ rest) ≡ true → (is_single m && leads_to_ending rest) ≡ true
leads_single (marks.Bar closes opens double) rest e f = f
leads_single _ rest e f = cc

-- a body that leads to an ending after it is a gap, and so are the marks after it up to that sign
body_gap : (body rest : List Mark) → AllPass in_ending body → leads_to_ending (body ++ rest) ≡ true → AllPass is_single body × (leads_to_ending rest ≡ true)
body_gap [] rest h e = (All-nil (λ m. is_single m ≡ true), e)
body_gap (m ∷ body) rest h e =
    let here = and_parts (is_single m) (leads_to_ending (body ++ rest)) (leads_single m (body ++ rest) (All-head (λ x. in_ending x ≡ true) m body h) e) in
    let following = body_gap body rest (All-tail (λ x. in_ending x ≡ true) m body h) here.1 in
    (All-cons (λ x. is_single x ≡ true) m body here.0 following.0, following.1)

closing_single : (m : Mark) → closes_ending m ≡ true → is_single m ≡ false
closing_single (marks.Bar closes opens double) e = elim (is_single (marks.Bar closes opens double)) as (λ b. is_single (marks.Bar closes opens double) ≡ b → b ≡ false) [
  | true ↦ λ s. absurd (both (single_stays (marks.Bar closes opens double) s) e)
  | false ↦ λ s. refl
] refl
  where
    both : {b : Bool} → b ≡ false → b ≡ true → ⊥
    both f g = cc
closing_single _ e = cc

-- a bar that closes leads to no ending
closing_leads : (bar : Mark) (rest : List Mark) → closes_ending bar ≡ true → leads_to_ending (bar ∷ rest) ≡ true → ⊥
closing_leads (marks.Bar closes opens double) rest e f = let no = closing_single (marks.Bar closes opens double) e in let yes =
    (and_parts (is_single (marks.Bar closes opens double)) (leads_to_ending rest) f).0 in cc
closing_leads _ rest e f = cc

inner_gap : (run rest : List Mark) → IsInnerRun run → leads_to_ending (run ++ rest) ≡ true → AllPass is_single run
inner_gap run rest (without_bar body h) e = (body_gap body rest h e).0
inner_gap run rest (with_bar body gap bar h closes opens singles) e =
    absurd (closing_leads bar (gap ++ rest) closes (body_gap body (bar ∷ (gap ++ rest)) h (subst (λ l. leads_to_ending l ≡ true) (append_assoc body (bar ∷ gap) rest) e)).1)

-- a bar after which the strain goes on is in a run
bar_more : (bar : Mark) (ms : List Mark) (strains : List Strain) → closes_ending bar ≡ true → opens_next bar ≡ false
    → is_ending bar ≡ false → leads_to_ending ms ≡ true → IsInside ms strains → IsInside (bar ∷ ms) (on_first bar strains)
bar_more bar ms strains closes opens plain leads (last_run body h) =
    let none = body_gap body [] h (subst (λ l. leads_to_ending l ≡ true) (sym (append-nil body)) leads) in cc
bar_more bar ms strains closes opens plain leads (closed_run body rest end later h ends stops following) = absurd (closing_leads end rest ends (body_gap body (end ∷ rest) h leads).1)
bar_more bar ms strains closes opens plain leads (run_to_end run endings inner are) =
    subst (λ s. IsInside (bar ∷ (run ++ endings_text endings)) (s ∷ [])) (sym (with_plain bar (record { common = run; endings = endings }) plain))
    (run_to_end (bar ∷ run) endings (with_bar [] run bar (All-nil (λ m. in_ending m ≡ true)) closes opens (inner_gap run (endings_text endings) inner leads)) are)
bar_more bar ms strains closes opens plain leads (run_to_bar run rest endings end later inner are stops following) =
    subst (λ s. IsInside (bar ∷ ((run ++ endings_text endings) ++ rest)) (s ∷ later)) (sym (with_plain bar (record { common = run; endings = endings }) plain))
    (run_to_bar (bar ∷ run) rest endings end later
    (with_bar [] run bar (All-nil (λ m. in_ending m ≡ true)) closes opens
    (inner_gap run (endings_text endings ++ rest) inner (subst (λ l. leads_to_ending l ≡ true) (append_assoc run (endings_text endings) rest) leads)))
    are stops following)

map_first : (m : Mark) (opened inside : Bool) (ms : List Mark) → map strain_of (put_first m (texts_of opened inside ms)) ≡ on_first m (map strain_of (texts_of opened inside ms))
map_first m opened inside ms = ⊎_elim
    (λ one. same ms [] one)
    (λ cut. same (cut.front ++ cut.bar ∷ []) (texts_of (opens_next cut.bar) false cut.rest) cut.texts)
    (one_or_cut opened inside ms)
  where
    same : (text : List Mark) (texts : List (List Mark)) → texts_of opened inside ms ≡ text ∷ texts
        → map strain_of (put_first m (texts_of opened inside ms)) ≡ on_first m (map strain_of (texts_of opened inside ms))
    same text texts e = ap (λ l. map strain_of (put_first m l)) e ∙ sym (ap (λ l. on_first m (map strain_of l)) e)

zero_below : (n : ℕ) → ltb 0 n ≡ false → n ≡ 0
zero_below n e = grind (arith, nat_tests)

neither : (a b : Bool) → (a || b) ≡ false → (a ≡ false) × (b ≡ false)
neither true b e = cc
neither false b e = (refl, e)

open_single : (closes opens : ℕ) (double : Bool) → closes_ending (marks.Bar closes opens double) ≡ false → is_single (marks.Bar closes opens double) ≡ true
open_single closes opens double e =
    let both = neither (ltb 0 closes || ltb 0 opens) double e in
    let zeros = neither (ltb 0 closes) (ltb 0 opens) both.0 in
    let first : closes ≡ 0 = zero_below closes zeros.0 in
    let second : opens ≡ 0 = zero_below opens zeros.1 in
    (λ i. is_single (marks.Bar (first i) (second i) (both.1 i)))

-- the two readings of the rest: in a common part, and inside an ending
record Readings (ms : List Mark) : Type 0 where
  pub outside : (opened : Bool) → IsStrains opened ms (strains_from opened ms)
  pub inside : (opened : Bool) → IsInside ms (map strain_of (texts_of opened true ms))

plain_common : (opened : Bool) (m : Mark) → is_ending m ≡ false → closes_common opened m ≡ false → in_common opened m ≡ true
plain_common opened m e f = ap (λ b. not b && not (closes_common opened m)) e ∙ ap not f

outside_plain : (opened : Bool) (m : Mark) (ms : List Mark) → is_ending m ≡ false → Readings ms → IsStrains opened (m ∷ ms) (strains_from opened (m ∷ ms))
outside_plain opened m ms plain rest = ⊎_elim
    (λ closes. subst (IsStrains opened (m ∷ ms))
    (sym (ap (map strain_of) (ends opened false m ms closes) ∙ ap (λ s. s ∷ strains_from (opens_next m) ms) (with_plain m (without_endings []) plain)))
    (common_part opened [] ms m (strains_from (opens_next m) ms) (All-nil (λ x. in_common opened x ≡ true)) closes (rest.outside (opens_next m))))
    (λ unclosed. subst (IsStrains opened (m ∷ ms))
    (sym (ap (map strain_of) (stays opened false m ms unclosed ∙ ap (λ b. put_first m (texts_of opened b ms)) plain) ∙ map_first m opened false ms))
    (outside_more opened m ms (strains_from opened ms) (plain_common opened m plain unclosed) plain (rest.outside opened)))
    (cases_Bool (closes_common opened m))

outside_sign : (opened : Bool) (numbers : ℕ) (ms : List Mark) → Readings ms → IsStrains opened (marks.Ending numbers ∷ ms) (strains_from opened (marks.Ending numbers ∷ ms))
outside_sign opened numbers ms rest = subst (IsStrains opened (marks.Ending numbers ∷ ms))
    (sym (ap (map strain_of) (sign_stays opened false numbers ms) ∙ map_first (marks.Ending numbers) opened true ms))
    (sign_outer opened numbers ms (map strain_of (texts_of opened true ms)) (rest.inside opened))

inside_sign : (opened : Bool) (numbers : ℕ) (ms : List Mark) → Readings ms → IsInside (marks.Ending numbers ∷ ms) (map strain_of (texts_of opened true (marks.Ending numbers ∷ ms)))
inside_sign opened numbers ms rest = subst (IsInside (marks.Ending numbers ∷ ms))
    (sym (ap (map strain_of) (sign_stays opened true numbers ms) ∙ map_first (marks.Ending numbers) opened true ms))
    (sign_inner numbers ms (map strain_of (texts_of opened true ms)) (rest.inside opened))

inside_plain : (opened : Bool) (m : Mark) (ms : List Mark) → in_ending m ≡ true → closes_ending m ≡ false → is_ending m ≡ false
    → Readings ms → IsInside (m ∷ ms) (map strain_of (texts_of opened true (m ∷ ms)))
inside_plain opened m ms within unclosed plain rest = subst (IsInside (m ∷ ms))
    (sym (ap (map strain_of) (inside_stays opened m ms unclosed) ∙ map_first m opened true ms))
    (inside_more m ms (map strain_of (texts_of opened true ms)) within plain (rest.inside opened))

inside_bar : (opened : Bool) (bar : Mark) (ms : List Mark) → closes_ending bar ≡ true → is_ending bar ≡ false → Readings ms → IsInside (bar ∷ ms) (map strain_of (texts_of opened true (bar ∷ ms)))
inside_bar opened bar ms closes plain rest = ⊎_elim
    (λ goes.
    let both = and_parts (not (opens_next bar)) (leads_to_ending ms) goes in
    subst (IsInside (bar ∷ ms)) (sym (ap (map strain_of) (bar_stays opened bar ms goes) ∙ map_first bar opened true ms))
    (bar_more bar ms (map strain_of (texts_of opened true ms)) closes (not-true (opens_next bar) both.0) plain both.1 (rest.inside opened)))
    (λ stops. subst (IsInside (bar ∷ ms))
    (sym (ap (map strain_of) (bar_ends opened bar ms closes stops) ∙ ap (λ s. s ∷ strains_from (opens_next bar) ms) (with_plain bar (without_endings []) plain)))
    (closed_run [] ms bar (strains_from (opens_next bar) ms) (All-nil (λ x. in_ending x ≡ true)) closes stops (rest.outside (opens_next bar))))
    (cases_Bool (goes_on bar ms))

readings : (ms : List Mark) → Readings ms
readings [] = record {
  outside = λ opened. last_common opened [] (All-nil (λ m. in_common opened m ≡ true));
  inside = λ opened. last_run [] (All-nil (λ m. in_ending m ≡ true));
}
readings (marks.Play ∷ ms) = let rest = readings ms in record {
  outside = λ opened. outside_plain opened marks.Play ms refl rest;
  inside = λ opened. inside_plain opened marks.Play ms refl refl refl rest;
}
readings (marks.Bar closes opens double ∷ ms) = let rest = readings ms in record {
  outside = λ opened. outside_plain opened (marks.Bar closes opens double) ms refl rest;
  inside = λ opened. ⊎_elim
      (λ stops. inside_bar opened (marks.Bar closes opens double) ms stops refl rest)
      (λ unclosed. inside_plain opened (marks.Bar closes opens double) ms (open_single closes opens double unclosed) unclosed refl rest)
      (cases_Bool (closes_ending (marks.Bar closes opens double)));
}
readings (marks.Ending numbers ∷ ms) = let rest = readings ms in record {
  outside = λ opened. outside_sign opened numbers ms rest;
  inside = λ opened. inside_sign opened numbers ms rest;
}

-- the computed strains are strains of the marks
pub computed_reading : (ms : List Mark) → IsStrains false ms (strains_from false ms)
computed_reading ms = (readings ms).outside false
