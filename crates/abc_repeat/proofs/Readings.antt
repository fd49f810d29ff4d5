-- Marks are strains in one way only.
use Rattle.std.proofs.Common.{◌≡◌, ℕ, Bool, true, false, not, ◌&&◌, ◌||◌, ◌==◌, Option, Some, None, List, [], ◌∷◌, ◌++◌, map, refl, sym, ap, ◌∙◌, append_assoc, append-nil}
use Rattle.std.specs.List.{AllPass}
use Rattle.std.proofs.lemmas.Bool.{cond-true, cond-false, and_parts, eqb-true, not-true}
use Rattle.std.proofs.lemmas.List.Elements.{All-nil, All-cons, All-head, All-tail, All-append}
use Rattle.abc_repeat.specs.declared.mark.Mark.{Mark}
use Rattle.abc_repeat.specs.declared.mark.Mark.TheVariants as marks
use Rattle.abc_repeat.specs.Mark.{is_ending, is_single, opens_next, closes_common, closes_ending}
use Rattle.abc_repeat.specs.Strain.{Ending, Strain, without_endings, endings_text, in_common, in_ending, leads_to_ending, goes_on, IsInnerRun}
use Rattle.abc_repeat.specs.Strain.{without_bar, with_bar, AreEndings, to_the_end, to_a_bar, another, IsStrains, last_common, last_endings, common_part}
use Rattle.abc_repeat.specs.Strain.{with_endings, ends_strain, put_first, texts_of, with_mark, strain_of, strains_from}

or_second : (a b : Bool) → b ≡ true → (a || b) ≡ true
or_second true b e = refl
or_second false b e = e

-- marks before the first of some texts
abbrev pub put_front : List Mark → List (List Mark) → List (List Mark)
put_front [] texts = texts
put_front (m ∷ ms) texts = put_first m (put_front ms texts)

put_front-cons : (ms text : List Mark) (texts : List (List Mark)) → put_front ms (text ∷ texts) ≡ (ms ++ text) ∷ texts
put_front-cons [] text texts = refl
put_front-cons (m ∷ ms) text texts = ap (put_first m) (put_front-cons ms text texts)

put_front-append : (ms ns : List Mark) (texts : List (List Mark)) → put_front (ms ++ ns) texts ≡ put_front ms (put_front ns texts)
put_front-append [] ns texts = refl
put_front-append (m ∷ ms) ns texts = ap (put_first m) (put_front-append ms ns texts)

-- a mark that does not end its strain
pub stays : (opened inside : Bool) (m : Mark) (rest : List Mark) → ends_strain opened inside m rest ≡ false
    → texts_of opened inside (m ∷ rest) ≡ put_first m (texts_of opened (inside || is_ending m) rest)
stays opened inside m rest e = cond-false (ends_strain opened inside m rest) _ _ e

-- a mark that ends it
pub ends : (opened inside : Bool) (m : Mark) (rest : List Mark) → ends_strain opened inside m rest ≡ true → texts_of opened inside (m ∷ rest) ≡ (m ∷ []) ∷ texts_of (opens_next m) false rest
ends opened inside m rest e = cond-true (ends_strain opened inside m rest) _ _ e

common_front : (opened : Bool) (body rest : List Mark) → AllPass (in_common opened) body → texts_of opened false (body ++ rest) ≡ put_front body (texts_of opened false rest)
common_front opened [] rest h = refl
common_front opened (m ∷ body) rest h =
    let here = and_parts (not (is_ending m)) (not (closes_common opened m)) (All-head (λ x. in_common opened x ≡ true) m body h) in
    stays opened false m (body ++ rest) (not-true (closes_common opened m) here.1)
    ∙ ap (λ b. put_first m (texts_of opened b (body ++ rest))) (not-true (is_ending m) here.0)
    ∙ ap (put_first m) (common_front opened body rest (All-tail (λ x. in_common opened x ≡ true) m body h))

-- a single bar ends no ending
pub single_stays : (m : Mark) → is_single m ≡ true → closes_ending m ≡ false
single_stays marks.Play e = refl
single_stays (marks.Bar closes opens double) e =
    let both = and_parts ((closes == 0) && (opens == 0)) (not double) e in
    let zeros = and_parts (closes == 0) (opens == 0) both.0 in
    let first : closes ≡ 0 = eqb-true closes 0 zeros.0 in
    let second : opens ≡ 0 = eqb-true opens 0 zeros.1 in
    (λ i. closes_ending (marks.Bar (first i) (second i) (not-true double both.1 i)))
single_stays (marks.Ending numbers) e = refl

in_ending_stays : (m : Mark) → in_ending m ≡ true → closes_ending m ≡ false
in_ending_stays (marks.Bar closes opens double) e = single_stays (marks.Bar closes opens double) e
in_ending_stays _ e = refl

pub inside_stays : (opened : Bool) (m : Mark) (rest : List Mark) → closes_ending m ≡ false → texts_of opened true (m ∷ rest) ≡ put_first m (texts_of opened true rest)
inside_stays opened m rest e = stays opened true m rest (ap (λ b. b && not (goes_on m rest)) e)

run_front : (opened : Bool) (body rest : List Mark) → AllPass in_ending body → texts_of opened true (body ++ rest) ≡ put_front body (texts_of opened true rest)
run_front opened [] rest h = refl
run_front opened (m ∷ body) rest h =
    inside_stays opened m (body ++ rest) (in_ending_stays m (All-head (λ x. in_ending x ≡ true) m body h))
    ∙ ap (put_first m) (run_front opened body rest (All-tail (λ x. in_ending x ≡ true) m body h))

gap_front : (opened : Bool) (gap rest : List Mark) → AllPass is_single gap → texts_of opened true (gap ++ rest) ≡ put_front gap (texts_of opened true rest)
gap_front opened [] rest h = refl
gap_front opened (m ∷ gap) rest h =
    inside_stays opened m (gap ++ rest) (single_stays m (All-head (λ x. is_single x ≡ true) m gap h))
    ∙ ap (put_first m) (gap_front opened gap rest (All-tail (λ x. is_single x ≡ true) m gap h))

gap_leads : (gap rest : List Mark) (numbers : ℕ) → AllPass is_single gap → leads_to_ending (gap ++ marks.Ending numbers ∷ rest) ≡ true
gap_leads [] rest numbers h = refl
gap_leads (m ∷ gap) rest numbers h =
    or_second (is_ending m) _ (ap (λ b. b && leads_to_ending (gap ++ marks.Ending numbers ∷ rest))
    (All-head (λ x. is_single x ≡ true) m gap h) ∙ gap_leads gap rest numbers (All-tail (λ x. is_single x ≡ true) m gap h))

going_on : (bar : Mark) (rest : List Mark) → opens_next bar ≡ false → leads_to_ending rest ≡ true → goes_on bar rest ≡ true
going_on bar rest e f = ap (λ b. not b && leads_to_ending rest) e ∙ f

and_not : (a b : Bool) → b ≡ true → (a && not b) ≡ false
and_not true b e = ap not e
and_not false b e = refl

-- a bar after which the strain goes on
pub bar_stays : (opened : Bool) (bar : Mark) (rest : List Mark) → goes_on bar rest ≡ true → texts_of opened true (bar ∷ rest) ≡ put_first bar (texts_of opened true rest)
bar_stays opened bar rest e = stays opened true bar rest (and_not (closes_ending bar) (goes_on bar rest) e)

-- a bar that ends its ending and the strain
pub bar_ends : (opened : Bool) (bar : Mark) (rest : List Mark) → closes_ending bar ≡ true → goes_on bar rest ≡ false
    → texts_of opened true (bar ∷ rest) ≡ (bar ∷ []) ∷ texts_of (opens_next bar) false rest
bar_ends opened bar rest e f = ends opened true bar rest (ap (λ b. b && not (goes_on bar rest)) e ∙ ap not f)

-- an ending's sign
pub sign_stays : (opened inside : Bool) (numbers : ℕ) (rest : List Mark) → texts_of opened inside (marks.Ending numbers ∷ rest) ≡ put_first (marks.Ending numbers) (texts_of opened true rest)
sign_stays opened true numbers rest = refl
sign_stays opened false numbers rest = refl

inner_front : (opened : Bool) (run rest : List Mark) (numbers : ℕ) → IsInnerRun run
    → texts_of opened true (run ++ marks.Ending numbers ∷ rest) ≡ put_front run (texts_of opened true (marks.Ending numbers ∷ rest))
inner_front opened run rest numbers (without_bar body h) = run_front opened body (marks.Ending numbers ∷ rest) h
inner_front opened run rest numbers (with_bar body gap bar h closes opens singles) =
    let following = marks.Ending numbers ∷ rest in
    ap (texts_of opened true) (append_assoc body (bar ∷ gap) following)
    ∙ run_front opened body (bar ∷ (gap ++ following)) h
    ∙ ap (put_front body) (bar_stays opened bar (gap ++ following) (going_on bar (gap ++ following) opens (gap_leads gap rest numbers singles)))
    ∙ ap (λ l. put_front body (put_first bar l)) (gap_front opened gap following singles)
    ∙ sym (put_front-append body (bar ∷ gap) (texts_of opened true following))

-- the marks that may follow endings that such a bar ends
abbrev Following : Option Mark → List Mark → Type 0
Following None rest = rest ≡ []
Following (Some bar) rest = goes_on bar rest ≡ false

-- the texts after such endings
abbrev later : Option Mark → List Mark → List (List Mark)
later None rest = []
later (Some bar) rest = texts_of (opens_next bar) false rest

record Signed (endings : List Ending) : Type 0 where
  pub numbers : ℕ
  pub rest : List Mark
  pub is : endings_text endings ≡ marks.Ending numbers ∷ rest

signed : {endings : List Ending} {closing : Option Mark} → AreEndings endings closing → Signed endings
signed (to_the_end numbers body h) = record { numbers = numbers; rest = body ++ []; is = refl }
signed (to_a_bar numbers body bar h closes) = record { numbers = numbers; rest = (body ++ bar ∷ []) ++ []; is = refl }
signed (another numbers run endings closing inner are) = record { numbers = numbers; rest = run ++ endings_text endings; is = refl }

bar_seam : (body rest : List Mark) (bar : Mark) → ((body ++ bar ∷ []) ++ []) ++ rest ≡ body ++ bar ∷ rest
bar_seam body rest bar = simp (append_assoc, append-nil)

-- endings are cut off with their last bar
endings_cut : (opened inside : Bool) {endings : List Ending} {closing : Option Mark} → AreEndings endings closing → (rest : List Mark) → Following closing rest
    → texts_of opened inside (endings_text endings ++ rest) ≡ endings_text endings ∷ later closing rest
endings_cut opened inside (to_the_end numbers body h) rest none =
    sign_stays opened inside numbers ((body ++ []) ++ rest)
    ∙ ap (put_first (marks.Ending numbers)) (ap (λ r. texts_of opened true ((body ++ []) ++ r)) none
    ∙ ap (texts_of opened true) (append-nil (body ++ [])) ∙ run_front opened body [] h ∙ put_front-cons body [] [])
endings_cut opened inside (to_a_bar numbers body bar h closes) rest stops =
    sign_stays opened inside numbers (((body ++ bar ∷ []) ++ []) ++ rest)
    ∙ ap (put_first (marks.Ending numbers))
    (ap (texts_of opened true) (bar_seam body rest bar) ∙ run_front opened body (bar ∷ rest) h
    ∙ ap (put_front body) (bar_ends opened bar rest closes stops) ∙ put_front-cons body (bar ∷ []) (texts_of (opens_next bar) false rest)
    ∙ ap (λ l. l ∷ texts_of (opens_next bar) false rest) (sym (append-nil (body ++ bar ∷ []))))
endings_cut opened inside (another numbers run endings closing inner are) rest following =
    let s = signed are in
    let seam : endings_text endings ++ rest ≡ marks.Ending s.numbers ∷ (s.rest ++ rest) = ap (λ l. l ++ rest) s.is in
    sign_stays opened inside numbers ((run ++ endings_text endings) ++ rest)
    ∙ ap (put_first (marks.Ending numbers))
    (ap (texts_of opened true) (append_assoc run (endings_text endings) rest ∙ ap (λ l. run ++ l) seam)
    ∙ inner_front opened run (s.rest ++ rest) s.numbers inner
    ∙ ap (λ l. put_front run (texts_of opened true l)) (sym seam)
    ∙ ap (put_front run) (endings_cut opened true are rest following)
    ∙ put_front-cons run (endings_text endings) (later closing rest))

-- a text is its strain again
front_strain : (front text : List Mark) → AllPass (λ m. not (is_ending m)) front → strain_of (front ++ text) ≡ record (strain_of text) { common = front ++ (strain_of text).common }
front_strain [] text h = λ i. record { common = (strain_of text).common; endings = (strain_of text).endings }
front_strain (marks.Play ∷ front) text h =
    ap (with_mark marks.Play) (front_strain front text (All-tail (λ m. not (is_ending m) ≡ true) marks.Play front h))
front_strain (marks.Bar closes opens double ∷ front) text h =
    ap (with_mark (marks.Bar closes opens double)) (front_strain front text (All-tail (λ m. not (is_ending m) ≡ true) (marks.Bar closes opens double) front h))
front_strain (marks.Ending numbers ∷ front) text h = let no : false ≡ true = All-head (λ m. not (is_ending m) ≡ true) (marks.Ending numbers) front h in cc

plain_passes : (p : Mark → Bool) (ms : List Mark) → ((m : Mark) → p m ≡ true → not (is_ending m) ≡ true) → AllPass p ms → AllPass (λ m. not (is_ending m)) ms
plain_passes p [] f h = All-nil (λ m. not (is_ending m) ≡ true)
plain_passes p (m ∷ ms) f h =
    All-cons (λ x. not (is_ending x) ≡ true) m ms (f m (All-head (λ x. p x ≡ true) m ms h)) (plain_passes p ms f (All-tail (λ x. p x ≡ true) m ms h))

ending_plain : (m : Mark) → in_ending m ≡ true → not (is_ending m) ≡ true
ending_plain (marks.Ending numbers) e = cc
ending_plain _ e = refl

single_plain : (m : Mark) → is_single m ≡ true → not (is_ending m) ≡ true
single_plain (marks.Ending numbers) e = cc
single_plain _ e = refl

closing_plain : (m : Mark) → closes_ending m ≡ true → not (is_ending m) ≡ true
closing_plain (marks.Ending numbers) e = cc
closing_plain _ e = refl

common_plain : (opened : Bool) (m : Mark) → in_common opened m ≡ true → not (is_ending m) ≡ true
common_plain opened m e = (and_parts (not (is_ending m)) (not (closes_common opened m)) e).0

common_bar_plain : (opened : Bool) (m : Mark) → closes_common opened m ≡ true → not (is_ending m) ≡ true
common_bar_plain opened (marks.Ending numbers) e = cc
common_bar_plain opened _ e = refl

one_plain : (m : Mark) → not (is_ending m) ≡ true → AllPass (λ x. not (is_ending x)) (m ∷ [])
one_plain m e = All-cons (λ x. not (is_ending x) ≡ true) m [] e (All-nil (λ x. not (is_ending x) ≡ true))

join_plain : (xs ys : List Mark) → AllPass (λ m. not (is_ending m)) xs → AllPass (λ m. not (is_ending m)) ys → AllPass (λ m. not (is_ending m)) (xs ++ ys)
join_plain xs ys h k = All-append (λ m. not (is_ending m) ≡ true) xs ys h k

inner_plain : {run : List Mark} → IsInnerRun run → AllPass (λ m. not (is_ending m)) run
inner_plain (without_bar body h) = plain_passes in_ending body ending_plain h
inner_plain (with_bar body gap bar h closes opens singles) =
    join_plain body (bar ∷ gap) (plain_passes in_ending body ending_plain h)
    (All-cons (λ x. not (is_ending x) ≡ true) bar gap (closing_plain bar closes) (plain_passes is_single gap single_plain singles))

-- the strain that begins with an ending's sign
signed_strain : (numbers : ℕ) (run : List Mark) (endings : List Ending) → AllPass (λ m. not (is_ending m)) run → strain_of (endings_text endings) ≡ record { common = []; endings = endings }
    → strain_of (endings_text (record { numbers = numbers; run = run } ∷ endings)) ≡ record { common = []; endings = record { numbers = numbers; run = run } ∷ endings }
signed_strain numbers run endings plain back =
    ap (with_mark (marks.Ending numbers)) (front_strain run (endings_text endings) plain)
    ∙ ap (λ (s : Strain). with_mark (marks.Ending numbers) (record s { common = run ++ s.common })) back
    ∙ ap (λ (l : List Mark). let s : Strain = record { common = []; endings = record { numbers = numbers; run = l } ∷ endings } in s) (append-nil run)

endings_strain : {endings : List Ending} {closing : Option Mark} → AreEndings endings closing → strain_of (endings_text endings) ≡ record { common = []; endings = endings }
endings_strain (to_the_end numbers body h) = signed_strain numbers body [] (plain_passes in_ending body ending_plain h) refl
endings_strain (to_a_bar numbers body bar h closes) =
    signed_strain numbers (body ++ bar ∷ []) [] (join_plain body (bar ∷ []) (plain_passes in_ending body ending_plain h) (one_plain bar (closing_plain bar closes))) refl
endings_strain (another numbers run endings closing inner are) = signed_strain numbers run endings (inner_plain inner) (endings_strain are)

common_strain : (ms : List Mark) → AllPass (λ m. not (is_ending m)) ms → strain_of ms ≡ without_endings ms
common_strain ms plain =
    ap strain_of (sym (append-nil ms)) ∙ front_strain ms [] plain ∙ ap without_endings (append-nil ms)

whole_strain : (opened : Bool) (common : List Mark) {endings : List Ending} {closing : Option Mark} → AllPass (in_common opened) common → AreEndings endings closing
    → strain_of (common ++ endings_text endings) ≡ record { common = common; endings = endings }
whole_strain opened common {endings} h are =
    front_strain common (endings_text endings) (plain_passes (in_common opened) common (common_plain opened) h)
    ∙ ap (λ (s : Strain). let r : Strain = record s { common = common ++ s.common } in r) (endings_strain are)
    ∙ ap (λ (l : List Mark). let s : Strain = record { common = l; endings = endings } in s) (append-nil common)

-- any strains of marks are those that are computed
pub reading_computed : {opened : Bool} {ms : List Mark} {strains : List Strain} → IsStrains opened ms strains → strains_from opened ms ≡ strains
reading_computed (last_common opened common h) =
    ap (λ l. map strain_of (texts_of opened false l)) (sym (append-nil common))
    ∙ ap (map strain_of) (common_front opened common [] h ∙ put_front-cons common [] [])
    ∙ ap (λ l. strain_of l ∷ []) (append-nil common)
    ∙ ap (λ s. s ∷ []) (common_strain common (plain_passes (in_common opened) common (common_plain opened) h))
reading_computed (last_endings opened common endings h are) =
    ap (map strain_of) (common_front opened common (endings_text endings) h
    ∙ ap (put_front common) (ap (texts_of opened false) (sym (append-nil (endings_text endings))) ∙ endings_cut opened false are [] refl)
    ∙ put_front-cons common (endings_text endings) [])
    ∙ ap (λ s. s ∷ []) (whole_strain opened common h are)
reading_computed (common_part opened body rest bar strains h closes following) =
    ap (map strain_of) (common_front opened body (bar ∷ rest) h ∙ ap (put_front body) (ends opened false bar rest closes) ∙ put_front-cons body (bar ∷ []) (texts_of (opens_next bar) false rest))
    ∙ ap (λ s. s ∷ strains_from (opens_next bar) rest)
    (common_strain (body ++ bar ∷ []) (join_plain body (bar ∷ []) (plain_passes (in_common opened) body (common_plain opened) h) (one_plain bar (common_bar_plain opened bar closes))))
    ∙ ap (λ l. without_endings (body ++ bar ∷ []) ∷ l) (reading_computed following)
reading_computed (with_endings opened common rest endings bar strains h are stops following) =
    ap (λ l. map strain_of (texts_of opened false l)) (append_assoc common (endings_text endings) rest)
    ∙ ap (map strain_of) (common_front opened common (endings_text endings ++ rest) h
    ∙ ap (put_front common) (endings_cut opened false are rest stops)
    ∙ put_front-cons common (endings_text endings) (texts_of (opens_next bar) false rest))
    ∙ ap (λ s. s ∷ strains_from (opens_next bar) rest) (whole_strain opened common h are)
    ∙ ap (λ l. record { common = common; endings = endings } ∷ l) (reading_computed following)
