-- The bar line at the front of a text is the longest one that the grammar has there.
use Rattle.std.proofs.Common.{◌≡◌, ℕ, zero, suc, ◌+◌, ◌-◌, ◌<◌, ◌≤◌, Bool, true, false, cond, Some, List, [], ◌∷◌, ◌++◌, length, take, drop, replicate, refl, sym, ap, ◌∙◌, subst, inl, inr, ⊎_elim}
use Rattle.std.proofs.Common.{arith, append_assoc, length-append, length-drop, length-take-le}
use Rattle.std.specs.Prelude.{IfSome, ◌==◌, ◌&&◌, ◌||◌, nat_lt}
use Rattle.std.specs.List.{AllPass}
use Rattle.std.proofs.lemmas.Bool.{cond-true, cond-false, cond_both, cases_Bool, cases_eq, cases_lt, eqb-false, eq-eqb, ne_eqb, or_from, and_left, and_right, ltb-false, le-ltb}
use Rattle.std.proofs.lemmas.List.{length-replicate}
use Rattle.std.proofs.lemmas.List.Sums.{prefix_len-le-length}
use Rattle.abc_scan.specs.declared.bar_line.BarLine.{BarLine}
use Rattle.abc_scan.specs.Byte.{colon}
use Rattle.abc_scan.specs.Note.{begins_with_byte}
use Rattle.abc_scan.specs.Bar.{Strokes, strokes_text, middle_text, is_double, HasStrokes, HasColons, IsBar, colons, goes_on, middle_from, middle_size, bar_of_colons, with_middle, bar_after, bar_at}
use Rattle.abc_scan.proofs.Marks.{take_one_more, cut_in_three, same_text, same_pass, same_covers}
use Rattle.abc_text.proofs.Fronts.{front_append, front_exact, take_exact, drop_exact}
use Rattle.abc_scan.proofs.Readings.{Finds, Covers, IsSpelled, covers_both}

abbrev closing : Bool → List ℕ
closing closed = cond closed (93 ∷ []) []

abbrev opening : Bool → List ℕ
opening opened = cond opened (91 ∷ []) []

-- a middle is counted whole, whatever follows
abbrev Counts : ℕ → List ℕ → List ℕ → Type 0
Counts before front rest = (last : ℕ) × (middle_from before (front ++ rest) ≡ length front + middle_from last rest)

counts_more : (before next b : ℕ) (front rest : List ℕ) → middle_from before ((b ∷ front) ++ rest) ≡ 1 + middle_from next (front ++ rest) → Counts next front rest → Counts before (b ∷ front) rest
counts_more before next b front rest e (last, more) = (last, omega (arith, e, more))

counts_closing : (closed : Bool) (rest : List ℕ) → Counts 124 (closing closed) rest
counts_closing true rest = (93, refl)
counts_closing false rest = (124, omega arith)

counts_strokes : (n : ℕ) (tail rest : List ℕ) → Counts 124 tail rest → Counts 124 (replicate n 124 ++ tail) rest
counts_strokes zero tail rest h = h
counts_strokes (suc n) tail rest h = counts_more 124 124 124 (replicate n 124 ++ tail) rest refl (counts_strokes n tail rest h)

counts_append : (before : ℕ) (front tail rest : List ℕ) → ((r : List ℕ) → Counts before front r) → ((last : ℕ) → Counts last tail rest) → Counts before (front ++ tail) rest
counts_append before front tail rest first second =
    let a = first (tail ++ rest) in
    let b = second a.0 in
    (b.0, ap (middle_from before) (append_assoc front tail rest) ∙ (let e = a.1 in let f = b.1 in let l = length-append front tail in omega (arith, e, f, l)))

counts_group : (before : ℕ) (opened : Bool) (more : ℕ) (closed : Bool) (rest : List ℕ) → Counts before (opening opened ++ ((124 ∷ replicate more 124) ++ closing closed)) rest
counts_group before true more closed rest =
    let tail = replicate more 124 ++ closing closed in
    counts_more before 91 91 (124 ∷ tail) rest refl (counts_more 91 124 124 tail rest refl (counts_strokes more (closing closed) rest (counts_closing closed rest)))
counts_group before false more closed rest =
    counts_more before 124 124 (replicate more 124 ++ closing closed) rest refl (counts_strokes more (closing closed) rest (counts_closing closed rest))

counts_middle : (groups : List Strokes) (before : ℕ) (rest : List ℕ) → Counts before (middle_text groups) rest
counts_middle [] before rest = (before, omega arith)
counts_middle (g ∷ gs) before rest =
    counts_append before (strokes_text g) (middle_text gs) rest (λ r. counts_group before g.opened g.more g.closed r) (λ last. counts_middle gs last rest)

-- it is not empty, and begins with no colon
strokes_first : (opened : Bool) (more : ℕ) (tail : List ℕ)
    → (colons (opening opened ++ ((124 ∷ replicate more 124) ++ tail)) ≡ 0) × (0 < length (opening opened ++ ((124 ∷ replicate more 124) ++ tail)))
strokes_first true more tail = (refl, omega arith)
strokes_first false more tail = (refl, omega arith)

middle_first : (groups : List Strokes) (rest : List ℕ) → 0 < length groups → (colons (middle_text groups ++ rest) ≡ 0) × (0 < length (middle_text groups))
middle_first [] rest some = absurd (omega arith)
middle_first (g ∷ gs) rest some =
    let whole : middle_text (g ∷ gs) ++ rest ≡ opening g.opened ++ ((124 ∷ replicate g.more 124) ++ (closing g.closed ++ (middle_text gs ++ rest))) =
    append_assoc (strokes_text g) (middle_text gs) rest ∙ append_assoc (opening g.opened) ((124 ∷ replicate g.more 124) ++ closing g.closed) (middle_text gs ++ rest) ∙ ap (λ l. opening g.opened ++
    l) (append_assoc (124 ∷ replicate g.more 124) (closing g.closed) (middle_text gs ++ rest)) in
    let first = strokes_first g.opened g.more (closing g.closed ++ (middle_text gs ++ rest)) in
    let size = (strokes_first g.opened g.more (closing g.closed)).1 in
    (ap colons whole ∙ first.0, omega (arith, size, length-append (strokes_text g) (middle_text gs)))

-- the bar line read after the colons that close
bar_from : (text following : List ℕ) (closes : ℕ) → colons text ≡ closes → drop closes text ≡ following → bar_at text ≡ bar_after closes following
unfolding bar_at
bar_from text following closes count cut = let e : drop (colons text) text ≡ following = ap (λ k. drop k text) count ∙ cut in λ i. bar_after (count i) (e i)

bar_some : (closes : ℕ) (following : List ℕ) → 0 < middle_size following → bar_after closes following ≡ Some (with_middle closes (middle_size following) following)
bar_some closes following some = cond-false _ _ _ (ne_eqb (middle_size following) 0 (λ e. absurd (omega arith)))

-- a middle ends before the colons that open
middle_ends : (opens last : ℕ) (rest : List ℕ) → 0 < length {A = ℕ} (replicate opens 58) → middle_from last (replicate opens 58 ++ rest) ≡ 0
middle_ends zero last rest some = absurd (omega arith)
middle_ends (suc opens) last rest some = refl

strokes_longest : (front rest : List ℕ) (bar : BarLine) → HasStrokes front bar → Finds (bar_at (front ++ rest)) front bar
strokes_longest front rest bar is =
    let middle = middle_text is.groups in
    let closing_colons = replicate bar.closes 58 in
    let opening_colons = replicate bar.opens 58 in
    let following = middle ++ (opening_colons ++ rest) in
    let size = middle_size following in
    let after = drop size following in
    let first = middle_first is.groups (opening_colons ++ rest) is.some in
    let whole = append_assoc closing_colons (middle ++ opening_colons) rest ∙ ap (λ l. closing_colons ++ l) (append_assoc middle opening_colons rest) in
    let text = closing_colons ++ following in
    let parts : front ++ rest ≡ text = ap (λ l. l ++ rest) is.spelling ∙ whole in
    let count : colons text ≡ bar.closes = front_exact (λ b. b == colon) closing_colons following (same_pass bar.closes 58) first.0 ∙ length-replicate bar.closes 58 in
    let cut : drop bar.closes text ≡ following = drop_exact bar.closes closing_colons following (sym (length-replicate bar.closes 58)) in
    let (last, counts) = counts_middle is.groups 32 (opening_colons ++ rest) in
    let covers = covers_both (take size following, size) (colons after, colons after) middle opening_colons middle bar.opens
    (omega (arith, counts), λ e. sym (take_exact size middle (opening_colons ++ rest) (sym e)))
    (λ exact. subst (λ l. Covers (colons l, colons l) opening_colons bar.opens) (sym (drop_exact size middle (opening_colons ++ rest) (sym exact))) (same_covers 58 bar.opens rest))
    (λ some. omega (arith, counts, middle_ends bar.opens last rest some)) in
    let found : BarLine × ℕ = with_middle bar.closes size following in
    let long = ap length is.spelling ∙ length-append closing_colons (middle ++ opening_colons) in
    let closes : length closing_colons ≡ bar.closes = length-replicate bar.closes 58 in
    record {
      found = found.0;
      size = found.1;
      is_read = ap bar_at parts ∙ bar_from text following bar.closes count cut ∙ bar_some bar.closes following (omega (arith, counts, first.1));
      long = omega (arith, long, closes, covers.0);
      same = λ e.
          let same = covers.1 (omega (arith, long, closes, e)) in
          let double : bar.double ≡ is_double (take size following) = is.double_is ∙ (λ i. is_double (same i).0) in
          λ i. record { closes = bar.closes; opens = (same i).1; double = double i };
    }

-- colons alone
alone_some : (count : ℕ) → 2 ≤ count → bar_of_colons count ≡ Some (record { closes = count - 1; opens = count - 1; double = true }, count)
alone_some count several = cond-false _ _ _ (le-ltb count 2 several)

colons_longest : (front rest : List ℕ) (bar : BarLine) → HasColons front bar → Finds (bar_at (front ++ rest)) front bar
colons_longest front rest bar is =
    let text = front ++ rest in
    let count = colons text in
    let following = drop count text in
    let size : length front ≡ is.count = ap length is.spelling ∙ length-replicate is.count 58 in
    let long : count ≡ length front + colons rest = front_append (λ b. b == colon) front rest (subst (AllPass (λ b. b == colon)) (sym is.spelling) (same_pass is.count 58)) in
    let read = bar_from text following count refl refl in
    ⊎_elim
    (λ some. record {
      found = (with_middle count (middle_size following) following).0;
      size = (with_middle count (middle_size following) following).1;
      is_read = read ∙ bar_some count following some;
      long = omega (arith, long);
      same = λ e. absurd (omega (arith, long, e, some));
    })
    (λ none. record {
      found = record { closes = count - 1; opens = count - 1; double = true };
      size = count;
      is_read = read ∙ cond-true _ _ _ (eq-eqb (middle_size following) 0 (omega arith)) ∙ alone_some count (omega (arith, size, long, is.several));
      long = omega (arith, long);
      same = λ e.
          let k : is.count ≡ count = sym size ∙ e in
          λ i. record { closes = (is.closes_is ∙ ap (λ n. n - 1) k) i; opens = (is.opens_is ∙ ap (λ n. n - 1) k) i; double = is.double_is i };
    })
    (cases_lt 0 (middle_size following))

pub bar_longest : (front rest : List ℕ) (bar : BarLine) → IsBar front bar → Finds (bar_at (front ++ rest)) front bar
bar_longest front rest bar is = ⊎_elim (λ strokes. strokes_longest front rest bar strokes) (λ alone. colons_longest front rest bar alone) is

-- the middle counted is one of the grammar
record Inner (text : List ℕ) : Type 0 where
  pub more : ℕ
  pub closed : Bool
  pub groups : List Strokes
  pub spelling : take (middle_from 124 text) text ≡ replicate more 124 ++ (closing closed ++ middle_text groups)

record Outer (before : ℕ) (text : List ℕ) : Type 0 where
  pub groups : List Strokes
  pub spelling : take (middle_from before text) text ≡ middle_text groups

group_first : (opened : Bool) (more : ℕ) (closed : Bool) (groups : List Strokes) → opening opened ++ (124 ∷
    (replicate more 124 ++ (closing closed ++ middle_text groups))) ≡ middle_text ((let s : Strokes = record { opened = opened; more = more; closed = closed } in s) ∷ groups)
group_first opened more closed groups =
    sym (append_assoc (opening opened) ((124 ∷ replicate more 124) ++ closing closed) (middle_text groups) ∙ ap (λ l. opening opened ++ l)
    (append_assoc (124 ∷ replicate more 124) (closing closed) (middle_text groups)))

outer_stroke : (before : ℕ) (bs : List ℕ) → Inner bs → Outer before (124 ∷ bs)
outer_stroke before bs h = record {
  groups = record { opened = false; more = h.more; closed = h.closed } ∷ h.groups;
  spelling = take_one_more (middle_from 124 bs) 124 bs ∙ ap (λ l. 124 ∷ l) h.spelling ∙ group_first false h.more h.closed h.groups;
}

outer_bracket : (before : ℕ) (cs : List ℕ) → Inner cs → Outer before (91 ∷ 124 ∷ cs)
outer_bracket before cs h = record {
  groups = record { opened = true; more = h.more; closed = h.closed } ∷ h.groups;
  spelling =
      take_one_more (1 + middle_from 124 cs) 91 (124 ∷ cs) ∙ ap (λ l. 91 ∷ l) (take_one_more (middle_from 124 cs) 124 cs ∙ ap (λ l. 124 ∷ l) h.spelling) ∙ group_first true h.more h.closed h.groups;
}

inner_stroke : (bs : List ℕ) → Inner bs → Inner (124 ∷ bs)
inner_stroke bs h = record {
  more = suc h.more;
  closed = h.closed;
  groups = h.groups;
  spelling = take_one_more (middle_from 124 bs) 124 bs ∙ ap (λ l. 124 ∷ l) h.spelling;
}

inner_close : (bs : List ℕ) → Outer 93 bs → Inner (93 ∷ bs)
inner_close bs h = record {
  more = 0;
  closed = true;
  groups = h.groups;
  spelling = take_one_more (middle_from 93 bs) 93 bs ∙ ap (λ l. 93 ∷ l) h.spelling;
}

inner_outer : (text : List ℕ) → Outer 124 text → Inner text
inner_outer text h = record { more = 0; closed = false; groups = h.groups; spelling = h.spelling }

outer_none : (before b : ℕ) (bs : List ℕ) → goes_on before b bs ≡ false → Outer before (b ∷ bs)
outer_none before b bs fails = record { groups = []; spelling = ap (λ n. take n (b ∷ bs)) (cond-false _ (1 + middle_from b bs) 0 fails) }

stops : (before b : ℕ) (bs : List ℕ) → (b ≡ 124 → ⊥) → ((b == 91) && begins_with_byte 124 bs) ≡ false → ((b == 93) && (before == 124)) ≡ false → goes_on before b bs ≡ false
stops before b bs no_stroke no_open no_close = or_from _ _ (or_from _ _ (ne_eqb b 124 no_stroke) no_open) no_close

-- a `[` goes on with a stroke
at_bracket : (before : ℕ) (bs : List ℕ) → ((c : ℕ) (cs : List ℕ) → bs ≡ c ∷ cs → Inner cs) → Outer before (91 ∷ bs)
at_bracket before [] more = outer_none before 91 [] refl
at_bracket before (c ∷ cs) more = ⊎_elim
    (λ e. subst (λ x. Outer before (91 ∷ x ∷ cs)) (sym e) (outer_bracket before cs (more c cs refl)))
    (λ ne. outer_none before 91 (c ∷ cs) (ap (λ t. t || false) (ne_eqb c 124 ne)))
    (cases_eq c 124)

outer_at : (before b : ℕ) (bs : List ℕ) → (before ≡ 124 → b ≡ 93 → ⊥) → Inner bs → ((c : ℕ) (cs : List ℕ) → bs ≡ c ∷ cs → Inner cs) → Outer before (b ∷ bs)
outer_at before b bs opens inner more = ⊎_elim
    (λ e. subst (λ x. Outer before (x ∷ bs)) (sym e) (outer_stroke before bs inner))
    (λ no_stroke. ⊎_elim
    (λ e. subst (λ x. Outer before (x ∷ bs)) (sym e) (at_bracket before bs more))
    (λ no_open. outer_none before b bs (stops before b bs no_stroke (and_left _ _ (ne_eqb b 91 no_open))
    (⊎_elim (λ e. and_right _ _ (ne_eqb before 124 (λ was. opens was e))) (λ ne. and_left _ _ (ne_eqb b 93 ne)) (cases_eq b 93))))
    (cases_eq b 91))
    (cases_eq b 124)

inner_at : (b : ℕ) (bs : List ℕ) → Inner bs → Outer 93 bs → ((c : ℕ) (cs : List ℕ) → bs ≡ c ∷ cs → Inner cs) → Inner (b ∷ bs)
inner_at b bs inner outer more = ⊎_elim
    (λ e. subst (λ x. Inner (x ∷ bs)) (sym e) (inner_stroke bs inner))
    (λ no_stroke. ⊎_elim
    (λ e. subst (λ x. Inner (x ∷ bs)) (sym e) (inner_close bs outer))
    (λ no_close. inner_outer (b ∷ bs) (outer_at 124 b bs (λ _ e. no_close e) inner more))
    (cases_eq b 93))
    (cases_eq b 124)

middle_is : (text : List ℕ) → Inner text × ((before : ℕ) → (before ≡ 124 → ⊥) → Outer before text)
middle_is [] = (record { more = 0; closed = false; groups = []; spelling = refl }, λ before no. record { groups = []; spelling = refl })
middle_is (b ∷ []) =
    let h = middle_is [] in
    let none : (c : ℕ) (cs : List ℕ) → [] ≡ c ∷ cs → Inner cs = λ c cs e. cc in
    (inner_at b [] h.0 (h.1 93 (λ e. absurd (omega arith))) none, λ before no. outer_at before b [] (λ e _. no e) h.0 none)
middle_is (b ∷ c ∷ cs) =
    let h = middle_is (c ∷ cs) in
    let next : (d : ℕ) (ds : List ℕ) → c ∷ cs ≡ d ∷ ds → Inner ds = λ d ds e. let same : cs ≡ ds = cc in subst Inner same (middle_is cs).0 in
    (inner_at b (c ∷ cs) h.0 (h.1 93 (λ e. absurd (omega arith))) next, λ before no. outer_at before b (c ∷ cs) (λ e _. no e) h.0 next)

middle_from-le : (before : ℕ) (text : List ℕ) → middle_from before text ≤ length text
middle_from-le before [] = omega arith
middle_from-le before (b ∷ bs) = ⊎_elim
    (λ yes. let count = cond-true _ (1 + middle_from b bs) 0 yes in let rest = middle_from-le b bs in omega (arith, count, rest))
    (λ fails. let count = cond-false _ (1 + middle_from b bs) 0 fails in omega (arith, count))
    (cases_Bool (goes_on before b bs))

groups_some : (groups : List Strokes) → 0 < length (middle_text groups) → 0 < length groups
groups_some [] some = absurd (omega arith)
groups_some (g ∷ gs) some = omega arith

strokes_sound : (text following : List ℕ) → following ≡ drop (colons text) text → 0 < middle_size following → IsSpelled IsBar text (with_middle (colons text) (middle_size following) following)
strokes_sound text following cut some =
    let middle = middle_size following in
    let after = drop middle following in
    let closes_in = prefix_len-le-length (λ b. b == colon) text in
    let opens_in = prefix_len-le-length (λ b. b == colon) after in
    let middle_in = middle_from-le 32 following in
    let groups = (middle_is following).1 32 (λ e. absurd (omega arith)) in
    let size : length (middle_text groups.groups) ≡ middle = ap length (sym groups.spelling) ∙ length-take-le middle following middle_in in
    let whole = cut_in_three (colons text) middle (colons after) text ∙ (λ i. take (colons text) text ++ (take middle (sym cut i) ++ take (colons after) (drop middle (sym cut i)))) in (
      record { some = omega (arith, some); inside = omega (arith, closes_in, opens_in, middle_in, ap length cut, length-drop (colons text) text, length-drop middle following) },
      inl (record {
        groups = groups.groups;
        some = groups_some groups.groups (omega (arith, size, some));
        spelling = whole ∙ (λ i. same_text 58 text i ++ (groups.spelling i ++ same_text 58 after i));
        double_is = ap is_double groups.spelling;
      }),
    )

alone_sound : (text : List ℕ) → IfSome (bar_of_colons (colons text)) (IsSpelled IsBar text)
alone_sound text =
    let count = colons text in
    cond_both (nat_lt count 2) _ _ (λ o. IfSome o (IsSpelled IsBar text))
    (λ _. tt)
    (λ more.
    let several = ltb-false count 2 more in (
      record { some = omega (arith, several); inside = prefix_len-le-length (λ b. b == colon) text },
      inr (record { count = count; several = several; spelling = same_text 58 text; closes_is = refl; opens_is = refl; double_is = refl }),
    ))

pub bar_sound : (text : List ℕ) → IfSome (bar_at text) (IsSpelled IsBar text)
unfolding bar_at
bar_sound text =
    let following = drop (colons text) text in
    cond_both (middle_size following == 0) _ _ (λ o. IfSome o (IsSpelled IsBar text))
    (λ _. alone_sound text)
    (λ fails. let some = eqb-false (middle_size following) 0 fails in strokes_sound text following refl (omega (arith, some)))
