-- The tuplet mark at the front of a text is the longest one that the grammar has there.
use Rattle.std.proofs.Common.{◌≡◌, ℕ, suc, ◌+◌, ◌≤◌, ◌<◌, Option, Some, None, List, [], ◌∷◌, ◌++◌, length, take, drop, refl, sym, ap, ◌∙◌, subst, inl, inr, ⊎_elim, arith, append_assoc, length-append}
use Rattle.std.proofs.Common.{length-drop, length-take-le}
use Rattle.std.specs.Prelude.{IfSome, ◌==◌}
use Rattle.std.specs.List.{prefix_len}
use Rattle.std.specs.Option.{option_map}
use Rattle.std.proofs.lemmas.Bool.{cond-true, cond-false, cases_Bool, cond_both, eqb-true}
use Rattle.std.proofs.lemmas.Option.{some_pair_parts}
use Rattle.abc_text.specs.Digit.{is_digit}
use Rattle.abc_text.specs.Number.{IsNumber}
use Rattle.abc_text.proofs.Fronts.{drop_exact}
use Rattle.abc_scan.specs.declared.tuplet.Tuplet.{Tuplet}
use Rattle.abc_scan.specs.Front.{after_byte}
use Rattle.abc_scan.specs.Number.{number_at, optional, optional_number_at}
use Rattle.abc_scan.specs.Tuplet.{HasColon, IsFurther, IsTuplet, further_at, tuplet_after, tuplet_at}
use Rattle.abc_scan.proofs.Marks.{take_one_more, cut_in_three}
use Rattle.abc_scan.proofs.Readings.{Finds, Covers, IsSpelled, mapped, covers_both, byte_first}
use Rattle.abc_scan.proofs.Numbers.{number_longest, number_exact, number_sound, number_none, optional_number_longest, optional_number_sound}

-- a further number: at least as long is read, and if not longer the same
none_short : (text : List ℕ) → 0 ≡ (further_at text).1 → None ≡ (further_at text).0
none_short [] e = refl
none_short (b ∷ bs) e = ⊎_elim
    (λ yes. let size = ap (λ (x : Option ℕ × ℕ). x.1) (cond-true (b == 58) (after_byte (optional_number_at bs)) (None, 0) yes) in absurd (omega (arith, e, size)))
    (λ fails. sym (ap (λ (x : Option ℕ × ℕ). x.0) (cond-false (b == 58) (after_byte (optional_number_at bs)) (None, 0) fails)))
    (cases_Bool (b == 58))

further_longest : (front rest : List ℕ) (value : Option ℕ) → IsFurther front value → Covers (further_at (front ++ rest)) front value
further_longest front rest value is = ⊎_elim
    (λ (none : (front ≡ []) × (value ≡ None)). let empty = ap length none.0 in (omega (arith, empty), λ e. none.1 ∙ none_short (front ++ rest) (omega (arith, empty, e))))
    (λ (some : HasColon front value).
    let long : length front ≡ suc (length some.written) = ap length some.spelling in
    let number = optional_number_longest some.written rest value some.value_is in
    subst (λ l. Covers (further_at (l ++ rest)) front value) (sym some.spelling) (omega (arith, long, number.0), λ e. number.1 (omega (arith, long, e))))
    is

-- if no digit follows, the same number is read
further_exact : (front rest : List ℕ) (value : Option ℕ) → HasColon front value → prefix_len is_digit rest ≡ 0 → further_at (front ++ rest) ≡ (value, length front)
further_exact front rest None is none =
    let empty : front ≡ 58 ∷ [] = is.spelling ∙ ap (λ l. 58 ∷ l) is.value_is in
    let read : optional_number_at rest ≡ (None, 0) = ap optional (number_none rest none) in
    ap (λ l. further_at (l ++ rest)) empty ∙ ap after_byte read ∙ ap (λ n. (None, n)) (sym (ap length empty))
further_exact front rest (Some n) is none =
    let read : optional_number_at (is.written ++ rest) ≡ (Some n, length is.written) = ap optional (number_exact is.written rest n is.value_is none) in
    let size : 1 + length is.written ≡ length front = omega (arith, ap length is.spelling) in
    ap (λ l. further_at (l ++ rest)) is.spelling ∙ ap after_byte read ∙ ap (λ k. (Some n, k)) size

-- a further number that is written begins with no digit
no_digit : (front rest : List ℕ) (value : Option ℕ) → IsFurther front value → 0 < length front → prefix_len is_digit (front ++ rest) ≡ 0
no_digit front rest value is some = ⊎_elim
    (λ (none : (front ≡ []) × (value ≡ None)). absurd (omega (arith, some, ap length none.0)))
    (λ (colon : HasColon front value). ap (λ l. prefix_len is_digit (l ++ rest)) colon.spelling)
    is

further_ends : (front rest : List ℕ) (value : Option ℕ) → IsFurther front value → 0 < length front → prefix_len is_digit rest ≡ 0 → (further_at (front ++ rest)).1 ≡ length front
further_ends front rest value is some none = ⊎_elim
    (λ (no_colon : (front ≡ []) × (value ≡ None)). absurd (omega (arith, some, ap length no_colon.0)))
    (λ (colon : HasColon front value). ap (λ (x : Option ℕ × ℕ). x.1) (further_exact front rest value colon none))
    is

-- q and r: without q there is no r
first_written : (q_text r_text : List ℕ) → (q_text ≡ [] → r_text ≡ []) → 0 < length (q_text ++ r_text) → 0 < length q_text
first_written [] r_text first some = absurd (omega (arith, some, ap length (first refl)))
first_written (b ∷ bs) r_text first some = omega arith

abbrev read_further : List ℕ → (Option ℕ × Option ℕ) × ℕ
read_further text = let q = further_at text in let r = further_at (drop q.1 text) in ((q.0, r.0), q.1 + r.1)

both_cover : (q_text r_text rest : List ℕ) (q r : Option ℕ) → IsFurther q_text q → IsFurther r_text r → (q_text ≡ [] → r_text ≡ [])
    → Covers (read_further (q_text ++ (r_text ++ rest))) (q_text ++ r_text) (q, r)
both_cover q_text r_text rest q r q_is r_is q_first =
    let text = q_text ++ (r_text ++ rest) in
    let size = (further_at text).1 in
    covers_both (further_at text) (further_at (drop size text)) q_text r_text q r (further_longest q_text (r_text ++ rest) q q_is)
    (λ exact. subst (λ l. Covers (further_at l) r_text r) (sym (drop_exact size q_text (r_text ++ rest) (sym exact))) (further_longest r_text rest r r_is))
    (λ some.
    let written = first_written q_text r_text q_first (omega (arith, some, length-append q_text r_text)) in
    let ends = further_ends q_text (r_text ++ rest) q q_is written (no_digit r_text rest r r_is some) in
    omega (arith, ends))

pub tuplet_longest : (front rest : List ℕ) (tuplet : Tuplet) → IsTuplet front tuplet → Finds (tuplet_at (front ++ rest)) front tuplet
unfolding tuplet_at
tuplet_longest front rest tuplet is =
    let further = is.q_text ++ is.r_text in
    let tail = is.q_text ++ (is.r_text ++ rest) in
    let text = is.p_text ++ tail in
    let parts : front ++ rest ≡ 40 ∷ text =
    ap (λ l. l ++ rest) is.spelling ∙ ap (λ l. 40 ∷ l) (append_assoc is.p_text further rest ∙ ap (λ l. is.p_text ++ l) (append_assoc is.q_text is.r_text rest)) in
    let p = number_longest is.p_text tail tuplet.p is.p_is in
    let following = drop p.size text in
    let covers = covers_both (p.found, p.size) (read_further following) is.p_text further tuplet.p (tuplet.q, tuplet.r) (p.long, p.same)
    (λ exact. subst (λ l. Covers (read_further l) further (tuplet.q, tuplet.r)) (sym (drop_exact p.size is.p_text tail (sym exact)))
    (both_cover is.q_text is.r_text rest tuplet.q tuplet.r is.q_is is.r_is is.q_first))
    (λ some.
    let none = no_digit is.q_text (is.r_text ++ rest) tuplet.q is.q_is (first_written is.q_text is.r_text is.q_first some) in
    let parts = some_pair_parts p.found tuplet.p p.size (length is.p_text) (sym p.is_read ∙ number_exact is.p_text tail tuplet.p is.p_is none) in
    omega (arith, parts.1)) in
    let long = ap length is.spelling in
    record {
      found = (tuplet_after text (p.found, p.size)).0;
      size = (tuplet_after text (p.found, p.size)).1;
      is_read = ap tuplet_at parts ∙ ap (option_map (tuplet_after text)) p.is_read;
      long = omega (arith, long, covers.0);
      same = λ e. let same = covers.1 (omega (arith, long, e)) in λ i. record { p = (same i).0; q = (same i).1.0; r = (same i).1.1 };
    }

-- and it is one
further_sound : (text : List ℕ) → ((further_at text).1 ≤ length text) × IsFurther (take (further_at text).1 text) (further_at text).0
further_sound [] = (omega arith, inl (refl, refl))
further_sound (b ∷ bs) =
    let n = (optional_number_at bs).1 in
    let number = optional_number_sound bs in
    cond_both (b == 58) (after_byte (optional_number_at bs)) (None, 0) (λ (x : Option ℕ × ℕ). (x.1 ≤ length (b ∷ bs)) × IsFurther (take x.1 (b ∷ bs)) x.0)
    (λ yes. (
      omega (arith, number.0),
      inr (record { written = take n bs; spelling = take_one_more n b bs ∙ ap (λ x. x ∷ take n bs) (eqb-true b 58 yes); value_is = number.1 }),
    ))
    (λ _. (omega arith, inl (refl, refl)))

-- without q no r is read
further_twice : (text : List ℕ) → take (further_at text).1 text ≡ [] → take (further_at (drop (further_at text).1 text)).1 (drop (further_at text).1 text) ≡ []
further_twice text empty =
    let inside = (further_sound text).0 in
    let none : (further_at text).1 ≡ 0 = omega (arith, ap length empty, length-take-le (further_at text).1 text inside) in
    ap (λ n. take (further_at (drop n text)).1 (drop n text)) none ∙ empty

tuplet_here : (rest : List ℕ) (p : ℕ × ℕ) → IsSpelled IsNumber rest p → IsSpelled IsTuplet (40 ∷ rest) (tuplet_after rest p)
tuplet_here rest p is =
    let following = drop p.1 rest in
    let q = further_at following in
    let r = further_at (drop q.1 following) in
    let q_sound = further_sound following in
    let r_sound = further_sound (drop q.1 following) in
    let sum : 1 + p.1 + q.1 + r.1 ≡ suc (p.1 + q.1 + r.1) = omega arith in (
      record { some = omega arith; inside = omega (arith, is.0.inside, q_sound.0, r_sound.0, length-drop p.1 rest, length-drop q.1 following) },
      record {
        p_text = take p.1 rest;
        q_text = take q.1 following;
        r_text = take r.1 (drop q.1 following);
        spelling = ap (λ n. take n (40 ∷ rest)) sum ∙ ap (λ l. 40 ∷ l) (cut_in_three p.1 q.1 r.1 rest);
        p_is = is.1;
        q_is = q_sound.1;
        r_is = r_sound.1;
        q_first = further_twice following;
      },
    )

pub tuplet_sound : (text : List ℕ) → IfSome (tuplet_at text) (IsSpelled IsTuplet text)
unfolding tuplet_at
tuplet_sound [] = tt
tuplet_sound (b ∷ rest) =
    byte_first (IsSpelled IsTuplet) 40 b rest (option_map (tuplet_after rest) (number_at rest)) None
    (mapped (IsSpelled IsNumber rest) (IsSpelled IsTuplet (40 ∷ rest)) (tuplet_after rest) (number_at rest) (λ p is. tuplet_here rest p is) (number_sound rest)) tt
