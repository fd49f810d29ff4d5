-- Trimming blanks by characters trims them by bytes: a blank is one byte and one piece.
use Rattle.std.proofs.Common.{◌≡◌, ℕ, zero, suc, ◌+◌, ◌-◌, ◌<◌, ◌≤◌, Bool, true, false, cond, List, [], ◌∷◌, ◌++◌, length, take, drop, get_or, slice_index, Option, Some, None, refl, sym, ap, ◌∙◌}
use Rattle.std.proofs.Common.{⊎_elim, arith, length-append, length-drop}
use Rattle.std.specs.Char.{encode_utf8}
use Rattle.std.specs.List.{prefix_len}
use Rattle.std.proofs.lemmas.Bool.{cond-true, cond-false, cases_Bool, cases_lt, lt-ltb, false≢true}
use Rattle.std.proofs.lemmas.Bool.Decides.{nat_tests}
use Rattle.std.proofs.lemmas.List.{get_or-append-add, get_or-drop, drop_all}
use Rattle.std.proofs.lemmas.List.Elements.{All-head, All-tail}
use Rattle.bstr.specs.Trim.{kept_start, kept_end, trim_start_by, trim_end_by}
use Rattle.bstr.specs.Utf8.{Decoded, decoded, good, or_replacement, pieces, spans_from}
use Rattle.bstr.proofs.lemmas.PieceLemmas.{value-1, piece-bounds, pieces-append, StartsClean, spans-first, spans-nil}
use Rattle.bstr.proofs.lemmas.SoundLemmas.{SpellsChar-decoded}
use Rattle.bstr.proofs.lemmas.TrimLemmas.{kept-skip, kept-stop, kept-nil, kept_end-nil}
use Rattle.abc_text.specs.Blank.{is_blank, trim_start, trim_end, trim_blanks, AreBlanks}
use Rattle.abc_text.proofs.Fronts.{take_exact}
use Rattle.abc_text.proofs.Blanks.{trim_end-parts, trim_end-stops}

blank_small : (b : ℕ) → is_blank b ≡ true → b < 128
blank_small b h = grind (arith, nat_tests)

-- a blank that a text begins with is its first piece
blank_first : (b : ℕ) (bs : List ℕ) → is_blank b ≡ true → decoded (b ∷ bs) ≡ good b 1
blank_first b bs h = value-1 (length (b ∷ bs)) b (slice_index (b ∷ bs) 1) (slice_index (b ∷ bs) 2) (slice_index (b ∷ bs) 3) (omega arith, blank_small b h)

blank_some : (o : Option ℕ) → is_blank (or_replacement o) ≡ true → o ≡ Some (or_replacement o)
blank_some None h = absurd (false≢true h)
blank_some (Some c) h = refl

blank_encoded : (c : ℕ) → is_blank c ≡ true → encode_utf8 c ≡ c ∷ []
unfolding encode_utf8
blank_encoded c h = cond-true _ _ _ (lt-ltb c 128 (blank_small c h))

-- a first piece that reads as a blank is one byte, that blank
abbrev first_char : List ℕ → ℕ
first_char bs = or_replacement (decoded bs).char

first_blank : (bs : List ℕ) → is_blank (first_char bs) ≡ true → (bs ≡ first_char bs ∷ drop (decoded bs).size bs) × ((decoded bs).size ≡ 1)
first_blank bs h =
    let c = first_char bs in
    let spells = SpellsChar-decoded bs c (blank_some (decoded bs).char h) in
    let encoded = blank_encoded c h in
    (spells.bytes ∙ ap (λ l. l ++ drop (decoded bs).size bs) encoded, sym spells.width ∙ ap length encoded)

first_other : (b : ℕ) (bs : List ℕ) → is_blank b ≡ false → is_blank (first_char (b ∷ bs)) ≡ false
first_other b bs h = ⊎_elim
    (λ yes.
    let first : b ≡ first_char (b ∷ bs) = let e = (first_blank (b ∷ bs) yes).0 in cc in
    absurd (false≢true (sym h ∙ ap is_blank first ∙ yes)))
    (λ no. no)
    (cases_Bool (is_blank (first_char (b ∷ bs))))

spans-blank : (b : ℕ) (bs : List ℕ) (off : ℕ) → is_blank b ≡ true → spans_from off (pieces (b ∷ bs)) ≡ (off, off + 1, b) ∷ spans_from (off + 1) (pieces bs)
spans-blank b bs off h =
    spans-first (b ∷ bs) off (omega arith)
    ∙ ap (λ (p : Decoded). (off, off + p.size, or_replacement p.char) ∷ spans_from (off + p.size) (pieces (drop p.size (b ∷ bs)))) (blank_first b bs h)

-- at the start
starts : (bs : List ℕ) (off n : ℕ) → n ≡ off + length bs → kept_start is_blank n (spans_from off (pieces bs)) ≡ off + prefix_len is_blank bs
starts [] off n e = ap (kept_start is_blank n) (spans-nil [] off refl) ∙ kept-nil is_blank n ∙ e
starts (b ∷ bs) off n e = ⊎_elim
    (λ yes.
    let more : prefix_len is_blank (b ∷ bs) ≡ 1 + prefix_len is_blank bs = cond-true (is_blank b) _ _ yes in
    let rest = starts bs (off + 1) n (omega arith) in
    let here = ap (kept_start is_blank n) (spans-blank b bs off yes) ∙ kept-skip is_blank n (off, off + 1, b) (spans_from (off + 1) (pieces bs)) yes in
    omega (arith, here, rest, more))
    (λ no.
    let none : prefix_len is_blank (b ∷ bs) ≡ 0 = cond-false (is_blank b) _ _ no in
    let here = ap (kept_start is_blank n) (spans-first (b ∷ bs) off (omega arith)) ∙ kept-stop is_blank n _ _ (first_other b bs no) in
    omega (arith, here, none))
    (cases_Bool (is_blank b))

pub trim_start_by_blanks : (text : List ℕ) → trim_start_by is_blank text ≡ trim_start text
unfolding trim_start
trim_start_by_blanks text =
    let size : kept_start is_blank (length text) (spans_from 0 (pieces text)) ≡ prefix_len is_blank text = omega (arith, starts text 0 (length text) (omega arith)) in
    ap (λ k. drop k text) size

-- at the end
kept_end-append : (t : ℕ → Bool) (a : ℕ) (xs ys : List (ℕ × ℕ × ℕ)) → kept_end t a (xs ++ ys) ≡ kept_end t (kept_end t a xs) ys
unfolding kept_end
kept_end-append t a [] ys = refl
kept_end-append t a (x ∷ xs) ys = kept_end-append t (cond (t x.2) a x.1) xs ys

spans-append : (off : ℕ) (ps qs : List Decoded) → (at : ℕ) × (spans_from off (ps ++ qs) ≡ spans_from off ps ++ spans_from at qs)
unfolding spans_from
spans-append off [] qs = (off, refl)
spans-append off (p ∷ ps) qs =
    let rest = spans-append (off + p.size) ps qs in
    (rest.0, ap (λ l. (off, off + p.size, or_replacement p.char) ∷ l) rest.1)

kept_end-step : (t : ℕ → Bool) (a : ℕ) (s : ℕ × ℕ × ℕ) (ss : List (ℕ × ℕ × ℕ)) → kept_end t a (s ∷ ss) ≡ kept_end t (cond (t s.2) a s.1) ss
unfolding kept_end
kept_end-step t a s ss = refl

-- leading blanks do not move the end
blanks_end : (gap : List ℕ) (off a : ℕ) → AreBlanks gap → kept_end is_blank a (spans_from off (pieces gap)) ≡ a
blanks_end [] off a h = ap (kept_end is_blank a) (spans-nil [] off refl) ∙ kept_end-nil is_blank a
blanks_end (b ∷ bs) off a h =
    let yes = All-head (λ y. is_blank y ≡ true) b bs h in
    ap (kept_end is_blank a) (spans-blank b bs off yes)
    ∙ kept_end-step is_blank a (off, off + 1, b) (spans_from (off + 1) (pieces bs))
    ∙ ap (λ e. kept_end is_blank e (spans_from (off + 1) (pieces bs))) (cond-true (is_blank b) a (off + 1) yes)
    ∙ blanks_end bs (off + 1) a (All-tail (λ y. is_blank y ≡ true) b bs h)

-- a text of one piece that does not end with a blank does not read as a blank
whole_other : (text : List ℕ) → (decoded text).size ≡ length text → is_blank (get_or text (length text - 1) 0) ≡ false → is_blank (first_char text) ≡ false
whole_other text whole last = ⊎_elim
    (λ yes.
    let first = first_blank text yes in
    let at : length text - 1 ≡ 0 = omega (arith, first.1) in
    let same : get_or text (length text - 1) 0 ≡ first_char text = ap (λ k. get_or text k 0) at ∙ ap (λ t. get_or t 0 0) first.0 in
    absurd (false≢true (sym last ∙ ap is_blank same ∙ yes)))
    (λ no. no)
    (cases_Bool (is_blank (first_char text)))

-- a text that does not end with a blank stays whole
ends : (fuel : ℕ) (text : List ℕ) (off a : ℕ) → length text ≤ fuel → 0 < length text → is_blank (get_or text (length text - 1) 0) ≡ false
    → kept_end is_blank a (spans_from off (pieces text)) ≡ off + length text
ends zero text off a le some last = absurd (omega arith)
ends (suc fuel) text off a le some last =
    let s = (decoded text).size in
    let rest = drop s text in
    let e = cond (is_blank (first_char text)) a (off + s) in
    let bounds = piece-bounds text some in
    let left = length-drop s text in
    let step : kept_end is_blank a (spans_from off (pieces text)) ≡ kept_end is_blank e (spans_from (off + s) (pieces rest)) =
    ap (kept_end is_blank a) (spans-first text off some) ∙ kept_end-step is_blank a (off, off + s, first_char text) (spans_from (off + s) (pieces rest)) in
    ⊎_elim
    (λ more.
    let place : s + (length rest - 1) ≡ length text - 1 = omega arith in
    let same : get_or rest (length rest - 1) 0 ≡ get_or text (length text - 1) 0 = get_or-drop s text (length rest - 1) 0 ∙ ap (λ k. get_or text k 0) place in
    let tail = ends fuel rest (off + s) e (omega arith) (omega arith) (ap is_blank same ∙ last) in
    step ∙ tail ∙ (omega arith))
    (λ over.
    let whole : s ≡ length text = omega arith in
    let done : rest ≡ [] = drop_all s text (omega arith) in
    step ∙ ap (kept_end is_blank e) (spans-nil rest (off + s) done) ∙ kept_end-nil is_blank e
    ∙ cond-false _ _ _ (whole_other text whole last) ∙ ap (λ k. off + k) whole)
    (cases_lt s (length text))

last_of : (text xs : List ℕ) (y : ℕ) → text ≡ xs ++ y ∷ [] → get_or text (length text - 1) 0 ≡ y
last_of text xs y e =
    let long : length text - 1 ≡ length xs + 0 = omega (arith, ap length e, length-append xs (y ∷ [])) in
    ap (λ k. get_or text k 0) long ∙ ap (λ t. get_or t (length xs + 0) 0) e ∙ get_or-append-add xs (y ∷ []) 0 0

kept_all : (text : List ℕ) → kept_end is_blank 0 (spans_from 0 (pieces (trim_end text))) ≡ length (trim_end text)
kept_all text = ⊎_elim
    (λ none. ap (kept_end is_blank 0) (spans-nil (trim_end text) 0 none) ∙ kept_end-nil is_blank 0 ∙ sym (ap length none))
    (λ some.
    let e : trim_end text ≡ some.0 ++ some.1 ∷ [] = some.2 in
    let long : 0 < length (trim_end text) = omega (arith, ap length e, length-append some.0 (some.1 ∷ [])) in
    let kept = ends (length (trim_end text)) (trim_end text) 0 0 (omega arith) long (ap is_blank (last_of (trim_end text) some.0 some.1 e) ∙ some.3) in
    omega (arith, kept))
    (trim_end-stops text)

clean : (gap : List ℕ) → AreBlanks gap → StartsClean gap
clean [] h some = absurd (omega arith)
clean (b ∷ bs) h some = let small = blank_small b (All-head (λ y. is_blank y ≡ true) b bs h) in grind (arith, nat_tests)

pub trim_end_by_blanks : (text : List ℕ) → trim_end_by is_blank text ≡ trim_end text
trim_end_by_blanks text =
    let parts = trim_end-parts text in
    let front = trim_end text in
    let gap : List ℕ = parts.0 in
    let e : text ≡ front ++ gap = parts.1 in
    let blanks : AreBlanks gap = parts.2 in
    let spans = spans-append 0 (pieces front) (pieces gap) in
    let kept : kept_end is_blank 0 (spans_from 0 (pieces text)) ≡ length front =
    ap (λ t. kept_end is_blank 0 (spans_from 0 (pieces t))) e
    ∙ ap (λ l. kept_end is_blank 0 (spans_from 0 l)) (pieces-append (length front) front gap (omega arith) (clean gap blanks))
    ∙ ap (kept_end is_blank 0) spans.1
    ∙ kept_end-append is_blank 0 (spans_from 0 (pieces front)) (spans_from spans.0 (pieces gap))
    ∙ blanks_end gap spans.0 _ blanks
    ∙ kept_all text in
    ap (λ k. take k text) kept ∙ ap (take (length front)) e ∙ take_exact (length front) front gap refl

-- at both ends
pub trim_by_blanks : (text : List ℕ) → trim_end_by is_blank (trim_start_by is_blank text) ≡ trim_blanks text
unfolding trim_blanks
trim_by_blanks text = ap (trim_end_by is_blank) (trim_start_by_blanks text) ∙ trim_end_by_blanks (trim_start text)
