-- Clefs are read by their grammar.
use Rattle.std.proofs.Common.{◌≡◌, ◌≤◌, ◌-◌, ℕ, ℤ, true, false, ◌&&◌, List, [], ◌∷◌, ◌++◌, length, get_or, take, codes, Option, Some, None, refl, sym, ap, ◌∙◌, subst, inl, inr, ⊎_elim, arith}
use Rattle.std.proofs.Common.{append-nil, length-append}
use Rattle.std.specs.Prelude.{pos, negsuc, nat_le, nat_eq, All, slice_index}
use Rattle.std.specs.List.{Contains, ends_with}
use Rattle.std.specs.Option.{unwrap_or}
use Rattle.std.proofs.Math.Seq.{get_or-append_seam, take-append_seam}
use Rattle.std.proofs.lemmas.Bool.{cond-true, cond-false, cases_Bool, and_parts, and_from, or_cases, le-leb, leb-true, false_from_ne_true}
use Rattle.std.proofs.lemmas.Bool.Decides.{Decides-eqb}
use Rattle.std.proofs.lemmas.List.Elements.{All-nil, All-cons, All-contains}
use Rattle.std.proofs.lemmas.List.Prefix.{end_rest}
use Rattle.std.proofs.lemmas.Slice.Eq.{ends_is}
use Rattle.abc_text.proofs.Fronts.{last_split}
use Rattle.abc_fields.specs.Clef.{mark_of, clef_of, names_clef, without_line, is_clef_name}
use Rattle.abc_fields.proofs.Readings.{branches, named}
use Rattle.abc_fields.specs.Spelling.Clef.{EndsIn, HasMark, HasNoMark, IsClef, clef_names, IsClefName}

-- the mark of a clef
ends_true : (text end : List ℕ) → ends_with nat_eq text end ≡ true → EndsIn text end
ends_true text end e = (take (length text - length end) text, (ends_is Decides-eqb text end (ends_with nat_eq text end) refl).0 e)

ends_from : (text end : List ℕ) → EndsIn text end → ends_with nat_eq text end ≡ true
ends_from text end is = (ends_is Decides-eqb text end (ends_with nat_eq text end) refl).1 is.0 is.1

one_end : (text : List ℕ) → EndsIn text (codes "-8") → EndsIn text (codes "+8") → ⊥
one_end text low high =
    let e : codes "-8" ≡ codes "+8" = sym (end_rest text (codes "-8") low.0 low.1) ∙ end_rest text (codes "+8") high.0 high.1 in
    let first : 45 ≡ 43 = ap (λ l. get_or l 0 0) e in
    omega (arith, first)

pub mark_read : (text : List ℕ) (n : ℤ) → mark_of text ≡ Some n → HasMark text n
unfolding mark_of
mark_read text n e = ⊎_elim
    (λ high. inl (ends_true text _ high.0, let same : Some (pos 12) ≡ Some n = high.1 in cc))
    (λ rest. ⊎_elim
    (λ low. inr (ends_true text _ low.0, let same : Some (negsuc 11) ≡ Some n = low.1 in cc))
    (λ no_low. let none : None ≡ Some n = no_low.1 in cc)
    (branches (ends_with nat_eq text (codes "-8")) _ _ _ rest.1))
    (branches (ends_with nat_eq text (codes "+8")) _ _ _ e)

pub mark_known : (text : List ℕ) (n : ℤ) → HasMark text n → mark_of text ≡ Some n
unfolding mark_of
mark_known text n has = ⊎_elim
    (λ high. cond-true _ _ _ (ends_from text (codes "+8") high.0) ∙ ap Some (sym high.1))
    (λ low.
    let no_high : ends_with nat_eq text (codes "+8") ≡ false = false_from_ne_true _ (λ e. one_end text low.0 (ends_true text _ e)) in
    cond-false _ _ _ no_high ∙ cond-true _ _ _ (ends_from text (codes "-8") low.0) ∙ ap Some (sym low.1))
    has

pub no_mark_read : (text : List ℕ) → mark_of text ≡ None → HasNoMark text
no_mark_read text e n has = let some : None ≡ Some n = sym e ∙ mark_known text n has in cc

no_mark_from : (text : List ℕ) (o : Option ℤ) → mark_of text ≡ o → HasNoMark text → o ≡ None
no_mark_from text None e has = refl
no_mark_from text (Some n) e has = absurd (has n (mark_read text n e))

pub no_mark_known : (text : List ℕ) → HasNoMark text → mark_of text ≡ None
no_mark_known text has = no_mark_from text (mark_of text) refl has

pub clef_by : (text : List ℕ) (o : Option ℤ) → mark_of text ≡ o → IsClef text (unwrap_or o (pos 0))
clef_by text None e = inr (no_mark_read text e, refl)
clef_by text (Some n) e = inl (mark_read text n e)

pub clef_known : (text : List ℕ) (n : ℤ) → IsClef text n → clef_of text ≡ n
clef_known text n is = ⊎_elim
    (λ has. ap (λ o. unwrap_or o (pos 0)) (mark_known text n has))
    (λ none. ap (λ o. unwrap_or o (pos 0)) (no_mark_known text none.0) ∙ sym none.1)
    is

-- the name of a clef
names_from : (name : List ℕ) → names_clef name ≡ true → Contains clef_names name
unfolding names_clef
names_from name e = ⊎_elim
    (λ e. ⊎_elim
    (λ e. ⊎_elim
    (λ e. ⊎_elim
    (λ t. (0, omega arith, named name (codes "treble") t))
    (λ t. (1, omega arith, named name (codes "bass") t))
    (or_cases _ _ e))
    (λ t. (2, omega arith, named name (codes "alto") t))
    (or_cases _ _ e))
    (λ t. (3, omega arith, named name (codes "tenor") t))
    (or_cases _ _ e))
    (λ t. (4, omega arith, named name (codes "perc") t))
    (or_cases _ _ e)

abbrev NamesIt : List ℕ → Type 0
NamesIt name = (names_clef name ≡ true) × (without_line name ≡ name)

all_names : All NamesIt clef_names
unfolding names_clef without_line
all_names =
    All-cons NamesIt (codes "treble") (codes "bass" ∷ codes "alto" ∷ codes "tenor" ∷ codes "perc" ∷ []) (refl, refl)
    (All-cons NamesIt (codes "bass") (codes "alto" ∷ codes "tenor" ∷ codes "perc" ∷ []) (refl, refl)
    (All-cons NamesIt (codes "alto") (codes "tenor" ∷ codes "perc" ∷ []) (refl, refl)
    (All-cons NamesIt (codes "tenor") (codes "perc" ∷ []) (refl, refl)
    (All-cons NamesIt (codes "perc") [] (refl, refl) (All-nil NamesIt)))))

-- a word without the line of a clef
line_from : (word : List ℕ) → (nat_le 49 (slice_index word (length word - 1)) && nat_le (slice_index word (length word - 1)) 53) ≡ true
    → Contains clef_names (take (length word - 1) word) → IsClefName word
line_from [] test named = cc
line_from (b ∷ bs) test named =
    let word = b ∷ bs in
    let digit = slice_index word (length word - 1) in
    let both = and_parts (nat_le 49 digit) (nat_le digit 53) test in
    record {
      name = take (length word - 1) word;
      line = digit ∷ [];
      spelling = last_split word (omega arith);
      is_name = named;
      is_line = inr (digit, leb-true 49 digit both.0, leb-true digit 53 both.1, refl);
    }

pub name_from : (word : List ℕ) → is_clef_name word ≡ true → IsClefName word
unfolding without_line
name_from word e = ⊎_elim
    (λ t. line_from word t (names_from (take (length word - 1) word) (ap names_clef (sym (cond-true _ (take (length word - 1) word) word t)) ∙ e)))
    (λ t. record {
      name = word;
      line = [];
      spelling = sym (append-nil word);
      is_name = names_from word (ap names_clef (sym (cond-false _ (take (length word - 1) word) word t)) ∙ e);
      is_line = inl refl;
    })
    (cases_Bool (nat_le 49 (slice_index word (length word - 1)) && nat_le (slice_index word (length word - 1)) 53))

with_line : (name : List ℕ) (digit : ℕ) → 49 ≤ digit → digit ≤ 53 → without_line (name ++ digit ∷ []) ≡ name
unfolding without_line
with_line name digit least most =
    let word = name ++ digit ∷ [] in
    let front : length word - 1 ≡ length name = omega (arith, length-append name (digit ∷ [])) in
    let last : digit ≡ slice_index word (length word - 1) = sym (get_or-append_seam name digit [] 0) ∙ ap (slice_index word) (sym front) in
    let test : (nat_le 49 (slice_index word (length word - 1)) && nat_le (slice_index word (length word - 1)) 53) ≡ true =
    subst (λ d. (nat_le 49 d && nat_le d 53) ≡ true) last (and_from (nat_le 49 digit) (nat_le digit 53) (le-leb 49 digit least) (le-leb digit 53 most)) in
    cond-true _ _ _ test ∙ ap (λ n. take n word) front ∙ take-append_seam name (digit ∷ [])

pub name_to : (word : List ℕ) → IsClefName word → is_clef_name word ≡ true
name_to word h =
    let known : NamesIt h.name = All-contains NamesIt clef_names h.name all_names h.is_name in
    ⊎_elim
    (λ bare. ap is_clef_name (h.spelling ∙ ap (λ l. h.name ++ l) bare ∙ append-nil h.name) ∙ ap names_clef known.1 ∙ known.0)
    (λ line. ap is_clef_name (h.spelling ∙ ap (λ l. h.name ++ l) line.3) ∙ ap names_clef (with_line h.name line.0 line.1 line.2) ∙ known.0)
    h.is_line
