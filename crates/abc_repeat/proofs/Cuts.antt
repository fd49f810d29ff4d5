-- The cutting of marks into the texts of strains.
use Rattle.std.proofs.Common.{◌≡◌, ℕ, suc, ◌+◌, ◌-◌, ◌<◌, Bool, false, ◌⊎◌, List, [], ◌∷◌, ◌++◌, length, map, get_or, drop, refl, sym, ap, ◌∙◌, inl, inr, ⊎_elim, arith, append_assoc}
use Rattle.std.proofs.Math.Seq.{drop-append_seam}
use Rattle.std.proofs.lemmas.Bool.{cases_Bool, cond-true, cond-false}
use Rattle.abc_repeat.specs.declared.mark.Mark.{Mark}
use Rattle.abc_repeat.specs.declared.mark.Mark.TheVariants as marks
use Rattle.abc_repeat.specs.Mark.{is_ending, opens_next}
use Rattle.abc_repeat.specs.Strain.{text_of, strain_of, ends_strain, put_first, texts_of, front_of, first_text, opens_after, strains_from}
use Rattle.abc_repeat.specs.Play.{plays_from, strain_play}

-- the marks of the strain of a text are the text
pub text_back : (ms : List Mark) → text_of (strain_of ms) ≡ ms
text_back [] = refl
text_back (marks.Play ∷ ms) = ap (λ l. marks.Play ∷ l) (text_back ms)
text_back (marks.Bar closes opens double ∷ ms) = ap (λ l. marks.Bar closes opens double ∷ l) (text_back ms)
text_back (marks.Ending numbers ∷ ms) = ap (λ l. marks.Ending numbers ∷ l) (text_back ms)

-- the first text ends with a bar, and the others are those of the rest
pub record IsCut (opened inside : Bool) (ms : List Mark) : Type 0 where
  pub front : List Mark
  pub bar : Mark
  pub rest : List Mark
  pub whole : ms ≡ front ++ bar ∷ rest
  pub texts : texts_of opened inside ms ≡ (front ++ bar ∷ []) ∷ texts_of (opens_next bar) false rest

-- the marks are one text
abbrev pub IsOne : Bool → Bool → List Mark → Type 0
IsOne opened inside ms = texts_of opened inside ms ≡ ms ∷ []

pub one_or_cut : (opened inside : Bool) (ms : List Mark) → IsOne opened inside ms ⊎ IsCut opened inside ms
one_or_cut opened inside [] = inl refl
one_or_cut opened inside (m ∷ rest) = ⊎_elim
    (λ ends. inr (record { front = []; bar = m; rest = rest; whole = refl; texts = cond-true (ends_strain opened inside m rest) _ _ ends }))
    (λ stays.
    let same : texts_of opened inside (m ∷ rest) ≡ put_first m (texts_of opened (Rattle.std.specs.Prelude.◌||◌ inside (is_ending m)) rest) = cond-false (ends_strain opened inside m rest) _ _ stays in
    ⊎_elim
    (λ one. inl (same ∙ ap (put_first m) one))
    (λ cut. inr (record { front = m ∷ cut.front; bar = cut.bar; rest = cut.rest; whole = ap (λ l. m ∷ l) cut.whole; texts = same ∙ ap (put_first m) cut.texts }))
    (one_or_cut opened (Rattle.std.specs.Prelude.◌||◌ inside (is_ending m)) rest))
    (cases_Bool (ends_strain opened inside m rest))

opens_last : (opened : Bool) (front : List Mark) (bar : Mark) → opens_after opened (front ++ bar ∷ []) ≡ opens_next bar
opens_last opened [] bar = refl
opens_last opened (m ∷ front) bar = opens_last (opens_next m) front bar

-- the last of some marks opens
pub opens_at_last : (opened : Bool) (ms : List Mark) (d : Mark) → 0 < length ms → opens_next (get_or ms (length ms - 1) d) ≡ opens_after opened ms
opens_at_last opened [] d h = absurd (omega arith)
opens_at_last opened (m ∷ []) d h = refl
opens_at_last opened (m ∷ k ∷ ms) d h =
    let e : suc (suc (length ms)) - 1 ≡ suc (suc (length ms) - 1) = omega arith in
    ap (λ i. opens_next (get_or (m ∷ k ∷ ms) i d)) e ∙ opens_at_last (opens_next m) (k ∷ ms) d (omega arith)

pub nothing_left : (at : ℕ) (opened : Bool) → plays_from at (strains_from opened []) ≡ []
unfolding strain_play
nothing_left at opened = refl

drop_whole : (ms : List Mark) → drop (length ms) ms ≡ []
drop_whole [] = refl
drop_whole (m ∷ ms) = drop_whole ms

-- the play of the first strain, then that of the others
pub plays_more : (at : ℕ) (opened : Bool) (ms text : List Mark) → text ≡ first_text opened ms
    → plays_from at (strains_from opened ms) ≡ strain_play at (strain_of text) ++ plays_from (at + length text) (strains_from (opens_after false text) (drop (length text) ms))
unfolding first_text
plays_more at opened ms text is = ⊎_elim
    (λ one.
    let same : text ≡ ms = is ∙ ap front_of one in
    let none : plays_from (at + length text) (strains_from (opens_after false text) (drop (length text) ms)) ≡ [] =
    ap (λ l. plays_from (at + length text) (strains_from (opens_after false text) l)) (ap (λ l. drop (length l) ms) same ∙ drop_whole ms) ∙ nothing_left (at + length text) (opens_after false text) in
    ap (λ l. plays_from at (map strain_of l)) one ∙ ap (λ l. strain_play at (strain_of l) ++ []) (sym same) ∙ ap (λ l. strain_play at (strain_of text) ++ l) (sym none))
    (λ cut.
    let same : text ≡ cut.front ++ cut.bar ∷ [] = is ∙ ap front_of cut.texts in
    let left : drop (length text) ms ≡ cut.rest =
    ap (λ l. drop (length l) ms) same
    ∙ ap (drop (length (cut.front ++ cut.bar ∷ []))) (cut.whole ∙ sym (append_assoc cut.front (cut.bar ∷ []) cut.rest))
    ∙ drop-append_seam (cut.front ++ cut.bar ∷ []) cut.rest in
    let opens : opens_after false text ≡ opens_next cut.bar = ap (opens_after false) same ∙ opens_last false cut.front cut.bar in
    ap (λ l. plays_from at (map strain_of l)) cut.texts
    ∙ ap (λ l. strain_play at (strain_of l) ++ plays_from (at + length (text_of (strain_of l))) (strains_from (opens_next cut.bar) cut.rest)) (sym same)
    ∙ ap (λ l. strain_play at (strain_of text) ++ plays_from (at + length l) (strains_from (opens_next cut.bar) cut.rest)) (text_back text)
    ∙ ap (λ o. strain_play at (strain_of text) ++ plays_from (at + length text) (strains_from o cut.rest)) (sym opens)
    ∙ ap (λ l. strain_play at (strain_of text) ++ plays_from (at + length text) (strains_from (opens_after false text) l)) (sym left))
    (one_or_cut opened false ms)
