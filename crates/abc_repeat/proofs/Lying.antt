-- Each place of a play is in the section and has a played item.
use Rattle.std.proofs.Common.{◌≡◌, ℕ, ◌+◌, Bool, true, false, cond, Some, List, [], ◌∷◌, ◌++◌, length, map, All, refl, sym, ap, ◌∙◌, arith, append_assoc, append-nil, length-append}
use Rattle.std.specs.Prelude.{slice_get}
use Rattle.std.specs.List.{flat_map, range_with_len}
use Rattle.std.proofs.lemmas.List.Elements.{All-nil, All-cons, All-append}
use Rattle.abc_repeat.specs.declared.mark.Mark.{Mark}
use Rattle.abc_repeat.specs.declared.mark.Mark.TheVariants as marks
use Rattle.abc_repeat.specs.Mark.{is_ending, has_number, opens_next}
use Rattle.abc_repeat.specs.Strain.{Ending, Strain, endings_text, text_of, ends_strain, put_first, texts_of, strain_of, strains_of}
use Rattle.abc_repeat.specs.Play.{places_from, first_ending, pass_of, strain_play, plays_from, most_passes, play_of, IsPlayed}
use Rattle.abc_repeat.proofs.Cuts.{text_back}

-- these marks are in the whole from this place on
pub record Lies (whole : List Mark) (at : ℕ) (ms : List Mark) : Type 0 where
  pub front : List Mark
  pub back : List Mark
  pub is : whole ≡ front ++ (ms ++ back)
  pub from : at ≡ length front

front_lies : {whole : List Mark} {at : ℕ} (xs ys : List Mark) → Lies whole at (xs ++ ys) → Lies whole at xs
front_lies xs ys h = record { front = h.front; back = ys ++ h.back; is = h.is ∙ ap (λ l. h.front ++ l) (append_assoc xs ys h.back); from = h.from }

back_lies : {whole : List Mark} {at : ℕ} (xs ys : List Mark) → Lies whole at (xs ++ ys) → Lies whole (at + length xs) ys
back_lies xs ys h = record {
  front = h.front ++ xs;
  back = h.back;
  is = h.is ∙ ap (λ l. h.front ++ l) (append_assoc xs ys h.back) ∙ sym (append_assoc h.front xs (ys ++ h.back));
  from = ap (λ k. k + length xs) h.from ∙ sym (length-append h.front xs);
}

at_seam : (front back : List Mark) (m : Mark) → slice_get (front ++ m ∷ back) (length front) ≡ Some m
at_seam [] back m = refl
at_seam (k ∷ front) back m = at_seam front back m

played_here : (whole : List Mark) (at : ℕ) (ms : List Mark) → Lies whole at (marks.Play ∷ ms) → IsPlayed whole at
played_here whole at ms h = (
  omega (arith, ap length h.is, length-append h.front (marks.Play ∷ (ms ++ h.back)), h.from),
  ap (λ w. slice_get w at) h.is ∙ ap (slice_get (h.front ++ marks.Play ∷ (ms ++ h.back))) h.from ∙ at_seam h.front (ms ++ h.back) marks.Play,
)

places_played : (whole : List Mark) (at : ℕ) (ms : List Mark) → Lies whole at ms → All (IsPlayed whole) (places_from at ms)
places_played whole at [] h = All-nil (IsPlayed whole)
places_played whole at (marks.Play ∷ ms) h =
    All-cons (IsPlayed whole) at (places_from (at + 1) ms) (played_here whole at ms h) (places_played whole (at + 1) ms (back_lies (marks.Play ∷ []) ms h))
places_played whole at (marks.Bar closes opens double ∷ ms) h = places_played whole (at + 1) ms (back_lies (marks.Bar closes opens double ∷ []) ms h)
places_played whole at (marks.Ending numbers ∷ ms) h = places_played whole (at + 1) ms (back_lies (marks.Ending numbers ∷ []) ms h)

ending_played : (whole : List Mark) (pass at : ℕ) (endings : List Ending) → Lies whole at (endings_text endings) → All (IsPlayed whole) (first_ending pass at endings)
ending_played whole pass at [] h = All-nil (IsPlayed whole)
ending_played whole pass at (ending ∷ endings) h =
    let following : Lies whole (at + 1) (ending.run ++ endings_text endings) = back_lies (marks.Ending ending.numbers ∷ []) (ending.run ++ endings_text endings) h in
    elim (has_number ending.numbers pass) as (λ b. All (IsPlayed whole) (cond b (places_from (at + 1) ending.run) (first_ending pass (at + 1 + length ending.run) endings))) [
      | true ↦ places_played whole (at + 1) ending.run (front_lies ending.run (endings_text endings) following)
      | false ↦ ending_played whole pass (at + 1 + length ending.run) endings (back_lies ending.run (endings_text endings) following)
    ]

pass_played : (whole : List Mark) (at : ℕ) (strain : Strain) (pass : ℕ) → Lies whole at (text_of strain) → All (IsPlayed whole) (pass_of at strain pass)
pass_played whole at strain pass h =
    All-append (IsPlayed whole) (places_from at strain.common) (first_ending pass (at + length strain.common) strain.endings)
    (places_played whole at strain.common (front_lies strain.common (endings_text strain.endings) h))
    (ending_played whole pass (at + length strain.common) strain.endings (back_lies strain.common (endings_text strain.endings) h))

passes_played : (whole : List Mark) (at : ℕ) (strain : Strain) (passes : List ℕ) → Lies whole at (text_of strain) → All (IsPlayed whole) (flat_map (pass_of at strain) passes)
passes_played whole at strain [] h = All-nil (IsPlayed whole)
passes_played whole at strain (pass ∷ passes) h =
    All-append (IsPlayed whole) (pass_of at strain pass) (flat_map (pass_of at strain) passes) (pass_played whole at strain pass h) (passes_played whole at strain passes h)

strain_played : (whole : List Mark) (at : ℕ) (strain : Strain) → Lies whole at (text_of strain) → All (IsPlayed whole) (strain_play at strain)
unfolding strain_play
strain_played whole at strain h = passes_played whole at strain (range_with_len 1 (most_passes (text_of strain))) h

-- the marks of strains one after another
abbrev joined : List Strain → List Mark
joined [] = []
joined (strain ∷ strains) = text_of strain ++ joined strains

strains_played : (whole : List Mark) (at : ℕ) (strains : List Strain) → Lies whole at (joined strains) → All (IsPlayed whole) (plays_from at strains)
strains_played whole at [] h = All-nil (IsPlayed whole)
strains_played whole at (strain ∷ strains) h =
    All-append (IsPlayed whole) (strain_play at strain) (plays_from (at + length (text_of strain)) strains)
    (strain_played whole at strain (front_lies (text_of strain) (joined strains) h))
    (strains_played whole (at + length (text_of strain)) strains (back_lies (text_of strain) (joined strains) h))

joined-first : (m : Mark) (texts : List (List Mark)) → joined (map strain_of (put_first m texts)) ≡ m ∷ joined (map strain_of texts)
joined-first m [] = ap (λ l. l ++ []) (text_back (m ∷ []))
joined-first m (text ∷ texts) = ap (λ l. l ++ joined (map strain_of texts)) (text_back (m ∷ text)) ∙ ap (λ l. m ∷ (l ++ joined (map strain_of texts))) (sym (text_back text))

joined_back : (opened inside : Bool) (ms : List Mark) → joined (map strain_of (texts_of opened inside ms)) ≡ ms
joined_back opened inside [] = refl
joined_back opened inside (m ∷ ms) =
    elim (ends_strain opened inside m ms) as (λ b. joined (map strain_of
    (cond b ((m ∷ []) ∷ texts_of (opens_next m) false ms) (put_first m (texts_of opened (Rattle.std.specs.Prelude.◌||◌ inside (is_ending m)) ms)))) ≡ m ∷ ms) [
      | true ↦ ap (λ l. l ++ joined (map strain_of (texts_of (opens_next m) false ms))) (text_back (m ∷ [])) ∙ ap (λ l. m ∷ l) (joined_back (opens_next m) false ms)
      | false ↦
          joined-first m (texts_of opened (Rattle.std.specs.Prelude.◌||◌ inside (is_ending m)) ms)
          ∙ ap (λ l. m ∷ l) (joined_back opened (Rattle.std.specs.Prelude.◌||◌ inside (is_ending m)) ms)
    ]

-- each place of a play has a played item
pub play_played : (ms : List Mark) → All (IsPlayed ms) (play_of ms)
unfolding play_of
play_played ms =
    strains_played ms 0 (strains_of ms) (record { front = []; back = []; is = sym (append-nil (joined (strains_of ms)) ∙ joined_back false false ms); from = refl })
