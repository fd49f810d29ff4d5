-- The changes of a tune come before its end, are few enough, and a file can say each.
use Rattle.std.proofs.Common.{ℕ, ◌+◌, ◌≤◌, Bool, true, false, cond, List, [], ◌∷◌, ◌++◌, length, Option, Some, None, arith, length-append}
use Rattle.std.specs.Prelude.{All, IfSome, sum_by}
use Rattle.std.specs.List.{cons_option, flat_map}
use Rattle.std.proofs.lemmas.List.Elements.{All-nil, All-cons, All-head, All-tail, All-append, All-push}
use Rattle.std.proofs.lemmas.List.Sums.{sum_by-cons}
use Rattle.abc_bars_items.specs.Item.{IsItem}
use Rattle.abc_bars_items.specs.declared.item.Item.{Item}
use Rattle.abc_time.specs.declared.grains.Grains.{Grains}
use Rattle.abc_time.specs.Grains.{tick_at}
use Rattle.abc_voices.specs.Layout.{set_in}
use Rattle.abc_voices_sections.specs.PlayedSection.{play_in, section_length}
use Rattle.abc_voices.specs.Change.{at_moment, set_from}
use Rattle.abc_voices.specs.Opening.{after_all}
use Rattle.abc_voices.specs.Ticks.{has_tick, last_of_each_tick}
use Rattle.abc_voices_sections.specs.Step.{length_of}
use Rattle.abc_voices.proofs.Fitting.Kept.{either, play_kept}
use Rattle.abc_voices.proofs.Fitting.Notes.{lasting}
use Rattle.abc_voices.proofs.Fitting.Voices.{IsHeard, ItemsIn, lasts}

-- a value that is set by a moment, and that is one of these
pub record IsSetBy {V : Type 0} (end : ℕ) (Q : V → Type 0) (set : Grains × V) : Type 0 where
  pub before : set.0.0 ≤ end
  pub value : Q set.1

-- the changes in force are among all changes
pub settled_kept : {V : Type 0} (P : Grains × V → Type 0) (changes : List (Grains × V)) → All P changes → All P (last_of_each_tick changes)
settled_kept P [] all = All-nil P
settled_kept P (change ∷ later) all =
    let rest : All P (last_of_each_tick later) = settled_kept P later (All-tail P change later all) in
    either P (has_tick (tick_at change.0.0) later) (last_of_each_tick later) (last_of_each_tick later ++ change ∷ []) rest
    (All-push P (last_of_each_tick later) change rest (All-head P change later all))

cond_few : {X : Type 0} (b : Bool) (xs ys : List X) (n : ℕ) → length xs ≤ n → length ys ≤ n → length (cond b xs ys) ≤ n
cond_few true xs ys n here there = here
cond_few false xs ys n here there = there

pub settled_few : {V : Type 0} (changes : List (Grains × V)) → length (last_of_each_tick changes) ≤ length changes
settled_few [] = omega arith
settled_few (change ∷ later) =
    cond_few (has_tick (tick_at change.0.0) later) (last_of_each_tick later) (last_of_each_tick later ++ change ∷ []) (length (change ∷ later))
    (omega (arith, settled_few later)) (omega (arith, settled_few later, length-append (last_of_each_tick later) (change ∷ [])))

one_set : {V : Type 0} (end at : ℕ) (Q : V → Type 0) (value : Option V) (sets : List (Grains × V)) → at ≤ end → IfSome value Q → All (IsSetBy end Q) sets
    → All (IsSetBy end Q) (cons_option (at_moment at value) sets)
one_set end at Q None sets by is all = all
one_set end at Q (Some value) sets by is all = All-cons (IsSetBy end Q) (record { 0 = at }, value) sets (record { before = by; value = is }) all

module _ {V : Type 0} (value_of : Item → Option V) (Q : V → Type 0) (is : (item : Item) → IsItem item → IfSome (value_of item) Q) where
  set_by : (end at : ℕ) (steps : List Item) → at + lasting steps ≤ end → All IsItem steps → All (IsSetBy end Q) (set_from value_of at steps)
  set_by end at [] by all = All-nil (IsSetBy end Q)
  set_by end at (step ∷ steps) by all =
      one_set end at Q (value_of step) (set_from value_of (at + length_of step) steps) (omega (arith, by))
      (is step (All-head IsItem step steps all))
      (set_by end (at + length_of step) steps (omega (arith, by)) (All-tail IsItem step steps all))

  voices_set : (end at : ℕ) (voices those : List (List ℕ)) (section : List ℕ × List Item) → at + section_length voices section ≤ end
      → All (IsHeard voices) those → All IsItem section.1
      → All (IsSetBy end Q) (flat_map (λ voice. set_from value_of at (play_in section voice)) those)
  voices_set end at voices [] section by heard_notes all = All-nil (IsSetBy end Q)
  voices_set end at voices (voice ∷ those) section by heard_notes all =
      All-append (IsSetBy end Q) (set_from value_of at (play_in section voice)) _
      (set_by end at (play_in section voice)
      (omega (arith, by, lasts (play_in section voice), (All-head (IsHeard voices) voice those heard_notes).lasts section))
      (play_kept IsItem section voice all))
      (voices_set end at voices those section by (All-tail (IsHeard voices) voice those heard_notes) all)

  -- what voices set in sections that are played from a moment on
  pub sections_set : (end at : ℕ) (voices those : List (List ℕ)) (sections : List (List ℕ × List Item)) → at + sum_by (section_length voices) sections ≤ end
      → All (IsHeard voices) those → All ItemsIn sections
      → All (IsSetBy end Q) (set_in value_of voices those at sections)
  sections_set end at voices those [] by heard_notes all = All-nil (IsSetBy end Q)
  sections_set end at voices those (section ∷ rest) by heard_notes all =
      All-append (IsSetBy end Q) (flat_map (λ voice. set_from value_of at (play_in section voice)) those) _
      (voices_set end at voices those section (omega (arith, by, sum_by-cons (section_length voices) section rest)) heard_notes (All-head ItemsIn section rest all))
      (sections_set end (at + section_length voices section) voices those rest (omega (arith, by, sum_by-cons (section_length voices) section rest)) heard_notes
      (All-tail ItemsIn section rest all))

-- what a tune opens with
pub past_kept : {V : Type 0} (past : V → Item → V) (Q : V → Type 0) → ((value : V) (item : Item) → Q value → IsItem item → Q (past value item))
    → (value : V) (tune : List Item) → Q value → All IsItem tune → Q (after_all past value tune)
past_kept past Q step_kept value [] is all = is
past_kept past Q step_kept value (step ∷ tune) is all =
    past_kept past Q step_kept (past value step) tune (step_kept value step is (All-head IsItem step tune all)) (All-tail IsItem step tune all)
