-- The items of a tune that the entries of its play are of.
use Rattle.std.proofs.Common.{◌≡◌, ℕ, zero, suc, ◌+◌, List, [], ◌∷◌, ◌++◌, drop, length, Some, refl, sym, ap, ◌∙◌, append_assoc, arith}
use Rattle.std.specs.Bool.{⊤}
use Rattle.std.specs.Borrow.{Bor}
use Rattle.std.specs.Prelude.{All, slice_get}
use Rattle.std.proofs.lemmas.List.Elements.{All-append, All-cons, All-head, All-nil, All-tail}
use Rattle.abc_bars_items.specs.declared.item.Item.{Item}
use Rattle.abc_bars_items.specs.declared.item.Item.TheVariants as items
use Rattle.abc_bars_items.specs.declared.item.Tone.{Tone}
use Rattle.abc_scan.specs.declared.bar_line.BarLine.{BarLine}
use Rattle.abc_time.specs.declared.grains.Grains.{Grains}
use Rattle.abc_voices_sections.specs.Items.{items_of}
use Rattle.abc_voices_sections.specs.Step.{tones_of}
use Rattle.abc_play_sections.specs.Step.{as_item}
use Rattle.abc_play_sections.specs.declared.step.PlayStep.{PlayStep}
use Rattle.abc_play_sections.specs.declared.step.PlayStep.TheVariants as steps
use Rattle.abc_play_tune.specs.Entries.{bar_entry, entries_from, item_entries, previous_after, rest_entry, step_entries, tone_entries, tone_entry}
use Rattle.abc_play_tune.specs.Play.{play_of_voice}
use Rattle.abc_play_tune.specs.Steps.{steps_from, steps_with}
use Rattle.abc_play_tune.specs.declared.entry.EntryKind.{EntryKind}
use Rattle.abc_play_tune.specs.declared.entry.EntryKind.TheVariants as kinds
use Rattle.abc_play_tune.specs.declared.entry.PlayEntry.{PlayEntry}
use Rattle.abc_play_tune.specs.declared.timed.TimedStep.{TimedStep}
use Rattle.abc_play.proofs.Played.{HoldsTimed, play_holds}

-- the elements from a place on
pub first_at : {X : Type 0} (xs : List X) (i : ℕ) (x : X) (rest : List X) → drop i xs ≡ x ∷ rest → slice_get xs i ≡ Some x
first_at [] zero x rest is = cc
first_at [] (suc i) x rest is = cc
first_at (y ∷ xs) zero x rest is = cc
first_at (y ∷ xs) (suc i) x rest is = first_at xs i x rest is

others_at : {X : Type 0} (xs : List X) (i : ℕ) (x : X) (rest : List X) → drop i xs ≡ x ∷ rest → drop (suc i) xs ≡ rest
others_at [] zero x rest is = cc
others_at [] (suc i) x rest is = cc
others_at (y ∷ xs) zero x rest is = cc
others_at (y ∷ xs) (suc i) x rest is = others_at xs i x rest is

pub rest_at : {X : Type 0} (xs : List X) (i : ℕ) (x : X) (rest : List X) → drop i xs ≡ x ∷ rest → drop (i + 1) xs ≡ rest
rest_at xs i x rest is =
    let next : i + 1 ≡ suc i = omega arith in
    rw next (others_at xs i x rest is)

-- what is after a list
next_in : {X : Type 0} (past : List X) (x : X) (rest : List X) → slice_get (past ++ x ∷ rest) (length past) ≡ Some x
next_in [] x rest = refl
next_in (first ∷ past) x rest = next_in past x rest

-- an entry of this kind is one of this item
abbrev pub FitsItem : EntryKind → Item → Type 0
FitsItem (kinds.Note tone key velocity joined tied) (items.Tone tones time) = (one : Tone) × (slice_get tones tone ≡ Some one) × (one.key ≡ key)
FitsItem kinds.Rest (items.Rest time bar) = ⊤
FitsItem kinds.Bar (items.Bar line) = ⊤
FitsItem _ _ = ⊥

module _ (whole : List Item) where
  pub record IsEntryOf (entry : PlayEntry) : Type 0 where
    pub item : Item
    pub here : slice_get whole entry.place ≡ Some item
    pub fits : FitsItem entry.kind item

  -- a step is at the place of its item
  abbrev IsStepOf : PlayStep → Type 0
  IsStepOf (steps.Item item place) = slice_get whole place ≡ Some item.now
  IsStepOf (steps.BarLine place) = (line : BarLine) × (slice_get whole place ≡ Some (items.Bar line))

  with_bar : (place : ℕ) (item : Item) (others : List PlayStep) → slice_get whole place ≡ Some item → All IsStepOf others → All IsStepOf (steps_with place item others)
  with_bar place (items.Bar line) others here all = All-cons IsStepOf (steps.BarLine place) others (line, here) all
  with_bar place _ others here all = all

  steps_are : (place : ℕ) (tune : List (Bor Item)) → drop place whole ≡ items_of tune → All IsStepOf (steps_from place tune)
  steps_are place [] is = All-nil IsStepOf
  steps_are place (item ∷ tune) is =
      let here = first_at whole place item.now (items_of tune) is in
      let others = steps_are (place + 1) tune (rest_at whole place item.now (items_of tune) is) in
      with_bar place item.now (steps.Item item place ∷ steps_from (place + 1) tune) here
      (All-cons IsStepOf (steps.Item item place) (steps_from (place + 1) tune) here others)

  tones_are : (previous : List Tone) (at place : ℕ) (all : List Tone) (time : Grains) → slice_get whole place ≡ Some (items.Tone all time)
      → (past tones : List Tone) → past ++ tones ≡ all → All IsEntryOf (tone_entries previous at place past tones)
  tones_are previous at place all time here past [] is = All-nil IsEntryOf
  tones_are previous at place all time here past (tone ∷ tones) is =
      let own : slice_get all (length past) ≡ Some tone = ap (λ l. slice_get l (length past)) (sym is) ∙ next_in past tone tones in
      All-cons IsEntryOf (tone_entry previous at place past tone) (tone_entries previous at place (past ++ tone ∷ []) tones)
      (record { item = items.Tone all time; here = here; fits = (tone, own, refl) })
      (tones_are previous at place all time here (past ++ tone ∷ []) tones (append_assoc past (tone ∷ []) tones ∙ is))

  item_are : (previous : List Tone) (at place : ℕ) (item : Item) → slice_get whole place ≡ Some item → All IsEntryOf (item_entries previous at place item)
  item_are previous at place (items.Tone tones time) here = tones_are previous at place tones time here [] tones refl
  item_are previous at place (items.Rest time bar) here =
      All-cons IsEntryOf (rest_entry at place time) [] (record { item = items.Rest time bar; here = here; fits = tt }) (All-nil IsEntryOf)
  item_are previous at place _ here = All-nil IsEntryOf

  step_are : (previous : List Tone) (at : ℕ) (step : PlayStep) → IsStepOf step → All IsEntryOf (step_entries previous at step)
  step_are previous at (steps.Item item place) is = item_are previous at place item.now is
  step_are previous at (steps.BarLine place) is =
      All-cons IsEntryOf (bar_entry at place) [] (record { item = items.Bar is.0; here = is.1; fits = tt }) (All-nil IsEntryOf)

  entries_are : (previous : List Tone) (timed : List TimedStep) → All (HoldsTimed IsStepOf) timed → All IsEntryOf (entries_from previous timed)
  entries_are previous [] all = All-nil IsEntryOf
  entries_are previous (one ∷ timed) all =
      let next = previous_after previous (tones_of (as_item one.step)) in
      All-append IsEntryOf (step_entries previous one.at.0 one.step) (entries_from next timed)
      (step_are previous one.at.0 one.step (All-head (HoldsTimed IsStepOf) one timed all))
      (entries_are next timed (All-tail (HoldsTimed IsStepOf) one timed all))

-- each entry of a voice is of an item of its tune
pub entries_of_items : (tune : List (Bor Item)) (voice : List ℕ) → All (IsEntryOf (items_of tune)) (entries_from [] (play_of_voice tune voice))
entries_of_items tune voice =
    let whole = items_of tune in
    entries_are whole [] (play_of_voice tune voice) (play_holds (IsStepOf whole) tune voice (steps_are whole 0 tune refl))
