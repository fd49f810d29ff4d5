-- What holds of each step of a tune holds of each step that is played.
use Rattle.std.proofs.Common.{ℕ, zero, suc, ◌+◌, true, false, cond, List, [], ◌∷◌, ◌++◌, map, None}
use Rattle.std.specs.Borrow.{Bor}
use Rattle.std.specs.List.{cons_option}
use Rattle.std.specs.Prelude.{◌&&◌, All, bytes_eq, filter_map, slice_get}
use Rattle.std.proofs.lemmas.List.Elements.{All-append, All-cons, All-head, All-nil, All-push, All-tail}
use Rattle.abc_bars_items.specs.declared.item.Item.{Item}
use Rattle.abc_repeat.specs.Mark.{is_ending}
use Rattle.abc_repeat.specs.Order.{sections_of}
use Rattle.abc_repeat.specs.Play.{play_of}
use Rattle.abc_voices.specs.Opening.{order_after, after_all}
use Rattle.abc_voices.specs.Track.{voice_names}
use Rattle.abc_voices_sections.specs.EndingFields.{waits, region_after}
use Rattle.abc_voices_sections.specs.declared.ending_fields.EndingRegion.{EndingRegion}
use Rattle.abc_voices_sections.specs.declared.ending_fields.EndingRegion.TheVariants.{Common}
use Rattle.abc_voices_sections.specs.Items.{items_of}
use Rattle.abc_voices_sections.specs.Section.{is_section, is_step, letters, opening_voice, voice_after}
use Rattle.abc_voices_sections.specs.Step.{length_of}
use Rattle.abc_play_sections.specs.declared.step.PlayStep.{PlayStep}
use Rattle.abc_play_sections.specs.Order.{in_order, in_order_from, put_with_waiting}
use Rattle.abc_play_sections.specs.Play.{part_from, steps_in}
use Rattle.abc_play_sections.specs.Step.{as_item, mark}
use Rattle.abc_play_tune.specs.Play.{play_of_voice, played_sections, step_sections}
use Rattle.abc_play_tune.specs.Stage.{section_time}
use Rattle.abc_play_tune.specs.Steps.{sections_from, steps_from}
use Rattle.abc_play_tune.specs.Timed.{timed_from, timed_in}
use Rattle.abc_play_tune.specs.declared.timed.TimedStep.{TimedStep}

-- elements at some places
one_holds : {X : Type 0} (P : X → Type 0) (own : List X) (place : ℕ) (rest : List X) → All P own → All P rest → All P (cons_option (slice_get own place) rest)
one_holds P [] place rest all others = others
one_holds P (x ∷ own) zero rest all others = All-cons P x rest (All-head P x own all) others
one_holds P (x ∷ own) (suc place) rest all others = one_holds P own place rest (All-tail P x own all) others

found_hold : {X : Type 0} (P : X → Type 0) (own : List X) (places : List ℕ) → All P own → All P (filter_map (slice_get own) places)
found_hold P own [] all = All-nil P
found_hold P own (place ∷ places) all = one_holds P own place (filter_map (slice_get own) places) all (found_hold P own places all)

module _ (P : PlayStep → Type 0) where
  abbrev Holds : List ℕ × List PlayStep → Type 0
  Holds section = All P section.1

  abbrev pub HoldsTimed : TimedStep → Type 0
  HoldsTimed timed = P timed.step

  sections_hold : (opening : List ℕ) (held : List PlayStep) (voice : List ℕ) (own : List PlayStep) → All P held → All P own → All Holds (sections_from opening held voice own)
  sections_hold opening held voice [] before all = All-cons Holds (opening, held) [] before (All-nil Holds)
  sections_hold opening held voice (step ∷ others) before all =
      let one = All-head P step others all in
      let rest = All-tail P step others all in
      let next = voice_after voice (as_item step) in
      elim (is_section (as_item step)) as (λ b. All Holds (cond b ((opening, held) ∷ sections_from voice [] voice others) (sections_from opening (held ++ step ∷ []) next others))) [
        | true ↦ All-cons Holds (opening, held) (sections_from voice [] voice others) before (sections_hold voice [] voice others (All-nil P) rest)
        | false ↦ sections_hold opening (held ++ step ∷ []) next others (All-push P held step before one) rest
      ]

  part_holds : (voice current : List ℕ) (own : List PlayStep) → All P own → All P (part_from voice current own)
  part_holds voice current [] all = All-nil P
  part_holds voice current (step ∷ others) all =
      let next = voice_after current (as_item step) in
      let rest = part_holds voice next others (All-tail P step others all) in
      elim (is_step (as_item step) && bytes_eq current voice) as (λ b. All P (cond b (step ∷ part_from voice next others) (part_from voice next others))) [
        | true ↦ All-cons P step (part_from voice next others) (All-head P step others all) rest
        | false ↦ rest
      ]

  put_holds : (held : List PlayStep) (step : PlayStep) → All P held → P step → All P (put_with_waiting held step)
  put_holds held step before one = elim (is_ending (mark step)) as (λ b. All P (cond b (step ∷ held) (held ++ step ∷ []))) [
    | true ↦ All-cons P step held one before
    | false ↦ All-push P held step before one
  ]

  order_holds : (region : EndingRegion) (held own : List PlayStep) → All P held → All P own → All P (in_order_from region held own)
  order_holds region held [] before all = before
  order_holds region held (step ∷ others) before all =
      let one = All-head P step others all in
      let rest = All-tail P step others all in
      let next = region_after region (mark step) in
      elim (waits region (as_item step)) as (λ b. All P (cond b (in_order_from region (held ++ step ∷ []) others) (put_with_waiting held step ++ in_order_from next [] others))) [
        | true ↦ order_holds region (held ++ step ∷ []) others (All-push P held step before one) rest
        | false ↦
            All-append P (put_with_waiting held step) (in_order_from next [] others) (put_holds held step before one) (order_holds next [] others (All-nil P) rest)
      ]

  steps_in-hold : (section : List ℕ × List PlayStep) (voice : List ℕ) → Holds section → All P (steps_in section voice)
  steps_in-hold (opening, own) voice all =
      let part = part_from voice opening own in
      found_hold P (in_order part) (play_of (map mark (in_order part))) (order_holds Common [] part (All-nil P) (part_holds voice opening own all))

  timed_hold : (at : ℕ) (own : List PlayStep) → All P own → All HoldsTimed (timed_from at own)
  timed_hold at [] all = All-nil HoldsTimed
  timed_hold at (step ∷ own) all =
      let next = at + length_of (as_item step) in
      All-cons HoldsTimed (record { at = record { 0 = at }; step = step }) (timed_from next own) (All-head P step own all) (timed_hold next own (All-tail P step own all))

  timed_in-hold : (voices : List (List ℕ)) (voice : List ℕ) (at : ℕ) (played : List (List ℕ × List PlayStep)) → All Holds played → All HoldsTimed (timed_in voices voice at played)
  timed_in-hold voices voice at [] all = All-nil HoldsTimed
  timed_in-hold voices voice at (section ∷ played) all =
      let next = at + section_time voices section in
      All-append HoldsTimed (timed_from at (steps_in section voice)) (timed_in voices voice next played)
      (timed_hold at (steps_in section voice) (steps_in-hold section voice (All-head Holds section played all)))
      (timed_in-hold voices voice next played (All-tail Holds section played all))

  -- what a voice plays
  pub play_holds : (tune : List (Bor Item)) (voice : List ℕ) → All P (steps_from 0 tune) → All HoldsTimed (play_of_voice tune voice)
  play_holds tune voice all =
      let items = items_of tune in
      let sections = sections_hold (opening_voice items) [] (opening_voice items) (steps_from 0 tune) (All-nil P) all in
      timed_in-hold (voice_names items) voice 0 (played_sections tune)
      (found_hold Holds (step_sections tune) (sections_of (after_all order_after None items) (letters items)) sections)
