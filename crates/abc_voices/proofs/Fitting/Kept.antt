-- A tune plays only its own items: what holds of all items holds of the played ones.
use Rattle.std.proofs.Common.{ℕ, Bool, true, false, zero, suc, cond, List, [], ◌∷◌, ◌++◌, Option, Some, None}
use Rattle.std.specs.Prelude.{All, IfSome, slice_get, filter_map, bytes_eq, ◌&&◌}
use Rattle.std.specs.List.{cons_option}
use Rattle.std.proofs.lemmas.List.Elements.{All-nil, All-cons, All-head, All-tail, All-append, All-push}
use Rattle.abc_bars_items.specs.declared.item.Item.{Item}
use Rattle.abc_repeat.specs.Mark.{is_ending}
use Rattle.abc_voices_sections.specs.declared.ending_fields.EndingRegion.{EndingRegion}
use Rattle.abc_voices_sections.specs.declared.ending_fields.EndingRegion.TheVariants.{Common}
use Rattle.abc_voices.specs.Layout.{played_sections}
use Rattle.abc_voices_sections.specs.PlayedSection.{play_in}
use Rattle.abc_voices_sections.specs.EndingFields.{waits, put_with_waiting, region_after, with_fields_in_endings_from, with_fields_in_endings}
use Rattle.abc_voices_sections.specs.Play.{places_of}
use Rattle.abc_voices_sections.specs.Section.{is_step, is_section, voice_after, opening_voice, sections_from, sections, part_from}
use Rattle.abc_voices_sections.specs.Step.{mark_of}

-- what is at a place, if there is one
pub got : {X : Type 0} (P : X → Type 0) (xs : List X) (place : ℕ) → All P xs → IfSome (slice_get xs place) P
got P [] place all = tt
got P (x ∷ xs) zero all = All-head P x xs all
got P (x ∷ xs) (suc place) all = got P xs place (All-tail P x xs all)

pub one_more : {X : Type 0} (P : X → Type 0) (x : Option X) (xs : List X) → IfSome x P → All P xs → All P (cons_option x xs)
one_more P None xs is all = all
one_more P (Some x) xs is all = All-cons P x xs is all

-- what is at some places
pub picked : {X : Type 0} (P : X → Type 0) (xs : List X) (places : List ℕ) → All P xs → All P (filter_map (slice_get xs) places)
picked P xs [] all = All-nil P
picked P xs (place ∷ places) all = one_more P (slice_get xs place) (filter_map (slice_get xs) places) (got P xs place all) (picked P xs places all)

-- of two lists that are chosen from
pub either : {X : Type 0} (P : X → Type 0) (b : Bool) (xs ys : List X) → All P xs → All P ys → All P (cond b xs ys)
either P true xs ys here there = here
either P false xs ys here there = there

module _ (P : Item → Type 0) where
  set_down_kept : (held : List Item) (step : Item) → All P held → P step → All P (put_with_waiting held step)
  set_down_kept held step all is =
      either P (is_ending (mark_of step)) (step ∷ held) (held ++ step ∷ []) (All-cons P step held is all) (All-push P held step all is)

  moved_kept : (region : EndingRegion) (held steps : List Item) → All P held → All P steps → All P (with_fields_in_endings_from region held steps)
  moved_kept region held [] waiting all = waiting
  moved_kept region held (step ∷ steps) waiting all =
      let is : P step = All-head P step steps all in
      let rest : All P steps = All-tail P step steps all in
      either P (waits region step) _ _
      (moved_kept region (held ++ step ∷ []) steps (All-push P held step waiting is) rest)
      (All-append P (put_with_waiting held step) _ (set_down_kept held step waiting is)
      (moved_kept (region_after region (mark_of step)) [] steps (All-nil P) rest))

  part_kept : (voice current : List ℕ) (steps : List Item) → All P steps → All P (part_from voice current steps)
  part_kept voice current [] all = All-nil P
  part_kept voice current (step ∷ steps) all =
      let rest : All P (part_from voice (voice_after current step) steps) =
      part_kept voice (voice_after current step) steps (All-tail P step steps all) in
      either P (is_step step && bytes_eq current voice) _ _ (All-cons P step _ (All-head P step steps all) rest) rest

  -- what a voice plays of its part of a section
  pub part_played : (opening : List ℕ) (steps : List Item) (voice : List ℕ) → All P (part_from voice opening steps)
      → All P (play_in (opening, steps) voice)
  part_played opening steps voice all =
      let mine : List Item = part_from voice opening steps in
      picked P (with_fields_in_endings mine) (places_of (with_fields_in_endings mine)) (moved_kept Common [] mine (All-nil P) all)

  -- what a voice plays of a section
  pub play_kept : (section : List ℕ × List Item) (voice : List ℕ) → All P section.1 → All P (play_in section voice)
  play_kept (opening, steps) voice all = part_played opening steps voice (part_kept voice opening steps all)

  abbrev InSection : List ℕ × List Item → Type 0
  InSection section = All P section.1

  sections_kept : (opening : List ℕ) (held : List Item) (voice : List ℕ) (tune : List Item) → All P held → All P tune → All InSection (sections_from opening held voice tune)
  sections_kept opening held voice [] seen all = All-cons InSection (opening, held) [] seen (All-nil InSection)
  sections_kept opening held voice (step ∷ tune) seen all =
      let is : P step = All-head P step tune all in
      let rest : All P tune = All-tail P step tune all in
      either InSection (is_section step) _ _
      (All-cons InSection (opening, held) _ seen (sections_kept voice [] voice tune (All-nil P) rest))
      (sections_kept opening (held ++ step ∷ []) (voice_after voice step) tune (All-push P held step seen is) rest)

  -- the sections that are played
  pub played_kept : (tune : List Item) → All P tune → All InSection (played_sections tune)
  played_kept tune all =
      picked InSection (sections tune) _ (sections_kept (opening_voice tune) [] (opening_voice tune) tune (All-nil P) all)
