-- Stages played one after another. Not in ABC 2.1.
use Rattle.std.specs.Borrow.{Bor}
use Rattle.std.specs.Prelude.{◌≡◌, ◌≤◌, ℕ, pos, ◌+◌, ◌-◌, Bool, false, not, if◌then◌else◌, ◌&&◌, ◌==◌, zero, suc, List, [], ◌∷◌}
use Rattle.std.specs.Prelude.{◌++◌, map, sum_by, All, Option, Some, None, slice_get, unwrap_or}
use Rattle.std.specs.List.{list_any, flat_map}
use Rattle.abc_bars_items.specs.declared.item.Item.{Item}
use Rattle.abc_bars_items.specs.Item.{IsItem}
use Rattle.abc_fields.specs.declared.meter.Meter.TheVariants as meters
use Rattle.abc_time.specs.declared.grains.Grains.{Grains}
use Rattle.abc_voices_score.specs.declared.score.Change.{Change}
use Rattle.abc_voices_score.specs.declared.score.ProgramChange.{ProgramChange}
use Rattle.abc_voices_score.specs.declared.score.Score.{Score}
use Rattle.abc_voices_score.specs.declared.score.Sounding.{Sounding}
use Rattle.abc_voices_sections.specs.declared.stage.VoicePart.{VoicePart}
use Rattle.abc_voices_sections.specs.declared.stage.Stage.{Stage}
use Rattle.abc_voices_sections.specs.declared.turns.Turn.{Turn}
use Rattle.abc_voices_sections.specs.Stage.{stage_items}
use Rattle.abc_voices_sections.specs.Turns.{length_along}
use Rattle.abc_voices.specs.Layout.{all_notes, takes_time, last_off, usual_tempo}
use Rattle.abc_voices.specs.Change.{tempo_of, meter_of, key_of, program_of, set_from, after_opening}
use Rattle.abc_voices.specs.ScoreChanges.{changes_in_force, programs_in_force}
use Rattle.abc_voices.specs.TiedNotes.{Notes, notes_from}
use Rattle.abc_voices.specs.Opening.{tempo_after, meter_after, key_after, program_after, after_all, title_of}
use Rattle.abc_voices_sections.specs.Play.{duration}
use Rattle.abc_voices_sections.specs.Step.{is_field}
use Rattle.abc_voices.specs.Track.{has_unnamed_track}

-- A part of valid items, with its own length, which is at most that of its stage.
pub record IsPart (longest : Grains) (part : VoicePart Item) : Type 0 where
  pub items : All IsItem part.steps
  pub length : part.length.0 ≡ duration part.steps
  pub short : part.length.0 ≤ longest.0

-- A stage of such parts.
pub record IsStage (stage : Stage Item) : Type 0 where
  pub parts : All (IsPart stage.longest) stage.parts

-- A stage in which no such item is played.
abbrev pub PlaysNone : (Item → Bool) → Stage Item → Type 0
PlaysNone is stage = All (λ part. All (λ step. is step ≡ false) part.steps) stage.parts

-- A stage in which no field is played.
abbrev pub IsSteady : Stage Item → Type 0
IsSteady stage = PlaysNone is_field stage

-- The stages of some turns, as the items alone see them.
abbrev pub stages_in : List (Turn (Bor Item)) → List (Stage Item)
stages_in turns = map (λ turn. stage_items turn.stage.now) turns

-- What is played of a part, if there is one.
abbrev pub steps_of : Option (VoicePart Item) → List Item
steps_of None = []
steps_of (Some part) = part.steps

-- What the voice at the index `voice` plays of a stage, followed by `notes`.
abbrev pub before_rest : ℕ → ℕ → Stage Item → Notes → Notes
before_rest voice at stage notes = notes_from at (steps_of (slice_get stage.parts voice)) notes

-- The notes of the voice at the index `voice`, in stages that are played from the moment `at` on.
abbrev pub notes_along : ℕ → ℕ → List (Stage Item) → Notes
notes_along voice at [] = record { first = []; others = [] }
notes_along voice at (stage ∷ stages) = before_rest voice at stage (notes_along voice (at + stage.longest.0) stages)

-- The values of `count` voices, from the index `voice` on.
abbrev pub for_voices : {X : Type 0} → (ℕ → X) → ℕ → ℕ → List X
for_voices one voice zero = []
for_voices one voice (suc count) = one voice ∷ for_voices one (voice + 1) count

-- The notes of `count` voices, from the index `voice` on.
abbrev pub voices_along : List (Stage Item) → ℕ → ℕ → List (List Sounding)
voices_along stages voice count = for_voices (λ one. all_notes (notes_along one 0 stages)) voice count

-- What the parts of a stage set when it is played from a moment on.
abbrev pub set_beside : {V : Type 0} → (Item → Option V) → ℕ → Stage Item → List (Grains × V)
set_beside value_of at stage = flat_map (λ part. set_from value_of at part.steps) stage.parts

-- What all voices set in stages that are played from a moment on.
abbrev pub set_by_all : {V : Type 0} → (Item → Option V) → ℕ → List (Stage Item) → List (Grains × V)
set_by_all value_of at [] = []
set_by_all value_of at (stage ∷ stages) = set_beside value_of at stage ++ set_by_all value_of (at + stage.longest.0) stages

-- What the voice at this place sets in a stage that is played from a moment on.
abbrev pub set_at : {V : Type 0} → (Item → Option V) → ℕ → ℕ → Stage Item → List (Grains × V)
set_at value_of voice at stage = set_from value_of at (steps_of (slice_get stage.parts voice))

-- What the voice at this place sets in stages that are played from a moment on.
abbrev pub set_by_one : {V : Type 0} → (Item → Option V) → ℕ → ℕ → List (Stage Item) → List (Grains × V)
set_by_one value_of voice at [] = []
set_by_one value_of voice at (stage ∷ stages) = set_at value_of voice at stage
    ++ set_by_one value_of voice (at + stage.longest.0) stages

-- Whether two parts that play time differ in length.
abbrev pub parts_differ : VoicePart Item → VoicePart Item → Bool
parts_differ a b =
    list_any takes_time a.steps && list_any takes_time b.steps && not (a.length.0 == b.length.0)

-- Whether two voices that play time in a stage differ in length there.
abbrev pub is_stage_uneven : Stage Item → Bool
is_stage_uneven stage = list_any (λ a. list_any (parts_differ a) stage.parts) stage.parts

-- The tempos of all voices and the meters and keys of the one at this place, after those with which a tune opens.
abbrev pub changes_along : List Item → ℕ → List (Stage Item) → List Change
changes_along tune first stages =
    changes_in_force
    ((record { 0 = 0 }, unwrap_or (after_all tempo_after None tune) usual_tempo) ∷ set_by_all tempo_of 0 stages)
    ((record { 0 = 0 }, unwrap_or (after_all meter_after None tune) meters.Free) ∷ set_by_one meter_of first 0 stages)
    ((record { 0 = 0 }, unwrap_or (after_all key_after None tune) (pos 0, false)) ∷ set_by_one key_of first 0 stages)

-- The place of the first voice that has a track: that without a name, or else the one after it.
abbrev pub first_place : List Item → ℕ
first_place tune = if has_unnamed_track tune then 0 else 1

-- The programs of the voice at this place, after the one with which a tune opens, if it opens with one.
abbrev pub programs_by : Option ℕ → List (Stage Item) → ℕ → List ProgramChange
programs_by opening stages voice = programs_in_force (after_opening opening (set_by_one program_of voice 0 stages))

-- The programs of `count` voices, from the one at this place on.
abbrev pub programs_along : Option ℕ → List (Stage Item) → ℕ → ℕ → List (List ProgramChange)
programs_along opening stages voice count = for_voices (programs_by opening stages) voice count

-- When stages end: one after another, or with a note that lasts longer.
abbrev pub end_along : List (Stage Item) → List (List Sounding) → ℕ
end_along stages voices = last_off (length_along stages) (flat_map (λ notes. notes) voices)

-- The score of stages. The voices from the one at this place on have tracks, up to `count`.
abbrev pub score_along : List Item → ℕ → ℕ → List (Stage Item) → Score
score_along tune first count stages = record {
  title = title_of tune;
  end = record { 0 = end_along stages (voices_along stages first (count - first)) };
  conductor = changes_along tune first stages;
  voices = voices_along stages first (count - first);
  programs = programs_along (after_all program_after None tune) stages first (count - first);
}
