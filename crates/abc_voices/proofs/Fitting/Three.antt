-- A step sets at most one of a tempo, a meter and a key, so there are at most as many changes as steps.
use Rattle.std.proofs.Common.{ℕ, ℤ, ◌+◌, ◌≤◌, Bool, List, [], ◌∷◌, length, Option, Some, None, arith, length-append}
use Rattle.std.specs.Prelude.{All, sum_by}
use Rattle.std.specs.List.{cons_option, flat_map}
use Rattle.std.proofs.lemmas.List.Elements.{All-head}
use Rattle.std.proofs.lemmas.List.Sums.{sum_by-cons}
use Rattle.abc_bars_items.specs.declared.item.Item.{Item}
use Rattle.abc_bars_items.specs.declared.item.Item.TheVariants as items
use Rattle.abc_fields.specs.declared.meter.Meter.{Meter}
use Rattle.abc_time.specs.declared.grains.Grains.{Grains}
use Rattle.abc_voices.specs.Layout.{set_in, first_of}
use Rattle.abc_voices_sections.specs.PlayedSection.{play_in, size_in, section_length}
use Rattle.abc_voices.specs.Change.{tempo_of, meter_of, key_of, at_moment, set_from}
use Rattle.abc_voices_sections.specs.EndingFields.{with_fields_in_endings}
use Rattle.abc_voices_sections.specs.Play.{places_of}
use Rattle.abc_voices_sections.specs.Section.{part}
use Rattle.abc_voices_sections.specs.Step.{length_of}
use Rattle.abc_voices.specs.Track.{voice_names, tracks}
use Rattle.abc_voices.proofs.Fitting.Count.{picked_few}
use Rattle.abc_voices.proofs.Fitting.Voices.{each_track, each_voice, IsHeard, size_of}

one_of_three : (at : ℕ) (item : Item) (tempos : List (Grains × ℕ)) (meters : List (Grains × Meter)) (keys : List (Grains × (ℤ × Bool)))
    → length (cons_option (at_moment at (tempo_of item)) tempos) + length (cons_option (at_moment at (meter_of item)) meters)
    + length (cons_option (at_moment at (key_of item)) keys) ≤ length tempos + length meters + length keys + 1
one_of_three at (items.Tempo opening (Some micros) out) tempos meters keys = omega arith
one_of_three at (items.Meter opening (Some meter)) tempos meters keys = omega arith
one_of_three at (items.Key opening (Some key)) tempos meters keys = omega arith
one_of_three at _ tempos meters keys = omega arith

-- how many values steps set
abbrev tempos : ℕ → List Item → ℕ
tempos at steps = length (set_from tempo_of at steps)

abbrev meters : ℕ → List Item → ℕ
meters at steps = length (set_from meter_of at steps)

abbrev keys : ℕ → List Item → ℕ
keys at steps = length (set_from key_of at steps)

steps_few : (at : ℕ) (steps : List Item) → tempos at steps + meters at steps + keys at steps ≤ length steps
steps_few at [] = omega arith
steps_few at (step ∷ steps) =
    let later : ℕ = at + length_of step in
    omega (
      arith,
      steps_few later steps,
      one_of_three at step
          (set_from tempo_of later steps) (set_from meter_of later steps) (set_from key_of later steps),
    )

play_few : (at : ℕ) (section : List ℕ × List Item) (voice : List ℕ)
    → tempos at (play_in section voice) + meters at (play_in section voice) + keys at (play_in section voice) ≤ size_in section voice
play_few at section voice =
    omega (
      arith,
      steps_few at (play_in section voice),
      picked_few (with_fields_in_endings (part voice section)) (places_of (with_fields_in_endings (part voice section))),
    )

-- the tempos of all voices in a section
abbrev all_tempos : ℕ → List ℕ × List Item → List (List ℕ) → ℕ
all_tempos at section voices = length (flat_map (λ voice. set_from tempo_of at (play_in section voice)) voices)

tempos_few : (at : ℕ) (section : List ℕ × List Item) (voices : List (List ℕ)) → all_tempos at section voices ≤ size_of voices section
tempos_few at section [] = omega arith
tempos_few at section (voice ∷ voices) =
    omega (
      arith,
      play_few at section voice,
      tempos_few at section voices,
      sum_by-cons (size_in section) voice voices,
      length-append (set_from tempo_of at (play_in section voice)) (flat_map (λ v. set_from tempo_of at (play_in section v)) voices),
    )

-- there is room for the tempos of all voices and the meters and keys of one of them
abbrev pub HasRoom : List (List ℕ) → List ℕ → Type 0
HasRoom voices voice = (at : ℕ) (section : List ℕ × List Item)
    → all_tempos at section voices + meters at (play_in section voice) + keys at (play_in section voice) ≤ size_of voices section

room_first : (voice : List ℕ) (voices : List (List ℕ)) → HasRoom (voice ∷ voices) voice
room_first voice voices at section =
    omega (
      arith,
      play_few at section voice,
      tempos_few at section voices,
      sum_by-cons (size_in section) voice voices,
      length-append (set_from tempo_of at (play_in section voice)) (flat_map (λ v. set_from tempo_of at (play_in section v)) voices),
    )

room_more : (voice : List ℕ) (voices : List (List ℕ)) (other : List ℕ) → HasRoom voices other → HasRoom (voice ∷ voices) other
room_more voice voices other room at section =
    omega (
      arith,
      room at section,
      play_few at section voice,
      sum_by-cons (size_in section) voice voices,
      length-append (set_from tempo_of at (play_in section voice)) (flat_map (λ v. set_from tempo_of at (play_in section v)) voices),
    )

all_room : (voices : List (List ℕ)) → All (HasRoom voices) voices
all_room = each_voice HasRoom room_first room_more

pub tracks_room : (tune : List Item) → All (HasRoom (voice_names tune)) (tracks tune)
tracks_room = each_track HasRoom all_room

-- with the meters and keys of the first of these, if there is one
section_few : (at : ℕ) (section : List ℕ × List Item) (voices those : List (List ℕ)) → All (HasRoom voices) those
    → all_tempos at section voices
    + length (flat_map (λ voice. set_from meter_of at (play_in section voice)) (first_of those))
    + length (flat_map (λ voice. set_from key_of at (play_in section voice)) (first_of those))
    ≤ size_of voices section
section_few at section voices [] room = omega (arith, tempos_few at section voices)
section_few at section voices (voice ∷ those) room =
    omega (
      arith,
      All-head (HasRoom voices) voice those room at section,
      length-append (set_from meter_of at (play_in section voice)) [],
      length-append (set_from key_of at (play_in section voice)) [],
    )

-- the tempos of all voices and the meters and keys of the first of these, in sections that are played from a
-- moment on
pub sets_few : (voices those : List (List ℕ)) → All (HasRoom voices) those → (at : ℕ) (sections : List (List ℕ × List Item))
    → length (set_in tempo_of voices voices at sections) + length (set_in meter_of voices (first_of those) at sections)
    + length (set_in key_of voices (first_of those) at sections) ≤ sum_by (size_of voices) sections
sets_few voices those room at [] = omega arith
sets_few voices those room at (section ∷ rest) =
    let later : ℕ = at + section_length voices section in
    omega (
      arith,
      section_few at section voices those room,
      sets_few voices those room later rest,
      sum_by-cons (size_of voices) section rest,
      length-append (flat_map (λ voice. set_from tempo_of at (play_in section voice)) voices) (set_in tempo_of voices voices later rest),
      length-append (flat_map (λ voice. set_from meter_of at (play_in section voice)) (first_of those)) (set_in meter_of voices (first_of those) later rest),
      length-append (flat_map (λ voice. set_from key_of at (play_in section voice)) (first_of those)) (set_in key_of voices (first_of those) later rest),
    )

-- what one voice sets is no more than what is played
one_of_steps : (at : ℕ) {V : Type 0} (value : Option V) (sets : List (Grains × V)) → length (cons_option (at_moment at value) sets) ≤ length sets + 1
one_of_steps at None sets = omega arith
one_of_steps at (Some value) sets = omega arith

module _ {V : Type 0} (value_of : Item → Option V) where
  own_few : (at : ℕ) (steps : List Item) → length (set_from value_of at steps) ≤ length steps
  own_few at [] = omega arith
  own_few at (step ∷ steps) =
      let later : ℕ = at + length_of step in
      omega (arith, own_few later steps, one_of_steps at (value_of step) (set_from value_of later steps))

  pub voice_sets_few : (voices : List (List ℕ)) (voice : List ℕ) → IsHeard voices voice → (at : ℕ) (sections : List (List ℕ × List Item))
      → length (set_in value_of voices (voice ∷ []) at sections) ≤ sum_by (size_of voices) sections
  voice_sets_few voices voice heard_notes at [] = omega arith
  voice_sets_few voices voice heard_notes at (section ∷ rest) =
      let play : List Item = play_in section voice in
      let later : ℕ = at + section_length voices section in
      omega (
        arith,
        own_few at play,
        picked_few (with_fields_in_endings (part voice section)) (places_of (with_fields_in_endings (part voice section))),
        heard_notes.plays section,
        voice_sets_few voices voice heard_notes later rest,
        sum_by-cons (size_of voices) section rest,
        length-append (set_from value_of at play) [],
        length-append (flat_map (λ one. set_from value_of at (play_in section one)) (voice ∷ [])) (set_in value_of voices (voice ∷ []) later rest),
      )
