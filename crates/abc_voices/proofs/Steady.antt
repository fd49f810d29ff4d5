-- A tune whose fields change nothing while it is played goes on as it opens.
use Rattle.std.proofs.Common.{◌≡◌, ℕ, zero, suc, ◌+◌, Bool, true, false, cond, List, [], ◌∷◌, ◌++◌, map, Option, Some, None, refl, sym, ap, subst, ◌∙◌}
use Rattle.std.specs.Prelude.{ℤ, pos, is_some, unwrap_or, not, ◌&&◌, bytes_eq, All, IfSome, slice_get}
use Rattle.std.specs.List.{cons_option, flat_map, list_all}
use Rattle.std.proofs.lemmas.Bool.{and_parts, not-true}
use Rattle.std.proofs.lemmas.List.Elements.{All-nil, All-cons, All-head, All-tail}
use Rattle.abc_bars_items.specs.declared.item.Item.{Item}
use Rattle.abc_bars_items.specs.declared.item.Item.TheVariants as items
use Rattle.abc_fields.specs.declared.meter.Meter.{Meter}
use Rattle.abc_fields.specs.declared.meter.Meter.TheVariants as meters
use Rattle.abc_voices_sections.specs.declared.stage.VoicePart.{VoicePart}
use Rattle.abc_voices_sections.specs.declared.stage.Stage.{Stage}
use Rattle.abc_voices.specs.Turns.{IsSteady, PlaysNone, steps_of, set_by_all, set_by_one, changes_along, programs_by, programs_along}
use Rattle.abc_voices.specs.Layout.{played_sections, usual_tempo}
use Rattle.abc_voices.specs.Change.{tempo_of, meter_of, key_of, program_of, at_moment, set_from, after_opening}
use Rattle.abc_voices.specs.ScoreChanges.{changes_in_force, programs_in_force}
use Rattle.abc_voices.specs.Fields.{is_music, is_change, is_steady, sets_program, keeps_programs, without_music}
use Rattle.abc_voices.specs.Opening.{tempo_after, meter_after, key_after, after_all}
use Rattle.abc_voices_sections.specs.Section.{is_step, voice_after, part_from}
use Rattle.abc_voices_sections.specs.Stage.{part_of, stage_of}
use Rattle.abc_voices_sections.specs.Step.{is_field, length_of}
use Rattle.abc_voices.specs.Track.{voice_names}
use Rattle.abc_voices.proofs.Fitting.Kept.{got, part_played, played_kept}
use Rattle.abc_voices.proofs.OfFields.{of_music}

-- such a step sets nothing
sets_no_change : (item : Item) → is_field item ≡ false → (tempo_of item ≡ None) × (meter_of item ≡ None) × (key_of item ≡ None)
sets_no_change (items.Tempo opening micros out) h = absurd (cc)
sets_no_change (items.Meter opening meter) h = absurd (cc)
sets_no_change (items.Key opening key) h = absurd (cc)
sets_no_change (items.Program opening number) h = absurd (cc)
sets_no_change _ h = (refl, refl, refl)

-- nor do steps, parts and stages of such steps
module _ {V : Type 0} (value_of : Item → Option V) (kind : Item → Bool) (sets_none : (item : Item) → kind item ≡ false → value_of item ≡ None) where
  abbrev SetsNone : Item → Type 0
  SetsNone step = kind step ≡ false

  set_by_steps : (at : ℕ) (steps : List Item) → All SetsNone steps → set_from value_of at steps ≡ []
  set_by_steps at [] plain = refl
  set_by_steps at (step ∷ steps) plain =
      ap (λ value. cons_option (at_moment at value) (set_from value_of (at + length_of step) steps)) (sets_none step (All-head SetsNone step steps plain))
      ∙ set_by_steps (at + length_of step) steps (All-tail SetsNone step steps plain)

  abbrev SetsNonePart : VoicePart Item → Type 0
  SetsNonePart part = All SetsNone part.steps

  set_by_parts : (at : ℕ) (parts : List (VoicePart Item)) → All SetsNonePart parts → flat_map (λ part. set_from value_of at part.steps) parts ≡ []
  set_by_parts at [] plain = refl
  set_by_parts at (part ∷ parts) plain =
      ap (λ sets. sets ++ flat_map (λ p. set_from value_of at p.steps) parts) (set_by_steps at part.steps (All-head SetsNonePart part parts plain))
      ∙ set_by_parts at parts (All-tail SetsNonePart part parts plain)

  all_set_nothing : (at : ℕ) (stages : List (Stage Item)) → All (PlaysNone kind) stages → set_by_all value_of at stages ≡ []
  all_set_nothing at [] steady = refl
  all_set_nothing at (stage ∷ stages) steady =
      ap (λ sets. sets ++ set_by_all value_of (at + stage.longest.0) stages) (set_by_parts at stage.parts (All-head (PlaysNone kind) stage stages steady))
      ∙ all_set_nothing (at + stage.longest.0) stages (All-tail (PlaysNone kind) stage stages steady)

  set_by_part : (at : ℕ) (part : Option (VoicePart Item)) → IfSome part SetsNonePart → set_from value_of at (steps_of part) ≡ []
  set_by_part at None plain = refl
  set_by_part at (Some part) plain = set_by_steps at part.steps plain

  one_sets_nothing : (voice at : ℕ) (stages : List (Stage Item)) → All (PlaysNone kind) stages → set_by_one value_of voice at stages ≡ []
  one_sets_nothing voice at [] steady = refl
  one_sets_nothing voice at (stage ∷ stages) steady =
      ap (λ sets. sets ++ set_by_one value_of voice (at + stage.longest.0) stages)
      (set_by_part at (slice_get stage.parts voice) (got SetsNonePart stage.parts voice (All-head (PlaysNone kind) stage stages steady)))
      ∙ one_sets_nothing voice (at + stage.longest.0) stages (All-tail (PlaysNone kind) stage stages steady)

plain_step : (field takes : Bool) → (field && takes) ≡ false → takes ≡ true → field ≡ false
plain_step true takes h e = sym e ∙ h
plain_step false takes h e = refl

-- what is such at no music and at none of the fields of a tune that are played is such at nothing that is played
module _ (kind : Item → Bool) (music_not : (item : Item) → is_music item ≡ true → (kind item && is_step item) ≡ false) where
  abbrev IsPlain : Item → Type 0
  IsPlain step = kind step ≡ false

  abbrev ChangesNothing : Item → Type 0
  ChangesNothing step = (kind step && is_step step) ≡ false

  abbrev none_of : List Item → Bool
  none_of steps = list_all (λ step. not (kind step && is_step step)) steps

  steady_step : (step : Item) (tune : List Item) (music : Bool) → is_music step ≡ music
      → none_of (cond (not music) (step ∷ without_music tune) (without_music tune)) ≡ true
      → ChangesNothing step × (none_of (without_music tune) ≡ true)
  steady_step step tune true e steady = (music_not step e, steady)
  steady_step step tune false e steady =
      let both = and_parts (not (kind step && is_step step)) (none_of (without_music tune)) steady in
      (not-true (kind step && is_step step) both.0, both.1)

  steady_steps : (tune : List Item) → none_of (without_music tune) ≡ true → All ChangesNothing tune
  steady_steps [] steady = All-nil ChangesNothing
  steady_steps (step ∷ tune) steady =
      let both = steady_step step tune (is_music step) refl steady in
      All-cons ChangesNothing step tune both.0 (steady_steps tune both.1)

  plain_more : (voice current : List ℕ) (step : Item) (rest : List Item) → ChangesNothing step → All IsPlain rest
      → (takes mine : Bool) → is_step step ≡ takes → All IsPlain (cond (takes && mine) (step ∷ rest) rest)
  plain_more voice current step rest none plain false mine e = plain
  plain_more voice current step rest none plain true false e = plain
  plain_more voice current step rest none plain true true e = All-cons IsPlain step rest (plain_step (kind step) (is_step step) none e) plain

  plain_part : (voice current : List ℕ) (steps : List Item) → All ChangesNothing steps → All IsPlain (part_from voice current steps)
  plain_part voice current [] none = All-nil IsPlain
  plain_part voice current (step ∷ steps) none =
      plain_more voice current step (part_from voice (voice_after current step) steps) (All-head ChangesNothing step steps none)
      (plain_part voice (voice_after current step) steps (All-tail ChangesNothing step steps none))
      (is_step step) (bytes_eq current voice) refl

  plain_parts : (section : List ℕ × List Item) (voices : List (List ℕ)) → All ChangesNothing section.1
      → All (λ part. All IsPlain part.steps) (map (part_of section) voices)
  plain_parts section [] none = All-nil (λ (part : VoicePart Item). All IsPlain part.steps)
  plain_parts (opening, steps) (voice ∷ voices) none =
      All-cons (λ (part : VoicePart Item). All IsPlain part.steps) (part_of (opening, steps) voice) (map (part_of (opening, steps)) voices)
      (part_played IsPlain opening steps voice (plain_part voice opening steps none)) (plain_parts (opening, steps) voices none)

  steady_stages : (voices : List (List ℕ)) (played : List (List ℕ × List Item)) → All (λ section. All ChangesNothing section.1) played
      → All (PlaysNone kind) (map (stage_of voices) played)
  steady_stages voices [] none = All-nil (PlaysNone kind)
  steady_stages voices (section ∷ played) none =
      let P : List ℕ × List Item → Type 0 = λ one. All ChangesNothing one.1 in
      All-cons (PlaysNone kind) (stage_of voices section) (map (stage_of voices) played) (plain_parts section voices (All-head P section played none))
      (steady_stages voices played (All-tail P section played none))

  pub none_along : (tune fields : List Item) (stages : List (Stage Item)) → fields ≡ without_music tune
      → stages ≡ map (stage_of (voice_names tune)) (played_sections tune)
      → none_of fields ≡ true → All (PlaysNone kind) stages
  none_along tune fields stages is are steady =
      subst (All (PlaysNone kind)) (sym are)
      (steady_stages (voice_names tune) (played_sections tune)
      (played_kept ChangesNothing tune (steady_steps tune (sym (ap none_of is) ∙ steady))))

-- music changes nothing
music_plain : (item : Item) → is_music item ≡ true → is_change item ≡ false
music_plain item music = of_music is_change false (λ _ _. refl) (λ _ _. refl) (λ _. refl) (λ _. refl) item music

music_keeps : (item : Item) → is_music item ≡ true → (sets_program item && is_step item) ≡ false
music_keeps item music = of_music (λ one. sets_program one && is_step one) false (λ _ _. refl) (λ _ _. refl) (λ _. refl) (λ _. refl) item music

pub steady_along : (tune fields : List Item) (stages : List (Stage Item)) → fields ≡ without_music tune
    → stages ≡ map (stage_of (voice_names tune)) (played_sections tune)
    → is_steady fields ≡ true → All IsSteady stages
steady_along = none_along is_field music_plain

pub kept_along : (tune fields : List Item) (stages : List (Stage Item)) → fields ≡ without_music tune
    → stages ≡ map (stage_of (voice_names tune)) (played_sections tune)
    → keeps_programs fields ≡ true → All (PlaysNone sets_program) stages
kept_along = none_along sets_program music_keeps

-- the changes of steady stages are those with which their tune opens
pub opening_is : {V : Type 0} (found last : Option V) (usual value : V) → value ≡ unwrap_or found usual → found ≡ last → value ≡ unwrap_or last usual
opening_is found last usual value is same = is ∙ ap (λ last. unwrap_or last usual) same

pub steady_changes : (fields : List Item) (first : ℕ) (stages : List (Stage Item)) (tempo : ℕ) (meter : Meter) (key : ℤ × Bool) → All IsSteady stages
    → tempo ≡ unwrap_or (after_all tempo_after None fields) usual_tempo → meter ≡ unwrap_or (after_all meter_after None fields) meters.Free
    → key ≡ unwrap_or (after_all key_after None fields) (pos 0, false)
    → changes_in_force ((record { 0 = 0 }, tempo) ∷ []) ((record { 0 = 0 }, meter) ∷ []) ((record { 0 = 0 }, key) ∷ []) ≡ changes_along fields first stages
steady_changes fields first stages tempo meter key steady p q r =
    let tempos = sym (all_set_nothing tempo_of is_field (λ item h. (sets_no_change item h).0) 0 stages steady) in
    let meter_sets = sym (one_sets_nothing meter_of is_field (λ item h. (sets_no_change item h).1) first 0 stages steady) in
    let keys = sym (one_sets_nothing key_of is_field (λ item h. (sets_no_change item h).2) first 0 stages steady) in
    λ i. changes_in_force ((record { 0 = 0 }, p i) ∷ tempos i) ((record { 0 = 0 }, q i) ∷ meter_sets i) ((record { 0 = 0 }, r i) ∷ keys i)

-- the programs of stages that set none are those with which their tune opens
no_program : (value : Option ℕ) → is_some value ≡ false → value ≡ None
no_program None h = refl
no_program (Some number) h = cc

one_keeps : (opening : Option ℕ) (voice : ℕ) (stages : List (Stage Item)) → All (PlaysNone sets_program) stages → programs_by opening [] voice ≡ programs_by opening stages voice
one_keeps opening voice stages kept =
    ap (λ sets. programs_in_force (after_opening opening sets)) (sym (one_sets_nothing program_of sets_program (λ item. no_program (program_of item)) voice 0 stages kept))

pub programs_kept : (opening : Option ℕ) (voice count : ℕ) (stages : List (Stage Item)) → All (PlaysNone sets_program) stages
    → programs_along opening [] voice count ≡ programs_along opening stages voice count
programs_kept opening voice zero stages kept = refl
programs_kept opening voice (suc count) stages kept =
    λ i. one_keeps opening voice stages kept i ∷ programs_kept opening (voice + 1) count stages kept i
