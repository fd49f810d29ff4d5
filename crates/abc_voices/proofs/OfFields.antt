-- The opening, the parts and the voices of a tune depend on its fields alone: music changes none of them.
use Rattle.std.proofs.Common.{◌≡◌, ℕ, ◌-◌, Bool, true, false, cond, List, [], ◌∷◌, Option, None, refl, sym, subst, ap, ◌∙◌}
use Rattle.std.proofs.lemmas.List.Elements.{All-filter}
use Rattle.std.specs.Prelude.{not, ℤ, pos, All, unwrap_or}
use Rattle.std.specs.List.{cons_option}
use Rattle.abc_bars_items.specs.declared.item.Item.{Item}
use Rattle.abc_bars_items.specs.declared.item.Item.TheVariants as items
use Rattle.abc_bars_items.specs.declared.item.Tone.{Tone}
use Rattle.abc_fields.specs.declared.meter.Meter.{Meter}
use Rattle.abc_fields.specs.declared.meter.Meter.TheVariants as meters
use Rattle.abc_repeat.specs.Order.{sections_of, has_unknown}
use Rattle.abc_time.specs.declared.grains.Grains.{Grains}
use Rattle.abc_voices.specs.ScoreChanges.{changes_in_force}
use Rattle.abc_voices.specs.Turns.{set_by_all, set_by_one, voices_along, programs_along, end_along, score_along}
use Rattle.abc_voices.specs.Layout.{usual_tempo}
use Rattle.abc_voices.specs.Change.{tempo_of, meter_of, key_of}
use Rattle.abc_voices.specs.Fields.{is_music, without_music}
use Rattle.abc_voices.specs.Opening.{tempo_after, meter_after, key_after, program_after, order_after, after_all, title_before, title_of}
use Rattle.abc_voices_sections.specs.Section.{letter_of, letters, declared_or, opening_voice}
use Rattle.abc_voices_sections.specs.declared.stage.Stage.{Stage}
use Rattle.abc_voices.specs.Track.{names_after, names_from, voice_names}

-- a value that is the same at a note or chord, a rest, a bar line and the beginning of an ending is the same at all music
pub of_music : {V : Type 0} (f : Item → V) (v : V) → ((tones : List Tone) (length : Grains) → f (items.Tone tones length) ≡ v)
    → ((length : Grains) (bar : Bool) → f (items.Rest length bar) ≡ v) → ((line : _) → f (items.Bar line) ≡ v)
    → ((numbers : ℕ) → f (items.Ending numbers) ≡ v) → (item : Item) → is_music item ≡ true → f item ≡ v
of_music f v tone rest bar ending (items.Tone tones length) h = tone tones length
of_music f v tone rest bar ending (items.Rest length whole) h = rest length whole
of_music f v tone rest bar ending (items.Bar line) h = bar line
of_music f v tone rest bar ending (items.Ending numbers) h = ending numbers
of_music f v tone rest bar ending _ h = cc

-- a value that goes from step to step, and that music does not change
left_step : {V W : Type 0} (f : V → List Item → W) (past : V → Item → V)
    → ((v : V) (step : Item) (tune : List Item) → f v (step ∷ tune) ≡ f (past v step) tune)
    → ((item : Item) → is_music item ≡ true → (v : V) → past v item ≡ v)
    → (v : V) (step : Item) (tune : List Item) → ((w : V) → f w (without_music tune) ≡ f w tune)
    → (music : Bool) → is_music step ≡ music
    → f v (cond (not music) (step ∷ without_music tune) (without_music tune)) ≡ f v (step ∷ tune)
left_step f past goes kept v step tune rest true music =
    rest v ∙ sym (goes v step tune ∙ ap (λ w. f w tune) (kept step music v))
left_step f past goes kept v step tune rest false music =
    goes v step (without_music tune) ∙ rest (past v step) ∙ sym (goes v step tune)

from_left : {V W : Type 0} (f : V → List Item → W) (past : V → Item → V)
    → ((v : V) (step : Item) (tune : List Item) → f v (step ∷ tune) ≡ f (past v step) tune)
    → ((item : Item) → is_music item ≡ true → (v : V) → past v item ≡ v)
    → (v : V) (tune : List Item) → f v (without_music tune) ≡ f v tune
from_left f past goes kept v [] = refl
from_left f past goes kept v (step ∷ tune) =
    left_step f past goes kept v step tune (λ w. from_left f past goes kept w tune) (is_music step) refl

-- a value that comes from the last step to the first, and that music does not change
right_step : {V : Type 0} (f : List Item → V) (before : V → Item → V)
    → ((step : Item) (tune : List Item) → f (step ∷ tune) ≡ before (f tune) step)
    → ((item : Item) → is_music item ≡ true → (v : V) → before v item ≡ v)
    → (step : Item) (tune : List Item) → f (without_music tune) ≡ f tune → (music : Bool) → is_music step ≡ music
    → f (cond (not music) (step ∷ without_music tune) (without_music tune)) ≡ f (step ∷ tune)
right_step f before goes kept step tune rest true music =
    rest ∙ sym (goes step tune ∙ kept step music (f tune))
right_step f before goes kept step tune rest false music =
    goes step (without_music tune) ∙ ap (λ v. before v step) rest ∙ sym (goes step tune)

from_right : {V : Type 0} (f : List Item → V) (before : V → Item → V)
    → ((step : Item) (tune : List Item) → f (step ∷ tune) ≡ before (f tune) step)
    → ((item : Item) → is_music item ≡ true → (v : V) → before v item ≡ v)
    → (tune : List Item) → f (without_music tune) ≡ f tune
from_right f before goes kept [] = refl
from_right f before goes kept (step ∷ tune) =
    right_step f before goes kept step tune (from_right f before goes kept tune) (is_music step) refl

-- the last value of several fields
after_fields : {V : Type 0} (past : Option V → Item → Option V) → ((item : Item) → is_music item ≡ true → (v : Option V) → past v item ≡ v)
    → (tune : List Item) → after_all past None (without_music tune) ≡ after_all past None tune
after_fields past kept tune = from_left (after_all past) past (λ _ _ _. refl) kept None tune

-- the order of the parts
order_kept : (item : Item) → is_music item ≡ true → (v : Option (List ℕ)) → order_after v item ≡ v
order_kept item music v = of_music (order_after v) v (λ _ _. refl) (λ _ _. refl) (λ _. refl) (λ _. refl) item music

order_of_fields : (tune : List Item) → after_all order_after None (without_music tune) ≡ after_all order_after None tune
order_of_fields = after_fields order_after order_kept

-- the letters of the parts
letter_kept : (item : Item) → is_music item ≡ true → (v : List ℕ) → cons_option (letter_of item) v ≡ v
letter_kept item music v = of_music (λ i. cons_option (letter_of i) v) v (λ _ _. refl) (λ _ _. refl) (λ _. refl) (λ _. refl) item music

pub letters_of_fields : (tune : List Item) → letters (without_music tune) ≡ letters tune
letters_of_fields tune = from_right (letters) (λ v item. cons_option (letter_of item) v) (λ _ _. refl) letter_kept tune

-- the voices
names_kept : (item : Item) → is_music item ≡ true → (v : List (List ℕ)) → names_after v item ≡ v
names_kept item music v = of_music (names_after v) v (λ _ _. refl) (λ _ _. refl) (λ _. refl) (λ _. refl) item music

pub voices_of_fields : (tune fields : List Item) → fields ≡ without_music tune → voice_names fields ≡ voice_names tune
voices_of_fields tune fields is =
    ap (voice_names) is ∙ from_left (names_from) names_after (λ _ _ _. refl) names_kept ([] ∷ []) tune

declared_kept : (item : Item) → is_music item ≡ true → (v : List ℕ) → declared_or v item ≡ v
declared_kept item music v = of_music (declared_or v) v (λ _ _. refl) (λ _ _. refl) (λ _. refl) (λ _. refl) item music

pub opening_voice_of_fields : (tune fields : List Item) → fields ≡ without_music tune → opening_voice fields ≡ opening_voice tune
opening_voice_of_fields tune fields is =
    ap (opening_voice) is ∙ from_right (opening_voice) declared_or (λ _ _. refl) declared_kept tune

-- the tempo, the meter and the key with which a tune opens
tempo_kept : (item : Item) → is_music item ≡ true → (v : Option ℕ) → tempo_after v item ≡ v
tempo_kept item music v = of_music (tempo_after v) v (λ _ _. refl) (λ _ _. refl) (λ _. refl) (λ _. refl) item music

meter_kept : (item : Item) → is_music item ≡ true → (v : Option Meter) → meter_after v item ≡ v
meter_kept item music v = of_music (meter_after v) v (λ _ _. refl) (λ _ _. refl) (λ _. refl) (λ _. refl) item music

key_kept : (item : Item) → is_music item ≡ true → (v : Option (ℤ × Bool)) → key_after v item ≡ v
key_kept item music v = of_music (key_after v) v (λ _ _. refl) (λ _ _. refl) (λ _. refl) (λ _. refl) item music

-- the program with which the tune opens
program_kept : (item : Item) → is_music item ≡ true → (v : Option ℕ) → program_after v item ≡ v
program_kept item music v = of_music (program_after v) v (λ _ _. refl) (λ _ _. refl) (λ _. refl) (λ _. refl) item music

-- the title
title_kept : (item : Item) → is_music item ≡ true → (v : List ℕ) → title_before v item ≡ v
title_kept item music v = of_music (title_before v) v (λ _ _. refl) (λ _ _. refl) (λ _. refl) (λ _. refl) item music

title_of_fields : (tune : List Item) → title_of (without_music tune) ≡ title_of tune
title_of_fields tune = from_right (title_of) title_before (λ _ _. refl) title_kept tune

-- the score of stages
score_without_music : (tune : List Item) (first count : ℕ) (stages : List (Stage Item)) → score_along (without_music tune) first count stages ≡ score_along tune first count stages
score_without_music tune first count stages =
    let voices = voices_along stages first (count - first) in
    λ i. record {
      title = title_of_fields tune i;
      end = record { 0 = end_along stages voices };
      conductor = changes_in_force
          ((record { 0 = 0 }, unwrap_or (after_fields tempo_after tempo_kept tune i) usual_tempo) ∷ set_by_all tempo_of 0 stages)
          ((record { 0 = 0 }, unwrap_or (after_fields meter_after meter_kept tune i) meters.Free) ∷ set_by_one meter_of first 0 stages)
          ((record { 0 = 0 }, unwrap_or (after_fields key_after key_kept tune i) (pos 0, false)) ∷ set_by_one key_of first 0 stages);
      voices = voices;
      programs = programs_along (after_fields program_after program_kept tune i) stages first (count - first);
    }

pub score_of_fields : (tune fields : List Item) (first count : ℕ) (stages : List (Stage Item)) → fields ≡ without_music tune
    → score_along fields first count stages ≡ score_along tune first count stages
score_of_fields tune fields first count stages is =
    ap (λ g. score_along g first count stages) is ∙ score_without_music tune first count stages

-- the sections that are played, and whether the order has a letter without one
pub played_of_fields : (tune fields : List Item) → fields ≡ without_music tune
    → sections_of (after_all order_after None fields) (letters fields) ≡ sections_of (after_all order_after None tune) (letters tune)
played_of_fields tune fields is =
    (λ i. sections_of (after_all order_after None (is i)) (letters (is i))) ∙ (λ i. sections_of (order_of_fields tune i) (letters_of_fields tune i))

pub unknown_of_fields : (tune fields : List Item) → fields ≡ without_music tune
    → has_unknown (after_all order_after None fields) (letters fields) ≡ has_unknown (after_all order_after None tune) (letters tune)
unknown_of_fields tune fields is =
    (λ i. has_unknown (after_all order_after None (is i)) (letters (is i))) ∙ (λ i. has_unknown (order_of_fields tune i) (letters_of_fields tune i))

-- each field is an item of the tune
pub items_of_fields : (P : Item → Type 0) (tune fields : List Item) → fields ≡ without_music tune → All P tune → All P fields
items_of_fields P tune fields is all = subst (All P) (sym is) (All-filter (λ step. not (is_music step)) P tune all)
