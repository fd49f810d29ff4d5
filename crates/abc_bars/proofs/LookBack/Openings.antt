-- The voices of a body begin with what the header says of them.
use Rattle.std.proofs.Common.{◌≡◌, ◌∙◌, ℕ, true, List, [], ◌∷◌, map, Option, Some, None, unwrap_or, bytes_eq, position, refl, sym, ap, subst}
use Rattle.std.specs.List.{Contains, list_any}
use Rattle.std.specs.Option.{option_and_then}
use Rattle.abc_fields.specs.declared.key.Key.{Key}
use Rattle.abc_fields.specs.declared.shift.Shift.{Shift}
use Rattle.abc_fields.specs.Shift.{no_shift}
use Rattle.abc_bars_header.specs.declared.defaults.Defaults.{Defaults}
use Rattle.abc_bars_header.specs.declared.header.Header.{Header}
use Rattle.abc_bars_header.specs.HeaderLine.{HeaderLine}
use Rattle.abc_bars_header.specs.Voices.{place_of, voice_at}
use Rattle.abc_bars_header.proofs.NamePlaces.{find_place}
use Rattle.abc_bars_voice.specs.declared.voice_state.VoiceState.{VoiceState}
use Rattle.abc_bars_body.specs.declared.body.Body.{Body}
use Rattle.abc_bars_body.specs.BodyOpening.{opening_voice_state, opening_voice}
use Rattle.abc_bars.specs.LookBack.ByName.{opening_of}
use Rattle.abc_bars.specs.LookBack.Defaults.{defaults_at}
use Rattle.abc_bars.specs.LookBack.Header.{declared_names, declared_shift, header_at}
use Rattle.abc_bars.specs.LookBack.Openings.{DeclaredVoicesOpen, OpensWith, OtherVoicesOpen, VoiceOpens}
use Rattle.abc_bars.specs.LookBack.Place.{opening_at}
use Rattle.abc_bars.proofs.LookBack.Accidentals.{reach_kept}
use Rattle.abc_bars.proofs.Names.{voice_at-each_with, each_with, list_any-finds, list_any-missing, keys_of-each_with, slice_get-name_there, position-none}

opens : (set : Defaults) (key : Key) (said : Shift) → OpensWith set key said (opening_voice_state set key said)
opens set key said = record {
  meter = refl;
  unit = refl;
  signature = refl;
  reach = reach_kept set.reach [];
  clef = refl;
  octave = refl;
  transpose = refl;
}

-- What each declared voice begins with.
voices-from : (header : Header) (key : Key) (said : List ℕ → Shift) (names : List (List ℕ))
    → map (opening_voice header key) (map (λ name. (name, said name)) names) ≡ each_with (λ name. opening_voice_state header.defaults key (said name)) names
voices-from header key said [] = refl
voices-from header key said (name ∷ names) = ap (λ l. (name, opening_voice_state header.defaults key (said name)) ∷ l) (voices-from header key said names)

module _ (values : Defaults) (fields : List HeaderLine) (key : Key) where
  abbrev opening : Body
  opening = opening_at values fields key

  abbrev pub opening_state : List ℕ → VoiceState
  opening_state name = opening_voice_state (defaults_at values fields) key (declared_shift fields name)

  pub opening_voices_are : (opening_at values fields key).voices ≡ each_with opening_state (declared_names fields)
  opening_voices_are = voices-from (header_at values fields) key (declared_shift fields) (declared_names fields)

  -- What the voice of a name begins with, by the place of the name among those that are declared.
  by-place : (name : List ℕ) (place : Option ℕ) → position (bytes_eq name) (declared_names fields) ≡ place
      → opening_of opening name ≡ unwrap_or (option_and_then (voice_at (each_with opening_state (declared_names fields))) place) opening.another
  by-place name place is =
      ap (λ (voices : List (List ℕ × VoiceState)). unwrap_or (option_and_then (voice_at voices) (place_of name voices)) opening.another) opening_voices_are
      ∙ ap (λ (p : Option ℕ). unwrap_or (option_and_then (voice_at (each_with opening_state (declared_names fields))) p) opening.another)
      (ap (position (bytes_eq name)) (keys_of-each_with opening_state (declared_names fields)) ∙ is)

  pub declared_opening : (name : List ℕ) → list_any (bytes_eq name) (declared_names fields) ≡ true → opening_of (opening_at values fields key) name ≡ opening_state name
  declared_opening name there =
      let place = find_place (bytes_eq name) (declared_names fields) there in
      by-place name (Some place.0) place.1
      ∙ ap (λ (o : Option VoiceState). unwrap_or o opening.another)
      (voice_at-each_with opening_state (declared_names fields) place.0 name (slice_get-name_there name (declared_names fields) place.0 place.1))

  declared-opens : (name : List ℕ) → Contains (declared_names fields) name → VoiceOpens values fields key (declared_shift fields name) name
  declared-opens name there =
      subst (OpensWith (defaults_at values fields) key (declared_shift fields name)) (sym (declared_opening name (list_any-finds name (declared_names fields) there)))
      (opens (defaults_at values fields) key (declared_shift fields name))

  other-opens : (name : List ℕ) → ¬ Contains (declared_names fields) name → VoiceOpens values fields key no_shift name
  other-opens name none =
      subst (OpensWith (defaults_at values fields) key no_shift)
      (sym (by-place name None (position-none name (declared_names fields) (list_any-missing name (declared_names fields) none))))
      (opens (defaults_at values fields) key no_shift)

pub declared_voices_open : DeclaredVoicesOpen
declared_voices_open = declared-opens

pub other_voices_open : OtherVoicesOpen
other_voices_open = other-opens
