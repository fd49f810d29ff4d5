-- The keys of the item that a token gives are those that looking back gives at its place.
use Rattle.std.proofs.Common.{◌≡◌, ℕ, Bool, true, false, List, [], ◌∷◌, ◌++◌, map, Option, Some, refl, sym, ap, subst, ◌∙◌}
use Rattle.std.specs.Option.{option_map}
use Rattle.std.specs.Prelude.{slice_get}
use Rattle.std.proofs.lemmas.Option.{slice_get-map}
use Rattle.abc_bars.proofs.LookBack.BodyState.{body_at_cons}
use Rattle.abc_bars.proofs.LookBack.CellPlace.{body-at, chord-items, here-in-chord, here-is, tie-next}
use Rattle.abc_bars.proofs.LookBack.Chords.{map-heard_of}
use Rattle.abc_bars.proofs.LookBack.Keys.{note-key}
use Rattle.abc_bars.proofs.LookBack.Tokens.{with_kind_body}
use Rattle.abc_bars.specs.LookBack.BodyState.{body_at}
use Rattle.abc_bars.specs.LookBack.CellPlace.{CellPlace, VoicePlace, voice_place_at}
use Rattle.abc_bars.specs.LookBack.Cells.{after_tokens}
use Rattle.abc_bars.specs.LookBack.Element.{Element}
use Rattle.abc_bars.specs.LookBack.Keys.{SoundsKeys, heard_of, key_at, keys_from}
use Rattle.abc_bars.specs.LookBack.Place.{opening_at}
use Rattle.abc_bars.specs.LookBack.Voice.{counted_notes}
use Rattle.abc_bars_body.specs.Body.{after_mention, here}
use Rattle.abc_bars_body.specs.Cell.{after_chord_mention, is_tie_token, tie_ahead, with_kind, with_token}
use Rattle.abc_bars_body.specs.declared.body.Body.{Body}
use Rattle.abc_bars_body.specs.declared.cell.CellResult.{CellResult}
use Rattle.abc_bars_header.specs.HeaderLine.{HeaderLine}
use Rattle.abc_bars_header.specs.declared.defaults.Defaults.{Defaults}
use Rattle.abc_bars_items.specs.declared.item.Item.{Item}
use Rattle.abc_bars_items.specs.declared.item.Item.TheVariants as items
use Rattle.abc_bars_items.specs.declared.item.Tone.{Tone}
use Rattle.abc_bars_notes.specs.Broken.{factors_of}
use Rattle.abc_bars_notes.specs.Chords.{chord_builder_of}
use Rattle.abc_bars_notes.specs.Pitch.{midi_key, pitch_of}
use Rattle.abc_bars_notes.specs.TimeTokens.{first_length}
use Rattle.abc_bars_notes.specs.TokenRole.{has_note}
use Rattle.abc_bars_notes.specs.declared.chords.ChordContext.{ChordContext}
use Rattle.abc_bars_notes.specs.declared.sound.ChordBuilder.{ChordBuilder}
use Rattle.abc_bars_voice.specs.Alteration.{alteration_of}
use Rattle.abc_bars_voice.specs.declared.voice_state.VoiceState.{VoiceState}
use Rattle.abc_fields.specs.declared.key.Key.{Key}
use Rattle.abc_scan.specs.declared.chord.Chord.{Chord}
use Rattle.abc_scan.specs.declared.note.Note.{Note}
use Rattle.abc_scan.specs.declared.spanned.Spanned.{Spanned}
use Rattle.abc_scan.specs.declared.token.TokenKind.{TokenKind}
use Rattle.abc_scan.specs.declared.token.TokenKind.TheVariants as tokens
use Rattle.abc_time.specs.declared.ratio.Ratio.{Ratio}
use Rattle.abc_play_places.proofs.Matched.{Tokens, after_front}
use Rattle.abc_play.specs.Laws.{HasKey, keys_of}
use Rattle.abc_play_tune.specs.declared.entry.EntryKind.{EntryKind}
use Rattle.abc_play_tune.specs.declared.entry.EntryKind.TheVariants as kinds
use Rattle.abc_play.proofs.EntryItems.{FitsItem}

-- the state before a token that is no tie is what looking back finds there
module _ (values : Defaults) (fields : List HeaderLine) (key : Key) (token : Spanned TokenKind) (ahead : Tokens) (no_tie : is_tie_token token.kind ≡ false) where
  abbrev opening : Body
  opening = opening_at values fields key

  next_body : (given : CellResult) (before : List Element) (first : Spanned TokenKind) (rest : Tokens) → given.body ≡ body_at opening before
      → (with_token given first rest).body ≡ body_at opening (record { kind = first.kind; tied = tie_ahead rest } ∷ before)
  next_body given before first rest is =
      ap (λ (body : Body). (with_token (record given { body = body }) first rest).body) is
      ∙ with_kind_body given (body_at opening before) first rest
      ∙ sym (body_at_cons values fields key before (record { kind = first.kind; tied = tie_ahead rest }))

  pub front_body : (given : CellResult) (before : List Element) (front : Tokens) → given.body ≡ body_at opening before
      → (after_front given front (token ∷ ahead)).body ≡ body_at opening (after_tokens front before)
  front_body given before [] is = is
  front_body given before (first ∷ front) is =
      front_body (with_token given first (front ++ token ∷ ahead)) (record { kind = first.kind; tied = tie_ahead front } ∷ before) front
      (next_body given before first (front ++ token ∷ ahead) is
      ∙ ap (λ b. body_at opening (record { kind = first.kind; tied = b } ∷ before)) (tie-next front ahead token no_tie))

-- the keys of tones
abbrev pub keys_in : List Tone → List (Option ℕ)
keys_in tones = map (λ (tone : Tone). tone.key) tones

keys_heard : (tones : List Tone) → map (λ (heard : Option ℕ × Bool). heard.0) (map heard_of tones) ≡ keys_in tones
keys_heard [] = refl
keys_heard (tone ∷ tones) = ap (λ l. tone.key ∷ l) (keys_heard tones)

-- an item sounds these keys
abbrev pub SoundsAt : List (Option ℕ) → Item → Type 0
SoundsAt keys (items.Tone tones lasting) = keys_in tones ≡ keys
SoundsAt keys _ = ⊥

sounded : (heard : List (Option ℕ × Bool)) (item : Item) → SoundsKeys heard item → SoundsAt (map (λ (one : Option ℕ × Bool). one.0) heard) item
sounded heard item is =
    subst (SoundsAt (map (λ (one : Option ℕ × Bool). one.0) heard)) (sym is.2)
    (sym (keys_heard is.0) ∙ ap (map (λ (one : Option ℕ × Bool). one.0)) is.3)

-- what is added is the same
last_same : {X : Type 0} (xs : List X) (x y : X) → xs ++ x ∷ [] ≡ xs ++ y ∷ [] → x ≡ y
last_same [] x y is = cc
last_same (first ∷ xs) x y is = last_same xs x y cc

-- the item of a note, and of a chord
note_given : (place : CellPlace) (note : Note) (start : CellResult) → start.body ≡ body-at place
    → (item : Item) × ((with_kind start place.from (tokens.Note note) place.ahead).items.items ≡ start.items.items ++ item ∷ [])
    × SoundsKeys ((key_at (voice_place_at place) [] note, tie_ahead place.ahead) ∷ []) item
note_given place note start is = (
  _,
  refl,
  (
    _,
    _,
    refl,
    ap (λ (s : VoiceState). (midi_key (pitch_of s.shift note (alteration_of s s.accidentals note)), tie_ahead place.ahead) ∷ [])
        (ap (λ (body : Body). here (after_mention body)) is ∙ here-is place)
        ∙ ap (λ k. (k, tie_ahead place.ahead) ∷ []) (note-key (voice_place_at place) note),
  ),
)

chord_given : (place : CellPlace) (chord : Chord) (start : CellResult) → start.body ≡ body-at place → has_note chord.parts ≡ true
    → (item : Item) × ((with_kind start place.from (tokens.Chord chord) place.ahead).items.items ≡ start.items.items ++ item ∷ [])
    × SoundsKeys (keys_from (voice_place_at place) (tie_ahead place.ahead) [] (counted_notes chord)) item
chord_given place chord start is some =
    let at : VoicePlace = voice_place_at place in
    let outside : ChordContext = record { length = chord.length; tied = tie_ahead place.ahead; from = place.from } in
    let broken : List Ratio = factors_of start.preceding place.ahead in
    let mention : Body → Body = after_chord_mention (has_note chord.parts) in
    let inside : ChordBuilder = chord_builder_of (here (mention start.body)) broken outside chord.parts in (
      _,
      ap (λ l. start.items.items ++ l) (chord-items (has_note chord.parts) (here (mention start.body)) place.from inside some),
      (
        inside.tones,
        first_length inside.tones,
        refl,
        ap (λ (s : VoiceState). map heard_of (chord_builder_of s broken outside chord.parts).tones)
            (ap (λ (body : Body). here (mention body)) is ∙ here-in-chord place (has_note chord.parts))
            ∙ map-heard_of at.opening at.before broken outside chord,
      ),
    )

-- a note or a chord with a note gives an item of the keys of its place
abbrev pub Heard : CellPlace → TokenKind → Item → Type 0
Heard place (tokens.Note note) item = SoundsAt (keys_of place (tokens.Note note)) item
Heard place (tokens.Chord chord) item = SoundsAt (keys_of place (tokens.Chord chord)) item
Heard place _ item = Unit {0}

module _ (place : CellPlace) (start : CellResult) (is : start.body ≡ body-at place) (item : Item) where
  pub note_heard : (note : Note) → (with_kind start place.from (tokens.Note note) place.ahead).items.items ≡ start.items.items ++ item ∷ []
      → Heard place (tokens.Note note) item
  note_heard note adds =
      let given = note_given place note start is in
      subst (SoundsAt (keys_of place (tokens.Note note))) (last_same start.items.items given.0 item (sym given.1 ∙ adds)) (sounded _ given.0 given.2)

  pub chord_heard : (chord : Chord) → has_note chord.parts ≡ true
      → (with_kind start place.from (tokens.Chord chord) place.ahead).items.items ≡ start.items.items ++ item ∷ [] → Heard place (tokens.Chord chord) item
  chord_heard chord some adds =
      let given = chord_given place chord start is some in
      subst (SoundsAt (keys_of place (tokens.Chord chord))) (last_same start.items.items given.0 item (sym given.1 ∙ adds)) (sounded _ given.0 given.2)

-- the key of an entry of such an item
pub key_here : (place : CellPlace) (kind : TokenKind) (entry : EntryKind) (item : Item) → FitsItem entry item → SoundsAt (keys_of place kind) item → HasKey place kind entry
key_here place kind (kinds.Note tone key velocity joined tied) (items.Tone tones lasting) fits sounds =
    ap (λ keys. slice_get keys tone) (sym sounds) ∙ slice_get-map (λ (one : Tone). one.key) tones tone
    ∙ ap (option_map (λ (one : Tone). one.key)) fits.1 ∙ ap Some fits.2
key_here place kind kinds.Rest item fits sounds = tt
key_here place kind kinds.Bar item fits sounds = tt
key_here place kind (kinds.Note tone key velocity joined tied) _ fits sounds = absurd sounds
