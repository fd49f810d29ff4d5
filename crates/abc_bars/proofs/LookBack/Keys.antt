-- What alters a note at a place is what looking back finds, and its key is that of its pitch as it is altered so.
use Rattle.std.proofs.Common.{◌≡◌, ◌∙◌, ℤ, Bool, true, false, List, [], ◌∷◌, ◌++◌, map, Some, None, refl, sym, ap, subst}
use Rattle.std.specs.Prelude.{All}
use Rattle.std.specs.Option.{option_or}
use Rattle.std.proofs.lemmas.List.{map-append}
use Rattle.std.proofs.lemmas.List.Elements.{All-cons, All-head, All-map, All-nil, All-same, All-tail}
use Rattle.abc_fields.specs.Signature.{alteration as signature_alteration}
use Rattle.abc_scan.specs.declared.directive.Reach.{Reach}
use Rattle.abc_scan.specs.declared.note.Note.{Note}
use Rattle.abc_scan.specs.declared.token.TokenKind.TheVariants as kinds
use Rattle.abc_time.specs.declared.ratio.Ratio.{Ratio}
use Rattle.abc_bars_body.specs.declared.body.Body.{Body}
use Rattle.abc_bars_voice.specs.declared.accidentals.Accidentals.{Accidentals}
use Rattle.abc_bars_notes.specs.declared.chords.ChordContext.{ChordContext}
use Rattle.abc_bars_voice.specs.declared.voice_state.VoiceState.{VoiceState}
use Rattle.abc_bars_notes.specs.declared.sound.ChordBuilder.{ChordBuilder}
use Rattle.abc_bars_voice.specs.declared.tied_note.TiedNote.{TiedNote}
use Rattle.abc_bars_voice.specs.Accidentals.{reach_of, written_on}
use Rattle.abc_bars_voice.specs.Alteration.{alteration_of}
use Rattle.abc_bars_notes.specs.Broken.{factors_of, is_time_token}
use Rattle.abc_bars_notes.specs.Chords.{chord_builder_of}
use Rattle.abc_bars_notes.specs.NoteKeys.{IsAltered, IsSame}
use Rattle.abc_bars_notes.specs.Pitch.{midi_key, pitch_of}
use Rattle.abc_bars_notes.specs.TimeTokens.{first_length}
use Rattle.abc_bars_notes.specs.TokenRole.{has_note}
use Rattle.abc_bars_notes.proofs.NoteKeys.{altered_by}
use Rattle.abc_bars_body.specs.Body.{here}
use Rattle.abc_bars_body.specs.Cell.{after_chord_mention, tie_ahead}
use Rattle.abc_bars.specs.LookBack.CellPlace.{VoicePlace, voice_place_at}
use Rattle.abc_bars.specs.LookBack.Element.{Element}
use Rattle.abc_bars.specs.LookBack.Keys.{AreWrittenAlike, ChordsHaveKeys, IsAlteredAt, IsLastAmong, IsNoneAmong, NotesHaveKeys, SoundsKeys, heard_of, key_at, keys_from}
use Rattle.abc_bars.specs.LookBack.Since.{notes_of_tokens}
use Rattle.abc_bars.specs.LookBack.Ties.{IsTimeBefore, altered_note, tied_notes}
use Rattle.abc_bars.specs.LookBack.Voice.{accidentals_at, accidentals_of, alteration_at, counted_notes, newest_written, notes_of_bar, voice_state_at, signature_at, tied_at}
use Rattle.abc_bars.specs.LookBack.Voice.{written_by}
use Rattle.abc_bars.proofs.LookBack.Accidentals.{newest_heard}
use Rattle.abc_bars.proofs.LookBack.CellPlace.{between, body-at, chord-items, here-in-chord, here-is}
use Rattle.abc_bars.proofs.LookBack.Since.{Heard, heard-since}
use Rattle.abc_bars.proofs.LookBack.Chords.{alteration_of-at, following-none, map-heard_of, midi_key-is}
use Rattle.abc_bars.proofs.LookBack.Ties.{Passed, tied_said-by, tied_said-over, tied_at-last}

-- The last accidental among notes is the one that is found.
last-among : (reach : Reach) (note : Note) (nearer further : List Note) (other : Note) (by : ℤ)
    → written_by reach note other ≡ Some by → All (λ silent. written_by reach note silent ≡ None) nearer
    → newest_written reach note (nearer ++ other ∷ further) ≡ Some by
last-among reach note [] further other by e none = ap (λ o. option_or o (newest_written reach note further)) e
last-among reach note (first ∷ nearer) further other by e none =
    ap (λ o. option_or o (newest_written reach note (nearer ++ other ∷ further))) (All-head (λ silent. written_by reach note silent ≡ None) first nearer none)
    ∙ last-among reach note nearer further other by e (All-tail (λ silent. written_by reach note silent ≡ None) first nearer none)

none-among : (reach : Reach) (note : Note) (notes : List Note) → IsNoneAmong reach note notes → newest_written reach note notes ≡ None
none-among reach note [] none = refl
none-among reach note (first ∷ notes) none =
    ap (λ o. option_or o (newest_written reach note notes)) (All-head (λ silent. written_by reach note silent ≡ None) first notes none)
    ∙ none-among reach note notes (All-tail (λ silent. written_by reach note silent ≡ None) first notes none)

-- A tied note differs.
abbrev Apart : Note → TiedNote → Type 0
Apart note tied = ¬ IsSame note tied

apart-by : (opening : VoiceState) (note : Note) (element : Element) (before : List Element) (time : Bool) → is_time_token element.kind ≡ time
    → ((token : Element) (further : List Element) → IsTimeBefore (element ∷ before) token further → All (λ other. ¬ AreWrittenAlike note other.1) (tied_notes token.kind token.tied))
    → (((token : Element) (further : List Element) → IsTimeBefore before token further → All (λ other. ¬ AreWrittenAlike note other.1) (tied_notes token.kind token.tied))
    → All (Apart note) (tied_at opening before))
    → All (Apart note) (tied_at opening (element ∷ before))
apart-by opening note element before true is h rest =
    All-same (Apart note) (tied_at opening (element ∷ before)) (map (altered_note opening before) (tied_notes element.kind element.tied)) (tied_said-by opening before element.kind element.tied is)
    (All-map (Apart note) (altered_note opening before) (tied_notes element.kind element.tied)
    (h element before (record { nearer = []; split = refl; time = is; none = All-nil Passed })))
apart-by opening note element before false is h rest =
    All-same (Apart note) (tied_at opening (element ∷ before)) (tied_at opening before) (tied_said-over opening (tied_at opening before) before element.kind element.tied is)
    (rest (λ token further t. h token further (record {
      nearer = element ∷ t.nearer;
      split = ap (λ l. element ∷ l) t.split;
      time = t.time;
      none = All-cons Passed element t.nearer is t.none;
    })))

all-apart : (opening : VoiceState) (note : Note) (before : List Element)
    → ((token : Element) (further : List Element) → IsTimeBefore before token further → All (λ other. ¬ AreWrittenAlike note other.1) (tied_notes token.kind token.tied))
    → All (Apart note) (tied_at opening before)
all-apart opening note [] h = All-nil (Apart note)
all-apart opening note (element ∷ before) h = apart-by opening note element before (is_time_token element.kind) refl h (all-apart opening note before)

module _ (opening : VoiceState) (before : List Element) (earlier : List Note) (note : Note) where
  abbrev reach : Reach
  reach = reach_of opening.accidentals

  -- The notes whose accidentals can be heard.
  abbrev others : List Note
  others = earlier ++ notes_of_bar before

  -- Those since the voice's last bar line, K: or accepted P:.
  since : Heard before
  since = heard-since before

  abbrev heard : List Note
  heard = earlier ++ notes_of_tokens since.since

  same-heard : heard ≡ others
  same-heard = ap (λ l. earlier ++ l) (sym since.notes)

  found : IsAltered (voice_state_at opening before) (accidentals_of reach others) note (alteration_of (voice_state_at opening before) (accidentals_of reach others) note)
  found = altered_by (voice_state_at opening before) (accidentals_of reach others) note

  is-altered : alteration_of (voice_state_at opening before) (accidentals_of reach others) note ≡ alteration_at opening (tied_at opening before) before earlier note
  is-altered = alteration_of-at opening before (accidentals_of reach others) earlier note refl

  written-last : (by : ℤ) → IsLastAmong reach note others by → written_on (accidentals_of reach others) note ≡ Some by
  written-last by last =
      newest_heard reach others note
      ∙ ap (newest_written reach note) last.split ∙ last-among reach note last.nearer last.further last.other by last.writes last.none

  not-written : IsNoneAmong reach note others → written_on (accidentals_of reach others) note ≡ None
  not-written none = newest_heard reach others note ∙ none-among reach note others none

  none-heard : IsNoneAmong reach note heard → IsNoneAmong reach note others
  none-heard none = subst (λ (notes : List Note). IsNoneAmong reach note notes) same-heard none

  tied-is : (voice_state_at opening before).tied ≡ tied_at opening before
  unfolding voice_state_at
  tied-is = refl

  signature-is : (voice_state_at opening before).signature ≡ signature_at opening.signature before
  unfolding voice_state_at
  signature-is = refl

  pub by-rule : IsAlteredAt (record { opening = opening; before = before }) earlier note
  by-rule = record {
    since = since.since;
    since_is = since.since_is;
    own = λ accidental e. sym is-altered ∙ found.own accidental e;
    written = λ by e last.
        sym is-altered ∙ found.written by e (written-last by (subst (λ (notes : List Note). IsLastAmong reach note notes by) same-heard last));
    tied = λ token further front back last e none time is alike apart.
        sym is-altered
        ∙ found.tied (map (altered_note opening further) front) (map (altered_note opening further) back) (altered_note opening further last) e (not-written (none-heard none))
        (tied-is ∙ tied_at-last opening before further token time ∙ ap (map (altered_note opening further)) is ∙ map-append (altered_note opening further) front (last ∷ back))
        alike (All-map (Apart note) (altered_note opening further) back apart);
    signature = λ e none h.
        sym is-altered
        ∙ found.signature e (not-written (none-heard none)) (All-same (Apart note) (voice_state_at opening before).tied (tied_at opening before) tied-is (all-apart opening note before h))
        ∙ ap (λ s. signature_alteration s note.letter) signature-is;
  }

pub altered_by_rule : (at : VoicePlace) (earlier : List Note) (note : Note) → IsAlteredAt at earlier note
altered_by_rule at earlier note = by-rule at.opening at.before earlier note

same-accidentals : (opening : VoiceState) (before : List Element) → (voice_state_at opening before).accidentals ≡ accidentals_at (reach_of opening.accidentals) before
unfolding voice_state_at
same-accidentals opening before = refl

pub note-key : (at : VoicePlace) (note : Note)
    → midi_key (pitch_of (voice_state_at at.opening at.before).shift note (alteration_of (voice_state_at at.opening at.before) (voice_state_at at.opening at.before).accidentals note))
    ≡ key_at at [] note
note-key at note =
    let accidentals : Accidentals = (voice_state_at at.opening at.before).accidentals in
    midi_key-is at.opening at.before accidentals [] note (same-accidentals at.opening at.before ∙ following-none at.opening at.before)

pub notes_have_keys : NotesHaveKeys
notes_have_keys place note =
    let at : VoicePlace = voice_place_at place in
    between place (kinds.Note note) refl (SoundsKeys ((key_at at [] note, tie_ahead place.ahead) ∷ []))
    (λ start factors. (
      _,
      refl,
      (
        _,
        _,
        refl,
        ap (λ (s : VoiceState). (midi_key (pitch_of s.shift note (alteration_of s s.accidentals note)), tie_ahead place.ahead) ∷ []) (here-is place)
            ∙ ap (λ k. (k, tie_ahead place.ahead) ∷ []) (note-key at note),
      ),
    ))

pub chords_have_keys : ChordsHaveKeys
chords_have_keys place chord some =
    let at : VoicePlace = voice_place_at place in
    let outside : ChordContext = record { length = chord.length; tied = tie_ahead place.ahead; from = place.from } in
    between place (kinds.Chord chord) refl (SoundsKeys (keys_from at (tie_ahead place.ahead) [] (counted_notes chord)))
    (λ start factors.
    let broken : List Ratio = factors_of start.preceding place.ahead in
    let body : Body = after_chord_mention (has_note chord.parts) (body-at place) in
    let inside : ChordBuilder = chord_builder_of (here body) broken outside chord.parts in (
      _,
      ap (λ l. start.items.items ++ l) (chord-items (has_note chord.parts) (here body) place.from inside some),
      (
        inside.tones,
        first_length inside.tones,
        refl,
        ap (λ (s : VoiceState). map heard_of (chord_builder_of s broken outside chord.parts).tones) (here-in-chord place (has_note chord.parts))
            ∙ map-heard_of at.opening at.before broken outside chord,
      ),
    ))
