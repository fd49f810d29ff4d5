-- The tones of a chord sound the keys of its notes.
use Rattle.std.proofs.Common.{◌≡◌, ◌∙◌, ℕ, ◌<◌, Bool, List, [], ◌∷◌, ◌++◌, length, map, Option, Some, None, refl, sym, ap, subst}
use Rattle.std.specs.Prelude.{All, IsSomeAnd, slice_get, option_map}
use Rattle.std.proofs.lemmas.List.Elements.{All-nil, All-cons, All-take}
use Rattle.std.proofs.lemmas.Option.{same_Some, slice_get-map}
use Rattle.abc_scan.specs.declared.chord.Chord.{Chord}
use Rattle.abc_scan.specs.declared.note.Note.{Note}
use Rattle.abc_scan.specs.declared.chord_part.ChordPartKind.{ChordPartKind}
use Rattle.abc_scan.specs.declared.chord_part.ChordPartKind.TheVariants as kinds
use Rattle.abc_scan.specs.declared.spanned.Spanned.{Spanned}
use Rattle.abc_time.specs.declared.ratio.Ratio.{Ratio}
use Rattle.abc_bars_voice.specs.declared.accidentals.Accidentals.{Accidentals}
use Rattle.abc_bars_notes.specs.declared.chords.ChordContext.{ChordContext}
use Rattle.abc_bars_items.specs.declared.item.Tone.{Tone}
use Rattle.abc_bars_voice.specs.declared.voice_state.VoiceState.{VoiceState}
use Rattle.abc_bars_notes.specs.declared.sound.ChordBuilder.{ChordBuilder}
use Rattle.abc_bars_voice.specs.Alteration.{alteration_of, with_own}
use Rattle.abc_bars_notes.specs.ChordKeys.{note_in, notes_in, AreAsLoud, ChordsAreAsLoud, ChordsSoundTheirKeys, NotesAreAsLoud, SoundsKey}
use Rattle.abc_bars_notes.specs.Chords.{chord_builder_of, tie_follows}
use Rattle.abc_bars_voice.specs.Reaching.{after_notes}
use Rattle.abc_bars_notes.specs.Sound.{key_in, tone_in}
use Rattle.abc_bars_notes.specs.TimeTokens.{chord_by, first_length}
use Rattle.abc_bars_items.specs.Velocity.{velocity_of}
use Rattle.abc_bars_notes.proofs.ChordTones.{accidentals_after, slice_get-chord_tones, chord_builder_of-tones, tone_of, tones_of}
use Rattle.abc_bars_notes.proofs.NoteKeys.{altered_by}

abbrev key_of_tone : Tone → Option ℕ
key_of_tone tone = tone.key

-- The keys of notes, each after the accidentals of those before it.
abbrev keys_of : VoiceState → Accidentals → List Note → List (Option ℕ)
keys_of state accidentals [] = []
keys_of state accidentals (note ∷ notes) = key_in state accidentals note ∷ keys_of state (with_own accidentals note) notes

key_at : (state : VoiceState) (accidentals : Accidentals) (before following : List Note) (note : Note)
    → slice_get (keys_of state accidentals (before ++ note ∷ following)) (length before) ≡ Some (key_in state (after_notes accidentals before) note)
key_at state accidentals [] following note = refl
key_at state accidentals (first ∷ before) following note = key_at state (with_own accidentals first) before following note

module _ (state : VoiceState) (broken : List Ratio) (chord_context : ChordContext) where
  -- the keys of the tones are those of the notes
  part_keys : (kind : ChordPartKind) (accidentals : Accidentals) (tied : Bool) (tones : List Tone) (notes : List Note)
      → map key_of_tone tones ≡ keys_of state (accidentals_after kind accidentals) notes
      → map key_of_tone (tone_of state broken chord_context accidentals kind tied ++ tones) ≡ keys_of state accidentals (note_in kind ++ notes)
  part_keys (kinds.Note note) accidentals tied tones notes same = ap (λ keys. key_in state accidentals note ∷ keys) same
  part_keys _ accidentals tied tones notes same = same

  tone_keys : (parts : List (Spanned ChordPartKind)) (accidentals : Accidentals)
      → map key_of_tone (tones_of state broken chord_context accidentals parts) ≡ keys_of state accidentals (notes_in parts)
  tone_keys [] accidentals = refl
  tone_keys (part ∷ parts) accidentals =
      part_keys part.kind accidentals (tie_follows parts) _ _ (tone_keys parts (accidentals_after part.kind accidentals))

  -- the velocity of the tones
  abbrev IsLoud : Tone → Type 0
  IsLoud tone = tone.velocity ≡ velocity_of state.dynamic

  part_loud : (kind : ChordPartKind) (accidentals : Accidentals) (tied : Bool) (tones : List Tone)
      → All IsLoud tones → All IsLoud (tone_of state broken chord_context accidentals kind tied ++ tones)
  part_loud (kinds.Note note) accidentals tied tones loud = All-cons IsLoud _ tones refl loud
  part_loud _ accidentals tied tones loud = loud

  tones_loud : (parts : List (Spanned ChordPartKind)) (accidentals : Accidentals) → All IsLoud (tones_of state broken chord_context accidentals parts)
  tones_loud [] accidentals = All-nil IsLoud
  tones_loud (part ∷ parts) accidentals = part_loud part.kind accidentals (tie_follows parts) _ (tones_loud parts (accidentals_after part.kind accidentals))

-- a tone with this key
with_key : (state : VoiceState) (accidentals : Accidentals) (note : Note) (o : Option Tone) → option_map key_of_tone o ≡ Some (key_in state accidentals note)
    → IsSomeAnd o (SoundsKey state accidentals note)
with_key state accidentals note None e = cc
with_key state accidentals note (Some tone) e =
    record { by = alteration_of state accidentals note; altered = altered_by state accidentals note; key = same_Some _ _ e }

module _ (state : VoiceState) (broken : List Ratio) (from : ℕ) (chord : Chord) (tied : Bool) where
  abbrev outside_of : ChordContext
  outside_of = record { length = chord.length; tied = tied; from = from }

  abbrev builder : ChordBuilder
  builder = chord_builder_of state broken outside_of chord.parts

  at_note : (before following : List Note) (note : Note) → notes_in chord.parts ≡ before ++ note ∷ following → length before < 16
      → IsSomeAnd (slice_get builder.tones (length before)) (SoundsKey state (after_notes state.accidentals before) note)
  at_note before following note is few =
      with_key state (after_notes state.accidentals before) note (slice_get builder.tones (length before))
      (ap (option_map key_of_tone) (slice_get-chord_tones state broken outside_of chord.parts (length before) few)
      ∙ sym (slice_get-map key_of_tone (tones_of state broken outside_of state.accidentals chord.parts) (length before))
      ∙ ap (λ l. slice_get l (length before)) (tone_keys state broken outside_of chord.parts state.accidentals)
      ∙ ap (λ l. slice_get (keys_of state state.accidentals l) (length before)) is
      ∙ key_at state state.accidentals before following note)

pub chords_sound_their_keys : ChordsSoundTheirKeys
chords_sound_their_keys state broken from chord tied some =
    let given = builder state broken from chord tied in
    (given.tones, first_length given.tones, ap (λ b. (chord_by b state from given).items) some, at_note state broken from chord tied)

pub chords_are_as_loud : ChordsAreAsLoud
chords_are_as_loud state broken from chord tied some =
    let given = builder state broken from chord tied in (
      given.tones,
      first_length given.tones,
      ap (λ b. (chord_by b state from given).items) some,
      subst (AreAsLoud state) (sym (chord_builder_of-tones state broken (outside_of state broken from chord tied) chord.parts))
          (All-take (λ tone. tone.velocity ≡ velocity_of state.dynamic) 16 _ (tones_loud state broken (outside_of state broken from chord tied) chord.parts state.accidentals)),
    )

pub notes_are_as_loud : NotesAreAsLoud
notes_are_as_loud state broken from note tied =
    let tone = tone_in state state.accidentals broken None note tied in
    (tone ∷ [], tone.length, refl, All-cons (λ tone. tone.velocity ≡ velocity_of state.dynamic) tone [] refl (All-nil _))
