-- The faults of a cell are those that looking back finds.
use Rattle.std.proofs.Common.{◌≡◌, ◌∙◌, ℕ, Bool, true, false, List, [], ◌∷◌, ◌++◌, Option, Some, None, refl, ap}
use Rattle.std.specs.Prelude.{is_none, not}
use Rattle.std.proofs.lemmas.List.Elements.{filter-append}
use Rattle.abc_fields.specs.declared.fault_code.FaultCode.{FaultCode}
use Rattle.abc_fields.specs.declared.fault_code.FaultCode.TheVariants.{EmptyChord, KeyRange}
use Rattle.abc_fields.specs.declared.key.Key.{Key}
use Rattle.abc_fields.specs.declared.meter.Meter.{Meter}
use Rattle.abc_fields.specs.declared.meter.Meter.TheVariants.{Free, Of}
use Rattle.abc_scan.specs.declared.chord.Chord.{Chord}
use Rattle.abc_scan.specs.declared.note.Note.{Note}
use Rattle.abc_scan.specs.declared.spanned.Spanned.{Spanned}
use Rattle.abc_scan.specs.declared.token.TokenKind.{TokenKind}
use Rattle.abc_scan.specs.declared.token.TokenKind.TheVariants as kinds
use Rattle.abc_time.specs.declared.grains.Grains.{Grains}
use Rattle.abc_time.specs.declared.ratio.Ratio.{Ratio}
use Rattle.abc_bars_header.specs.HeaderLine.{HeaderLine}
use Rattle.abc_bars_header.specs.declared.defaults.Defaults.{Defaults}
use Rattle.abc_bars_items.specs.Column.{column_of}
use Rattle.abc_bars_voice.specs.declared.voice_state.VoiceState.{VoiceState}
use Rattle.abc_bars_voice.specs.Tuplet.{OpenTuplet, tuplet_after_mark, tuplet_by}
use Rattle.abc_bars_notes.specs.declared.broken.Preceding.{Preceding}
use Rattle.abc_bars_notes.specs.declared.broken.Preceding.TheVariants.{Nothing}
use Rattle.abc_bars_notes.specs.declared.chords.ChordContext.{ChordContext}
use Rattle.abc_bars_notes.specs.declared.sound.ChordBuilder.{ChordBuilder}
use Rattle.abc_bars_notes.specs.BarRest.{bar_rest_length, bar_rest_of, bars_of, or_one_bar}
use Rattle.abc_bars_notes.specs.Broken.{factors_of, preceding_after}
use Rattle.abc_bars_notes.specs.Chords.{chord_builder_of}
use Rattle.abc_bars_notes.specs.Sound.{fault_if}
use Rattle.abc_bars_notes.specs.TimeTokens.{chord_by, play_chord, play_note}
use Rattle.abc_bars_notes.specs.TokenRole.{has_note}
use Rattle.abc_bars_body.specs.Cell.{may_be_tied, tie_ahead}
use Rattle.abc_bars.specs.LookBack.CellPlace.{VoicePlace, voice_place_of}
use Rattle.abc_bars.specs.LookBack.Element.{Element}
use Rattle.abc_bars.specs.LookBack.Faults.{FaultsLookedBack, bar_rest_faults, chord_faults, is_reported_code, mark_faults, faults_from, faults_in}
use Rattle.abc_bars.specs.LookBack.BodyState.{body_at}
use Rattle.abc_bars.specs.LookBack.Keys.{key_at}
use Rattle.abc_bars.specs.LookBack.Place.{opening_at}
use Rattle.abc_bars.specs.LookBack.Voice.{meter_at, voice_state_at, tuplet_at}
use Rattle.abc_bars.proofs.LookBack.CellFaults.{look_back-faults, rest_faults}
use Rattle.abc_bars.proofs.LookBack.CellPlace.{here_chord, here_mentioned}
use Rattle.abc_bars.proofs.LookBack.Chords.{Ours, Ours-chord, Ours-note}
use Rattle.abc_bars.proofs.LookBack.BodyState.{here_found}
use Rattle.abc_bars.proofs.LookBack.Keys.{note-key}
use Rattle.abc_bars.proofs.LookBack.TokenFaults.{Passing-token_faults}
use Rattle.abc_bars.proofs.LookBack.TokenResults.{some_fault, token_faults}

-- The faults of a note.
of-single : (at : VoicePlace) (broken : List Ratio) (tied : Bool) (from : ℕ) (note : Note)
    → Ours (play_note (voice_state_at at.opening at.before) broken tied from note).faults ≡ fault_if (is_none (key_at at [] note)) (column_of from) KeyRange
of-single at broken tied from note =
    Ours-note _ _ (column_of from) ∙ ap (λ k. fault_if (is_none k) (column_of from) KeyRange) (note-key at note)

-- The faults of a chord.
of-chord-by : (b : Bool) (state : VoiceState) (from : ℕ) (inside : ChordBuilder) (l : List (ℕ × FaultCode)) → Ours inside.faults ≡ l
    → Ours (chord_by b state from inside).faults ≡ fault_if (not b) (column_of from) EmptyChord ++ l
of-chord-by true state from inside l is = is
of-chord-by false state from inside l is = ap (λ f. (column_of from, EmptyChord) ∷ f) is

of-chord : (at : VoicePlace) (broken : List Ratio) (tied : Bool) (from : ℕ) (chord : Chord)
    → Ours (play_chord (voice_state_at at.opening at.before) broken tied from chord).faults ≡ chord_faults at from chord
of-chord at broken tied from chord =
    let outside : ChordContext = record { length = chord.length; tied = tied; from = from } in
    of-chord-by (has_note chord.parts) (voice_state_at at.opening at.before) from (chord_builder_of (voice_state_at at.opening at.before) broken outside chord.parts) _
    (Ours-chord at.opening at.before broken outside chord)

-- The faults of a rest of bars and of a tuplet mark.
of-bars : (from num den : ℕ) (o : Option Grains) → Ours (some_fault from (or_one_bar num den o).1) ≡ []
of-bars from num den None = refl
of-bars from num den (Some length) = refl

of-bar-rest : (from : ℕ) (meter : Meter) (bars : Option ℕ) → Ours (some_fault from (bar_rest_length meter bars).1) ≡ bar_rest_faults meter from
of-bar-rest from Free bars = refl
of-bar-rest from (Of num den) None = refl
of-bar-rest from (Of num den) (Some n) = of-bars from num den (bars_of num den n)

of-tuplet : (from : ℕ) (old new : Option OpenTuplet) → Ours (some_fault from (tuplet_after_mark old new).1) ≡ mark_faults old new from
of-tuplet from old None = refl
of-tuplet from None (Some new) = refl
of-tuplet from (Some old) (Some new) = refl

same-meter : (at : VoicePlace) → (voice_state_at at.opening at.before).meter ≡ meter_at at.opening.meter at.before
unfolding voice_state_at
same-meter at = refl

same-tuplet : (at : VoicePlace) → (voice_state_at at.opening at.before).tuplet ≡ tuplet_at at.opening.meter at.before
unfolding voice_state_at
same-tuplet at = refl

module _ (values : Defaults) (fields : List HeaderLine) (key : Key) where
  -- The faults of a token.
  of-kind : (before : List Element) (preceding : Preceding) (after : Bool) (from : ℕ) (kind : TokenKind) (ahead : List (Spanned TokenKind))
      → Ours (token_faults (body_at (opening_at values fields key) before) preceding after from kind ahead) ≡ faults_in (voice_place_of values fields key before) from kind
  of-kind before preceding after from (kinds.Note note) ahead =
      ap (λ (s : VoiceState). Ours (play_note s (factors_of preceding ahead) (tie_ahead ahead) from note).faults) (here_mentioned values fields key before)
      ∙ of-single (voice_place_of values fields key before) (factors_of preceding ahead) (tie_ahead ahead) from note
  of-kind before preceding after from (kinds.BarRest bars) ahead =
      let at : VoicePlace = voice_place_of values fields key before in
      ap (λ (m : Meter). Ours (some_fault from (bar_rest_of m bars).1)) (ap (λ (s : VoiceState). s.meter) (here_mentioned values fields key before) ∙ same-meter at)
      ∙ of-bar-rest from (meter_at at.opening.meter at.before) bars
  of-kind before preceding after from (kinds.Chord chord) ahead =
      ap (λ (s : VoiceState). Ours (play_chord s (factors_of preceding ahead) (tie_ahead ahead) from chord).faults) (here_chord values fields key before (has_note chord.parts))
      ∙ of-chord (voice_place_of values fields key before) (factors_of preceding ahead) (tie_ahead ahead) from chord
  of-kind before preceding after from (kinds.Tuplet mark) ahead =
      let at : VoicePlace = voice_place_of values fields key before in
      ap (λ (s : VoiceState). Ours (some_fault from (tuplet_after_mark s.tuplet (tuplet_by s.meter mark)).1)) (here_found values fields key before)
      ∙ (λ i. Ours (some_fault from (tuplet_after_mark (same-tuplet at i) (tuplet_by (same-meter at i) mark)).1))
      ∙ of-tuplet from (tuplet_at at.opening.meter at.before) (tuplet_by (meter_at at.opening.meter at.before) mark)
  of-kind before preceding after from kind ahead =
      Passing-token_faults is_reported_code (body_at (opening_at values fields key) before) preceding after from kind ahead refl

  of-rest : (before : List Element) (preceding : Preceding) (after : Bool) (cell : List (Spanned TokenKind))
      → Ours (rest_faults (opening_at values fields key) before preceding after cell) ≡ faults_from values fields key before cell
  unfolding rest_faults
  of-rest before preceding after [] = refl
  of-rest before preceding after (token ∷ ahead) =
      filter-append (λ fault. is_reported_code fault.1) (token_faults (body_at (opening_at values fields key) before) preceding after token.from token.kind ahead) _
      ∙ (λ i. of-kind before preceding after token.from token.kind ahead i
      ++ of-rest (record { kind = token.kind; tied = tie_ahead ahead } ∷ before) (preceding_after preceding token.kind) (may_be_tied token.kind) ahead i)

pub faults_looked_back : FaultsLookedBack
faults_looked_back values fields key before cell =
    ap Ours (look_back-faults (opening_at values fields key) before cell) ∙ of-rest values fields key before Nothing false cell
