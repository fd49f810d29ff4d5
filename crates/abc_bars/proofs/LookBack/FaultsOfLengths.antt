-- BadLength and BigChord are at the places of the rules.
use Rattle.std.proofs.Common.{◌≡◌, ◌∙◌, ℕ, ◌<◌, Bool, true, false, cond, Option, Some, None, List, [], ◌∷◌, ◌++◌, length, take, refl, sym, ap, subst, arith}
use Rattle.std.specs.Prelude.{filter, is_none, slice_index_or}
use Rattle.std.specs.List.{AllByRecursion, Contains}
use Rattle.abc_fields.specs.declared.fault_code.FaultCode.{FaultCode}
use Rattle.abc_fields.specs.declared.fault_code.FaultCode.TheVariants.{BadLength, KeyRange}
use Rattle.abc_fields.specs.declared.meter.Meter.{Meter}
use Rattle.abc_fields.specs.declared.meter.Meter.TheVariants.{Free, Of}
use Rattle.abc_scan.specs.declared.chord.Chord.{Chord}
use Rattle.abc_scan.specs.declared.length.WrittenLength.{WrittenLength}
use Rattle.abc_scan.specs.declared.note.Note.{Note}
use Rattle.abc_scan.specs.declared.chord_part.ChordPartKind.{ChordPartKind}
use Rattle.abc_scan.specs.declared.spanned.Spanned.{Spanned}
use Rattle.abc_scan.specs.declared.token.TokenKind.{TokenKind}
use Rattle.abc_scan.specs.declared.token.TokenKind.TheVariants as kinds
use Rattle.abc_time.specs.declared.ratio.Ratio.{Ratio}
use Rattle.abc_bars_items.specs.Column.{column_of}
use Rattle.abc_bars_items.specs.declared.item.Item.{Item}
use Rattle.abc_bars_voice.specs.declared.voice_state.VoiceState.{VoiceState}
use Rattle.abc_bars_notes.specs.declared.broken.Preceding.TheVariants.{Nothing}
use Rattle.abc_bars_notes.specs.BarRest.{bar_rest_of}
use Rattle.abc_bars_notes.specs.Broken.{preceding_from, factors_of}
use Rattle.abc_bars_notes.specs.ChordFaults.{AreFaultsOf}
use Rattle.abc_bars_notes.specs.ChordNotes.{notes_of}
use Rattle.abc_bars_notes.specs.Lasting.{HasLengthFault, Lasts, RestsForBars, factors_at}
use Rattle.abc_bars_notes.specs.Sound.{fault_if, key_in, length_in}
use Rattle.abc_bars_notes.specs.TimeTokens.{play_chord, play_note, play_rest}
use Rattle.abc_bars_notes.specs.TokenRole.{has_note, is_note_part}
use Rattle.abc_bars_notes.proofs.ChordFaults.{bad_lengths_at_notes}
use Rattle.abc_bars_notes.proofs.ChordNotes.{big_at_the_seventeenth}
use Rattle.abc_bars_notes.proofs.Lasting.{bar_rests_last, notes_last, rests_last}
use Rattle.abc_bars_body.specs.Body.{here, after_mention}
use Rattle.abc_bars_body.specs.Cell.{after_chord_mention, tie_ahead}
use Rattle.abc_bars.specs.LookBack.CellFaults.{AreFaultsOfCells, Faults, HasBigChord, HasLengthFaults, IsBarsFault, IsLengthFault, is_bad_length_code, is_big_chord}
use Rattle.abc_bars.specs.LookBack.CellPlace.{CellPlace, before_place, cell_with, voice_place_at}
use Rattle.abc_bars.specs.LookBack.Element.{Element}
use Rattle.abc_bars.specs.LookBack.BodyState.{body_at}
use Rattle.abc_bars.specs.LookBack.Lengths.{state_there}
use Rattle.abc_bars.specs.LookBack.Voice.{meter_at, voice_state_at}
use Rattle.abc_bars.proofs.LookBack.CellFaults.{EachHas, faults_of_cells, Passing-none_at, opening}
use Rattle.abc_bars.proofs.LookBack.CellPlace.{body-at, factors-there, here-in-chord, here-is}
use Rattle.abc_bars.proofs.LookBack.TokenFaults.{Passing, Passing-play_chord, Passing-more, Passing-byte_faults, Passing-fault_if}
use Rattle.abc_bars.proofs.LookBack.TokenResults.{some_fault, token_faults}

-- The factors of broken rhythm at a place, as they are read.
factors-at : (place : CellPlace) (kind : TokenKind) → factors_of (preceding_from Nothing place.front) place.ahead ≡ factors_at (cell_with place kind) (length place.front)
factors-at place kind =
    factors-there place.front place.ahead (record { kind = kind; from = place.from; to = place.to }) (preceding_from Nothing place.front) refl

-- BigChord.
each-big : EachHas is_big_chord HasBigChord
each-big place (kinds.Chord chord) now after is =
    let state : VoiceState = here (after_chord_mention (has_note chord.parts) (body_at (opening place) now)) in
    ap (λ (factors : List Ratio). Passing is_big_chord (play_chord state factors (tie_ahead place.ahead) place.from chord).faults) (factors-at place (kinds.Chord chord))
    ∙ big_at_the_seventeenth state (cell_with place (kinds.Chord chord)) (length place.front) place.from chord (tie_ahead place.ahead)
each-big place kind now after is = Passing-none_at is_big_chord place kind now after refl

pub big_chords : AreFaultsOfCells is_big_chord HasBigChord
big_chords = faults_of_cells is_big_chord HasBigChord each-big

-- BadLength of a note or a rest, by whether its length is refused.
abbrev Ours : Faults → Faults
Ours faults = Passing is_bad_length_code faults

abbrev fault : ℕ → FaultCode → ℕ × FaultCode
fault column code = (column, code)

not-the-one : (column k : ℕ) → k < 1 → slice_index_or (fault column KeyRange ∷ []) k (fault column BadLength) ≡ fault column BadLength → ⊥
not-the-one column k small e =
    let zero : k ≡ 0 = omega arith in
    let at : slice_index_or (fault column KeyRange ∷ []) 0 (fault column BadLength) ≡ fault column BadLength =
    subst (λ n. slice_index_or (fault column KeyRange ∷ []) n (fault column BadLength) ≡ fault column BadLength) zero e in
    let code : KeyRange ≡ BadLength = ap (λ (p : ℕ × FaultCode). p.1) at in
    cc

not-silent : (b : Bool) (column : ℕ) → Contains (fault_if b column KeyRange) (fault column BadLength) → ⊥
not-silent true column h = not-the-one column h.0 h.1 h.2
not-silent false column h = let inside = h.1 in absurd (omega arith)

length-fault : (refused silent : Bool) (column : ℕ) (Lasting : ℕ → Type 0)
    → HasLengthFault Lasting column (fault_if refused column BadLength ++ fault_if silent column KeyRange)
    → IsLengthFault Lasting column (Ours (fault_if refused column BadLength ++ fault_if silent column KeyRange))
length-fault true silent column Lasting h = record {
  accepted = λ g lasts. absurd (h.0 (0, omega arith, refl) g lasts);
  refused = λ none. Passing-more is_bad_length_code ((column, BadLength) ∷ []) (fault_if silent column KeyRange) [] (Passing-fault_if is_bad_length_code KeyRange refl silent column);
}
length-fault false silent column Lasting h = record {
  accepted = λ g lasts. Passing-fault_if is_bad_length_code KeyRange refl silent column;
  refused = λ none. absurd (not-silent silent column (h.1 none));
}

rest-fault : (refused : Bool) (column : ℕ) (Lasting : ℕ → Type 0) → HasLengthFault Lasting column (fault_if refused column BadLength)
    → IsLengthFault Lasting column (Ours (fault_if refused column BadLength))
rest-fault true column Lasting h = record { accepted = λ g lasts. absurd (h.0 (0, omega arith, refl) g lasts); refused = λ none. refl }
rest-fault false column Lasting h = record { accepted = λ g lasts. refl; refused = λ none. let has = h.1 none in let inside = has.1 in absurd (omega arith) }

-- Of a rest of bars.
bars-fault : (from : ℕ) (meter : Meter) (bars : Option ℕ) → IsBarsFault meter bars (column_of from) (Ours (some_fault from (bar_rest_of meter bars).1))
bars-fault from Free bars = refl
bars-fault from (Of num den) None = refl
bars-fault from (Of num den) (Some n) = λ range.
    let rests : RestsForBars num den = bar_rests_last num den range in
    record {
      accepted = λ g are. ap (λ (p : Item × Option FaultCode). Ours (some_fault from p.1)) (rests.counted n g are);
      refused = λ none. ap (λ (p : Item × Option FaultCode). Ours (some_fault from p.1)) (rests.refused n none);
    }

-- A chord without notes has none.
plain-by : (b : Bool) (part : Spanned ChordPartKind) (rest : List (Spanned ChordPartKind)) → is_note_part part.kind ≡ b
    → cond b (part ∷ filter (λ p. is_note_part p.kind) rest) (filter (λ p. is_note_part p.kind) rest) ≡ []
    → (is_note_part part.kind ≡ false) × (filter (λ p. is_note_part p.kind) rest ≡ [])
plain-by true part rest e none = cc
plain-by false part rest e none = (e, none)

plain-parts : (rest : List (Spanned ChordPartKind)) → filter (λ p. is_note_part p.kind) rest ≡ [] → AllByRecursion (λ part. is_note_part part.kind ≡ false) rest
plain-parts [] none = tt
plain-parts (part ∷ rest) none = let plain = plain-by (is_note_part part.kind) part rest refl none in (plain.0, plain-parts rest plain.1)

plain-chord : (state : VoiceState) (broken : List Ratio) (tied : Bool) (from : ℕ) (chord : Chord) → notes_of chord ≡ []
    → Ours (play_chord state broken tied from chord).faults ≡ []
plain-chord state broken tied from chord none =
    Passing-play_chord is_bad_length_code refl refl (λ kind. is_note_part kind ≡ false) (λ note e. absurd (cc)) state broken tied from chord (plain-parts chord.parts none)
    ∙ Passing-byte_faults is_bad_length_code refl from chord.parts

-- At a place, by the state of the current voice there.
module _ (place : CellPlace) where
  abbrev there : VoiceState
  there = state_there place

  abbrev size : ℕ
  size = length place.front

  note-there : (note : Note) → HasLengthFaults place (kinds.Note note)
      (Ours (play_note (here (after_mention (body-at place))) (factors_of (preceding_from Nothing place.front) place.ahead) (tie_ahead place.ahead) place.from note).faults)
  note-there note at =
      let cell : List (Spanned TokenKind) = cell_with place (kinds.Note note) in
      let Lasting : ℕ → Type 0 = Lasts there cell size note.length None in
      let lasts = notes_last there cell size place.from note (tie_ahead place.ahead) at in
      subst (IsLengthFault Lasting (column_of place.from))
      (λ i. Ours (play_note (sym (here-is place) i) (sym (factors-at place (kinds.Note note)) i) (tie_ahead place.ahead) place.from note).faults)
      (length-fault (length_in there (factors_at cell size) note.length None).1 (is_none (key_in there there.accidentals note)) (column_of place.from) Lasting lasts.5)

  rest-there : (written : WrittenLength) → HasLengthFaults place (kinds.Rest written)
      (Ours (play_rest (here (after_mention (body-at place))) (factors_of (preceding_from Nothing place.front) place.ahead) place.from written).faults)
  rest-there written at =
      let cell : List (Spanned TokenKind) = cell_with place (kinds.Rest written) in
      let Lasting : ℕ → Type 0 = Lasts there cell size written None in
      let lasts = rests_last there cell size place.from written at in
      subst (IsLengthFault Lasting (column_of place.from))
      (λ i. Ours (play_rest (sym (here-is place) i) (sym (factors-at place (kinds.Rest written)) i) place.from written).faults)
      (rest-fault (length_in there (factors_at cell size) written None).1 (column_of place.from) Lasting lasts.3)

  meter-there : (here (after_mention (body-at place))).meter ≡ meter_at (voice_place_at place).opening.meter (voice_place_at place).before
  unfolding voice_state_at
  meter-there = ap (λ (s : VoiceState). s.meter) (here-is place)

  bars-there : (bars : Option ℕ) → HasLengthFaults place (kinds.BarRest bars) (Ours (some_fault place.from (bar_rest_of (here (after_mention (body-at place))).meter bars).1))
  bars-there bars =
      let meter : Meter = meter_at (voice_place_at place).opening.meter (voice_place_at place).before in
      subst (λ (m : Meter). IsBarsFault meter bars (column_of place.from) (Ours (some_fault place.from (bar_rest_of m bars).1))) (sym meter-there) (bars-fault place.from meter bars)

  chord-there : (chord : Chord) → HasLengthFaults place (kinds.Chord chord)
      (Ours (play_chord (here (after_chord_mention (has_note chord.parts) (body-at place))) (factors_of (preceding_from Nothing place.front) place.ahead) (tie_ahead place.ahead)
      place.from chord).faults)
  chord-there chord = record {
    none = plain-chord _ _ (tie_ahead place.ahead) place.from chord;
    some = λ at.
        let cell : List (Spanned TokenKind) = cell_with place (kinds.Chord chord) in
        let Are : Faults → Type 0 = λ l. AreFaultsOf (λ note. Lasts there cell size note.length (Some chord.length)) place.from (take 16 (notes_of chord)) l in
        subst Are
        (λ i. Ours (play_chord (sym (here-in-chord place (has_note chord.parts)) i) (sym (factors-at place (kinds.Chord chord)) i) (tie_ahead place.ahead) place.from chord).faults)
        (bad_lengths_at_notes there cell size place.from chord (tie_ahead place.ahead) at);
  }

  -- What precedes the place is what precedes it in the body.
  at-place : (kind : TokenKind) (now : List Element) (after : Bool) → now ≡ before_place place
      → HasLengthFaults place kind (Ours (token_faults (body-at place) (preceding_from Nothing place.front) after place.from kind place.ahead))
      → HasLengthFaults place kind (Ours (token_faults (body_at (opening place) now) (preceding_from Nothing place.front) after place.from kind place.ahead))
  at-place kind now after is has =
      subst (λ l. HasLengthFaults place kind (Ours (token_faults (body_at (opening place) l) (preceding_from Nothing place.front) after place.from kind place.ahead))) (sym is) has

each-length : EachHas is_bad_length_code HasLengthFaults
each-length place (kinds.Note note) now after is = at-place place (kinds.Note note) now after (is refl) (note-there place note)
each-length place (kinds.Rest written) now after is = at-place place (kinds.Rest written) now after (is refl) (rest-there place written)
each-length place (kinds.BarRest bars) now after is = at-place place (kinds.BarRest bars) now after (is refl) (bars-there place bars)
each-length place (kinds.Chord chord) now after is = at-place place (kinds.Chord chord) now after (is refl) (chord-there place chord)
each-length place kind now after is = Passing-none_at is_bad_length_code place kind now after refl

pub bad_lengths : AreFaultsOfCells is_bad_length_code HasLengthFaults
bad_lengths = faults_of_cells is_bad_length_code HasLengthFaults each-length
