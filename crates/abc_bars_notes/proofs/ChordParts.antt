-- What the laws of chords share.
use Rattle.std.proofs.Common.{◌≡◌, ◌∙◌, ℕ, Bool, true, false, List, [], ◌++◌, refl, ap, append-nil}
use Rattle.std.specs.Prelude.{if◌then◌else◌, filter}
use Rattle.std.proofs.lemmas.List.Elements.{filter-append}
use Rattle.abc_fields.specs.declared.fault_code.FaultCode.{FaultCode}
use Rattle.abc_fields.specs.declared.fault_code.FaultCode.TheVariants.{BadLength, EmptyChord, KeyRange}
use Rattle.abc_scan.specs.declared.chord_part.ChordPartKind.{ChordPartKind}
use Rattle.abc_scan.specs.declared.spanned.Spanned.{Spanned}
use Rattle.abc_bars_items.specs.Column.{column_of}
use Rattle.abc_bars_voice.specs.declared.voice_state.VoiceState.{VoiceState}
use Rattle.abc_bars_notes.specs.declared.sound.ChordBuilder.{ChordBuilder}
use Rattle.abc_bars_notes.specs.Sound.{fault_if}
use Rattle.abc_bars_notes.specs.TimeTokens.{chord_by}
use Rattle.abc_bars_notes.specs.TokenRole.{is_note_part}

-- the notes among parts
abbrev pub notes : List (Spanned ChordPartKind) → List (Spanned ChordPartKind)
notes parts = filter (λ part. is_note_part part.kind) parts

-- what holds of two builders holds of the one that is chosen
pub either : (P : ChordBuilder → Type 0) (b : Bool) (one other : ChordBuilder) → P one → P other → P (if b then one else other)
either P true one other h k = h
either P false one other h k = k

-- more faults, none of which passes
pub filter_more : (p : ℕ × FaultCode → Bool) (faults others more : List (ℕ × FaultCode)) → filter p others ≡ [] → filter p (faults ++ others) ++ more ≡ filter p faults ++ more
filter_more p faults others more none =
    ap (λ f. f ++ more) (filter-append p faults others ∙ ap (λ f. filter p faults ++ f) none ∙ append-nil _)

-- no fault of a note passes
pub filter_note : (p : ℕ × FaultCode → Bool) (refused silent : Bool) (column : ℕ) → p (column, BadLength) ≡ false → p (column, KeyRange) ≡ false
    → filter p (fault_if refused column BadLength ++ fault_if silent column KeyRange) ≡ []
filter_note p true true column length key = rw (length, key) refl
filter_note p true false column length key = rw length refl
filter_note p false true column length key = rw key refl
filter_note p false false column length key = refl

-- nor does the fault of a chord without notes
pub filter_chord : (p : ℕ × FaultCode → Bool) (noted : Bool) (state : VoiceState) (from : ℕ) (builder : ChordBuilder) → p (column_of from, EmptyChord) ≡ false
    → filter p (chord_by noted state from builder).faults ≡ filter p builder.faults
filter_chord p true state from builder empty = refl
filter_chord p false state from builder empty = rw empty refl
