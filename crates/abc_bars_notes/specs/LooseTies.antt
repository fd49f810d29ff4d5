-- Which ties of a chord are loose, by what is directly before them. ABC 2.1 section 4.11.
use Rattle.std.specs.Prelude.{◌≡◌, ℕ, ◌+◌, ◌==◌, ◌&&◌, not, Bool, false, List, ◌∷◌, map, filter, zip, Option, Some, None}
use Rattle.abc_fields.specs.declared.fault_code.FaultCode.{FaultCode}
use Rattle.abc_fields.specs.declared.fault_code.FaultCode.TheVariants.{LooseTie}
use Rattle.abc_fields.specs.Fault.{number_of}
use Rattle.abc_scan.specs.declared.chord.Chord.{Chord}
use Rattle.abc_scan.specs.declared.chord_part.ChordPartKind.{ChordPartKind}
use Rattle.abc_scan.specs.declared.spanned.Spanned.{Spanned}
use Rattle.abc_time.specs.declared.ratio.Ratio.{Ratio}
use Rattle.abc_bars_voice.specs.declared.voice_state.VoiceState.{VoiceState}
use Rattle.abc_bars_notes.specs.Chords.{is_tie}
use Rattle.abc_bars_items.specs.Column.{column_of}
use Rattle.abc_bars_notes.specs.TimeTokens.{play_chord}
use Rattle.abc_bars_notes.specs.TokenRole.{is_note_part}

-- Whether what is directly before a part, if anything does, is a note.
abbrev pub is_after_note : Option ChordPartKind → Bool
is_after_note None = false
is_after_note (Some kind) = is_note_part kind

-- Each part of a chord with the one directly before it.
abbrev pub with_before : List (Spanned ChordPartKind) → List (Option ChordPartKind × Spanned ChordPartKind)
with_before parts = zip (None ∷ map (λ part. Some part.kind) parts) parts

-- Whether a part is a tie, and what is directly before it is no note.
abbrev pub is_loose : Option ChordPartKind × Spanned ChordPartKind → Bool
is_loose pair = is_tie pair.1.kind && not (is_after_note pair.0)

-- Whether a fault is LooseTie.
abbrev pub is_loose_tie : ℕ × FaultCode → Bool
is_loose_tie fault = number_of fault.1 == number_of LooseTie

-- The loose ties inside a chord are those that have no note directly before them, in order, whatever is after the
-- chord. Not in ABC 2.1.
abbrev pub TiesAfterNotes : Type 0
TiesAfterNotes =
    (state : VoiceState) (broken : List Ratio) (from : ℕ) (chord : Chord) (tied : Bool)
    → filter is_loose_tie (play_chord state broken tied from chord).faults
    ≡ map (λ pair. (column_of (from + pair.1.from), LooseTie)) (filter is_loose (with_before chord.parts))
