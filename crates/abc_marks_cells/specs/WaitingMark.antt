-- Marks that wait for the note, chord or rest after them in their cell. ABC 2.1 sections 4.12 and 4.14.
use Rattle.std.specs.Prelude.{ℕ, List, map, Option, Some, None}
use Rattle.abc_marks.specs.declared.grace_note.GraceNote.{GraceNote}
use Rattle.abc_marks.specs.declared.decoration.Ornament.{Ornament}
use Rattle.abc_marks.specs.declared.mark.Columns.{Columns}
use Rattle.abc_marks.specs.declared.mark.MarkKind.{MarkKind}
use Rattle.abc_marks.specs.declared.mark.MarkKind.TheVariants as marks
use Rattle.abc_marks.specs.GraceNote.{AreGraceNotes}
use Rattle.abc_marks.specs.Mark.{IsMarkKind}
use Rattle.abc_marks_readers.specs.declared.decoration.Decoration.{Decoration}
use Rattle.abc_marks_readers.specs.declared.decoration.Decoration.TheVariants as decorations
use Rattle.abc_marks_readers.specs.declared.harmony.Harmony.{Harmony}
use Rattle.abc_marks_readers.specs.declared.harmony.Harmony.TheVariants as harmonies
use Rattle.abc_scan.specs.declared.token.TokenKind.{TokenKind}
use Rattle.abc_scan.specs.declared.token.TokenKind.TheVariants as tokens
use Rattle.abc_bars_items.specs.Velocity.{velocity_of}
use Rattle.abc_bars_voice.specs.declared.voice_state.VoiceState.{VoiceState}
use Rattle.abc_marks_cells.specs.declared.waiting_mark.WaitingKind.{WaitingKind}
use Rattle.abc_marks_cells.specs.declared.waiting_mark.WaitingKind.TheVariants as kinds
use Rattle.abc_marks_cells.specs.declared.waiting_mark.WaitingMark.{WaitingMark}
use Rattle.abc_marks_cells.specs.declared.written_mark.WrittenGrace.{WrittenGrace}
use Rattle.abc_marks_cells.specs.declared.written_mark.WrittenMark.{WrittenMark}
use Rattle.abc_marks_cells.specs.declared.written_mark.WrittenMark.TheVariants as written
use Rattle.abc_marks_cells.specs.GraceLength.{wanted_length}
use Rattle.abc_marks_cells.specs.Keys.{untied_key}
use Rattle.abc_marks_cells.specs.Neighbour.{key_above, key_below}

-- What a waiting mark can hold.
abbrev pub IsWaitingKind : WaitingKind → Type 0
IsWaitingKind (kinds.Free kind) = IsMarkKind kind
IsWaitingKind (kinds.OfNext kind) = IsMarkKind kind
IsWaitingKind (kinds.GraceNotes notes) = AreGraceNotes notes
IsWaitingKind (kinds.Ornament ornament) = Unit {0}

abbrev pub IsWaitingMark : WaitingMark → Type 0
IsWaitingMark waiting = IsWaitingKind waiting.kind

-- A grace note at the place of its braces: its key is what a note there would have, but a tie gives it no alteration.
abbrev pub grace_note : VoiceState → WrittenGrace → GraceNote
grace_note state written = record {
  wanted = wanted_length state.unit written.note.length;
  key = untied_key state written.note;
  columns = written.columns;
}

-- A harmony at the place of its quoted text, which has these columns.
abbrev pub harmony_kind : VoiceState → Columns → Harmony → MarkKind
harmony_kind state columns (harmonies.Chord name) = marks.ChordName name state.shift.transpose columns
harmony_kind state columns harmonies.NoChord = marks.NoChord

-- A decoration waits for what it decorates.
abbrev pub decoration_kind : Decoration → WaitingKind
decoration_kind decorations.Fermata = kinds.OfNext marks.Fermata
decoration_kind (decorations.Ornament ornament) = kinds.Ornament ornament
decoration_kind decorations.Arpeggio = kinds.OfNext marks.Arpeggio
decoration_kind (decorations.Accent accent) = kinds.OfNext (marks.Accent accent)
decoration_kind (decorations.Shortening shortening) = kinds.OfNext (marks.Shortening shortening)

-- A mark as far as its own place decides it, by the state there and the columns of its token.
abbrev pub waiting_kind : VoiceState → Columns → WrittenMark → WaitingKind
waiting_kind state columns (written.Harmony harmony) = kinds.Free (harmony_kind state columns harmony)
waiting_kind state columns written.Overlay = kinds.Free marks.Overlay
waiting_kind state columns (written.GraceNotes graces) = kinds.GraceNotes (map (grace_note state) graces)
waiting_kind state columns (written.Decoration decoration) = decoration_kind decoration

-- An ornament before a token of this kind: one of a note alone, with the keys of the notes beside that, by the state there.
abbrev pub ornament_kind : VoiceState → TokenKind → Ornament → Option MarkKind
ornament_kind state (tokens.Note note) ornament = Some (marks.Ornament ornament (key_above state note) (key_below state note))
ornament_kind state _ ornament = None

-- A waiting mark before a note, chord or rest, by the state there. Grace notes have the velocity of that.
abbrev pub made_before : VoiceState → TokenKind → WaitingKind → Option MarkKind
made_before state next (kinds.Free kind) = Some kind
made_before state next (kinds.OfNext kind) = Some kind
made_before state next (kinds.GraceNotes notes) = Some (marks.GraceNotes notes (velocity_of state.dynamic))
made_before state next (kinds.Ornament ornament) = ornament_kind state next ornament

-- A waiting mark at the end of its cell: no mark reaches into the next cell.
abbrev pub made_without : WaitingKind → Option MarkKind
made_without (kinds.Free kind) = Some kind
made_without _ = None
