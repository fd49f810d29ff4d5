-- Laws of the marks of cells.
use Rattle.std.specs.Prelude.{◌≡◌, List, []}
use Rattle.abc_scan.specs.declared.note.Note.{Note}
use Rattle.abc_scan.specs.declared.spanned.Spanned.{Spanned}
use Rattle.abc_scan.specs.declared.token.TokenKind.{TokenKind}
use Rattle.abc_bars_body.specs.declared.body.Body.{Body}
use Rattle.abc_bars_notes.specs.Sound.{key_in}
use Rattle.abc_bars_voice.specs.declared.voice_state.VoiceState.{VoiceState}
use Rattle.abc_marks_cells.specs.CellWalk.{marks_of}
use Rattle.abc_marks_cells.specs.Keys.{untied_key}

-- A key is that of a note of the written reading, in a voice without tied notes.
abbrev pub AreKeysWithoutTies : Type 0
AreKeysWithoutTies = (state : VoiceState) (note : Note) → untied_key state note ≡ key_in (record state { tied = [] }) state.accidentals note

-- Without marks that a cell spells there are no marks.
abbrev pub NoneWithout : Type 0
NoneWithout = (body : Body) (cell : List (Spanned TokenKind)) → marks_of body cell [] ≡ []
