-- The marks of a cell beside its items.
use Rattle.std.specs.Prelude.{ℕ, Bool, ◌==◌, if◌then◌else◌, List, [], ◌∷◌, ◌++◌, length, flat_map, Option, Some, None, option_to_list}
use Rattle.std.specs.Option.{option_map}
use Rattle.abc_scan.specs.declared.spanned.Spanned.{Spanned}
use Rattle.abc_scan.specs.declared.token.TokenKind.{TokenKind}
use Rattle.abc_bars_body.specs.declared.body.Body.{Body}
use Rattle.abc_bars_body.specs.declared.cell.CellResult.{CellResult}
use Rattle.abc_bars_body.specs.Body.{here}
use Rattle.abc_bars_body.specs.Cell.{empty_cell_result, with_token}
use Rattle.abc_bars_notes.specs.TokenRole.{takes_time, token_role}
use Rattle.abc_bars_voice.specs.declared.voice_state.VoiceState.{VoiceState}
use Rattle.abc_marks.specs.declared.mark.Mark.{Mark}
use Rattle.abc_marks_cells.specs.declared.cell_walk.CellWalk.{CellWalk}
use Rattle.abc_marks_cells.specs.declared.waiting_mark.WaitingMark.{WaitingMark}
use Rattle.abc_marks_cells.specs.declared.written_mark.PlacedMark.{PlacedMark}
use Rattle.abc_marks_cells.specs.declared.written_mark.WrittenMark.{WrittenMark}
use Rattle.abc_marks_cells.specs.WaitingMark.{made_before, made_without, waiting_kind}

-- Whether a token of this kind is a note, a rest, or a chord with a note.
abbrev pub is_time_token : TokenKind → Bool
is_time_token kind = takes_time (token_role kind)

-- The written mark of a token, if the first one is its.
abbrev pub first_written : Spanned TokenKind → List PlacedMark → Option WrittenMark
first_written token [] = None
first_written token (placed ∷ rest) = if placed.from == token.from then Some placed.mark else None

-- The written marks after that of a token.
abbrev pub later_written : Spanned TokenKind → List PlacedMark → List PlacedMark
later_written token [] = []
later_written token (placed ∷ rest) = if placed.from == token.from then rest else placed ∷ rest

-- The mark of a token waits, by what the tokens before it give.
abbrev pub waiting_mark : CellResult → Spanned TokenKind → WrittenMark → List WaitingMark
waiting_mark given token mark = record {
  before = length given.items.items;
  kind = waiting_kind (here given.body) (record { from = token.from; to = token.to }) mark;
} ∷ []

-- The same, if the token has a mark.
abbrev pub new_waiting : CellResult → Spanned TokenKind → Option WrittenMark → List WaitingMark → List WaitingMark
new_waiting given token None waiting = waiting
new_waiting given token (Some mark) waiting = waiting ++ waiting_mark given token mark

-- A waiting mark before a note, chord or rest, by the state there.
abbrev pub made_at : VoiceState → TokenKind → WaitingMark → List Mark
made_at state next waiting =
    option_to_list (option_map (λ kind. record { before = waiting.before; kind = kind }) (made_before state next waiting.kind))

-- A waiting mark at the end of its cell.
abbrev pub made_at_end : WaitingMark → List Mark
made_at_end waiting = option_to_list (option_map (λ kind. record { before = waiting.before; kind = kind }) (made_without waiting.kind))

-- Before the first token of a cell.
abbrev pub no_walk : Body → CellWalk
no_walk body = record { given = empty_cell_result body; waiting = []; marks = [] }

-- After a token with the mark that it spells: a note, chord or rest ends the waiting, by the state before it.
abbrev pub walked_token : CellWalk → Spanned TokenKind → List (Spanned TokenKind) → Option WrittenMark → CellWalk
walked_token walk token ahead mark = record {
  given = with_token walk.given token ahead;
  waiting = new_waiting walk.given token mark (if is_time_token token.kind then [] else walk.waiting);
  marks =
      if is_time_token token.kind then walk.marks ++ flat_map (made_at (here walk.given.body) token.kind) walk.waiting
      else walk.marks;
}

-- After the tokens of a cell with the marks that they spell, one after another.
abbrev pub walked : CellWalk → List (Spanned TokenKind) → List PlacedMark → CellWalk
walked walk [] written = walk
walked walk (token ∷ ahead) written = walked (walked_token walk token ahead (first_written token written)) ahead (later_written token written)

-- The marks at the end of a cell.
abbrev pub marks_at_end : CellWalk → List Mark
marks_at_end walk = walk.marks ++ flat_map made_at_end walk.waiting

-- The marks of a cell of a body in order of text, by those that it spells.
abbrev pub marks_of : Body → List (Spanned TokenKind) → List PlacedMark → List Mark
marks_of body cell written = marks_at_end (walked (no_walk body) cell written)
