-- The cells of a line of a performed tune.
use Rattle.std.specs.Prelude.{ℕ, Bool, ◌||◌, is_some, if◌then◌else◌, List, [], ◌∷◌, map, Option, Some, None}
use Rattle.std.specs.Option.{option_map, option_or}
use Rattle.abc_marks.specs.declared.directive.PlayingDirective.{PlayingDirective}
use Rattle.abc_marks.specs.declared.mark.Mark.{Mark}
use Rattle.abc_marks.specs.declared.mark.MarkKind.TheVariants as marks
use Rattle.abc_marks_cells.specs.Hearing.{heard_tokens}
use Rattle.abc_marks_cells.specs.Reading.{marks_written}
use Rattle.abc_marks_fold.specs.declared.performed_cell.PerformedCell.{PerformedCell}
use Rattle.abc_marks_fold.specs.declared.performed_cell.PerformedCell.TheVariants as cells
use Rattle.abc_marks_readers.specs.Block.{block_begun_by, block_ended_by}
use Rattle.abc_marks_readers.specs.Directive.{playing_directive_of}
use Rattle.abc_scan.specs.declared.line_class.LineClass.{LineClass}
use Rattle.abc_scan.specs.declared.line_class.LineClass.TheVariants as classes
use Rattle.abc_scan.specs.declared.spanned.Spanned.{Spanned}
use Rattle.abc_scan.specs.declared.token.TokenKind.{TokenKind}
use Rattle.abc_scan.specs.Cell.{cells_of}
use Rattle.abc_scan.specs.Class.{class_of}
use Rattle.abc_scan.specs.Line.{tokens_of}

-- Whether a line is read besides those of the written reading, for which it is a comment.
unfoldable pub is_read_besides : List ℕ → Bool
is_read_besides line = is_some (block_begun_by line) || (is_some (block_ended_by line) || is_some (playing_directive_of line))

-- The class of a line: one that is read besides is a directive.
abbrev pub performed_class_of : List ℕ → LineClass
performed_class_of line = if is_read_besides line then classes.Directive else class_of line

-- The marks of a line with a directive: one.
abbrev pub directive_marks : PlayingDirective → List Mark
directive_marks directive = record { before = 0; kind = marks.Directive directive } ∷ []

-- The cell of a line with a directive that is heard.
abbrev pub directive_cell : List ℕ → Option PerformedCell
directive_cell line = option_map (λ directive. cells.Directive (directive_marks directive)) (playing_directive_of line)

-- The cell of a line that is read besides.
abbrev pub comment_cell : List ℕ → Option PerformedCell
comment_cell line =
    option_or (option_map cells.Begin (block_begun_by line)) (option_or (option_map cells.End (block_ended_by line)) (directive_cell line))

-- A cell of a line, from that of the written reading.
abbrev pub read_cell : List ℕ → List (Spanned TokenKind) → PerformedCell
read_cell line cell = cells.Read (heard_tokens line cell) (marks_written line cell)

-- One cell, or these.
abbrev pub cells_or : Option PerformedCell → List PerformedCell → List PerformedCell
cells_or None read = read
cells_or (Some cell) read = cell ∷ []

-- The cells of a line.
abbrev pub performed_cells_of : List ℕ → List PerformedCell
performed_cells_of line = cells_or (comment_cell line) (map (read_cell line) (cells_of (tokens_of line)))
