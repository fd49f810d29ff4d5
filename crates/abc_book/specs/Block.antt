-- The blocks of a text: its file header, its tunes, and free text. ABC 2.1 sections 2.2 and 2.2.2.
use Rattle.std.specs.Prelude.{ℕ, ◌+◌, Bool, true, false, not, List, [], ◌∷◌, ◌++◌, filter, if◌then◌else◌, ◌==◌}
use Rattle.std.specs.List.{flat_map}
use Rattle.abc_scan.specs.declared.line_class.LineClass.{LineClass}
use Rattle.abc_scan.specs.declared.line_class.LineClass.TheVariants.{Blank, Comment, Field, Directive}
use Rattle.abc_book.specs.declared.block.Block.{Block}
use Rattle.abc_book.specs.declared.block.BlockKind.{BlockKind}
use Rattle.abc_book.specs.declared.block.BlockKind.TheVariants.{FileHeader, Tune, Free}

-- A line of a text: its number, from 0, and its class.
pub record Line : Type 0 where
  pub number : ℕ
  pub class : LineClass

abbrev pub line_at : ℕ → LineClass → Line
line_at number class = record { number = number; class = class }

abbrev pub is_blank : LineClass → Bool
is_blank Blank = true
is_blank _ = false

abbrev pub is_comment : LineClass → Bool
is_comment Comment = true
is_comment _ = false

-- The byte `X`.
abbrev pub letter_x : ℕ
letter_x = 88

-- The first field of a tune. ABC 2.1 section 3.1.1.
abbrev pub is_x_line : LineClass → Bool
is_x_line (Field letter) = letter == letter_x
is_x_line _ = false

-- The lines of a text with their numbers from this one on.
abbrev pub number_lines : ℕ → List LineClass → List Line
number_lines number [] = []
number_lines number (class ∷ classes) = line_at number class ∷ number_lines (number + 1) classes

-- The lines without the comments. ABC 2.1 section 2.2.
abbrev pub without_comments : List Line → List Line
without_comments lines = filter (λ line. not (is_comment line.class)) lines

-- The pieces of lines: the first piece, and the others.
abbrev pub first_piece : List (List Line) → List Line
first_piece [] = []
first_piece (piece ∷ pieces) = piece

abbrev pub other_pieces : List (List Line) → List (List Line)
other_pieces [] = []
other_pieces (piece ∷ pieces) = pieces

-- The pieces with a line added at the front of the first.
abbrev pub onto_first : Line → List (List Line) → List (List Line)
onto_first line pieces = (line ∷ first_piece pieces) ∷ other_pieces pieces

-- The lines cut at blank lines, without these.
abbrev pub cut_at_blanks : List Line → List (List Line)
cut_at_blanks [] = [] ∷ []
cut_at_blanks (line ∷ lines) =
    if is_blank line.class then [] ∷ cut_at_blanks lines else onto_first line (cut_at_blanks lines)

-- The lines cut before each X: line.
abbrev pub cut_before_x : List Line → List (List Line)
cut_before_x [] = [] ∷ []
cut_before_x (line ∷ lines) =
    if is_x_line line.class then [] ∷ onto_first line (cut_before_x lines) else onto_first line (cut_before_x lines)

abbrev pub has_lines : List Line → Bool
has_lines [] = false
has_lines (line ∷ lines) = true

-- The runs of lines between blank ones. ABC 2.1 section 2.2.
abbrev pub runs_of : List LineClass → List (List Line)
runs_of classes = filter has_lines (cut_at_blanks (without_comments (number_lines 0 classes)))

-- The pieces of a run: an X: line always begins a tune. Not in ABC 2.1.
abbrev pub pieces_of : List Line → List (List Line)
pieces_of run = filter has_lines (cut_before_x run)

-- The kind of the first piece of the first run, by its first line. ABC 2.1 sections 2.2.2 and 11. A file header begins
-- with a field or a directive: not in ABC 2.1.
abbrev pub opening_kind : LineClass → BlockKind
opening_kind (Field letter) = if letter == letter_x then Tune else FileHeader
opening_kind Directive = FileHeader
opening_kind _ = Free

-- The kind of any other piece, by its first line. ABC 2.1 section 2.2.
abbrev pub later_kind : LineClass → BlockKind
later_kind class = if is_x_line class then Tune else Free

-- The line number after the last of these lines, or this number if there are none.
abbrev pub end_after : ℕ → List Line → ℕ
end_after end [] = end
end_after end (line ∷ lines) = end_after (line.number + 1) lines

-- A piece as a block, from its first to its last line.
abbrev pub block_of : (LineClass → BlockKind) → List Line → List Block
block_of kind [] = []
block_of kind (line ∷ lines) =
    record { kind = kind line.class; from = line.number; to = end_after (line.number + 1) lines } ∷ []

-- The blocks of a run that is not the first, or of the other pieces of the first.
abbrev pub later_blocks : List (List Line) → List Block
later_blocks pieces = flat_map (block_of later_kind) pieces

-- The blocks of the first run.
abbrev pub opening_blocks : List (List Line) → List Block
opening_blocks [] = []
opening_blocks (piece ∷ pieces) = block_of opening_kind piece ++ later_blocks pieces

-- The blocks of runs of lines.
abbrev pub blocks_of_runs : List (List Line) → List Block
blocks_of_runs [] = []
blocks_of_runs (run ∷ runs) =
    opening_blocks (pieces_of run) ++ flat_map (λ later. later_blocks (pieces_of later)) runs

-- The blocks of a text: the lines without comments, cut at blank lines into runs, and each run cut before every X:
-- line. ABC 2.1 section 2.2.
unfoldable pub blocks_of : List LineClass → List Block
blocks_of classes = blocks_of_runs (runs_of classes)
