-- A toy language of tunes, small enough to be worked by hand. A field D: sets the byte that is before each music line
-- of a file, in a file header for all tunes; T: is a title; a line of music that begins with `!` is a fault; a tune of
-- more than four lines has no file. Not in ABC 2.1.
use Rattle.std.specs.Prelude.{ℕ, ◌-◌, ◌==◌, Bool, false, if◌then◌else◌, List, [], ◌∷◌, length, drop, nat_le, Option, Some, None}
use Rattle.std.specs.Prelude.{unwrap_or, slice_index}
use Rattle.std.specs.List.{flat_map}
use Rattle.abc_live.specs.declared.FaultCode.{FaultCode}
use Rattle.abc_live.specs.declared.FaultCode.TheVariants.{BadByte, TuneTooLong}
use Rattle.abc_live.specs.Steps.{Steps}
use Rattle.abc_live.specs.Text.{Text}
use Rattle.abc_live.specs.Class.{class_of}
use Rattle.abc_live.specs.declared.LineClass.{LineClass}
use Rattle.abc_live.specs.declared.LineClass.TheVariants.{Blank, Comment, Field, Directive, Music}
use Rattle.abc_live.specs.Book.{Book, book_of}
use Rattle.abc_live.specs.Rules.{Rules}
use Rattle.tests_live.specs.declared.toy.Played.{Played}

-- Whether a line begins with this byte.
abbrev pub begins_with : ℕ → List ℕ → Bool
begins_with byte [] = false
begins_with byte (first ∷ rest) = first == byte

-- The bytes of a line after its first two.
abbrev pub value_of : List ℕ → List ℕ
value_of line = drop 2 line

-- The first of these bytes, 0 if there is none.
abbrev pub first_of_value : List ℕ → ℕ
first_of_value line = slice_index line 2

-- The cells of a line of this class: the line, if it is neither blank nor a comment.
abbrev pub cells_of_class : LineClass → List ℕ → List (List ℕ)
cells_of_class Blank line = []
cells_of_class Comment line = []
cells_of_class (Field letter) line = line ∷ []
cells_of_class Directive line = line ∷ []
cells_of_class Music line = line ∷ []

-- The cells of a line.
abbrev pub cells_of : List ℕ → List (List ℕ)
cells_of line = cells_of_class (class_of line) line

-- The byte that is put before music lines, after a line.
abbrev pub next_byte : ℕ → List ℕ → ℕ
next_byte byte line = if begins_with 68 line then first_of_value line else byte

-- A line, and the byte that is put before music lines at its place.
abbrev pub played_line : ℕ → List ℕ → Played
played_line byte line = record { byte = byte; line = line }

-- The byte if nothing sets it: `0`.
abbrev pub no_byte : ℕ
no_byte = 48

-- The reference number of an X: line: its first digit.
abbrev pub number_of : Played → Option ℕ
number_of one = if begins_with 88 one.line then Some (first_of_value one.line - 48) else None

-- The title of a T: line.
abbrev pub title_of : Played → Option (List ℕ)
title_of one = if begins_with 84 one.line then Some (value_of one.line) else None

-- The fault of a line that begins with `!`.
abbrev pub faults_of : Played → List (ℕ × FaultCode)
faults_of one = if begins_with 33 one.line then (1, BadByte) ∷ [] else []

-- The bytes of a line of this class in the file.
abbrev pub bytes_of_class : LineClass → Played → List ℕ
bytes_of_class Blank one = []
bytes_of_class Comment one = []
bytes_of_class (Field letter) one = []
bytes_of_class Directive one = []
bytes_of_class Music one = one.byte ∷ one.line

-- Whether a tune has too many lines for a file.
abbrev pub is_long : List Played → Bool
is_long all = nat_le 5 (length all)

-- The file of a tune: its music lines, each with its byte before it.
abbrev pub file_of : List Played → Option (List ℕ)
file_of all = if is_long all then None else Some (flat_map (λ one. bytes_of_class (class_of one.line) one) all)

-- The fault of a tune that is too long.
abbrev pub tune_faults_of : List Played → List FaultCode
tune_faults_of all = if is_long all then TuneTooLong ∷ [] else []

-- The definitions of the toy.
abbrev pub toy_rules : Rules ℕ (List ℕ) Played ℕ
toy_rules = record {
  class = class_of;
  cells = cells_of;
  header = no_byte;
  tune = λ after. unwrap_or after no_byte;
  defaults = λ byte. byte;
  number = number_of;
  title = title_of;
  faults = faults_of;
  bytes = file_of;
  build_faults = tune_faults_of;
}

-- The toy's fold, whose states are equivalent if they are equal.
abbrev pub toy_steps : Steps ℕ (List ℕ) Played
toy_steps = record { next = next_byte; gives = played_line; alike = λ a b. a == b }

-- The book of a text in the toy language.
abbrev pub toy_book : Text → Book
toy_book text = book_of toy_steps toy_rules text
