-- The commands of the program, one on a line of its input. Not in ABC 2.1.
use Rattle.std.specs.Prelude.{ℕ, ◌<◌, ◌==◌, nat_le, if◌then◌else◌, List, [], ◌∷◌, length, codes, Option, Some, None}
use Rattle.std.specs.Borrow.{Bor}
use Rattle.std.specs.List.{slice_split}
use Rattle.std.specs.Option.{option_map_or}
use Rattle.std.specs.Str.{bytes_eq}
use Rattle.abc_text.specs.Byte.{space}
use Rattle.abc_text.specs.LineEnd.{without_return}
use Rattle.abc_text.specs.Number.{number_of}
use Rattle.abc_lines.specs.declared.limits.TheConstants.{LONGEST_LINE, MOST_LINES}
use Rattle.abc2midi_live_protocol.specs.declared.command.Command.{Command}
use Rattle.abc2midi_live_protocol.specs.declared.command.Command.TheVariants.{Insert, Replace, Delete, Faults, Titles, Hex, Build, Quit}
use Rattle.abc2midi_live_protocol.specs.declared.command.Command.TheVariants.{Unknown}

-- A number and those after it, if both exist.
abbrev pub number_and_rest : Option ℕ → Option (List ℕ) → Option (List ℕ)
number_and_rest None numbers = None
number_and_rest (Some n) None = None
number_and_rest (Some n) (Some numbers) = Some (n ∷ numbers)

-- The numbers that words spell, if each of them spells one.
unfoldable pub numbers_of : List (List ℕ) → Option (List ℕ)
numbers_of [] = Some []
numbers_of (word ∷ words) = number_and_rest (number_of word) (numbers_of words)

-- No command takes what words spell: a word is no number, or there are more than three.
abbrev pub IsUseless : Option (List ℕ) → Type 0
IsUseless None = Unit {0}
IsUseless (Some numbers) = 3 < length numbers

-- A command takes no more lines than a text may have.
unfoldable pub within_line_limit : ℕ → Command → Command
within_line_limit count command = if nat_le count MOST_LINES then command else Unknown

-- The command `insert L K`.
unfoldable pub insertion : List ℕ → Command
insertion (at ∷ count ∷ []) = within_line_limit count (Insert at count)
insertion _ = Unknown

-- The command `replace L M K`.
unfoldable pub replacement : List ℕ → Command
replacement (from ∷ to ∷ count ∷ []) = within_line_limit count (Replace from to count)
replacement _ = Unknown

-- The command `delete L M`.
unfoldable pub deletion : List ℕ → Command
deletion (from ∷ to ∷ []) = Delete from to
deletion _ = Unknown

-- The command `hex N`.
unfoldable pub hex_dump : List ℕ → Command
hex_dump (number ∷ []) = Hex number
hex_dump _ = Unknown

-- `faults`, `titles`, `build` or `quit`: a command that takes no numbers.
unfoldable pub without_numbers : Command → List ℕ → Command
without_numbers command [] = command
without_numbers command _ = Unknown

-- The command of the numbers that words spell.
unfoldable pub with_numbers : List (List ℕ) → (List ℕ → Command) → Command
with_numbers words made = option_map_or made (numbers_of words) Unknown

-- The command of a name and the numbers after it.
unfoldable pub command_named : List ℕ → List ℕ → Command
command_named name =
    if bytes_eq name (codes "insert") then insertion else
    if bytes_eq name (codes "replace") then replacement else
    if bytes_eq name (codes "delete") then deletion else
    if bytes_eq name (codes "faults") then without_numbers Faults else
    if bytes_eq name (codes "titles") then without_numbers Titles else
    if bytes_eq name (codes "hex") then hex_dump else
    if bytes_eq name (codes "build") then without_numbers Build else
    if bytes_eq name (codes "quit") then without_numbers Quit else
    (λ numbers. Unknown)

-- The command that words spell: a name, and then numbers.
unfoldable pub command_of_words : List (List ℕ) → Command
command_of_words [] = Unknown
command_of_words (name ∷ words) = with_numbers words (command_named name)

-- The words of a line are the parts between its spaces.
unfoldable pub words_of : List ℕ → List (List ℕ)
words_of line = slice_split (λ b. b == space) line

-- The words after a space, if there is one.
unfoldable pub words_after : Option (Bor (List ℕ)) → List (List ℕ)
words_after None = []
words_after (Some rest) = words_of rest.now

-- The command of a line: one carriage return at its end is dropped, and one that is longer than a line of a text is
-- none.
unfoldable pub command_of : List ℕ → Command
command_of line = if nat_le (length line) LONGEST_LINE then command_of_words (words_of (without_return line)) else Unknown

-- How many of the lines after it belong to a command.
abbrev pub line_count : Command → ℕ
line_count (Insert at count) = count
line_count (Replace from to count) = count
line_count (Delete from to) = 0
line_count Faults = 0
line_count Titles = 0
line_count (Hex number) = 0
line_count Build = 0
line_count Quit = 0
line_count Unknown = 0
