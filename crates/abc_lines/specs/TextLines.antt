-- The lines of a text that the caller passes as a whole.
use Rattle.std.specs.Prelude.{ℕ, ◌&&◌, ◌==◌, Bool, true, if◌then◌else◌, List, [], ◌∷◌, length, nat_le}
use Rattle.std.specs.List.{slice_split}
use Rattle.abc_text.specs.Byte.{line_feed}
use Rattle.abc_lines.specs.Text.{Text}

-- The parts of a text between its line feeds are lines. The part after the last line feed is a line only if it is not empty
-- and the text has ended; before that, more of it may come.
abbrev pub whole_lines : Bool → List (List ℕ) → Text
whole_lines ended [] = []
whole_lines ended (line ∷ []) = if ended && nat_le 1 (length line) then line ∷ [] else []
whole_lines ended (line ∷ next ∷ more) = line ∷ whole_lines ended (next ∷ more)

-- The lines of a text. A carriage return stays in its line.
unfoldable pub lines_in : List ℕ → Text
lines_in bytes = whole_lines true (slice_split (λ byte. byte == line_feed) bytes)
