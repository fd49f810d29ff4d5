-- A tune book's text: a list of lines within limits, of which a splice replaces a run. Its meaning is in ABC 2.1; the limits
-- and splices are not.
use Rattle.std.specs.Prelude.{◌≡◌, ℕ, ◌+◌, ◌≤◌, ◌&&◌, ◌==◌, Bool, true, not, List, ◌++◌, length, take, drop, map, nat_le}
use Rattle.std.specs.Borrow.{Bor}
use Rattle.std.specs.Global.{Vec}
use Rattle.std.specs.List.{list_all, list_any}
use Rattle.abc_lines.specs.declared.limits.TheConstants.{LONGEST_LINE, MOST_LINES}
use Rattle.abc_text.specs.Byte.{line_feed}

-- The lines of a tune book, each its bytes without the line feed.
abbrev pub Text : Type 0
Text = List (List ℕ)

-- What lines contain.
abbrev pub lines_of : List (Vec ℕ) → Text
lines_of lines = map (λ line. line.items) lines

-- What a list of lines contains.
abbrev pub text_of : Vec (Vec ℕ) → Text
text_of lines = lines_of lines.items

-- What borrowed lines contain.
abbrev pub seen_lines : List (Bor (List ℕ)) → Text
seen_lines lines = map (λ line. line.now) lines

-- A line has no line feed and not too many bytes.
abbrev pub is_line : List ℕ → Bool
is_line bytes = nat_le (length bytes) LONGEST_LINE && not (list_any (λ byte. byte == line_feed) bytes)

-- A text within the limits.
pub record IsText (text : Text) : Type 0 where
  pub count : length text ≤ MOST_LINES
  pub lines : list_all is_line text ≡ true

-- A splice: how many lines precede it, how many it removes, and the new lines.
pub record Splice : Type 0 where
  pub at : ℕ
  pub removed : ℕ
  pub lines : Text

-- The splice that replaces `removed` lines from index `at` on.
abbrev pub splice_from : ℕ → ℕ → List (Vec ℕ) → Splice
splice_from at removed lines = record { at = at; removed = removed; lines = lines_of lines }

-- The lines before the splice, the new lines, the lines after it.
unfoldable pub spliced : Text → Splice → Text
spliced text s = take s.at text ++ s.lines ++ drop (s.at + s.removed) text
