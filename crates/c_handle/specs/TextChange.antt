-- A text that a caller passes as a whole, and the splice that makes it of another. Not in ABC 2.1.
use Rattle.std.specs.Prelude.{◌≡◌, ◌≢◌, ◌+◌, ◌-◌, ◌<◌, ◌≤◌, length, slice_get, Option, None, Some, Result, Ok, Err}
use Rattle.std.specs.List.{list_all}
use Rattle.abc_lines.specs.declared.edit_error.EditError.{EditError}
use Rattle.abc_lines.specs.Limits.{limit_error}
use Rattle.abc_lines.specs.Text.{Splice, Text, is_line, spliced}

abbrev pub unless_refused : Option EditError → Text → Result Text EditError
unless_refused None text = Ok text
unless_refused (Some error) text = Err error

-- The text of these lines, or the first reason why no session can have it.
abbrev pub whole_text : Text → Result Text EditError
whole_text lines = unless_refused (limit_error (list_all is_line lines) (length lines)) lines

-- A splice makes one text of another, and is as short as can be: neither the first lines of what it replaces and of what it puts
-- there are the same, nor the last ones.
pub record IsChange (old new : Text) (s : Splice) : Type 0 where
  pub inside : s.at + s.removed ≤ length old
  pub value : spliced old s ≡ new
  pub first : 0 < s.removed → 0 < length s.lines → slice_get old s.at ≢ slice_get s.lines 0
  pub last : 0 < s.removed → 0 < length s.lines → slice_get old (s.at + s.removed - 1) ≢ slice_get s.lines (length s.lines - 1)
