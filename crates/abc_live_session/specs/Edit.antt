-- Edits of a text, whose lines are counted from 1. Not in ABC 2.1.
use Rattle.std.specs.Prelude.{ℕ, ◌-◌, ◌==◌, if◌then◌else◌, List, Option, None, slice_get}
use Rattle.abc_lines.specs.Text.{Text, Splice, text_of}
use Rattle.abc_lines.specs.Edits.{insertion, replacement, deletion}
use Rattle.abc_live_session.specs.declared.edit.Edit.{Edit}
use Rattle.abc_live_session.specs.declared.edit.Edit.TheVariants.{Insert, Replace, Delete}

-- The line of a number.
abbrev pub line_at : Text → ℕ → Option (List ℕ)
line_at text n = if n == 0 then None else slice_get text (n - 1)

-- The splice that an edit names.
abbrev pub splice_of : Edit → Option Splice
splice_of (Insert at lines) = insertion at (text_of lines)
splice_of (Replace from to lines) = replacement from to (text_of lines)
splice_of (Delete from to) = deletion from to
