-- The answers of calls about a session.
use Rattle.std.specs.Prelude.{ℕ, List, length, Option, None, Some, option_map, slice_get}
use Rattle.std.specs.Option.{unwrap_or}
use Rattle.std.specs.Map.{keys_of}
use Rattle.abc_live.specs.Edit.{line_at}
use Rattle.abc_live.specs.Files.{file_at}
use Rattle.c_handle.specs.declared.open_session.OpenSession.{OpenSession}
use Rattle.c_handle.specs.Sessions.{book_of}
use Rattle.c_handle.specs.declared.codes.TheConstants.{CODE_OK, CODE_MISUSED}

-- The numbers of the last report.
abbrev pub written_in : OpenSession → Option (List ℕ)
written_in held = Some held.report.written.items

abbrev pub removed_in : OpenSession → Option (List ℕ)
removed_in held = Some held.report.removed.items

-- The numbers that have a file.
abbrev pub numbers_in : OpenSession → Option (List ℕ)
numbers_in held = Some (keys_of (book_of held).files)

-- The file of a number.
abbrev pub output_in : ℕ → OpenSession → Option (List ℕ)
output_in number held = file_at (book_of held).files number

-- The line of a number, counted from 1.
abbrev pub line_in : ℕ → OpenSession → Option (List ℕ)
line_in number held = line_at held.session.text number

-- How many lines there are.
abbrev pub lines_count : OpenSession → ℕ
lines_count held = length held.session.text

-- The bytes of the title at an index from 0.
abbrev pub title_text : ℕ → OpenSession → Option (List ℕ)
title_text index held = option_map (λ title. title.text) (slice_get (book_of held).titles index)

-- How many titles there are.
abbrev pub titles_count : OpenSession → ℕ
titles_count held = length (book_of held).titles

-- The number of the tune at an index from 0, or 0.
abbrev pub title_number : ℕ → Option OpenSession → ℕ
title_number index None = 0
title_number index (Some held) = unwrap_or (option_map (λ title. title.number) (slice_get (book_of held).titles index)) 0

-- A code and a count.
abbrev pub count_answer : Option ℕ → ℕ × ℕ
count_answer None = (CODE_MISUSED, 0)
count_answer (Some count) = (CODE_OK, count)
