-- Sets of definitions that the examples open: a set opens all that its `unfolding` line names. Its value has no meaning.
use Rattle.std.specs.Fmt.{digits}
use Rattle.abc2midi_live.specs.Answer.{end_line, failed_line, fault_line, fault_list, hex_line, number_list, refusal, report_line}
use Rattle.abc2midi_live.specs.Answer.{stored_line, title_line, title_list, truncated_line, unknown_line}
use Rattle.abc2midi_live.specs.Command.{command_named, command_of, command_of_words, deletion, hex_dump, insertion, numbers_of}
use Rattle.abc2midi_live.specs.Command.{replacement, with_numbers, within_line_limit, without_numbers, words_of}
use Rattle.abc2midi_live.specs.Transcript.{answers, book_lines, edit_answer, input_lines, outcome_of, request_of, requests}
use Rattle.abc2midi_live.specs.Transcript.{transcript, without_mark}
use Rattle.abc_book.specs.Block.{blocks_of}
use Rattle.abc_lines.specs.Edits.{edited, replaced}
use Rattle.abc_lines.specs.Text.{spliced}
use Rattle.abc_lines.specs.TextLines.{lines_in}
use Rattle.abc_text.specs.Number.{number_of}
use Rattle.abc_tune_compiler.specs.Book.{book_of}
use Rattle.abc_tune_compiler.specs.Files.{removed_numbers, written_numbers}
use Rattle.abc_tune_compiler.specs.Tune.{tune_of}
use Rattle.hex.specs.Hex.{encode_with}

-- The lines of a tune book.
unfoldable pub lines_of_a_book : Unit {0}
unfolding lines_in book_lines without_mark
lines_of_a_book = tt

-- The lists of faults and of titles.
unfoldable pub lists : Unit {0}
unfolding fault_line fault_list title_line title_list
lists = tt

-- The answers of one line.
unfoldable pub answers_in_a_line : Unit {0}
unfolding number_list report_line refusal end_line stored_line failed_line hex_line unknown_line truncated_line encode_with
    digits
answers_in_a_line = tt

-- The commands of lines.
unfoldable pub commands : Unit {0}
unfolding number_of numbers_of within_line_limit insertion replacement deletion hex_dump without_numbers with_numbers command_named
    command_of_words words_of command_of
commands = tt

-- The answers to inputs that leave the text empty.
unfoldable pub inputs : Unit {0}
unfolding input_lines request_of requests edit_answer outcome_of answers transcript
inputs = tt

-- The book of a text.
unfoldable pub books : Unit {0}
unfolding blocks_of tune_of book_of
books = tt

-- Edits of a text.
unfoldable pub edits : Unit {0}
unfolding spliced replaced edited
edits = tt

-- The numbers that two books differ in.
unfoldable pub differences : Unit {0}
unfolding removed_numbers written_numbers
differences = tt
