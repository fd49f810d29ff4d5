use Rattle.std.proofs.Common.{◌+◌, length, ap, ◌∙◌}
use Rattle.std.specs.List.{list_all}
use Rattle.abc_lines.specs.Text.{is_line}
use Rattle.abc_lines.specs.Limits.{limit_error}
use Rattle.abc_lines.specs.TextLines.{lines_in}
use Rattle.abc2midi_live.specs.Transcript.{book_lines}
use Rattle.abc2midi_live.proofs.Refusals.{refused_book}
use Rattle.abc2midi_live.proofs.book_fault.fault_of_book.Goals as goal

pub returns : goal.returns
unfolding book_lines
returns c =
    c.limit_error.ensures.value
    ∙ ap (λ r. limit_error (list_all is_line (lines_in r)) (0 + length (lines_in r))) c.without_mark.ensures
    ∙ refused_book (book_lines c.args.book.now)
