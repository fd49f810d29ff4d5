use Rattle.std.proofs.Common.{ap, ◌∙◌}
use Rattle.std.proofs.lemmas.Result.{IfOk-weaker}
use Rattle.abc_lines.specs.TextLines.{lines_in}
use Rattle.abc2midi_live.specs.Transcript.{book_lines}
use Rattle.abc2midi_live.proofs.book_lines.book_lines.Goals as goal

pub returns : goal.returns
unfolding book_lines
returns c = IfOk-weaker c.lines_of_text.result _ _ (λ lines h. h ∙ ap lines_in c.without_mark.ensures) c.lines_of_text.ensures.value
