use Rattle.std.proofs.Common.{◌∙◌, ap}
use Rattle.abc2midi_live_protocol.specs.Command.{command_of_words, words_of}
use Rattle.abc2midi_live_protocol.proofs.Words.{command_of-long, command_of_words-short}
use Rattle.abc2midi_live_protocol.proofs.command.Command.of.Goals as goal

pub returns-then-line-gt-LONGEST_LINE : goal.returns-then-line-gt-LONGEST_LINE
returns-then-line-gt-LONGEST_LINE c = command_of-long c.args.line.now c.if-line-gt-LONGEST_LINE.true

pub returns : goal.returns
returns c =
    c.command_of_words.ensures
    ∙ ap (λ line. command_of_words (words_of line)) c.without_return.ensures.value
    ∙ command_of_words-short c.args.line.now c.if-line-gt-LONGEST_LINE.false
