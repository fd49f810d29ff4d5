use Rattle.std.proofs.Common.{◌∙◌, ap}
use Rattle.abc2midi_live_protocol.specs.Command.{words_after, words_of, command_named}
use Rattle.abc2midi_live_protocol.proofs.Words.{command_of_words-cut, command_of_words-useless}
use Rattle.abc2midi_live_protocol.proofs.command.command_of_words.Goals as goal

pub returns-in-Some : goal.returns-in-Some
returns-in-Some c =
    c.command_named_by_bytes.ensures ∙ ap (command_named c.first_word.result.0.now) c.as_slice.ensures
    ∙ command_of_words-cut (words_of c.args.line.now) c.first_word.result.0.now (words_after c.first_word.result.1) _ c.first_word.ensures c.in-Some.ensures.numbers

pub returns-in-None : goal.returns-in-None
returns-in-None c =
    command_of_words-useless (words_of c.args.line.now) c.first_word.result.0.now (words_after c.first_word.result.1)
    c.first_word.ensures c.in-None.ensures.numbers
