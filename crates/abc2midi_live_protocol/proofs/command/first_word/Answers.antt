use Rattle.abc2midi_live_protocol.specs.Command.{words_after}
use Rattle.abc2midi_live_protocol.proofs.Words.{words_of-alone, words_of-cut}
use Rattle.abc2midi_live_protocol.proofs.command.first_word.Goals as goal

pub returns-in-Some : goal.returns-in-Some
unfolding words_after
returns-in-Some c = words_of-cut c.args.text.now c.in-Some.word.now c.in-Some.after.now c.in-Some.ensures.cut

pub returns-in-None : goal.returns-in-None
unfolding words_after
returns-in-None c = words_of-alone c.args.text.now c.in-None.ensures.cut
