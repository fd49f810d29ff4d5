use Rattle.abc2midi_live_protocol.proofs.Words.{command_named-other}
use Rattle.abc2midi_live_protocol.proofs.command.command_named_by_bytes.Goals as goal

pub returns-in-Err : goal.returns-in-Err
returns-in-Err c = command_named-other c.args.name.now c.args.numbers.now c.in-Err.ensures.cases.0
