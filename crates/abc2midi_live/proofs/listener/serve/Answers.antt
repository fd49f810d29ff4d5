use Rattle.std.proofs.Common.{[], ◌∷◌, subst}
use Rattle.abc2midi_live.specs.Machine.{TakesLine}
use Rattle.abc2midi_live.proofs.Feeding.{carried_all}
use Rattle.abc2midi_live.proofs.listener.serve.Goals as goal

pub returns-in-Answer-clause-answer : goal.returns-in-Answer-clause-answer
returns-in-Answer-clause-answer g c =
    let before = g.M.Machine.state c.args.machine.now in
    let after = g.M.Machine.state c.take_line.new.self in
    let old = g.S.Store.seen c.args.store.now in
    let new = g.S.Store.seen c.take_line.new.store in
    let taken = subst (TakesLine before after c.args.line.items old new) c.in-Answer.is c.in_ok-take_line.ensures.reply in
    carried_all before.future after.future before.directory after.directory (c.args.line.items ∷ []) taken.0 c.in-Answer.text.items old new taken.1 taken.2
    (g.met.M.Machine.waits c.take_line.new.self)
