use Rattle.abc_voices.proofs.InOne.{taken}
use Rattle.abc_voices.proofs.tied_notes.ReverseNotes.take_next.Goals as goal

pub returns-clause-rest : goal.returns-clause-rest
returns-clause-rest c =
    taken c.self.inside.notes.items c.remove.new.self.items c.self.inside.next c.self.inside.begun c.args.place c.args.self.now
    c.self.invariant.0 c.self.invariant.1 c.self.view_is c.requires c.remove.ensures.items
