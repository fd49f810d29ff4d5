use Rattle.std.proofs.Common.{arith}
use Rattle.abc_voices.proofs.InOne.{turned}
use Rattle.abc_voices.proofs.tied_notes.ReverseNotes.begin_token.Goals as goal

pub returns : goal.returns
returns c =
    turned c.self.inside.notes.items c.self.inside.next c.self.inside.begun c.len-self-inside.result c.args.self.now (omega arith) c.self.invariant.0 c.self.view_is
