use Rattle.std.proofs.Common.{All, sym, subst}
use Rattle.abc_live_text.specs.KeptText.{KeptTextView}
use Rattle.abc_live_text.specs.Pieces.{IsCarried}
use Rattle.abc_live_text.proofs.Edits.{are_folded}
use Rattle.abc_live_text.proofs.kept_text.KeptText.refold_rows.Goals as goal

pub refold_tunes-requires : goal.refold_tunes-requires
refold_tunes-requires g c = record {
  carried = subst (λ (k : KeptTextView g.row.C.Denot g.row.C-State.Denot g.row.C-Cell.Denot g.row.C-Items.Denot). All (IsCarried k.chains.items) c.args.rows.now)
      (sym c.self.view_is) c.requires;
  folded = are_folded (g.C.Fold.steps c.self.inside.compiler) (g.C.Compiler.rules c.self.inside.compiler) c.self.inside.lines.text c.self.inside.chains.items c.self.invariant.chains_are;
}
