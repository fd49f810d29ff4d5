use Rattle.std.proofs.Common.{◌∙◌, ap, subst}
use Rattle.abc_fold.specs.Chain.{ChainView}
use Rattle.abc_live_text.specs.Chains.{state_after_chain}
use Rattle.abc_live_text.specs.KeptText.{KeptTextView}
use Rattle.abc_live_text.specs.Lead.{IsKeptOpening}
use Rattle.abc_live_text.proofs.kept_text.KeptText.kept_opening.Goals as goal

pub returns : goal.returns
returns g c =
    let rules' = g.C.Compiler.rules c.self.inside.compiler in
    subst (λ (k : KeptTextView g.row.C.Denot g.row.C-State.Denot g.row.C-Cell.Denot g.row.C-Items.Denot).
    IsKeptOpening (g.C.Compiler.rules k.compiler) k c.tune_opening.result) c.self.view_is (record {
      first = c.item_at.result.now;
      there = c.item_at.ensures;
      begins = c.tune_opening.ensures ∙ ap (λ (x : ChainView g.row.C-State.Denot g.row.C-Cell.Denot g.row.C-Items.Denot). rules'.tune (state_after_chain c.self.inside.header x)) c.get-first.ensures;
    })
