use Rattle.std.proofs.Common.{Option, IfSome, length, sym, ◌∙◌, ap, subst}
use Rattle.abc_book.specs.declared.block.Block.{Block}
use Rattle.abc_fold.proofs.Raised.{raised-none}
use Rattle.abc_tune_compiler.specs.Book.{header_in}
use Rattle.abc_live_text.specs.Pieces.{LiesWithin}
use Rattle.abc_live_text.proofs.Edits.{are_folded}
use Rattle.abc_live_text.proofs.ChainPlaces.{header_within}
use Rattle.abc_live_text.proofs.kept_text.KeptText.header_opening.Goals as goal

pub returns-in_err-blocks-clause-counted : goal.returns-in_err-blocks-clause-counted
returns-in_err-blocks-clause-counted g c =
    raised-none _ _

pub header_chain-requires-clause-folded : goal.header_chain-requires-clause-folded
header_chain-requires-clause-folded g c =
    are_folded (g.C.Fold.steps c.self.inside.compiler) (g.C.Compiler.rules c.self.inside.compiler) c.self.inside.lines.text c.self.inside.chains.items c.self.invariant.chains_are

pub header_chain-requires-clause-within : goal.header_chain-requires-clause-within
header_chain-requires-clause-within g c =
    subst (λ (o : Option Block). IfSome o (LiesWithin (length c.args.rows.now))) (sym (c.header_in-header.ensures ∙ ap header_in c.deref.ensures.value))
    (header_within c.args.rows.now c.in_ok-blocks.blocks.items c.in_ok-blocks.ensures)
