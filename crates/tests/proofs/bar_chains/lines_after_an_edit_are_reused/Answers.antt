use Rattle.tests.proofs.bar_chains.lines_after_an_edit_are_reused.Goals as goal

pub prepare-requires : goal.prepare-requires
prepare-requires g c = rw c.deref.ensures.value (c.with_line-pieces.ensures c.tune-opening.result c.chain_of_tune-chain.ensures)
