use Rattle.std.proofs.Common.{◌∙◌}
use Rattle.abc_live_index.proofs.FaultlessCells.{faultless}
use Rattle.abc_live_index.proofs.stretch_faults.put_of_place.Goals as goal

pub returns-else-output-clause-ok : goal.returns-else-output-clause-ok
returns-else-output-clause-ok g c =
    faultless (g.C.Compiler.rules
    c.args.compiler.now) c.args.output.now c.args.chain.now c.args.stretch.now.before c.args.stretch.now.counts.now c.args.place
    c.as_slice.result.now c.args.faults.now.items c.put_of_tune.new.faults.items c.requires.output c.if-output.false
    (c.as_slice.ensures ∙ c.get.ensures) c.in_ok-put_of_tune.ensures.ok
