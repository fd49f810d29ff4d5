use Rattle.std.proofs.Common.{sym, ◌∙◌}
use Rattle.abc_fields.proofs.LowestTerms.{halve-odd, halve-even, halve-end}
use Rattle.abc_fields.proofs.tempo.lowest_terms.Goals as goal

pub returns-then-num-ne0 : goal.returns-then-num-ne0
returns-then-num-ne0 c = let e = halve-odd _ c.loop.num c.loop.den c.if-num-ne0.true in sym e ∙ c.loop.invariant

pub loop-preserved : goal.loop-preserved
loop-preserved c = sym (halve-even c.loop.counter c.loop.num c.loop.den c.loop-test.true c.if-num-ne0.false) ∙ c.loop.invariant

pub returns : goal.returns
returns c = sym (halve-end c.loop.counter c.loop.num c.loop.den c.loop-test.false) ∙ c.loop.invariant
