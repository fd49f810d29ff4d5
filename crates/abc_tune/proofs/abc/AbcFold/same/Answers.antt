use Rattle.abc_tune.proofs.abc.AbcFold.same.Goals as goal

pub returns : goal.returns
returns c = λ abc. c.same.ensures (record {})
