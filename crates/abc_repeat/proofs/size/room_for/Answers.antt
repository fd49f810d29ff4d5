use Rattle.std.proofs.Common.{◌-◌, ◌^◌, arith}
use Rattle.abc_repeat.proofs.Bounds.{within_bound}
use Rattle.abc_repeat.proofs.size.room_for.Goals as goal

pub returns-then-bound-most-clause-enough : goal.returns-then-bound-most-clause-enough
returns-then-bound-most-clause-enough c = λ _.
    within_bound c.args.marks.now c.most_passes-passes.result c.saturating_mul-bound.result (2 ^ 64 - 1) c.most_passes-passes.ensures c.saturating_mul-bound.ensures (omega arith)
