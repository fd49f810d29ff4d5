use Rattle.std.proofs.Common.{◌≡◌, ◌+◌, ◌-◌, eqb-true, arith}
use Rattle.abc_live_index.proofs.Lists.{same_after}
use Rattle.abc_live_index.specs.TuneChange.{new_outputs, old_outputs}
use Rattle.abc_live_index.proofs.tune_change.TuneChange.keeps_tune.Goals as goal

pub returns : goal.returns
returns c = λ e.
    let s = c.args.self.now in
    let apart : c.args.new - s.tunes.from - s.tunes.came ≡ c.args.old - s.tunes.to = eqb-true _ _ e in
    same_after (old_outputs s) (new_outputs s) s.tunes.to (s.tunes.from + s.tunes.came) c.args.old c.args.new (omega arith) (omega arith) (omega (arith, apart)) c.requires.following
