use Rattle.std.proofs.Common.{◌≡◌, ◌-◌, ap, ◌∙◌, drop, take, arith}
use Rattle.abc_live_index.proofs.ClaimSteps.{titles_on}
use Rattle.abc_live_index.specs.TuneChange.{new_outputs}
use Rattle.abc_live_index.specs.Outputs.{titles_of}
use Rattle.abc_live_index.proofs.titles.titles_between.Goals as goal

pub loop-place-preserved : goal.loop-place-preserved
loop-place-preserved c =
    titles_on (new_outputs c.args.change.now) c.args.from c.loop-place.place c.new_at.result.now c.in_ok-title_by.field-0 c.loop-place.titles.items c.push.new.self.items
    c.loop-place.auto.place c.new_at.ensures c.in_ok-title_by.ensures c.in_ok-push.ensures.items c.loop-place.invariant

pub returns : goal.returns
returns c =
    let end : c.loop-place.place ≡ c.args.to = omega (arith, c.loop-place.auto.place-end c.requires.order) in
    c.loop-place.invariant ∙ ap (λ n. titles_of (take (n - c.args.from) (drop c.args.from (new_outputs c.args.change.now)))) end
