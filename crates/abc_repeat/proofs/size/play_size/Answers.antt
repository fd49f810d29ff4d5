use Rattle.std.proofs.Common.{◌-◌, ◌^◌, length, ap, ◌∙◌, arith}
use Rattle.abc_repeat.specs.Play.{play_of}
use Rattle.abc_repeat.proofs.Rests.{rest_none, rest_inside}
use Rattle.abc_repeat.proofs.Sizes.{total_more}
use Rattle.abc_repeat.proofs.size.play_size.Goals as goal

pub loop-at-init : goal.loop-at-init
unfolding play_of
loop-at-init c = record { inside = omega arith; small = omega arith; counted = omega arith }

pub loop-at-preserved : goal.loop-at-preserved
loop-at-preserved c = record {
  inside = rest_inside c.loop-at.at c.args.marks.now c.first_strain-text.result.now c.loop-at.invariant.inside c.first_strain-text.ensures.bounded;
  small = omega arith;
  counted =
      total_more c.loop-at.at c.loop-at.size c.strain_size.result c.saturating_add-size.result (2 ^ 64 - 1) c.loop-at.opened c.opens_after-opened.result c.args.marks.now c.first_strain-text.result.now
      c.first_strain-text.ensures.value c.opens_after-opened.ensures c.strain_size.ensures c.saturating_add-size.ensures
      ∙ c.loop-at.invariant.counted;
}

pub returns : goal.returns
returns c = let none = ap length (rest_none c.loop-at.at c.loop-at.opened c.args.marks.now c.loop-at-test.false) in omega (arith, c.loop-at.invariant.small, c.loop-at.invariant.counted)
