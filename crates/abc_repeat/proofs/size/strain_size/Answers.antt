use Rattle.std.proofs.Common.{◌-◌, ◌^◌, length, min, refl, ap, ◌∙◌, arith}
use Rattle.abc_repeat.proofs.Following.{endings_after}
use Rattle.abc_repeat.proofs.Sizes.{strain_total}
use Rattle.abc_repeat.proofs.size.strain_size.Goals as goal

pub returns : goal.returns
returns c =
    let endings = endings_after c.args.text.now c.up_to_ending-front.result.now (length c.up_to_ending-front.result.now)
    (min c.most_passes-passes.result 32) c.up_to_ending-front.ensures.value refl in
    strain_total c.args.text.now c.up_to_ending-front.result.now c.most_passes-passes.result c.count_played-common.result
    c.saturating_mul.result c.endings_size-endings.result c.saturating_add.result (2 ^ 64 - 1)
    (omega arith) c.most_passes-passes.ensures c.up_to_ending-front.ensures.value c.count_played-common.ensures c.saturating_mul.ensures
    (c.endings_size-endings.ensures ∙ ap (λ n. min n (2 ^ 64 - 1)) endings) c.saturating_add.ensures
