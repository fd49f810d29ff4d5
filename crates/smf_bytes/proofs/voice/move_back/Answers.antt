use Rattle.std.proofs.Common.{◌∙◌, arith}
use Rattle.std.proofs.lemmas.List.Sorted.{IsPermutation-trans}
use Rattle.smf_bytes.proofs.voice.move_back.Goals as goal

pub loop-preserved : goal.loop-preserved
loop-preserved c =
    let within = c.loop.invariant.within in
    record {
      within = omega arith;
      whole = c.swap.ensures.len ∙ c.loop.invariant.whole;
      moved = IsPermutation-trans _ _ _ c.loop.invariant.moved c.swap.ensures.permutation;
    }
