use Rattle.std.proofs.Common.{◌+◌, ap, ◌∙◌, arith}
use Rattle.std.specs.List.{remove}
use Rattle.abc_lines.specs.Block.{BlockView, gap_block}
use Rattle.abc_lines.proofs.Runs.{one_left_out, placed_equal}
use Rattle.abc_lines.proofs.gap_list.GapList.remove_run.Goals as goal

pub loop-dropped-preserved : goal.loop-dropped-preserved
loop-dropped-preserved g c =
    let kept = c.loop-dropped.invariant in (
      c.take_next.ensures.left
          ∙ ap (λ (b : BlockView _). gap_block (remove b.items b.gap) b.gap (b.room + 1)) kept.0
          ∙ placed_equal _ _ _ _ _ (one_left_out c.args.self.now.items c.args.at c.loop-dropped._dropped (omega (arith, c.requires, c.loop-dropped-test.true))) (omega arith),
      kept.1,
    )
