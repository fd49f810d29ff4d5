use Rattle.std.proofs.Common.{◌≡◌, ◌+◌, length, sym, ap, ◌∙◌, arith, rules}
use Rattle.std.specs.Vec.Iter.{into_iter_items}
use Rattle.abc_lines.specs.Block.{BlockView}
use Rattle.abc_lines.specs.GapList.{replaced_run}
use Rattle.abc_lines.proofs.Runs.{gapped_equal, none_put, one_put}
use Rattle.abc_lines.proofs.gap_list.GapList.put_all.Goals as goal

pub loop-item-preserved : goal.loop-item-preserved
loop-item-preserved g c =
    let before = c.loop-item.self-inside.block in
    let rest = into_iter_items c.next.new.self in
    let all = c.in-Some.ensures.steps.0 in
    let count : length (into_iter_items c.loop-item.item-iterator) ≡ 1 + length rest = ap length all ∙ omega arith in (
      ap (λ (b : BlockView _). replaced_run b.items b.gap 0 rest) c.put.ensures.put
          ∙ one_put before.items before.gap c.in-Some.item rest c.put.ensures.inside
          ∙ ap (λ xs. replaced_run before.items before.gap 0 xs) (sym all)
          ∙ c.loop-item.invariant.0,
      ap (λ (b : BlockView _). b.gap + length rest) c.put.ensures.put ∙ omega (arith, count, c.loop-item.invariant.1),
      ap (λ (b : BlockView _). b.room + length c.args.items.items) c.put.ensures.put ∙ omega (arith, count, c.loop-item.invariant.2, c.requires),
      c.loop-item.invariant.3,
    )

pub returns : goal.returns
returns g c =
    let kept = c.loop-item.invariant in
    let none : length (into_iter_items c.loop-item.item-iterator) ≡ 0 = search rules in
    gapped_equal _ _ _ _ _ _ _ _ (none_put c.loop-item.self-inside.block.items c.loop-item.self-inside.block.gap _ none ∙ kept.0)
    (omega (arith, kept.1, none)) (omega (arith, kept.2, none, c.requires)) kept.3
