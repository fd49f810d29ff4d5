use Rattle.std.proofs.Common.{◌-◌, sym, subst, arith}
use Rattle.std.proofs.lemmas.List.Elements.{All-get_or}
use Rattle.std.specs.Borrow.{Bor}
use Rattle.abc_bars_items.specs.declared.item.Item.{Item}
use Rattle.abc_bars_items.specs.Item.{IsItem}
use Rattle.abc_voices_sections.proofs.Items.{of_map}
use Rattle.abc_voices.proofs.notes.put_notes.Goals as goal

pub put_item-requires-clause-item : goal.put_item-requires-clause-item
put_item-requires-clause-item c =
    let each = of_map IsItem (λ (step : Bor Item). step.now) c.args.steps.now c.requires.steps in
    subst (λ (step : Bor Item). IsItem step.now) (sym c.index-steps-left.is)
    (All-get_or (λ (step : Bor Item). IsItem step.now) c.args.steps.now (c.loop-left.left - 1) c.index-steps-left.result
    (omega (arith, c.loop-left.invariant.inside, c.loop-left-test.true)) each)
