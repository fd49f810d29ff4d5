use Rattle.std.proofs.Common.{◌+◌, ◌-◌, ap, ◌∙◌, arith}
use Rattle.std.specs.List.{slice_get}
use Rattle.std.proofs.lemmas.Grind.{common_steps}
use Rattle.std.proofs.lemmas.Option.{gets}
use Rattle.abc_lines.proofs.ListSplices.{items_now, inside_now, item_front, item_among, item_back, item_past}
use Rattle.abc_lines.proofs.splice_patch.SplicePatch.get.Goals as goal

pub returns-then-i-self : goal.returns-then-i-self
returns-then-i-self g c =
    let inside = inside_now _ _ _ _ _ _ c.self.view_is c.requires c.self.invariant.inside in
    c.get.ensures ∙ item_front _ _ _ c.self.inside.new.items c.args.i inside (omega arith)
    ∙ ap (λ xs. slice_get xs c.args.i) (items_now _ _ _ _ _ _ c.self.view_is c.requires)

pub returns-then-i-self-2 : goal.returns-then-i-self-2
returns-then-i-self-2 g c =
    let inside = inside_now _ _ _ _ _ _ c.self.view_is c.requires c.self.invariant.inside in
    grind (arith, common_steps, gets)
    ∙ item_among _ _ _ c.self.inside.new.items c.args.i inside (omega arith) (omega (arith, c.self.inside.new.ok))
    ∙ ap (λ xs. slice_get xs c.args.i) (items_now _ _ _ _ _ _ c.self.view_is c.requires)

pub returns-then-i-len : goal.returns-then-i-len
returns-then-i-len g c =
    let inside = inside_now _ _ _ _ _ _ c.self.view_is c.requires c.self.invariant.inside in
    c.get-then-i-len.ensures
    ∙ ap (λ n. slice_get c.args.list.now.items (c.args.i - n + c.self.inside.removed)) (c.len-then-i-len.ensures ∙ c.self.inside.new.ok.0)
    ∙ item_back _ _ _ c.self.inside.new.items c.args.i inside (omega (arith, c.self.inside.new.ok)) (omega (arith, c.self.inside.new.ok))
    ∙ ap (λ xs. slice_get xs c.args.i) (items_now _ _ _ _ _ _ c.self.view_is c.requires)

pub returns-else-i-len : goal.returns-else-i-len
returns-else-i-len g c =
    let inside = inside_now _ _ _ _ _ _ c.self.view_is c.requires c.self.invariant.inside in
    item_past _ _ _ c.self.inside.new.items c.args.i inside (omega (arith, c.self.inside.new.ok)) (omega (arith, c.self.inside.new.ok))
    ∙ ap (λ xs. slice_get xs c.args.i) (items_now _ _ _ _ _ _ c.self.view_is c.requires)
