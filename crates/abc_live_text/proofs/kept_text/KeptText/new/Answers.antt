use Rattle.std.proofs.Common.{◌≡◌, [], ◌∷◌, ap, ◌∙◌, refl}
use Rattle.std.specs.List.{insert}
use Rattle.abc_fold.specs.Chain.{ChainView, no_cells}
use Rattle.abc_lines.specs.GapList.{GapListView}
use Rattle.abc_live_text.specs.Row.{Row}
use Rattle.abc_live_text.proofs.EditCost.{empty_parts_are}
use Rattle.abc_live_text.proofs.kept_text.KeptText.new.Goals as goal

pub invariant_of-result : goal.invariant_of-result
invariant_of-result g c =
    let first : c.in_ok-first.first ≡ no_cells = c.in_ok-first.ensures ∙ c.in_ok-new.ensures.no_cells in
    let all : c.insert.new.self.items ≡ no_cells ∷ [] =
    ap (λ (x : GapListView (ChainView g.row.C-State.Denot g.row.C-Cell.Denot g.row.C-Items.Denot)). x.items) c.insert.ensures
    ∙ (ap (λ (x : GapListView (ChainView g.row.C-State.Denot g.row.C-Cell.Denot g.row.C-Items.Denot)). insert x.items 0 c.in_ok-first.first) c.in_ok-chains.ensures.empty
    ∙ ap (λ (x : ChainView g.row.C-State.Denot g.row.C-Cell.Denot g.row.C-Items.Denot). x ∷ []) first) in
    let rows : c.in_ok-rows.rows.items ≡ [] = ap (λ (x : GapListView (Row g.row.C-Cell.Denot)). x.items) c.in_ok-rows.ensures.empty in
    empty_parts_are (g.C.Fold.steps c.args.compiler) (g.C.Compiler.rules c.args.compiler) c.in_ok-lines.lines.text c.in_ok-rows.rows.items _ c.new-4.result.items c.insert.new.self.items
    c.in_ok-lines.ensures.empty rows refl c.new-4.ensures.items all
