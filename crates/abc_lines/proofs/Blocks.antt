-- A row as its block shows it.
use Rattle.std.proofs.Common.{◌≡◌, length, Option, Some, sym, ap, ◌∙◌, subst}
use Rattle.abc_lines.specs.Block.{BlockView, IsSound, block_view}
use Rattle.abc_lines.specs.declared.gap_row.GapRow.{GapRow}
use Rattle.abc_lines.proofs.GapRow.{length-items_of}

module _ {X : Type 0} (seen : Option (GapRow X)) (row : GapRow X) (now : BlockView X) (is : seen ≡ Some row) (view : block_view seen ≡ now) (sound : IsSound seen) where
  same : block_view (Some row) ≡ now
  same = sym (ap block_view is) ∙ view

  pub size_shown : row.size ≡ length now.items
  size_shown = sym (length-items_of (subst IsSound is sound)) ∙ ap (λ p. length p.items) same

  pub gap_shown : row.at ≡ now.gap
  gap_shown = ap (λ p. p.gap) same
