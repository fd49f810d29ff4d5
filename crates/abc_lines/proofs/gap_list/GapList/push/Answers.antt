use Rattle.std.proofs.Common.{◌≡◌, length, sym, ap, ◌∙◌, arith}
use Rattle.abc_lines.specs.GapList.{GapListView, distance, add_to_tally}
use Rattle.abc_lines.proofs.gap_list.GapList.push.Goals as goal
use Rattle.abc_lines.proofs.gap_list.GapList.push.Goals.{then-gap-end, else-gap-end}

pub returns-clause-moved : goal.returns-clause-moved
returns-clause-moved g c =
    let before = c.args.self.now in
    let moved = ap (λ (l : GapListView g.row.T.Denot). l.moved) c.self-2.view_is in
    let gap = ap (λ (l : GapListView g.row.T.Denot). l.gap) c.self.view_is in
    let end : c.len-end.result ≡ length before.items = c.len-end.ensures.value ∙ ap (λ (l : GapListView g.row.T.Denot). length l.items) c.self.view_is in
    elim c.if-gap-end.branch [
      | then-gap-end w ↦
          moved ∙ ap (λ (l : GapListView g.row.T.Denot). l.moved) (w.self-is ∙ w.move_gap.ensures)
          ∙ ap (λ n. add_to_tally before.moved (distance before.gap n)) end
      | else-gap-end w ↦
          let there : before.gap ≡ length before.items = sym gap ∙ sym c.gap.ensures.value ∙ w.if-gap-end.false ∙ end in
          moved ∙ ap (λ (l : GapListView g.row.T.Denot). l.moved) w.self-is ∙ omega (arith, there, c.moved.ensures)
    ]
