use Rattle.std.proofs.Common.{ap, ◌∙◌, subst, Option}
use Rattle.abc_lines.specs.GapList.{GapListView}
use Rattle.abc_lines.specs.ListSplice.{Fits, count_after}
use Rattle.abc_lines.proofs.ListSplices.{left_out, move_items, put_in, put_in_room, put_in_roomier}
use Rattle.abc_lines.proofs.splice_patch.apply_splice.Goals as goal
use Rattle.abc_lines.proofs.splice_patch.apply_splice.Goals.{in-Some, in_default}

pub returns : goal.returns
returns g c =
    let list = c.args.list.now in
    let new = c.args.new.items in
    let HasRoom : Option (GapListView g.row.T.Denot) → Type 0 = λ o. Fits (count_after list c.args.removed new) list o in
    elim c.match-roomier.branch [
      | in-Some w ↦
          let fits = subst HasRoom w.in-Some.is c.requires.fits in
          c.put_all.ensures
          ∙ ap (put_in new) (w.list-is ∙ w.move_over.ensures ∙ ap (move_items w.in-Some.roomier) c.remove_run.ensures ∙ ap (λ r. move_items r (left_out c.args.at c.args.removed list)) fits.1)
          ∙ put_in_roomier list c.args.at c.args.removed new c.requires.inside fits.0
      | in_default w ↦
          let fits = subst HasRoom w.in_default.is c.requires.fits in
          c.put_all.ensures
          ∙ ap (put_in new) (w.list-is ∙ c.remove_run.ensures)
          ∙ put_in_room list c.args.at c.args.removed new c.requires.inside fits
    ]
