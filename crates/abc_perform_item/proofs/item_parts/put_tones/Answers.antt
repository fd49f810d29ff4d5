use Rattle.std.proofs.Common.{◌≡◌, rules}
use Rattle.std.proofs.lemmas.Int.{to_z-of_z}
use mir.Syntax.{w8}
use mir.Val.{SFits}
use Rattle.abc_perform_item.specs.ItemParts.{graces_before}
use Rattle.abc_perform_item.proofs.Wholes.{on_ok, tones_whole}
use Rattle.abc_perform_item.proofs.item_parts.put_tones.Goals as goal

pub returns : goal.returns
returns c =
    let graces : c.as_slice.result.now ≡ graces_before c.args.setting c.args.marks.now = cc (c.in_ok-graces.ensures.value) in
    let same : c.as_slice-2.result.now ≡ graces_before c.args.setting c.args.marks.now = cc (c.in_ok-graces.ensures.value) in
    let fits : SFits w8 c.args.setting.transpose = search rules in
    let moved = to_z-of_z w8 c.args.setting.transpose fits in
    let put = rw moved at (c.in_ok-put_graces.ensures {u = tt}) in
    on_ok c.put_sound.result
    (tones_whole c.args.setting c.args.marks.now c.args.tones.now c.args.length c.fermata_factor-factor.result c.added_by.result c.divisor_of.result
    c.as_slice.result.now c.as_slice-2.result.now
    c.in_ok-time.time c.args.performance.now c.put_graces.new.performance c.put_sound.new.performance
    c.fermata_factor-factor.ensures.value graces same (rw c.from.ensures at c.in_ok-time.ensures.value) put
    c.added_by.ensures.value c.divisor_of.ensures.value)
    (simp (moved, c.from.ensures) at c.put_sound.ensures)
