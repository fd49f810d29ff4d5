use Rattle.std.proofs.Common.{length, ap, arith}
use Rattle.abc_lines.proofs.ListSplices.{items_now, inside_now, length-replaced_run}
use Rattle.abc_lines.proofs.splice_patch.SplicePatch.len.Goals as goal

pub returns : goal.returns
returns g c =
    let inside = inside_now _ _ _ _ _ _ c.self.view_is c.requires c.self.invariant.inside in
    let count = length-replaced_run c.args.list.now.items _ _ c.self.inside.new.items inside in
    omega (arith, count, c.self.inside.new.ok, ap length (items_now _ _ _ _ _ _ c.self.view_is c.requires))
