use Rattle.std.proofs.Common.{◌≤◌, length, arith}
use Rattle.std.proofs.lemmas.Grind.{common_steps}
use Rattle.std.proofs.lemmas.Option.{slice_get_past}
use Rattle.abc_play.proofs.place.put_part.Goals as goal

pub returns-in-None : goal.returns-in-None
returns-in-None c =
    let past : length c.args.parts.now ≤ c.args.index = omega (arith, c.in-None.ensures.lookup.3) in
    let none = slice_get_past c.args.parts.now c.args.index past in
    grind (arith, common_steps, none)
