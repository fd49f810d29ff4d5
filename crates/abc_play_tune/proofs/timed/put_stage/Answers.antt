use Rattle.std.proofs.Common.{◌≤◌, length, ap, arith}
use Rattle.std.proofs.lemmas.Grind.{common_steps}
use Rattle.std.proofs.lemmas.Option.{slice_get_past}
use Rattle.abc_play_tune.proofs.timed.put_stage.Goals as goal

pub returns-in-None : goal.returns-in-None
returns-in-None c =
    let past : length c.args.stage.now.parts ≤ c.args.voice = omega (arith, c.in-None.ensures.lookup.3, ap length c.as_slice-parts.ensures) in
    let none = slice_get_past c.args.stage.now.parts c.args.voice past in
    grind (arith, common_steps, none)
