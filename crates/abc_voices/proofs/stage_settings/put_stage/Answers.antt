use Rattle.std.proofs.Common.{sym, ap, ◌∙◌, arith}
use Rattle.std.proofs.lemmas.Grind.{common_steps}
use Rattle.std.specs.Prelude.{option_copied}
use Rattle.abc_voices.proofs.Borrowed.{steps_of-part, steps_of-none, IsPart-part}
use Rattle.abc_voices.proofs.stage_settings.put_stage.Goals as goal

pub put_part-requires-clause-part : goal.put_part-requires-clause-part
put_part-requires-clause-part g c =
    IsPart-part c.args.stage.now c.args.voice c.in-Some.part.now c.requires.stage (sym c.part.ensures ∙ ap option_copied c.in-Some.is)

pub returns-in-Some : goal.returns-in-Some
returns-in-Some g c =
    let steps = steps_of-part c.args.stage.now c.args.voice c.in-Some.part.now (sym c.part.ensures ∙ ap option_copied c.in-Some.is) in
    grind (arith, common_steps, steps)

pub returns-in-None : goal.returns-in-None
returns-in-None g c =
    let steps = steps_of-none c.args.stage.now c.args.voice (sym c.part.ensures ∙ ap option_copied c.in-None.is) in
    grind (arith, common_steps, steps)
