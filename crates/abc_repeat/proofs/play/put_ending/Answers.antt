use Rattle.std.proofs.Common.{◌≡◌, ◌++◌, OnOk, subst}
use Rattle.abc_repeat.specs.Strain.{strain_of}
use Rattle.abc_repeat.proofs.Rounds.{none_put, ending_run}
use Rattle.abc_repeat.proofs.play.put_ending.Goals as goal

pub returns-then-pass : goal.returns-then-pass
returns-then-pass c = none_put c.args.play.now.items c.args.from c.args.pass (strain_of c.args.text.now) c.if-pass.true

pub returns : goal.returns
returns c =
    subst (λ l. OnOk c.put_places.result (c.put_places.new.play.items ≡ c.args.play.now.items ++ l))
    (ending_run c.args.text.now c.up_to_ending.result.now c.args.from c.args.pass c.run_start-start.result c.run_start-start.ensures.value c.up_to_ending.ensures.value)
    c.put_places.ensures
