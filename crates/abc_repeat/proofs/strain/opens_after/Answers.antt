use Rattle.std.proofs.Common.{◌<◌, length, ◌∙◌, arith}
use Rattle.std.proofs.lemmas.Bool.Decides.{nat_tests}
use Rattle.abc_repeat.proofs.Cuts.{opens_at_last}
use Rattle.abc_repeat.proofs.strain.opens_after.Goals as goal

pub returns-then-not-is_empty : goal.returns-then-not-is_empty
returns-then-not-is_empty c =
    let some : 0 < length c.args.marks.now = grind (arith, nat_tests) in
    c.opens_next.ensures ∙ opens_at_last _ c.args.marks.now _ some
