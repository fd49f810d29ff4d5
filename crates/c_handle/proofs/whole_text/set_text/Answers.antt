use Rattle.std.proofs.Common.{subst}
use Rattle.abc_lines.specs.TextLines.{lines_in}
use Rattle.c_handle.specs.WholeText.{CostsText, CostsTextOfSlot}
use Rattle.c_handle.proofs.whole_text.set_text.Goals as goal

pub returns-in-Some-clause-counted : goal.returns-in-Some-clause-counted
returns-in-Some-clause-counted c =
    let lines = lines_in c.args.text.now in
    let work = c.set_text_of-code.new.work in
    subst (λ held. CostsTextOfSlot lines held c.args.work.now work) c.in-Some.ensures.value
    (subst (λ held. CostsText lines held c.args.work.now work) c.deref_mut.ensures.value c.set_text_of-code.ensures.counted)
