use Rattle.std.proofs.Common.{◌≡◌, [], ◌∷◌, arith}
use Rattle.std.proofs.lemmas.Grind.{common_steps}
use Rattle.abc_voices_sections.specs.Section.{cut}
use Rattle.abc_voices_sections.proofs.Cuts.{one_section}
use Rattle.abc_voices_sections.proofs.section.only_section.Goals as goal

pub returns : goal.returns
returns g c =
    let item_of = g.T.AsItem.item_of in
    let voice = c.args.first.now in
    let own = c.args.steps.now in
    let whole : cut item_of voice own ≡ (voice, own) ∷ [] = one_section item_of voice [] voice own c.requires in
    grind (arith, common_steps, whole)
