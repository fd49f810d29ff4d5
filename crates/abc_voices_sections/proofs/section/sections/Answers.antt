use Rattle.std.proofs.Common.{◌∙◌, sym, map, arith}
use Rattle.std.proofs.lemmas.Grind.{common_steps}
use Rattle.abc_voices_sections.specs.Stage.{steps_at}
use Rattle.abc_voices_sections.specs.Section.{cut}
use Rattle.abc_voices_sections.proofs.Cuts.{ends_more, goes_more}
use Rattle.abc_voices_sections.proofs.section.sections.Goals as goal
use Rattle.abc_voices_sections.proofs.section.sections.Goals.{then-is_section+in_ok-push, else-is_section}

pub loop-at-preserved : goal.loop-at-preserved
loop-at-preserved g c =
    let item_of = g.T.AsItem.item_of in
    let own = c.args.steps.now in
    let seen = map steps_at c.loop-at.found.items in
    let whole = cut item_of c.args.first.now own in
    elim c.if-is_section.branch [
      | then-is_section+in_ok-push w ↦
          let more = ends_more item_of own seen c.loop-at.opening.now c.loop-at.voice.now c.loop-at.begin c.loop-at.at
          c.index-steps-at.result whole c.loop-at-test.true c.index-steps-at.is (sym c.is_section.ensures ∙ w.if-is_section.true) c.loop-at.invariant.found in
          grind (arith, common_steps, more)
      | else-is_section w ↦
          let more = goes_more item_of own seen c.loop-at.opening.now c.loop-at.voice.now c.loop-at.begin c.loop-at.at
          c.index-steps-at.result whole c.loop-at.invariant.inside c.loop-at-test.true c.index-steps-at.is (sym c.is_section.ensures ∙ w.if-is_section.false) c.loop-at.invariant.found in
          grind (arith, common_steps, more)
    ]
