use Rattle.std.proofs.Common.{◌∙◌, length, min, ◌<◌, ◌≡◌, subst, sym, ap}
use Rattle.std.specs.Prelude.{IfOk}
use Rattle.abc_repeat.specs.declared.play.TheConstants.{MOST_PLACES}
use Rattle.abc_voices_sections.specs.EndingFields.{ordered}
use Rattle.abc_voices_sections.specs.Play.{played}
use Rattle.abc_voices_sections.specs.Section.{own_steps}
use Rattle.abc_voices_sections.proofs.OneByOne.{as_many}
use Rattle.abc_voices_sections.proofs.Singles.{played_without_bars}
use Rattle.abc_voices_sections.proofs.play.played_steps.Goals as goal

pub returns-clause-value : goal.returns-clause-value
returns-clause-value g c =
    let item_of = g.T.AsItem.item_of in
    let same = ap (played item_of) c.in_ok-own.ensures ∙ played_without_bars item_of (own_steps item_of c.args.voice.now c.args.section.now.voice.now c.args.section.now.items.now) in
    subst (λ found. IfOk c.played_items.result (λ steps. steps.items ≡ found)) same c.played_items.ensures.value

pub returns-clause-too_long : goal.returns-clause-too_long
returns-clause-too_long g c = λ late.
    let item_of = g.T.AsItem.item_of in
    let same = ap (played item_of) c.in_ok-own.ensures ∙ played_without_bars item_of (own_steps item_of c.args.voice.now c.args.section.now.voice.now c.args.section.now.items.now) in
    subst (λ count. min c.args.room MOST_PLACES < count) (sym (as_many item_of (ordered item_of c.in_ok-own.own.items)) ∙ ap length same) (c.played_items.ensures.too_long late)
