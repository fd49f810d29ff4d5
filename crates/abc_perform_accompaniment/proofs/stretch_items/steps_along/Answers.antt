use Rattle.std.proofs.Common.{◌≡◌, ◌∙◌}
use Rattle.abc_perform_chords.specs.PatternSteps.{spans_from, total_count}
use Rattle.abc_perform_accompaniment.proofs.Steps.{spans_are_in, steps_are_steps}
use Rattle.abc_perform_accompaniment.proofs.stretch_items.steps_along.Goals as goal

pub stretch_steps-requires-clause-spans : goal.stretch_steps-requires-clause-spans
stretch_steps-requires-clause-spans c =
    let spans : c.as_slice.result.now ≡ spans_from c.bar_of-bar.result.0 (total_count c.args.pattern.now) 0 c.args.pattern.now =
    c.as_slice.ensures ∙ c.in_ok-spans.ensures.value in
    rw spans (spans_are_in c.bar_of-bar.result.0 c.args.pattern.now c.bar_of-bar.ensures.range)

pub returns-clause-range : goal.returns-clause-range
returns-clause-range c =
    let spans : c.as_slice.result.now ≡ spans_from c.bar_of-bar.result.0 (total_count c.args.pattern.now) 0 c.args.pattern.now =
    c.as_slice.ensures ∙ c.in_ok-spans.ensures.value in
    rw (c.in_ok-steps.ensures, spans)
    (steps_are_steps c.pickup_in-pickup.result c.bar_of-bar.result.0 c.args.length.0 c.args.pattern.now c.bar_of-bar.ensures.range
    c.requires.length)
