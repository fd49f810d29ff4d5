use Rattle.std.proofs.Common.{◌≡◌}
use Rattle.abc_perform_chords.proofs.Moments.{fills_bar}
use Rattle.abc_perform_chords.specs.PatternSteps.{spans_from, total_count}
use Rattle.abc_perform_chords.proofs.pattern_steps.bar_spans.Goals as goal

pub returns-clause-value : goal.returns-clause-value
returns-clause-value c = rw c.total_count-total.ensures at c.in_ok-spans.ensures

pub returns-clause-whole : goal.returns-clause-whole
returns-clause-whole c =
    let same : c.in_ok-spans.spans ≡ spans_from c.args.bar.0 (total_count c.args.pattern.now) 0 c.args.pattern.now =
    rw c.total_count-total.ensures at c.in_ok-spans.ensures in
    rw same (fills_bar c.args.bar.0 c.args.pattern.now c.requires.some)
