use Rattle.std.proofs.Common.{◌≡◌, ◌+◌, ◌<◌, ap, ◌∙◌, sym, drop, length, take, arith}
use Rattle.abc_lines.specs.Text.{spliced}
use Rattle.abc_lines.proofs.Splices.{seen_more}
use Rattle.abc_live_text.specs.ItemSplice.{splice_in}
use Rattle.abc_live_session.proofs.SplicedLines.{dropped_at}
use Rattle.abc_live_index.proofs.OutputLists.{never_none}
use Rattle.abc_live_session.proofs.stretch_lines.lines_of.Goals as goal
use Rattle.abc_live_session.proofs.stretch_lines.lines_of.Goals.{in-Some+in_ok-push, in_default}

pub loop-nth-preserved : goal.loop-nth-preserved
loop-nth-preserved c =
    let whole = spliced c.args.text.now.text (splice_in c.args.splice.now) in
    let within : c.args.stretch.lines.from + c.loop-nth.nth < length whole = omega (arith, c.requires.inside, c.loop-nth-test.true) in
    elim c.match-line_after.branch [
      | in-Some+in_ok-push w ↦
          seen_more (drop c.args.stretch.lines.from
          whole) c.loop-nth.nth c.loop-nth.lines.items c.match-line_after.lines.items w.in-Some.line
          (w.in-Some.ensures ∙ dropped_at c.args.stretch.lines.from whole c.loop-nth.nth) c.loop-nth.invariant
          (ap (λ v. v.items) w.lines-is ∙ w.in_ok-push.ensures.items)
      | in_default w ↦ never_none whole (c.args.stretch.lines.from + c.loop-nth.nth) within (sym w.in_default.ensures)
    ]

pub returns : goal.returns
returns c =
    let end : c.loop-nth.nth ≡ c.args.stretch.lines.came = omega (arith, c.loop-nth-test.false, c.loop-nth.auto.nth-end) in
    c.loop-nth.invariant ∙ ap (λ n. take n (drop c.args.stretch.lines.from (spliced c.args.text.now.text (splice_in c.args.splice.now)))) end
