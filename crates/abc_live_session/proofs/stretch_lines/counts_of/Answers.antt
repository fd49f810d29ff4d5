use Rattle.std.proofs.Common.{◌≡◌, ◌+◌, ◌<◌, ap, ◌∙◌, sym, drop, length, map, take, arith}
use Rattle.abc_live_text.specs.declared.stretch.Stretch.{Stretch}
use Rattle.abc_live_session.specs.Prepared.{count_in}
use Rattle.abc_live_session.proofs.SplicedLines.{dropped_at, mapped_more}
use Rattle.abc_live_index.proofs.OutputLists.{never_none}
use Rattle.abc_live_session.proofs.stretch_lines.counts_of.Goals as goal
use Rattle.abc_live_session.proofs.stretch_lines.counts_of.Goals.{in-Some+in_ok-push, in_default}

pub loop-nth-preserved : goal.loop-nth-preserved
loop-nth-preserved g c =
    let from = c.stretch-stretch.result.lines.from in
    let rows = c.args.text_patch.now.rows in
    let same_from = ap (λ (s : Stretch). s.lines.from) c.stretch-stretch.ensures in
    let same_came = ap (λ (s : Stretch). s.lines.came) c.stretch-stretch.ensures in
    let within : c.stretch-stretch.result.lines.from + c.loop-nth.nth < length c.args.text_patch.now.rows = omega (arith, c.requires.inside, c.loop-nth-test.true, same_from, same_came) in
    elim c.match-row.branch [
      | in-Some+in_ok-push w ↦
          mapped_more count_in (drop from rows) c.loop-nth.nth w.in-Some.row.now _ c.loop-nth.counts.items c.match-row.counts.items
          (sym (dropped_at from rows c.loop-nth.nth) ∙ sym w.in-Some.ensures) (ap length w.cells.ensures) c.loop-nth.invariant
          (ap (λ v. v.items) w.counts-is ∙ w.in_ok-push.ensures.items)
      | in_default w ↦ never_none rows (from + c.loop-nth.nth) within (sym w.in_default.ensures)
    ]

pub returns : goal.returns
returns g c =
    let end : c.loop-nth.nth ≡ c.stretch-stretch.result.lines.came = omega (arith, c.loop-nth-test.false, c.loop-nth.auto.nth-end) in
    c.loop-nth.invariant
    ∙ ap (λ n. map count_in (take n (drop c.stretch-stretch.result.lines.from c.args.text_patch.now.rows))) end
    ∙ ap (λ (s : Stretch). map count_in (take s.lines.came (drop s.lines.from c.args.text_patch.now.rows))) c.stretch-stretch.ensures
