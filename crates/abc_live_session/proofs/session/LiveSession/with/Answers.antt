use Rattle.std.proofs.Common.{drop, map, sym, ap, ◌∙◌}
use Rattle.abc_live_index.specs.Output.{output_in}
use Rattle.abc_live_session.proofs.Memos.{no_book, nothing_remembered}
use Rattle.abc_live_session.proofs.session.LiveSession.with.Goals as goal

pub invariant_of-result : goal.invariant_of-result
invariant_of-result g c =
    let kept = c.in_ok-text.text in
    let steps = g.C.Fold.steps kept.compiler in
    let rules = g.C.Compiler.rules kept.compiler in (
      c.in_ok-book.ensures.outputs ∙ sym (ap (λ chains. map (output_in rules) (drop 1 chains)) c.in_ok-text.ensures.chains),
      no_book steps rules kept.lines.text _ _ c.in_ok-text.ensures.empty c.in_ok-book.ensures.outputs c.in_ok-book.ensures.faults,
      rw (c.in_ok-memo.ensures) (nothing_remembered steps rules),
    )
