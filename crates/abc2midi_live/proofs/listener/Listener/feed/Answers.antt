use Rattle.std.proofs.Common.{[], refl, ◌∙◌}
use Rattle.abc2midi_live.proofs.Counts.{raised_none}
use Rattle.std.proofs.KnownBytes.{Keeps-refl}
use Rattle.abc2midi_live.specs.Machine.{future_of_bytes}
use Rattle.abc2midi_live.specs.Outcome.{outlets}
use Rattle.abc2midi_live.specs.declared.run_fault.RunFault.TheVariants.{Memory}
use Rattle.abc2midi_live.proofs.Feeding.{fed_none, fed_more, fed_end, fed_all, fed_broken, fed_fault, future_of_bytes-nothing}
use Rattle.abc2midi_live.proofs.Feeding.{piece_kept, fault_exit, is_clean, none_ends, unasked_ahead}
use Rattle.abc2midi_live.proofs.listener.Listener.feed.Goals as goal

pub lines-init : goal.lines-init
lines-init g c = record { fed = fed_none; failures = refl }

pub returns-in_err-end_line-in-Some-clause-answer :
    goal.returns-in_err-end_line-in-Some-clause-answer
returns-in_err-end_line-in-Some-clause-answer g c =
    let now = c.lines.self in
    let state = g.M.Machine.state now.machine in
    let line = c.in-Some.line.now in
    let after = c.in-Some.after in
    let new = outlets (g.W.Sink.contents c.end_line.new.writer) (g.S.Store.seen c.end_line.new.store) in
    let failed = c.in_err-end_line-in-Some in
    fault_exit c.from_residual.result _ _ failed.field-0.0 c.from_residual.ensures
    (fed_fault line after.now new failed.field-0.0 c.lines.invariant.fed c.in-Some.ensures.cut.spelling
    (is_clean line c.in-Some.ensures.cut.first) failed.ensures.answer (future_of_bytes-nothing state.future state.directory now.begun.items now.whole (g.met.M.Machine.waits now.machine)))

pub returns-then-not-branch-clause-answer : goal.returns-then-not-branch-clause-answer
returns-then-not-branch-clause-answer g c =
    let now = c.end_line.new.self in
    let state = g.M.Machine.state now.machine in
    let line = c.in-Some.line.now in
    let after = c.in-Some.after in
    let new = outlets (g.W.Sink.contents c.end_line.new.writer) (g.S.Store.seen c.end_line.new.store) in
    fed_end (future_of_bytes state.future now.begun.items) state.directory line after.now new c.lines.invariant.fed
    c.in-Some.ensures.cut.spelling c.if-not-branch.true c.in_ok-end_line-in-Some.ensures.answer

pub lines-preserved : goal.lines-preserved
lines-preserved g c =
    let line = c.in-Some.line.now in
    let after = c.in-Some.after in
    let answered = c.in_ok-end_line-in-Some.ensures in
    record {
      fed = rw c.in-Some.after-is
          (fed_more line c.lines.invariant.fed c.in-Some.ensures.cut.spelling c.if-not-branch.false answered.answer);
      failures = answered.failures ∙ raised_none _ ∙ c.lines.invariant.failures;
    }

pub returns-in_err-keep-in-None-clause-answer :
    goal.returns-in_err-keep-in-None-clause-answer
returns-in_err-keep-in-None-clause-answer g c =
    let now = c.lines.self in
    let state = g.M.Machine.state now.machine in
    let out = outlets (g.W.Sink.contents c.lines.writer) (g.S.Store.seen c.lines.store) in
    let failed = c.from_residual-in_err-keep-in-None in
    fault_exit failed.result _ _ Memory failed.ensures
    (fed_broken [] c.lines.rest.now out c.lines.invariant.fed refl none_ends (Keeps-refl _)
    (unasked_ahead state.future state.directory now.begun.items [] out.store (g.met.M.Machine.unasked now.machine))
    (future_of_bytes-nothing state.future state.directory now.begun.items now.whole (g.met.M.Machine.waits now.machine)))

pub returns-in-None-clause-answer : goal.returns-in-None-clause-answer
returns-in-None-clause-answer g c =
    let now = c.lines.self in
    let state = g.M.Machine.state now.machine in
    let begun = c.keep.new.self.begun.items in
    let line = c.lines.rest.now in
    rw c.keep.ensures.machine
    (fed_all (future_of_bytes state.future begun) c.lines.invariant.fed refl
    (piece_kept state.future state.directory now.begun.items line begun now.whole (is_clean line c.in-None.ensures.cut) c.in_ok-keep-in-None.ensures.begun))
