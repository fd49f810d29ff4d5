use Rattle.std.proofs.Common.{sym, ap, subst}
use Rattle.abc2midi_live.specs.Outcome.{outlets}
use Rattle.abc2midi_live.proofs.Feeding.{Served, last_served, last_fault, finish_said, finish_none, fault_exit, not_empty}
use Rattle.abc2midi_live.proofs.Feeding.{is_empty, future_of_bytes-nothing}
use Rattle.abc2midi_live.proofs.listener.Listener.finish.Goals as goal

pub returns-then-is_empty-clause-answer : goal.returns-then-is_empty-clause-answer
returns-then-is_empty-clause-answer g c =
    let now = c.args.self.now in
    let state = g.M.Machine.state now.machine in
    let old = outlets (g.W.Sink.contents c.args.writer.now) (g.S.Store.seen c.args.store.now) in
    finish_none c.write_text.result state now.begun.items c.on_end_of_input.result.now old _
    (is_empty now.begun.items now.begun.len now.begun.ok.0 (sym c.if-is_empty.ensures)) c.on_end_of_input.ensures
    (future_of_bytes-nothing state.future state.directory now.begun.items now.whole (g.met.M.Machine.waits now.machine)) c.write_text.ensures.answer

pub returns-in_err-serve-clause-answer : goal.returns-in_err-serve-clause-answer
returns-in_err-serve-clause-answer g c =
    let now = c.args.self.now in
    let line = c.take_partial_line-line in
    let old = outlets (g.W.Sink.contents c.args.writer.now) (g.S.Store.seen c.args.store.now) in
    let new = outlets (g.W.Sink.contents c.serve.new.writer) (g.S.Store.seen c.serve.new.store) in
    fault_exit c.from_residual.result _ _ c.in_err-serve.field-0.0 c.from_residual.ensures
    (last_fault c.in_err-serve.field-0.0 (g.M.Machine.state now.machine) (g.M.Machine.state line.new.self.machine) now.begun.items line.result.items old new
    (ap (λ m. g.M.Machine.state m) line.ensures.machine) line.ensures.line now.whole now.kept c.in_err-serve.ensures.answer)

pub returns-then-branch-clause-answer : goal.returns-then-branch-clause-answer
returns-then-branch-clause-answer g c =
    let now = c.args.self.now in
    let line = c.take_partial_line-line in
    let machine = c.serve.new.machine in
    let old = outlets (g.W.Sink.contents c.args.writer.now) (g.S.Store.seen c.args.store.now) in
    let mid = outlets (g.W.Sink.contents c.serve.new.writer) (g.S.Store.seen c.serve.new.store) in
    finish_said c.write_text-then-branch.result (g.M.Machine.state now.machine) (g.M.Machine.state line.new.self.machine) (g.M.Machine.state machine)
    now.begun.items line.result.items c.on_end_of_input-then-branch.result.now old mid _ (ap (λ m. g.M.Machine.state m) line.ensures.machine) line.ensures.line now.whole
    (not_empty now.begun.items now.begun.len now.begun.ok.0 (sym c.if-is_empty.ensures)) now.kept c.if-branch.true c.in_ok-serve.ensures.answer
    c.on_end_of_input-then-branch.ensures (g.met.M.Machine.waits machine) c.write_text-then-branch.ensures.answer

pub returns-else-branch-clause-answer : goal.returns-else-branch-clause-answer
returns-else-branch-clause-answer g c =
    let now = c.args.self.now in
    let line = c.take_partial_line-line in
    let before = g.M.Machine.state line.new.self.machine in
    let after = g.M.Machine.state c.serve.new.machine in
    let old = outlets (g.W.Sink.contents c.args.writer.now) (g.S.Store.seen c.args.store.now) in
    let mid = outlets (g.W.Sink.contents c.serve.new.writer) (g.S.Store.seen c.serve.new.store) in
    last_served (g.M.Machine.state now.machine) before after now.begun.items line.result.items old mid (ap (λ m. g.M.Machine.state m) line.ensures.machine) line.ensures.line
    now.whole (not_empty now.begun.items now.begun.len now.begun.ok.0 (sym c.if-is_empty.ensures)) now.kept
    (subst (Served before after line.result.items old mid) c.if-branch.false c.in_ok-serve.ensures.answer)
