use Rattle.std.proofs.Common.{arith}
use Rattle.abc2midi_live.specs.Machine.{future_of_bytes}
use Rattle.abc2midi_live.specs.Outcome.{outlets}
use Rattle.abc2midi_live.proofs.Feeding.{turn_failed, some_read, turn_fed, turn_ended, turn_unserved, future_of_bytes-nothing, nothing_read}
use Rattle.abc2midi_live.proofs.Feeding.{fault_exit}
use Rattle.abc2midi_live.proofs.listener.Listener.serve_read.Goals as goal

pub returns-in-Err-clause-answers : goal.returns-in-Err-clause-answers
returns-in-Err-clause-answers g c =
    let now = c.args.self.now in
    let state = g.M.Machine.state now.machine in
    let old = outlets (g.W.Sink.contents c.args.writer.now) (g.S.Store.seen c.args.store.now) in
    turn_failed (future_of_bytes state.future now.begun.items) state.directory (g.R.Source.remaining c.args.reader.now) (g.R.Source.remaining c.read.new.self) old c.in-Err.ensures.bytes
    (future_of_bytes-nothing state.future state.directory now.begun.items now.whole (g.met.M.Machine.waits now.machine))

pub returns-then-count-gt0-clause-answers : goal.returns-then-count-gt0-clause-answers
returns-then-count-gt0-clause-answers g c =
    let now = c.args.self.now in
    let state = g.M.Machine.state now.machine in
    let after = c.feed.new.self in
    let old = outlets (g.W.Sink.contents c.args.writer.now) (g.S.Store.seen c.args.store.now) in
    let new = outlets (g.W.Sink.contents c.feed.new.writer) (g.S.Store.seen c.feed.new.store) in
    turn_fed c.feed.result (future_of_bytes state.future now.begun.items)
    (future_of_bytes (g.M.Machine.state after.machine).future after.begun.items) state.directory (g.M.Machine.state after.machine).directory _
    (g.R.Source.remaining c.args.reader.now) (g.R.Source.remaining c.read.new.self) old new
    (some_read c.in-Ok.count c.read.new.buf c.if-count-gt0.true c.in-Ok.ensures.within.0) c.in-Ok.ensures.bytes.0 c.feed.ensures.answer

pub returns-in_err-finish-clause-answers : goal.returns-in_err-finish-clause-answers
returns-in_err-finish-clause-answers g c =
    let now = c.args.self.now in
    let state = g.M.Machine.state now.machine in
    let new = outlets (g.W.Sink.contents c.finish.new.writer) (g.S.Store.seen c.finish.new.store) in
    let failed = c.in_err-finish in
    fault_exit c.from_residual.result _ _ failed.field-0.0 c.from_residual.ensures
    (turn_unserved (future_of_bytes state.future now.begun.items) state.directory (g.R.Source.remaining c.args.reader.now) (g.R.Source.remaining c.read.new.self)
    (outlets (g.W.Sink.contents c.args.writer.now) (g.S.Store.seen c.args.store.now)) new failed.field-0.0
    (nothing_read c.in-Ok.count c.read.new.buf _ _ c.if-count-gt0.false (omega arith) c.in-Ok.ensures.bytes.0 c.in-Ok.ensures.bytes.1)
    (future_of_bytes-nothing state.future state.directory now.begun.items now.whole (g.met.M.Machine.waits now.machine)) failed.ensures.answer)

pub returns-clause-answers : goal.returns-clause-answers
returns-clause-answers g c =
    let now = c.args.self.now in
    let state = g.M.Machine.state now.machine in
    turn_ended (future_of_bytes state.future now.begun.items) state.directory (g.R.Source.remaining c.args.reader.now) (g.R.Source.remaining c.read.new.self)
    (outlets (g.W.Sink.contents c.args.writer.now) (g.S.Store.seen c.args.store.now)) (outlets (g.W.Sink.contents c.finish.new.writer) (g.S.Store.seen c.finish.new.store))
    (nothing_read c.in-Ok.count c.read.new.buf _ _ c.if-count-gt0.false (omega arith) c.in-Ok.ensures.bytes.0 c.in-Ok.ensures.bytes.1) c.in_ok-finish.ensures.answer
