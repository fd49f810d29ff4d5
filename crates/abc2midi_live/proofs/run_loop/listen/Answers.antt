use Rattle.std.proofs.Common.{◌≡◌, ◌≤◌, ◌+◌, length, sym, ap, ◌∙◌, subst, refl, Bool, Err, arith}
use Rattle.std.specs.Prelude.{IfSome}
use Rattle.abc2midi_live.specs.declared.run_loop.TheConstants.{MOST_READS}
use Rattle.abc2midi_live.specs.Machine.{future_of_bytes}
use Rattle.abc2midi_live.specs.Outcome.{outlets, Exhausted, read_faults}
use Rattle.abc_fold.specs.Work.{raised}
use Rattle.abc2midi_live.proofs.Counts.{raised_none}
use Rattle.abc2midi_live.proofs.Feeding.{heard_none, heard_turn, heard_end, heard_left, heard_so_far, heard_enough, future_of_bytes-nothing}
use Rattle.abc2midi_live.proofs.Feeding.{fault_exit, fault_is, reads_exit, calls_more}
use Rattle.abc2midi_live.proofs.run_loop.listen.Goals as goal

pub reads-init : goal.reads-init
reads-init g c = record {
  heard = heard_none (ap (λ m. future_of_bytes (g.M.Machine.state m).future c.new-listener.result.begun.items) c.new-listener.ensures.machine
      ∙ ap (future_of_bytes (g.M.Machine.state c.args.machine).future) c.new-listener.ensures.begun)
      (ap (λ m. (g.M.Machine.state m).directory) c.new-listener.ensures.machine);
  calls = sym (raised_none _);
  reads = refl;
  writes = refl;
}

pub returns-in_err-serve_read-clause-answers : goal.returns-in_err-serve_read-clause-answers
unfolding future_of_bytes
returns-in_err-serve_read-clause-answers g c =
    let new = outlets (g.W.Sink.contents c.serve_read.new.writer) (g.S.Store.seen c.serve_read.new.store) in
    let failed = c.in_err-serve_read in
    fault_exit c.from_residual.result _ _ failed.field-0.0 c.from_residual.ensures
    (heard_left (g.R.Source.remaining c.serve_read.new.reader) new failed.field-0.0 c.reads.invariant.heard failed.ensures.answers)

pub returns-in_err-serve_read-clause-calls : goal.returns-in_err-serve_read-clause-calls
returns-in_err-serve_read-clause-calls g c = (c.reads.counter + 1, omega arith, calls_more _ _ _ c.reads.counter c.reads.invariant.calls c.serve_read.ensures.calls)

pub returns-in_err-serve_read-clause-reads : goal.returns-in_err-serve_read-clause-reads
returns-in_err-serve_read-clause-reads g c =
    rw (fault_is c.from_residual.result c.in_err-serve_read.field-0.0 c.from_residual.ensures)
    (reads_exit c.in_err-serve_read.field-0.0 (g.R.Source.remaining c.args.reader.now) _ _ _ _
    (c.in_err-serve_read.ensures.reads ∙ ap (λ f. raised f (read_faults {T = Bool} (Err c.in_err-serve_read.field-0.0))) c.reads.invariant.reads))

pub returns-then-not-branch-clause-answers : goal.returns-then-not-branch-clause-answers
unfolding future_of_bytes
returns-then-not-branch-clause-answers g c =
    let after = c.serve_read.new.self in
    let state = g.M.Machine.state after.machine in
    let new = outlets (g.W.Sink.contents c.serve_read.new.writer) (g.S.Store.seen c.serve_read.new.store) in
    heard_end (future_of_bytes state.future after.begun.items) state.directory (g.R.Source.remaining c.serve_read.new.reader) new c.reads.invariant.heard
    c.if-not-branch.true c.in_ok-serve_read.ensures.answers

pub returns-then-not-branch-clause-calls : goal.returns-then-not-branch-clause-calls
returns-then-not-branch-clause-calls g c = (c.reads.counter + 1, omega arith, calls_more _ _ _ c.reads.counter c.reads.invariant.calls c.serve_read.ensures.calls)

pub reads-preserved : goal.reads-preserved
reads-preserved g c =
    let answered = c.in_ok-serve_read.ensures in
    record {
      heard = heard_turn c.reads.invariant.heard c.if-not-branch.false answered.answers;
      calls = calls_more _ _ _ c.reads.counter c.reads.invariant.calls c.serve_read.ensures.calls;
      reads = answered.reads ∙ raised_none _ ∙ c.reads.invariant.reads;
      writes = answered.writes ∙ raised_none _ ∙ c.reads.invariant.writes;
    }

pub returns-clause-answers : goal.returns-clause-answers
unfolding future_of_bytes
returns-clause-answers g c =
    let now = c.reads.listener in
    let state = g.M.Machine.state now.machine in
    heard_so_far c.reads.invariant.heard (future_of_bytes-nothing state.future state.directory now.begun.items now.whole (g.met.M.Machine.waits now.machine))

pub returns-clause-calls : goal.returns-clause-calls
returns-clause-calls g c = (c.reads.counter, omega arith, c.reads.invariant.calls)

pub returns-clause-reads : goal.returns-clause-reads
returns-clause-reads g c =
    let all : c.reads.counter ≡ MOST_READS = omega arith in
    Exhausted c.reads.invariant.reads (c.reads.invariant.calls ∙ ap (raised (g.R.Source.calls c.args.reader.now)) all)
    (subst (λ made. IfSome (g.R.Source.remaining c.args.reader.now) (λ bytes. made ≤ length bytes)) all (heard_enough c.reads.invariant.heard))
