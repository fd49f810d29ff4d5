use Rattle.std.proofs.Common.{sym, ap, ◌∙◌, arith}
use Rattle.std.specs.Prelude.{option_copied}
use Rattle.abc_fold.specs.Work.{raised}
use Rattle.abc2midi_live.specs.DialogueState.{view_of}
use Rattle.abc2midi_live.specs.PendingCommand.{begun_command}
use Rattle.abc2midi_live.specs.Outcome.{outlets, write_faults}
use Rattle.abc2midi_live.proofs.Counts.{raised_none}
use Rattle.abc2midi_live.proofs.Feeding.{fault_exit, fault_is}
use Rattle.abc2midi_live.proofs.Runs.{run_after_book, not_opened, not_read}
use Rattle.abc2midi_live.proofs.transcript.dialogue_after_run.Goals as goal

pub returns-in_err-dialogue : goal.returns-in_err-dialogue
returns-in_err-dialogue g c =
    let failed = c.in_err-dialogue in
    let fault = failed.field-0.0 in
    let old = outlets (g.W.Sink.contents c.args.writer.now) (g.S.Store.seen c.args.store.now) in
    record {
      value = record {
        transcript = fault_exit c.from_residual.result _ _ fault c.from_residual.ensures
            (not_opened fault (option_copied c.args.book) (g.R.Source.remaining c.args.reader.now) old (g.W.Sink.contents c.open_dialogue.new.writer) failed.ensures.answer);
        calls = (0, omega arith, sym (raised_none _));
        reads = rw (fault_is c.from_residual.result fault c.from_residual.ensures) (not_read fault _ _ _ _ failed.ensures.answer);
        writes = rw (fault_is c.from_residual.result fault c.from_residual.ensures) failed.ensures.failures;
      };
    }

pub returns : goal.returns
returns g c =
    let d = c.in_ok-dialogue.dialogue in
    let open_dialogue = c.in_ok-dialogue.ensures.answer in
    let old = outlets (g.W.Sink.contents c.args.writer.now) (g.S.Store.seen c.args.store.now) in
    let new = outlets (g.W.Sink.contents c.listen.new.writer) (g.S.Store.seen c.listen.new.store) in
    record {
      value = record {
        transcript = run_after_book (option_copied c.args.book) open_dialogue.0 (view_of d) (begun_command d.pending) open_dialogue.2
            c.in_ok-dialogue.ensures.directory c.listen.result (g.R.Source.remaining c.args.reader.now) (g.R.Source.remaining c.listen.new.reader) old new
            (g.W.Sink.contents c.open_dialogue.new.writer) open_dialogue.1 c.listen.ensures.answers;
        calls = c.listen.ensures.calls;
        reads = c.listen.ensures.reads;
        writes = c.listen.ensures.writes ∙ ap (λ f. raised f (write_faults c.listen.result)) (c.in_ok-dialogue.ensures.failures ∙ raised_none _);
      };
    }
