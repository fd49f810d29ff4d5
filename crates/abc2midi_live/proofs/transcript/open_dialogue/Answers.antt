use Rattle.std.proofs.Common.{[], sym, ap, ◌∙◌, subst}
use Rattle.std.specs.Prelude.{option_copied}
use Rattle.std.specs.Io.KnownBytes.{Appends}
use Rattle.std.proofs.KnownBytes.{Appends-nil}
use Rattle.abc_publish.specs.Publisher.{maps_of}
use Rattle.abc2midi_live.specs.Dialogue.{Opens}
use Rattle.abc2midi_live.specs.PendingCommand.{begun_command}
use Rattle.abc2midi_live.specs.RunOutput.{dialogue_view}
use Rattle.abc2midi_live.specs.declared.run_fault.RunFault.TheVariants.{Memory}
use Rattle.abc2midi_live.proofs.Counts.{raised_none}
use Rattle.abc2midi_live.proofs.Feeding.{fault_is}
use Rattle.abc2midi_live.proofs.Runs.{opens_none, opens_some}
use Rattle.abc2midi_live.proofs.transcript.open_dialogue.Goals as goal

pub returns-in-None-clause-answer : goal.returns-in-None-clause-answer
returns-in-None-clause-answer g c =
    let d = c.in_ok-dialogue.dialogue in
    let h = dialogue_view d.session.text (maps_of d.publisher).directory in
    let begun = begun_command d.pending in
    let opens = opens_none d.session.text h.directory begun c.in_ok-dialogue.ensures.session c.in_ok-dialogue.ensures.directory (ap begun_command c.in_ok-dialogue.ensures.pending) in
    ([], Appends-nil _, subst (λ book. Opens book [] h begun) (sym (ap option_copied c.in-None.is)) opens)

pub returns-in_err-text-in-Some-clause-failures : goal.returns-in_err-text-in-Some-clause-failures
returns-in_err-text-in-Some-clause-failures g c =
    let failed = c.from_residual-in_err-text-in-Some in
    rw (fault_is failed.result Memory failed.ensures) (sym (raised_none _))

pub returns-in-Ok-clause-answer : goal.returns-in-Ok-clause-answer
returns-in-Ok-clause-answer g c =
    let d = c.in_ok-dialogue.dialogue in
    let after = c.take_book.new.self in
    let h = dialogue_view after.session.text (maps_of after.publisher).directory in
    let text = c.in_ok-text-in-Some.text.items in
    let taken = c.in_ok-text-in-Some.ensures in
    let empty = ap (λ p. (maps_of p).directory) taken.publisher ∙ c.in_ok-dialogue.ensures.directory in
    let opens = opens_some c.in-Some.bytes.now text d.session.text after.session.text h.directory
    (begun_command after.pending) c.in_ok-dialogue.ensures.session taken.answer taken.session empty (ap begun_command (taken.pending ∙ c.in_ok-dialogue.ensures.pending)) in (
      text,
      subst (Appends (g.W.Sink.contents c.args.writer.now)
          (g.W.Sink.contents c.write_all.new.self)) c.deref.ensures.value c.in-Ok.ensures.bytes,
      subst (λ book. Opens book text h (begun_command after.pending)) (sym (ap option_copied c.in-Some.is)) opens,
    )
