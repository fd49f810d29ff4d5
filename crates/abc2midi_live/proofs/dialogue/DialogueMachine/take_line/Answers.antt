use Rattle.std.specs.Prelude.{OnOk}
use Rattle.std.proofs.Common.{◌≡◌, false, map, [], ◌∷◌, ◌++◌, Some, None, ap, ◌∙◌, subst}
use Rattle.std.proofs.lemmas.Result.{IfOk-weaker, on_err_weaker}
use Rattle.abc_lines.specs.Text.{text_of}
use Rattle.abc_publish.specs.Publisher.{maps_of}
use Rattle.abc2midi_live_protocol.specs.Command.{command_of}
use Rattle.abc2midi_live.specs.Machine.{CarriesOut, Replies, future_change}
use Rattle.abc2midi_live.specs.RunOutput.{Stopped, dialogue_view}
use Rattle.abc2midi_live.specs.Transcript.{request_of}
use Rattle.abc2midi_live.specs.Dialogue.{dialogue_future, is_taken, request_with, Says}
use Rattle.abc2midi_live.specs.PendingCommand.{begun_command}
use Rattle.abc2midi_live.specs.Waiting.{dialogue_unasked, pending_few}
use Rattle.abc2midi_live.proofs.Requests.{replies, awaited_line, awaited_command, text_of-push, few_lines, carried_as, carried_none}
use Rattle.abc2midi_live.proofs.Storing.{on_err}
use Rattle.abc2midi_live.proofs.dialogue.DialogueMachine.take_line.Goals as goal

pub returns-in_ok-push-in-Some-clause-reply : goal.returns-in_ok-push-in-Some-clause-reply
returns-in_ok-push-in-Some-clause-reply x c =
    let old = dialogue_view c.args.self.now.session.text (maps_of c.args.self.now.publisher).directory in
    let directory = (maps_of c.proceed.new.self.publisher).directory in
    let g = c.in-Some.field-0 in
    let lines = text_of g.lines in
    let after = dialogue_future (dialogue_view c.proceed.new.self.session.text directory) (begun_command c.proceed.new.self.pending) in
    let more = text_of-push g.lines c.push.new.self c.args.line c.in_ok-push-in-Some.ensures.items in
    IfOk-weaker c.proceed.result _ _
    (λ reply h. (
      h.0,
      subst (λ b. Replies (future_change (dialogue_future old (begun_command b)) after directory) c.args.line.items h.0 reply) c.in-Some.ensures.value
          (replies (dialogue_future old (Some (record { command = g.command; lines = lines })))
          (dialogue_future old (Some (record { command = g.command; lines = lines ++ c.args.line.items ∷ [] }))) after directory c.args.line.items h.0 reply
          (λ extent rest stored. awaited_line old g.command lines c.args.line.items extent rest stored (few_lines g.command lines (pending_few g)))
          (subst (λ ls. Says (future_change (dialogue_future old (Some (record { command = g.command; lines = ls }))) after directory) h.0 reply) more h.1)),
      h.2,
    ))
    c.proceed.ensures.reply

pub returns-in-None-clause-reply : goal.returns-in-None-clause-reply
returns-in-None-clause-reply x c =
    let old = dialogue_view c.args.self.now.session.text (maps_of c.args.self.now.publisher).directory in
    let directory = (maps_of c.proceed-in-None.new.self.publisher).directory in
    let line = c.args.line.items in
    let after = dialogue_future (dialogue_view c.proceed-in-None.new.self.session.text directory) (begun_command c.proceed-in-None.new.self.pending) in
    IfOk-weaker c.proceed-in-None.result _ _
    (λ reply h. (
      h.0,
      subst (λ b. Replies (future_change (dialogue_future old (begun_command b)) after directory) line h.0 reply) c.in-None.ensures.value
          (replies (dialogue_future old None) (dialogue_future old (Some (record { command = c.of.result; lines = [] }))) after directory line h.0 reply
          (λ extent rest stored. awaited_command old line c.of.result extent rest stored (c.of.ensures ∙ ap command_of c.deref.ensures.value))
          (subst (λ ls. Says (future_change (dialogue_future old
          (Some (record { command = c.of.result; lines = ls }))) after directory) h.0 reply) (ap (map (λ l. l.items)) c.new-lines.ensures.items) h.1)),
      h.2,
    ))
    c.proceed-in-None.ensures.reply

pub returns-in_ok-push-in-Some-clause-uncounted : goal.returns-in_ok-push-in-Some-clause-uncounted
returns-in_ok-push-in-Some-clause-uncounted x c =
    let text = c.args.self.now.session.text in
    let g = c.in-Some.field-0 in
    let line = c.args.line.items in
    let more = text_of-push g.lines c.push.new.self c.args.line c.in_ok-push-in-Some.ensures.items in
    subst (λ b. OnOk c.proceed.result (is_taken text (request_with (begun_command b) line) ≡ false → c.proceed.new.work ≡ c.args.work.now)) c.in-Some.ensures.value
    (subst (λ ls. OnOk c.proceed.result (is_taken text (request_of g.command ls) ≡ false → c.proceed.new.work ≡ c.args.work.now)) more c.proceed.ensures.uncounted)

pub returns-in-None-clause-uncounted : goal.returns-in-None-clause-uncounted
returns-in-None-clause-uncounted x c =
    let text = c.args.self.now.session.text in
    let line = c.args.line.items in
    let reply = c.proceed-in-None.result in
    let same = c.proceed-in-None.new.work ≡ c.args.work.now in
    subst (λ b. OnOk reply (is_taken text (request_with (begun_command b) line) ≡ false → same)) c.in-None.ensures.value
    (subst (λ command. OnOk reply (is_taken text (request_of command []) ≡ false → same)) (c.of.ensures ∙ ap command_of c.deref.ensures.value)
    (subst (λ ls. OnOk reply (is_taken text (request_of c.of.result ls) ≡ false → same)) (ap (map (λ l. l.items)) c.new-lines.ensures.items) c.proceed-in-None.ensures.uncounted))

pub returns-in_err-push-in-Some-clause-stop : goal.returns-in_err-push-in-Some-clause-stop
returns-in_err-push-in-Some-clause-stop x c =
    let now = c.args.self.now in
    let h = dialogue_view now.session.text (maps_of now.publisher).directory in
    on_err c.from_residual.result _ (carried_none h.directory _ _ (dialogue_unasked h (begun_command now.pending) (c.args.line.items ∷ [])))

pub returns-in_ok-push-in-Some-clause-stop : goal.returns-in_ok-push-in-Some-clause-stop
returns-in_ok-push-in-Some-clause-stop x c =
    let now = c.args.self.now in
    let h = dialogue_view now.session.text (maps_of now.publisher).directory in
    let g = c.in-Some.field-0 in
    let lines = text_of g.lines in
    let line = c.args.line.items in
    let old = x.S.Store.seen c.args.store.now in
    let new = x.S.Store.seen c.proceed.new.store in
    let more = text_of-push g.lines c.push.new.self c.args.line c.in_ok-push-in-Some.ensures.items in
    on_err_weaker c.proceed.result
    (λ stops.
    subst (λ b. CarriesOut h.directory (dialogue_future h (begun_command b) Stopped (line ∷ [])) old new) c.in-Some.ensures.value
    (carried_as h.directory _ _ old new (λ stored. awaited_line h g.command lines line Stopped [] stored (few_lines g.command lines (pending_few g)))
    (subst (λ ls. CarriesOut h.directory (dialogue_future h (Some (record { command = g.command; lines = ls })) Stopped []) old new) more stops)))
    c.proceed.ensures.stop

pub returns-in-None-clause-stop : goal.returns-in-None-clause-stop
returns-in-None-clause-stop x c =
    let now = c.args.self.now in
    let h = dialogue_view now.session.text (maps_of now.publisher).directory in
    let line = c.args.line.items in
    let old = x.S.Store.seen c.args.store.now in
    let new = x.S.Store.seen c.proceed-in-None.new.store in
    on_err_weaker c.proceed-in-None.result
    (λ stops.
    subst (λ b. CarriesOut h.directory (dialogue_future h (begun_command b) Stopped (line ∷ [])) old new) c.in-None.ensures.value
    (carried_as h.directory _ _ old new (λ stored. awaited_command h line c.of.result Stopped [] stored (c.of.ensures ∙ ap command_of c.deref.ensures.value))
    (subst (λ ls. CarriesOut h.directory (dialogue_future h (Some (record { command = c.of.result; lines = ls })) Stopped []) old new) (ap (map (λ l. l.items)) c.new-lines.ensures.items) stops)))
    c.proceed-in-None.ensures.stop
