use Rattle.std.proofs.Common.{[], ◌∙◌, ap}
use Rattle.abc_publish.specs.Publisher.{maps_of}
use Rattle.abc2midi_live_protocol.specs.Answer.{truncated_line}
use Rattle.abc2midi_live.specs.Dialogue.{dialogue_future}
use Rattle.abc2midi_live.specs.PendingCommand.{begun_command}
use Rattle.abc2midi_live.specs.Waiting.{request_of-pending}
use Rattle.abc2midi_live.specs.RunOutput.{Whole, dialogue_view}
use Rattle.abc2midi_live.proofs.Requests.{last_cut, last_none}
use Rattle.abc2midi_live.proofs.dialogue.DialogueMachine.on_end_of_input.Goals as goal

pub returns-in-Some : goal.returns-in-Some
unfolding truncated_line
returns-in-Some c =
    let h = dialogue_view c.args.self.now.session.text (maps_of c.args.self.now.publisher).directory in
    ap (λ g. dialogue_future h (begun_command g) Whole [] []) c.in-Some.is ∙ last_cut h _ (request_of-pending c.in-Some.field-0)

pub returns-in-None : goal.returns-in-None
returns-in-None c =
    let h = dialogue_view c.args.self.now.session.text (maps_of c.args.self.now.publisher).directory in
    ap (λ g. dialogue_future h (begun_command g) Whole [] []) c.in-None.is ∙ last_none h
