use Rattle.std.proofs.Common.{◌≡◌, length, [], refl, sym, ◌∙◌, subst, arith}
use Rattle.std.proofs.lemmas.Result.{IfOk-weaker, on_err_weaker}
use Rattle.std.proofs.lemmas.List.{length-map}
use Rattle.abc_lines.specs.Text.{text_of}
use Rattle.abc_publish.specs.Publisher.{maps_of}
use Rattle.abc2midi_live_protocol.specs.Command.{line_count}
use Rattle.abc2midi_live.specs.Dialogue.{Says, with_first_lines, dialogue_change}
use Rattle.abc2midi_live.specs.PendingCommand.{begun_command}
use Rattle.abc2midi_live.specs.RunOutput.{dialogue_view}
use Rattle.abc2midi_live.proofs.Requests.{says_whole, stops_whole}
use Rattle.abc2midi_live.proofs.Storing.{follows_none}
use Rattle.abc2midi_live.proofs.dialogue.Dialogue.proceed.Goals as goal

pub invariant_of-self : goal.invariant_of-self
invariant_of-self g c = record { idle = c.args.self.now.idle }

pub returns-then-len-line_count-clause-reply : goal.returns-then-len-line_count-clause-reply
returns-then-len-line_count-clause-reply g c = ([], (λ extent lines later. refl), follows_none _ (maps_of c.args.self.now.publisher).directory)

pub returns-clause-reply : goal.returns-clause-reply
returns-clause-reply g c =
    let lines = text_of c.args.lines in
    let old = dialogue_view c.args.self.now.session.text (maps_of c.args.self.now.publisher).directory in
    let new = dialogue_view c.respond.new.self.session.text (maps_of c.respond.new.self.publisher).directory in
    let whole : length lines ≡ line_count c.args.command = length-map c.args.lines.items (λ line. line.items) ∙ (omega (arith, c.args.lines.ok.0)) in
    IfOk-weaker c.respond.result _ _
    (λ reply h. (
      h.0,
      subst (λ o. Says (dialogue_change old (with_first_lines c.args.command lines) new (begun_command o)) h.0 reply)
          (sym (c.respond.ensures.pending ∙ c.requires.idle)) (says_whole old new c.args.command lines h.0 reply whole h.1),
      h.2,
    ))
    c.respond.ensures.reply

pub returns-clause-stop : goal.returns-clause-stop
returns-clause-stop g c =
    let lines = text_of c.args.lines in
    let h = dialogue_view c.args.self.now.session.text (maps_of c.args.self.now.publisher).directory in
    let whole : length lines ≡ line_count c.args.command = length-map c.args.lines.items (λ line. line.items) ∙ (omega (arith, c.args.lines.ok.0)) in
    on_err_weaker c.respond.result (λ stops. stops_whole h c.args.command lines _ _ whole stops) c.respond.ensures.stop
