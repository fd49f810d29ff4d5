use Rattle.std.proofs.Common.{[]}
use Rattle.abc_lines.specs.Text.{text_of}
use Rattle.abc_publish.specs.Publisher.{maps_of}
use Rattle.abc2midi_live.specs.Book.{faults_of, files_of, titles_of}
use Rattle.abc2midi_live_protocol.specs.Answer.{unknown_line}
use Rattle.abc2midi_live.specs.DialogueState.{view_of}
use Rattle.abc2midi_live.specs.Transcript.{request_of}
use Rattle.abc2midi_live.proofs.Requests.{untaken, replies_change, insert_request, replace_request, delete_request}
use Rattle.abc2midi_live.proofs.Requests.{responds_faults, responds_titles, responds_hex, responds_build, responds_unknown}
use Rattle.abc2midi_live.proofs.Requests.{responds_quit, stops_build, stops_unasked}
use Rattle.abc2midi_live.proofs.Storing.{follows_none, on_err}
use Rattle.abc2midi_live.proofs.dialogue.Dialogue.respond.Goals as goal

pub returns-in_ok-text-in-Insert-clause-reply : goal.returns-in_ok-text-in-Insert-clause-reply
returns-in_ok-text-in-Insert-clause-reply g c =
    let done = c.in_ok-text-in-Insert in
    replies_change c.args.self.now.session.text c.change.new.self.session.text c.args.self.now.publisher c.change.new.self.publisher _ _ done.text _
    (insert_request c.args.command c.in-Insert.at c.in-Insert.count c.args.lines c.requires c.in-Insert.is) done.ensures.answer done.ensures.text c.change.ensures.publisher

pub returns-in_ok-text-in-Replace-clause-reply : goal.returns-in_ok-text-in-Replace-clause-reply
returns-in_ok-text-in-Replace-clause-reply g c =
    let done = c.in_ok-text-in-Replace in
    let after = c.change-in-Replace.new.self in
    replies_change c.args.self.now.session.text after.session.text c.args.self.now.publisher after.publisher _ _ done.text _
    (replace_request c.args.command c.in-Replace.from c.in-Replace.to c.in-Replace.count c.args.lines c.requires c.in-Replace.is)
    done.ensures.answer done.ensures.text c.change-in-Replace.ensures.publisher

pub returns-in_ok-text-in-Delete-clause-reply : goal.returns-in_ok-text-in-Delete-clause-reply
returns-in_ok-text-in-Delete-clause-reply g c =
    let done = c.in_ok-text-in-Delete in
    let after = c.change-in-Delete.new.self in
    replies_change c.args.self.now.session.text after.session.text c.args.self.now.publisher after.publisher _ _ done.text _
    (delete_request c.args.command c.in-Delete.from c.in-Delete.to (text_of c.args.lines) c.in-Delete.is) done.ensures.answer done.ensures.text c.change-in-Delete.ensures.publisher

pub returns-in_ok-text-in-Faults-clause-reply : goal.returns-in_ok-text-in-Faults-clause-reply
unfolding faults_of
returns-in_ok-text-in-Faults-clause-reply g c =
    let h = view_of c.args.self.now in
    let done = c.in_ok-text-in-Faults in
    ([], responds_faults h c.args.command (text_of c.args.lines) _ done.text.items c.in-Faults.is c.faults.ensures.value done.ensures, follows_none _ h.directory)

pub returns-in_ok-text-in-Titles-clause-reply : goal.returns-in_ok-text-in-Titles-clause-reply
unfolding titles_of
returns-in_ok-text-in-Titles-clause-reply g c =
    let h = view_of c.args.self.now in
    let done = c.in_ok-text-in-Titles in
    ([], responds_titles h c.args.command (text_of c.args.lines) _ done.text.items c.in-Titles.is c.titles.ensures done.ensures, follows_none _ h.directory)

pub returns-in_ok-text-in-Hex-clause-reply : goal.returns-in_ok-text-in-Hex-clause-reply
unfolding files_of
returns-in_ok-text-in-Hex-clause-reply g c =
    let h = view_of c.args.self.now in
    let done = c.in_ok-text-in-Hex in (
      [],
      responds_hex h c.args.command c.in-Hex.number (text_of c.args.lines) _ done.text.items c.in-Hex.is c.output.ensures.file done.ensures,
      follows_none _ h.directory,
    )

pub returns-in_ok-text-in-Build-clause-reply : goal.returns-in_ok-text-in-Build-clause-reply
returns-in_ok-text-in-Build-clause-reply g c =
    let built = c.in_ok-text-in-Build.ensures.answer in (
      built.0,
      responds_build c.args.self.now.session.text (maps_of c.args.self.now.publisher).directory (maps_of c.build.new.publisher).directory c.args.command
          (text_of c.args.lines) built.0 c.in_ok-text-in-Build.text.items c.in-Build.is built.1,
      built.2,
    )

pub returns-in-Quit-clause-reply : goal.returns-in-Quit-clause-reply
returns-in-Quit-clause-reply g c =
    let h = view_of c.args.self.now in ([], responds_quit h c.args.command (text_of c.args.lines) c.in-Quit.is, follows_none _ h.directory)

pub returns-in_ok-text-in-Unknown-clause-reply : goal.returns-in_ok-text-in-Unknown-clause-reply
unfolding unknown_line
returns-in_ok-text-in-Unknown-clause-reply g c =
    let h = view_of c.args.self.now in
    let done = c.in_ok-text-in-Unknown in
    ([], responds_unknown h c.args.command (text_of c.args.lines) done.text.items c.in-Unknown.is done.ensures.items, follows_none _ h.directory)

pub returns-in_ok-text-in-Insert-clause-uncounted : goal.returns-in_ok-text-in-Insert-clause-uncounted
returns-in_ok-text-in-Insert-clause-uncounted g c = λ none.
    c.in_ok-text-in-Insert.ensures.uncounted
    (untaken c.args.self.now.session.text _ _ (insert_request c.args.command c.in-Insert.at c.in-Insert.count c.args.lines c.requires c.in-Insert.is) none)

pub returns-in_ok-text-in-Replace-clause-uncounted : goal.returns-in_ok-text-in-Replace-clause-uncounted
returns-in_ok-text-in-Replace-clause-uncounted g c = λ none.
    let is = replace_request c.args.command c.in-Replace.from c.in-Replace.to c.in-Replace.count c.args.lines c.requires c.in-Replace.is in
    c.in_ok-text-in-Replace.ensures.uncounted (untaken c.args.self.now.session.text _ _ is none)

pub returns-in_ok-text-in-Delete-clause-uncounted : goal.returns-in_ok-text-in-Delete-clause-uncounted
returns-in_ok-text-in-Delete-clause-uncounted g c = λ none.
    c.in_ok-text-in-Delete.ensures.uncounted
    (untaken c.args.self.now.session.text _ _ (delete_request c.args.command c.in-Delete.from c.in-Delete.to (text_of c.args.lines) c.in-Delete.is) none)

pub returns-in_err-text-in-Build-clause-stop : goal.returns-in_err-text-in-Build-clause-stop
returns-in_err-text-in-Build-clause-stop g c =
    on_err c.from_residual-in_err-text-in-Build.result _
    (stops_build (view_of c.args.self.now) c.args.command (text_of c.args.lines) _ _ c.in-Build.is c.in_err-text-in-Build.ensures.stop)

pub returns-in_err-text-in-Insert-clause-stop : goal.returns-in_err-text-in-Insert-clause-stop
returns-in_err-text-in-Insert-clause-stop g c =
    on_err c.from_residual.result _ (stops_unasked (view_of c.args.self.now) (request_of c.args.command (text_of c.args.lines)) _)

pub returns-in_err-text-in-Replace-clause-stop : goal.returns-in_err-text-in-Replace-clause-stop
returns-in_err-text-in-Replace-clause-stop g c =
    on_err c.from_residual-in_err-text-in-Replace.result _ (stops_unasked (view_of c.args.self.now) (request_of c.args.command (text_of c.args.lines)) _)

pub returns-in_err-text-in-Delete-clause-stop : goal.returns-in_err-text-in-Delete-clause-stop
returns-in_err-text-in-Delete-clause-stop g c =
    on_err c.from_residual-in_err-text-in-Delete.result _ (stops_unasked (view_of c.args.self.now) (request_of c.args.command (text_of c.args.lines)) _)

pub returns-in_err-text-in-Faults-clause-stop : goal.returns-in_err-text-in-Faults-clause-stop
returns-in_err-text-in-Faults-clause-stop g c =
    on_err c.from_residual-in_err-text-in-Faults.result _ (stops_unasked (view_of c.args.self.now) (request_of c.args.command (text_of c.args.lines)) _)

pub returns-in_err-text-in-Titles-clause-stop : goal.returns-in_err-text-in-Titles-clause-stop
returns-in_err-text-in-Titles-clause-stop g c =
    on_err c.from_residual-in_err-text-in-Titles.result _ (stops_unasked (view_of c.args.self.now) (request_of c.args.command (text_of c.args.lines)) _)

pub returns-in_err-text-in-Hex-clause-stop : goal.returns-in_err-text-in-Hex-clause-stop
returns-in_err-text-in-Hex-clause-stop g c =
    on_err c.from_residual-in_err-text-in-Hex.result _ (stops_unasked (view_of c.args.self.now) (request_of c.args.command (text_of c.args.lines)) _)

pub returns-in_err-text-in-Unknown-clause-stop : goal.returns-in_err-text-in-Unknown-clause-stop
returns-in_err-text-in-Unknown-clause-stop g c =
    on_err c.from_residual-in_err-text-in-Unknown.result _ (stops_unasked (view_of c.args.self.now) (request_of c.args.command (text_of c.args.lines)) _)
