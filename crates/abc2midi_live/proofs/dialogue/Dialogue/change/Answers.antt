use Rattle.std.proofs.lemmas.Result.{IfOk-weaker}
use Rattle.abc2midi_live.specs.Book.{files_of}
use Rattle.abc2midi_live.proofs.Requests.{answer_accepted, refusal_answer}
use Rattle.abc2midi_live.proofs.dialogue.Dialogue.change.Goals as goal

pub returns-in-Ok-clause-answer : goal.returns-in-Ok-clause-answer
unfolding files_of
returns-in-Ok-clause-answer c =
    IfOk-weaker c.report_line.result _ _
    (λ text h. answer_accepted c.args.self.now.session.text c.apply.new.self.text _ text.items _ _ c.in-Ok.ensures.text
    c.in-Ok.ensures.report.writes c.in-Ok.ensures.report.removes h) c.report_line.ensures

pub returns-in-Err-clause-answer : goal.returns-in-Err-clause-answer
returns-in-Err-clause-answer c =
    refusal_answer c.refusal.result c.args.self.now.session.text _ c.in-Err.error c.in-Err.ensures.refused c.refusal.ensures.text c.refusal.ensures.refused
