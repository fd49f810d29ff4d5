use Rattle.std.proofs.Common.{◌≡◌, ◌≤◌, Some, sym, ap, subst, ◌∙◌}
use Rattle.std.specs.Prelude.{IfErr, IfOk}
use Rattle.std.proofs.lemmas.Result.{IfOk-weaker}
use Rattle.abc_lines.specs.Text.{Text}
use Rattle.abc_live_session.specs.Owner.{owner_of}
use Rattle.abc_tune.specs.Abc.{rules_of_abc, steps_of_abc}
use Rattle.abc_tune_compiler.specs.Book.{book_of}
use Rattle.abc_tune_compiler.specs.Files.{file_at}
use Rattle.abc_play.specs.File.{PlaysFile}
use Rattle.abc_play.specs.Play.{play_of, play_size, tunes_of}
use Rattle.abc_play.specs.Refusal.{MOST_PLACES, RefusesPlay}
use Rattle.abc_play.proofs.Numbers.{no_owner}
use Rattle.abc_play.proofs.PlayedFile.{played_file}
use Rattle.abc_play.proofs.play.play_of_number.Goals as goal

pub play_of_owner-requires : goal.play_of_owner-requires
play_of_owner-requires c = ap (λ (text : Text). owner_of (tunes_of text) c.args.number) c.kept_text.ensures.text ∙ sym c.in-Some.ensures.value

pub returns-in-None-clause-refused : goal.returns-in-None-clause-refused
returns-in-None-clause-refused c = no_owner c.args.session.now.text c.args.number (sym c.in-None.ensures.value)

pub returns-in-Some-clause-value : goal.returns-in-Some-clause-value
returns-in-Some-clause-value c =
    subst (λ (text : Text). IfOk c.play_of_owner.result (λ play. play_of text c.args.number ≡ Some play.tracks)) c.kept_text.ensures.text c.play_of_owner.ensures.value

pub returns-in-Some-clause-few : goal.returns-in-Some-clause-few
returns-in-Some-clause-few c =
    subst (λ (text : Text). IfOk c.play_of_owner.result (λ _. play_size text c.args.number ≤ MOST_PLACES)) c.kept_text.ensures.text c.play_of_owner.ensures.few

pub returns-in-Some-clause-refused : goal.returns-in-Some-clause-refused
returns-in-Some-clause-refused c =
    subst (λ (text : Text). IfErr c.play_of_owner.result (RefusesPlay text c.args.number)) c.kept_text.ensures.text c.play_of_owner.ensures.refused

pub returns-in-Some-clause-file : goal.returns-in-Some-clause-file
returns-in-Some-clause-file c =
    let text = c.args.session.now.text in
    IfOk-weaker c.play_of_owner.result (λ play. play_of text c.args.number ≡ Some play.tracks)
    (λ play. PlaysFile (file_at (book_of steps_of_abc rules_of_abc text).files c.args.number) play.tracks)
    (λ play is. played_file text c.args.number play.tracks is)
    (subst (λ (own : Text). IfOk c.play_of_owner.result (λ play. play_of own c.args.number ≡ Some play.tracks)) c.kept_text.ensures.text c.play_of_owner.ensures.value)
