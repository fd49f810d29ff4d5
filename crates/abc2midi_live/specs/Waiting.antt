-- Why nothing is written before a line comes, and nothing is asked for before a store answers. These lemmas are here and
-- not among the proofs, since the laws `waits` and `unasked` of the machine name them, and a law names no proof.
use Rattle.std.specs.Prelude.{◌≡◌, ℕ, ◌-◌, Bool, true, false, nat_le, cond, List, [], ◌∷◌, ◌++◌, length, take, Option, Some, None}
use Rattle.std.specs.Prelude.{option_and_then, refl}
use Rattle.std.specs.Result.{result_unwrap_or}
use Rattle.std.proofs.Common.{sym, ap, ◌∙◌, append-nil}
use Rattle.std.proofs.lemmas.List.{length-map}
use Rattle.std.proofs.lemmas.Bool.{false≢true}
use Rattle.std.proofs.Math.Dec.{leb-zero}
use Rattle.abc_lines.specs.Text.{Text, text_of}
use Rattle.abc_lines.specs.Edits.{edited, insertion, replacement}
use Rattle.abc_publish.specs.Publisher.{Directory}
use Rattle.abc_tune_compiler.specs.Files.{file_at}
use Rattle.abc2midi_live_protocol.specs.Answer.{end_line, fault_list, hex_line, title_list, unknown_line}
use Rattle.abc2midi_live.specs.Book.{faults_of, files_of, titles_of}
use Rattle.abc2midi_live.specs.Building.{pending_numbers, build_outcome}
use Rattle.abc2midi_live_protocol.specs.Command.{line_count}
use Rattle.abc2midi_live.specs.Machine.{AsksNothing}
use Rattle.abc2midi_live.specs.Storing.{StoreAnswer}
use Rattle.abc2midi_live.specs.RunOutput.{RequestOutcome, DialogueView, SoFar, Stopped, RunOutput, request_outcome}
use Rattle.abc2midi_live.specs.RunOutput.{with_text_before, dialogue_view, nothing_more, run_output}
use Rattle.abc2midi_live.specs.Transcript.{Request, Edits, ListsFaults, ListsTitles, Shows, Builds, Misspelled, CutOff, Ends}
use Rattle.abc2midi_live.specs.Transcript.{answers, outcome_of, edit_answer, goes_on, request_of, requests}
use Rattle.abc2midi_live.specs.Dialogue.{BegunCommand, dialogue_future}
use Rattle.abc2midi_live.specs.PendingCommand.{begun_command}
use Rattle.abc2midi_live.specs.declared.dialogue.PendingCommand.{PendingCommand}
use Rattle.abc2midi_live_protocol.specs.declared.command.Command.{Command}
use Rattle.abc2midi_live_protocol.specs.declared.command.Command.TheVariants.{Insert, Replace, Delete, Faults, Titles, Hex, Build, Quit}
use Rattle.abc2midi_live_protocol.specs.declared.command.Command.TheVariants.{Unknown}

-- A command without all its lines is cut off.
pub request_of-cut : (command : Command) (lines : Text) → nat_le (line_count command) (length lines) ≡ false
    → request_of command lines ≡ CutOff
unfolding request_of
request_of-cut (Insert at count) lines e = ap (λ b. cond b (Edits (insertion at (take count lines))) CutOff) e
request_of-cut (Replace from to count) lines e = ap (λ b. cond b (Edits (replacement from to (take count lines))) CutOff) e
request_of-cut (Delete from to) lines e = absurd (false≢true (sym e ∙ leb-zero (length lines)))
request_of-cut Faults lines e = absurd (false≢true (sym e ∙ leb-zero (length lines)))
request_of-cut Titles lines e = absurd (false≢true (sym e ∙ leb-zero (length lines)))
request_of-cut (Hex number) lines e = absurd (false≢true (sym e ∙ leb-zero (length lines)))
request_of-cut Build lines e = absurd (false≢true (sym e ∙ leb-zero (length lines)))
request_of-cut Quit lines e = absurd (false≢true (sym e ∙ leb-zero (length lines)))
request_of-cut Unknown lines e = absurd (false≢true (sym e ∙ leb-zero (length lines)))

-- The same of one that is gathering its lines.
pub pending_few : (g : PendingCommand) → nat_le (line_count g.command) (length (text_of g.lines)) ≡ false
pending_few g = ap (nat_le (line_count g.command)) (length-map g.lines.items (λ line. line.items)) ∙ g.incomplete

pub request_of-pending : (g : PendingCommand) → request_of g.command (text_of g.lines) ≡ CutOff
request_of-pending g = request_of-cut g.command (text_of g.lines) (pending_few g)

-- Nothing is written before a line comes.
pub dialogue_waits : (h : DialogueView) (pending : Option PendingCommand)
    → dialogue_future h (begun_command pending) SoFar [] [] ≡ Some (run_output [] h.directory)
unfolding dialogue_future answers outcome_of requests
dialogue_waits h None = refl
dialogue_waits h (Some g) =
    ap (λ ls. answers SoFar h (request_of g.command ls ∷ []) []) (append-nil (text_of g.lines))
    ∙ ap (λ r. answers SoFar h (r ∷ []) []) (request_of-pending g)

-- The result of a request if the run stops before the store answers.
abbrev pub AsksForNothing : DialogueView → Option RequestOutcome → Type 0
AsksForNothing h outcome_of = (a : RequestOutcome) × (outcome_of ≡ Some a) × (a.left ≡ []) × (a.after.directory ≡ h.directory)

pub storing_unasked : (text : Text) (d : Directory) (numbers : List ℕ)
    → AsksForNothing (dialogue_view text d) (build_outcome Stopped text d numbers [])
unfolding build_outcome
storing_unasked text d [] = (request_outcome end_line (dialogue_view text d) [], refl, refl, refl)
storing_unasked text d (n ∷ numbers) = (request_outcome [] (dialogue_view text d) [], refl, refl, refl)

pub request_unasked : (h : DialogueView) (request : Request) → AsksForNothing h (outcome_of Stopped h request [])
unfolding outcome_of
request_unasked h (Edits splice) = (
  request_outcome (edit_answer h.text (edited h.text splice))
      (dialogue_view (result_unwrap_or (edited h.text splice) h.text) h.directory) [],
  refl,
  refl,
  refl,
)
request_unasked h ListsFaults = (request_outcome (fault_list (faults_of h.text)) h [], refl, refl, refl)
request_unasked h ListsTitles = (request_outcome (title_list (titles_of h.text)) h [], refl, refl, refl)
request_unasked h (Shows number) = (request_outcome (hex_line (file_at (files_of h.text) number)) h [], refl, refl, refl)
request_unasked h Builds = storing_unasked h.text h.directory (pending_numbers h.directory (files_of h.text))
request_unasked h Misspelled = (request_outcome unknown_line h [], refl, refl, refl)
request_unasked h CutOff = (request_outcome [] h [], refl, refl, refl)
request_unasked h Ends = (request_outcome [] h [], refl, refl, refl)

-- What is written after an answer, if nothing is asked for after it.
unasked_after : (text : List ℕ) (d : Directory) (b : Bool) (rest : List StoreAnswer → Option RunOutput) → AsksNothing d rest
    → (t : RunOutput) × (with_text_before text (cond b (rest []) (nothing_more d [])) ≡ Some t) × (t.directory ≡ d)
unasked_after text d true rest (t, is, same) = (run_output (text ++ t.text) t.directory, ap (with_text_before text) is, same)
unasked_after text d false rest h = (run_output (text ++ []) d, refl, refl)

-- The same of all the requests that come.
pub answers_unasked : (h : DialogueView) (requests : List Request) → AsksNothing h.directory (answers Stopped h requests)
unfolding answers
answers_unasked h [] = (run_output [] h.directory, refl, refl)
answers_unasked h (request ∷ rest) =
    let one : AsksForNothing h (outcome_of Stopped h request []) = request_unasked h request in
    let a : RequestOutcome = one.0 in
    let all = unasked_after a.text a.after.directory (goes_on request) (answers Stopped a.after rest)
    (answers_unasked a.after rest) in (
      all.0,
      ap (option_and_then (λ b. with_text_before b.text (cond (goes_on request) (answers Stopped b.after rest b.left)
          (nothing_more b.after.directory b.left)))) one.1
          ∙ ap (λ left. with_text_before a.text (cond (goes_on request) (answers Stopped a.after rest left)
          (nothing_more a.after.directory left))) one.2
          ∙ all.1,
      all.2 ∙ one.3,
    )

pub dialogue_unasked : (h : DialogueView) (begun : Option BegunCommand) (lines : List (List ℕ))
    → AsksNothing h.directory (dialogue_future h begun Stopped lines)
unfolding dialogue_future
dialogue_unasked h None lines = answers_unasked h (requests 0 lines)
dialogue_unasked h (Some begun) lines = answers_unasked h (request_of begun.command (begun.lines ++ lines)
    ∷ requests (line_count begun.command - length begun.lines) lines)
