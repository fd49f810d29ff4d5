-- Laws of requests and of their answers.
use Rattle.std.proofs.Common.{◌≡◌, ℕ, ◌+◌, ◌-◌, ◌<◌, ◌≤◌, Bool, true, false, cond, leb, List, [], ◌∷◌, ◌++◌, length, take, map}
use Rattle.std.proofs.Common.{Option, Some, None, Result, Ok, Err, ◌⊎◌, inl, inr, refl, sym, ap, ◌∙◌, subst, arith, append_assoc}
use Rattle.std.proofs.Common.{append-nil, ◌≢◌, if◌then◌else◌, add-one, length-append}
use Rattle.std.proofs.lemmas.List.{length-map, take_all, take-append-le, map-append}
use Rattle.std.specs.Global.{Vec}
use Rattle.std.specs.Prelude.{IfOk, IsErr, OnOk, is_ok, option_and_then}
use Rattle.std.specs.declared.alloc.AllocError.{AllocError}
use Rattle.std.proofs.lemmas.Bool.{true≢false}
use Rattle.std.proofs.lemmas.Bool.Decides.{nat_tests}
use Rattle.std.specs.Result.{result_unwrap_or}
use Rattle.abc_lines.specs.Text.{Text, Splice, text_of}
use Rattle.abc_lines.specs.Edits.{insertion, replacement, deletion, edited, Refuses}
use Rattle.abc2midi_live.specs.Book.{files_of, faults_of, titles_of}
use Rattle.abc_tune_compiler.specs.Files.{file_at, written_numbers, removed_numbers}
use Rattle.abc2midi_live_protocol.specs.Answer.{report_line, refusal}
use Rattle.abc2midi_live_protocol.specs.Command.{line_count, command_of}
use Rattle.abc_publish.specs.Publisher.{Directory, Slots, maps_of}
use Rattle.abc2midi_live.specs.Building.{Builds, BuildStops, StopsBy}
use Rattle.abc2midi_live.specs.Storing.{StoreAnswer, StoreView}
use Rattle.abc2midi_live.specs.RunOutput.{RequestOutcome, Extent, Whole, Stopped, DialogueView, RunOutput, request_outcome}
use Rattle.abc2midi_live.specs.RunOutput.{with_text_before, dialogue_view, nothing_more, run_output}
use Rattle.abc2midi_live.specs.Transcript.{edit_answer, Request, Edits, CutOff, request_of, requests, outcome_of, answers, goes_on}
use Rattle.abc2midi_live_protocol.specs.Answer.{fault_list, title_list, hex_line, unknown_line, truncated_line}
use Rattle.abc2midi_live_protocol.specs.declared.command.Command.{Command}
use Rattle.abc2midi_live_protocol.specs.declared.command.Command.TheVariants.{Faults, Titles, Hex, Build, Quit, Unknown}
use Rattle.abc2midi_live_protocol.specs.declared.command.Command.TheVariants as commands
use Rattle.abc2midi_live.specs.Waiting.{request_unasked}
use Rattle.abc2midi_live.proofs.RunOutputs.{no_text_before}
use Rattle.abc2midi_live.proofs.Storing.{follows_same}
use Rattle.abc2midi_live.specs.Dialogue.{BegunCommand, dialogue_future, is_taken, AnswersWith, Says, Responds, RespondsBy}
use Rattle.abc2midi_live.specs.Machine.{AsksNothing, CarriesOut, Future, Replies, future_change}
use Rattle.abc_tune_compiler.specs.declared.fault.Fault.{Fault}
use Rattle.abc_tune_compiler.specs.declared.title.Title.{Title}
use Rattle.abc2midi_live.specs.declared.machine.Reply.{Reply}
use Rattle.abc2midi_live.specs.declared.machine.Reply.TheVariants.{Nothing, Answer, End}
use Rattle.abc_lines.specs.declared.edit_error.EditError.{EditError}
use Rattle.abc_lines.specs.declared.edit_error.EditError.TheVariants.{OutOfMemory}

-- the answer to an accepted edit
pub answer_accepted : (old new : Text) (change : Result Text EditError) (text writes removes : List ℕ) → change ≡ Ok new
    → writes ≡ written_numbers (files_of old) (files_of new) → removes ≡ removed_numbers (files_of old) (files_of new)
    → text ≡ report_line writes removes → text ≡ edit_answer old change
unfolding edit_answer
answer_accepted old new change text writes removes e w r h = h ∙ ap (λ x. report_line x removes) w ∙ ap (report_line (written_numbers (files_of old) (files_of new))) r ∙ sym (ap (edit_answer old) e)

-- the answer to a refused one
pub answer_refused : (old : Text) (change : Result Text EditError) (error : EditError) (text : List ℕ) → change ≡ Err error → text ≡ refusal error → text ≡ edit_answer old change
unfolding edit_answer
answer_refused old change error text e h = h ∙ sym (ap (edit_answer old) e)

pub unwrap_refused : (old : Text) (change : Result Text EditError) (error : EditError) → change ≡ Err error → old ≡ result_unwrap_or change old
unwrap_refused old change error e = sym (ap (λ c. result_unwrap_or c old) e)

-- an edit that was refused for another cause than memory
pub refused_by : (change : Result Text EditError) (error : EditError) (P : Type 0) → (change ≡ Err error) ⊎ ((error ≡ OutOfMemory) × P) → error ≢ OutOfMemory → change ≡ Err error
refused_by change error P (inl e) other = e
refused_by change error P (inr h) other = absurd (other h.0)

-- the answer to a refused edit, if there is one
pub refusal_answer : (r : Result (Vec ℕ) AllocError) (old : Text) (change : Result Text EditError) (error : EditError) → Refuses error change
    → IfOk r (λ text. text.items ≡ refusal error) → OnOk r (error ≢ OutOfMemory) → IfOk r (λ text. text.items ≡ edit_answer old change)
refusal_answer (Ok text) old change error refused is other = answer_refused old change error text.items (refused_by change error _ refused other) is
refusal_answer (Err e) old change error refused is other = tt

-- a request as answered, for answers of the store, if the run goes on
abbrev pub Carried : DialogueView → DialogueView → Request → List StoreAnswer → List ℕ → Type 0
Carried old new request now text = AnswersWith old request now text new × (goes_on request ≡ true)

edited_answer : (old new : Text) (d : Directory) (splice : Option Splice) (text : List ℕ) → text ≡ edit_answer old (edited old splice) → new ≡ result_unwrap_or (edited old splice) old
    → Carried (dialogue_view old d) (dialogue_view new d) (Edits splice) [] text
unfolding outcome_of
edited_answer old new d splice text t n = (
  λ extent later. ap (λ x. Some (request_outcome x (dialogue_view (result_unwrap_or (edited old splice) old) d) later)) (sym t)
      ∙ ap (λ x. Some (request_outcome text (dialogue_view x d) later)) (sym n),
  refl,
)

-- an edit is replied to, and the store is not called
pub replies_change : (old new : Text) (p q : Slots) (request : Request) (splice : Option Splice) (text : Vec ℕ) (s : StoreView) → request ≡ Edits splice
    → text.items ≡ edit_answer old (edited old splice) → new ≡ result_unwrap_or (edited old splice) old → q ≡ p
    → RespondsBy (dialogue_view old (maps_of p).directory) (dialogue_view new (maps_of q).directory) request (Answer text) s s
replies_change old new p q request splice text s is t n same =
    let d = (maps_of p).directory in (
      [],
      subst (λ (q : Slots). Carried (dialogue_view old d) (dialogue_view new (maps_of q).directory) request [] text.items) (sym same)
          (subst (λ r. Carried (dialogue_view old d) (dialogue_view new d) r [] text.items) (sym is) (edited_answer old new d splice text.items t n)),
      follows_same s d (maps_of q).directory (ap (λ (p : Slots). (maps_of p).directory) same),
    )

not_ok : (r : Result Text EditError) → is_ok r ≡ false → IsErr r
not_ok (Ok text) e = absurd (true≢false e)
not_ok (Err error) e = refl

-- an edit that the text does not take is refused
pub untaken : (old : Text) (request : Request) (splice : Option Splice) → request ≡ Edits splice → is_taken old request ≡ false → IsErr (edited old splice)
untaken old request splice is none = not_ok (edited old splice) (sym (ap (is_taken old) is) ∙ none)

whole_if : (count n : ℕ) (request : Request) → n ≡ count → (if leb count n then request else CutOff) ≡ request
whole_if count n request e = ap (λ b. cond b request CutOff) (let b : leb count n ≡ true = grind (arith, nat_tests) in b)

more_if : (count n m : ℕ) (request : Request) → n ≡ count → n ≤ m → (if leb count m then request else CutOff) ≡ request
more_if count n m request e h = ap (λ b. cond b request CutOff) (let b : leb count m ≡ true = grind (arith, nat_tests) in b)

take_whole : (count : ℕ) (lines : Text) → length lines ≡ count → take count lines ≡ lines
take_whole count lines e = take_all count lines (omega arith)

pub insert_request : (command : Command) (at count : ℕ) (lines : Vec (Vec ℕ)) → length lines.items ≡ line_count command
    → command ≡ commands.Insert at count → request_of command (text_of lines) ≡ Edits (insertion at (text_of lines))
unfolding request_of
insert_request command at count lines whole is =
    let e : length (text_of lines) ≡ count = length-map lines.items (λ line. line.items) ∙ whole ∙ ap line_count is in
    ap (λ c. request_of c (text_of lines)) is ∙ whole_if count (length (text_of lines)) (Edits (insertion at (take count (text_of lines)))) e
    ∙ ap (λ ls. Edits (insertion at ls)) (take_whole count (text_of lines) e)

pub replace_request : (command : Command) (from to count : ℕ) (lines : Vec (Vec ℕ)) → length lines.items ≡ line_count command
    → command ≡ commands.Replace from to count → request_of command (text_of lines) ≡ Edits (replacement from to (text_of lines))
unfolding request_of
replace_request command from to count lines whole is =
    let e : length (text_of lines) ≡ count = length-map lines.items (λ line. line.items) ∙ whole ∙ ap line_count is in
    ap (λ c. request_of c (text_of lines)) is ∙ whole_if count (length (text_of lines)) (Edits (replacement from to (take count (text_of lines)))) e
    ∙ ap (λ ls. Edits (replacement from to ls)) (take_whole count (text_of lines) e)

pub delete_request : (command : Command) (from to : ℕ) (lines : Text) → command ≡ commands.Delete from to → request_of command lines ≡ Edits (deletion from to)
unfolding request_of
delete_request command from to lines is = ap (λ c. request_of c lines) is

pub responds_faults : (h : DialogueView) (command : Command) (lines : Text) (faults : List Fault) (text : List ℕ) → command ≡ Faults → faults ≡ faults_of h.text → text ≡ fault_list faults
    → Carried h h (request_of command lines) [] text
unfolding request_of outcome_of
responds_faults h command lines faults text is f t =
    subst (λ c. Carried h h (request_of c lines) [] text) (sym is) (λ extent later. ap (λ x. Some (request_outcome x h later)) (sym (t ∙ ap fault_list f)), refl)

pub responds_titles : (h : DialogueView) (command : Command) (lines : Text) (titles : List Title) (text : List ℕ) → command ≡ Titles → titles ≡ titles_of h.text → text ≡ title_list titles
    → Carried h h (request_of command lines) [] text
unfolding request_of outcome_of
responds_titles h command lines titles text is f t =
    subst (λ c. Carried h h (request_of c lines) [] text) (sym is) (λ extent later. ap (λ x. Some (request_outcome x h later)) (sym (t ∙ ap title_list f)), refl)

pub responds_hex : (h : DialogueView) (command : Command) (number : ℕ) (lines : Text) (file : Option (List ℕ)) (text : List ℕ)
    → command ≡ Hex number → file ≡ file_at (files_of h.text) number → text ≡ hex_line file
    → Carried h h (request_of command lines) [] text
unfolding request_of outcome_of
responds_hex h command number lines file text is f t =
    subst (λ c. Carried h h (request_of c lines) [] text) (sym is) (λ extent later. ap (λ x. Some (request_outcome x h later)) (sym (t ∙ ap hex_line f)), refl)

pub responds_build : (text : Text) (before after : Directory) (command : Command) (lines : Text) (now : List StoreAnswer) (answer : List ℕ) → command ≡ Build → Builds text before now answer after
    → Carried (dialogue_view text before) (dialogue_view text after) (request_of command lines) now answer
unfolding request_of outcome_of
responds_build text before after command lines now answer is builds =
    subst (λ c. Carried (dialogue_view text before) (dialogue_view text after) (request_of c lines) now answer) (sym is) (λ extent later. builds extent later, refl)

pub responds_unknown : (h : DialogueView) (command : Command) (lines : Text) (text : List ℕ) → command ≡ Unknown → text ≡ unknown_line → Carried h h (request_of command lines) [] text
unfolding request_of outcome_of
responds_unknown h command lines text is t =
    subst (λ c. Carried h h (request_of c lines) [] text) (sym is) (λ extent later. ap (λ x. Some (request_outcome x h later)) (sym t), refl)

pub responds_quit : (h : DialogueView) (command : Command) (lines : Text) → command ≡ Quit → AnswersWith h (request_of command lines) [] [] h × (goes_on (request_of command lines) ≡ false)
unfolding request_of outcome_of
responds_quit h command lines is = subst (λ c. AnswersWith h (request_of c lines) [] [] h × (goes_on (request_of c lines) ≡ false)) (sym is) (λ extent later. refl, refl)

-- lines after those of a command are none of its own
pub request_of-append : (command : Command) (lines more : Text) → length lines ≡ line_count command → request_of command (lines ++ more) ≡ request_of command lines
unfolding request_of
request_of-append (commands.Insert at count) lines more whole =
    let fits : count ≤ length lines = omega arith in
    more_if count (length lines) (length (lines ++ more)) (Edits (insertion at (take count (lines ++ more)))) whole (omega (arith, length-append lines more))
    ∙ ap (λ ls. Edits (insertion at ls)) (take-append-le count lines more fits)
    ∙ sym (whole_if count (length lines) (Edits (insertion at (take count lines))) whole)
request_of-append (commands.Replace from to count) lines more whole =
    let fits : count ≤ length lines = omega arith in
    more_if count (length lines) (length (lines ++ more)) (Edits (replacement from to (take count (lines ++ more)))) whole (omega (arith, length-append lines more))
    ∙ ap (λ ls. Edits (replacement from to ls)) (take-append-le count lines more fits)
    ∙ sym (whole_if count (length lines) (Edits (replacement from to (take count lines))) whole)
request_of-append (commands.Delete from to) lines more whole = refl
request_of-append Faults lines more whole = refl
request_of-append Titles lines more whole = refl
request_of-append (Hex number) lines more whole = refl
request_of-append Build lines more whole = refl
request_of-append Quit lines more whole = refl
request_of-append Unknown lines more whole = refl

-- what is written after the answer to a request
output_after : Extent → Request → List Request → RequestOutcome → Option RunOutput
output_after extent request rest a = with_text_before a.text (if goes_on request then answers extent a.after rest a.left else nothing_more a.after.directory a.left)

awaited_whole : (old : DialogueView) (command : Command) (lines more : Text) (extent : Extent) (stored : List StoreAnswer) → length lines ≡ line_count command
    → dialogue_future old (Some (record { command = command; lines = lines })) extent more stored
    ≡ option_and_then (output_after extent (request_of command lines) (requests 0 more)) (outcome_of extent old (request_of command lines) stored)
unfolding dialogue_future answers output_after
awaited_whole old command lines more extent stored whole =
    let none : line_count command - length lines ≡ 0 = omega arith in
    ap (λ k. answers extent old (request_of command (lines ++ more) ∷ requests k more) stored) none
    ∙ ap (λ r. answers extent old (r ∷ requests 0 more) stored) (request_of-append command lines more whole)

-- a command with all its lines is carried out
pub says_whole : (old new : DialogueView) (command : Command) (lines : Text) (now : List StoreAnswer) (reply : Reply)
    → length lines ≡ line_count command → Responds old new (request_of command lines) now reply
    → Says (future_change (dialogue_future old (Some (record { command = command; lines = lines }))) (dialogue_future new None) new.directory) now reply
unfolding dialogue_future output_after
says_whole old new command lines now Nothing whole h = absurd h
says_whole old new command lines now (Answer text) whole h =
    λ extent more later. awaited_whole old command lines more extent (now ++ later) whole
    ∙ ap (option_and_then (output_after extent (request_of command lines) (requests 0 more))) (h.0 extent later)
    ∙ ap (λ b. with_text_before text.items (cond b (answers extent new (requests 0 more) later) (nothing_more new.directory later))) h.1
says_whole old new command lines now End whole h =
    λ extent more later. awaited_whole old command lines more extent (now ++ later) whole
    ∙ ap (option_and_then (output_after extent (request_of command lines) (requests 0 more))) (h.0 extent later)
    ∙ ap (λ b. with_text_before [] (cond b (answers extent new (requests 0 more) later) (nothing_more new.directory later))) h.1
    ∙ no_text_before (nothing_more new.directory later)

-- a line that is a command begins it
pub awaited_command : (h : DialogueView) (line : List ℕ) (command : Command) (extent : Extent) (more : Text) (stored : List StoreAnswer) → command ≡ command_of line
    → dialogue_future h None extent (line ∷ more) stored ≡ dialogue_future h (Some (record { command = command; lines = [] })) extent more stored
unfolding dialogue_future requests
awaited_command h line command extent more stored is =
    let same : line_count command - 0 ≡ line_count command = omega arith in
    ap (λ c. answers extent h (request_of c more ∷ requests (line_count c) more) stored) (sym is)
    ∙ ap (λ k. answers extent h (request_of command more ∷ requests k more) stored) (sym same)

skip_one : (k : ℕ) (line : List ℕ) (more : Text) → requests (k + 1) (line ∷ more) ≡ requests k more
unfolding requests
skip_one k line more = rw add-one refl

-- a line that belongs to a command is one more of its lines
pub awaited_line : (h : DialogueView) (command : Command) (lines : Text) (line : List ℕ) (extent : Extent) (more : Text) (stored : List StoreAnswer) → length lines < line_count command
    → dialogue_future h (Some (record { command = command; lines = lines })) extent (line ∷ more) stored
    ≡ dialogue_future h (Some (record { command = command; lines = lines ++ line ∷ [] })) extent more stored
unfolding dialogue_future
awaited_line h command lines line extent more stored few =
    let left = line_count command - length (lines ++ line ∷ []) in
    let count : line_count command - length lines ≡ left + 1 = omega (arith, length-append lines (line ∷ [])) in
    ap (λ ls. answers extent h (request_of command ls ∷ requests (line_count command - length lines) (line ∷ more)) stored) (sym (append_assoc lines (line ∷ []) more))
    ∙ ap (λ k. answers extent h (request_of command ((lines ++ line ∷ []) ++ more) ∷ requests k (line ∷ more)) stored) count
    ∙ ap (λ rs. answers extent h (request_of command ((lines ++ line ∷ []) ++ more) ∷ rs) stored) (skip_one left line more)

-- the reply to a line
pub replies : (before mid after : Future (List ℕ)) (directory : Directory) (line : List ℕ) (now : List StoreAnswer) (reply : Reply)
    → ((extent : Extent) (more : List (List ℕ)) (stored : List StoreAnswer) → before extent (line ∷ more) stored ≡ mid extent more stored) → Says (future_change mid after directory) now reply
    → Replies (future_change before after directory) line now reply
replies before mid after directory line now Nothing step says = λ extent more later. step extent more (now ++ later) ∙ says extent more later ∙ sym (no_text_before (after extent more later))
replies before mid after directory line now (Answer text) step says = λ extent more later. step extent more (now ++ later) ∙ says extent more later
replies before mid after directory line now End step says = λ extent more later. step extent more (now ++ later) ∙ says extent more later ∙ sym (no_text_before (nothing_more directory later))

-- the last words, with missing lines and without
pub last_cut : (h : DialogueView) (begun : BegunCommand) → request_of begun.command begun.lines ≡ CutOff → dialogue_future h (Some begun) Whole [] [] ≡ Some (run_output truncated_line h.directory)
unfolding dialogue_future answers outcome_of requests
last_cut h begun cut =
    ap (λ ls. answers Whole h (request_of begun.command ls ∷ []) []) (append-nil begun.lines) ∙ ap (λ r. answers Whole h (r ∷ []) []) cut
    ∙ ap (λ t. Some (run_output t h.directory)) (append-nil truncated_line)

pub last_none : (h : DialogueView) → dialogue_future h None Whole [] [] ≡ Some (run_output [] h.directory)
unfolding dialogue_future answers requests
last_none h = refl

-- the lines after one more came
pub text_of-push : (old new : Vec (Vec ℕ)) (line : Vec ℕ) → new.items ≡ old.items ++ line ∷ [] → text_of new ≡ text_of old ++ line.items ∷ []
text_of-push old new line e = ap (map (λ l. l.items)) e ∙ map-append (λ l. l.items) old.items (line ∷ [])

-- fewer lines have come than the command takes
pub few_lines : (command : Command) (lines : Text) → leb (line_count command) (length lines) ≡ false → length lines < line_count command
few_lines command lines e = grind (arith, nat_tests)

-- a request that stops before the store is called
pub stops_unasked : (h : DialogueView) (request : Request) (s : StoreView) → StopsBy h.directory (outcome_of Stopped h request) s s
stops_unasked h request s = let none = request_unasked h request in ([], none.0, none.1, none.2, follows_same s h.directory none.0.after.directory none.3)

-- a build that stops
pub stops_build : (h : DialogueView) (command : Command) (lines : Text) (old new : StoreView) → command ≡ Build
    → BuildStops h.text h.directory old new → StopsBy h.directory (outcome_of Stopped h (request_of command lines)) old new
unfolding request_of outcome_of
stops_build h command lines old new is stops = subst (λ c. StopsBy h.directory (outcome_of Stopped h (request_of c lines)) old new) (sym is) stops

nothing_after : (h : DialogueView) (b : Bool) → cond b (answers Stopped h (requests 0 []) []) (nothing_more h.directory []) ≡ Some (run_output [] h.directory)
unfolding answers requests
nothing_after h true = refl
nothing_after h false = refl

-- a command with all its lines that stops
pub stops_whole : (h : DialogueView) (command : Command) (lines : Text) (old new : StoreView) → length lines ≡ line_count command
    → StopsBy h.directory (outcome_of Stopped h (request_of command lines)) old new
    → CarriesOut h.directory (dialogue_future h (Some (record { command = command; lines = lines })) Stopped []) old new
unfolding output_after
stops_whole h command lines old new whole (stored, a, is, left, follows) =
    let request = request_of command lines in (
      stored,
      run_output (a.text ++ []) a.after.directory,
      awaited_whole h command lines [] Stopped stored whole
          ∙ ap (option_and_then (output_after Stopped request (requests 0 []))) is
          ∙ ap (λ l. with_text_before a.text (cond (goes_on request) (answers Stopped a.after (requests 0 []) l) (nothing_more a.after.directory l))) left
          ∙ ap (with_text_before a.text) (nothing_after a.after (goes_on request)),
      follows,
    )

-- no store has been called
pub carried_none : (d : Directory) (outputs : List StoreAnswer → Option RunOutput) (s : StoreView) → AsksNothing d outputs → CarriesOut d outputs s s
carried_none d outputs s (t, is, same) = ([], t, is, follows_same s d t.directory same)

-- a request that is written in the same words is carried out
pub carried_as : (d : Directory) (f g : List StoreAnswer → Option RunOutput) (old new : StoreView)
    → ((stored : List StoreAnswer) → f stored ≡ g stored) → CarriesOut d g old new → CarriesOut d f old new
carried_as d f g old new same (stored, t, is, follows) = (stored, t, same stored ∙ is, follows)
