-- Laws of whole runs.
use Rattle.std.proofs.Common.{◌≡◌, ℕ, true, List, [], ◌∷◌, ◌++◌, Option, Some, None, Result, Ok, Err, MatchResult, inl}
use Rattle.std.proofs.Common.{inr, refl, sym, ap, ◌∙◌, subst}
use Rattle.std.specs.Prelude.{IfSome, IsErr, IsErrAnd}
use Rattle.std.specs.Io.KnownBytes.{Appends, Keeps}
use Rattle.std.specs.Result.{result_unwrap_or}
use Rattle.std.proofs.KnownBytes.{Appends-nil, Appends-trans, Appends-kept, Consumes-nil, Keeps-refl}
use Rattle.abc_lines.specs.Text.{Text}
use Rattle.abc_lines.specs.Edits.{edited, insertion}
use Rattle.abc_publish.specs.Publisher.{Directory}
use Rattle.abc2midi_live.specs.Transcript.{book_lines, input_lines, requests, outcome_of, answers, edit_answer, no_directory}
use Rattle.abc2midi_live.specs.Transcript.{transcript, transcript_of}
use Rattle.abc2midi_live.specs.Dialogue.{BegunCommand, dialogue_future, Opens}
use Rattle.abc2midi_live.specs.Outcome.{RunEnds, Outlets, outlets, Completes, AnswersInput, InHand, LastInHand, Leaves, LeavesRun}
use Rattle.abc2midi_live.specs.Outcome.{TellsFirst, FailsToOpen, Within, AtTheEnd, ReadCounts, Reads, RunView, Runs}
use Rattle.abc2midi_live.specs.Machine.{CarriesOut, Future}
use Rattle.abc2midi_live.specs.Storing.{StoreAnswer, StoreView, Follows}
use Rattle.abc2midi_live.specs.RunOutput.{Extent, Whole, SoFar, Stopped, DialogueView, dialogue_view, is_whole, RunOutput, run_output}
use Rattle.abc2midi_live.specs.RunOutput.{with_text_before}
use Rattle.abc2midi_live.specs.declared.run_fault.RunFault.{RunFault}
use Rattle.abc2midi_live.specs.declared.run_fault.RunFault.TheVariants.{Read, Write, Memory}
use Rattle.abc2midi_live.proofs.Storing.{mirrors_first, follows_none}
use Rattle.abc2midi_live.proofs.Feeding.{fault_is, none_ends}
use Rattle.abc2midi_live.proofs.RunOutputs.{no_text_before}

-- before any command, if there is no tune book
pub opens_none : (session : Text) (directory : Directory) (begun : Option BegunCommand) → session ≡ [] → directory ≡ no_directory → begun ≡ None → Opens None [] (dialogue_view session directory) begun
unfolding dialogue_future
opens_none session directory begun e empty none extent lines stored =
    let now = dialogue_future (dialogue_view session directory) begun extent lines stored in
    let same : with_text_before [] now ≡ answers extent (dialogue_view [] no_directory) (requests 0 lines) stored =
    no_text_before now
    ∙ ap (λ g. dialogue_future (dialogue_view session directory) g extent lines stored) none
    ∙ ap (λ t. answers extent (dialogue_view t directory) (requests 0 lines) stored) e
    ∙ ap (λ d. answers extent (dialogue_view [] d) (requests 0 lines) stored) empty in
    sym same

-- before any command, after a tune book was taken
pub opens_some : (bytes text : List ℕ) (first session : Text) (directory : Directory) (begun : Option BegunCommand) → first ≡ []
    → text ≡ edit_answer first (edited first (insertion 1 (book_lines bytes)))
    → session ≡ result_unwrap_or (edited first (insertion 1 (book_lines bytes))) first → directory ≡ no_directory → begun ≡ None → Opens (Some bytes) text (dialogue_view session directory) begun
unfolding dialogue_future answers outcome_of
opens_some bytes text first session directory begun e says now empty none extent lines stored =
    let made : Text → Text = λ t. result_unwrap_or (edited t (insertion 1 (book_lines bytes))) t in
    let said : Text → List ℕ = λ t. edit_answer t (edited t (insertion 1 (book_lines bytes))) in
    sym (
    ap (λ g. with_text_before text (dialogue_future (dialogue_view session directory) g extent lines stored)) none
    ∙ ap (λ t. with_text_before t (answers extent (dialogue_view session directory) (requests 0 lines) stored)) (says ∙ ap said e)
    ∙ ap (λ t. with_text_before (said []) (answers extent (dialogue_view t directory) (requests 0 lines) stored)) (now ∙ ap made e)
    ∙ ap (λ d. with_text_before (said []) (answers extent (dialogue_view (made []) d) (requests 0 lines) stored)) empty
    )

-- an end of a run
abbrev at : Option (List ℕ) → Outlets → RunEnds
at input out = record { input = input; out = out }

-- what is written for all of an input, after what was written for the tune book
module _ (book : Option (List ℕ)) (text : List ℕ) (h : DialogueView) (begun : Option BegunCommand) (opens : Opens book text h begun) (empty : h.directory ≡ no_directory) where
  -- what is answered to bytes
  abbrev ahead : Future ℕ
  ahead extent bytes = dialogue_future h begun extent (input_lines (is_whole extent) bytes)

  whole : (input : List ℕ) (stored : List StoreAnswer) → with_text_before text (ahead Whole input stored) ≡ transcript book input stored
  unfolding transcript
  whole input stored = sym (opens Whole (input_lines true input) stored)

  so_far : (extent : Extent) (input : List ℕ) (stored : List StoreAnswer) → with_text_before text (ahead extent input stored) ≡ transcript_of book extent input stored
  unfolding transcript_of
  so_far extent input stored = sym (opens extent (input_lines (is_whole extent) input) stored)

  whole_after_book : (stored : List StoreAnswer) (t : RunOutput) (input old mid new : Option (List ℕ)) → Appends old mid text
      → IfSome input (λ bytes. (ahead Whole bytes stored ≡ Some t) × Appends mid new t.text)
      → IfSome input (λ bytes. (transcript book bytes stored ≡ Some (run_output (text ++ t.text) t.directory)) × Appends old new (text ++ t.text))
  whole_after_book stored t None old mid new wrote said = tt
  whole_after_book stored t (Some bytes) old mid new wrote said = (sym (whole bytes stored) ∙ ap (with_text_before text) said.0, Appends-trans old mid new text t.text wrote said.1)

  -- the store's answers follow from the empty directory
  from_empty : (old new : StoreView) (stored : List StoreAnswer) (after : Directory) → Follows old new stored h.directory after → Follows old new stored no_directory after
  from_empty old new stored after follows = subst (λ d. Follows old new stored d after) empty follows

  all_after_book : (input left : Option (List ℕ)) (old new : Outlets) (mid : Option (List ℕ)) → Appends old.output mid text
      → AnswersInput h.directory ahead (at input (outlets mid old.store)) (at left new)
      → Completes (transcript book) (at input old) (at left new)
  all_after_book input left old new mid wrote (stored, t, follows, said) =
      let tied = from_empty old.store new.store stored t.directory follows in
      record {
        stored = stored;
        run_output = run_output (text ++ t.text) t.directory;
        text = whole_after_book stored t input old.output mid new.output wrote said;
        failures = tied.failures;
        calls = tied.calls;
        contents = λ none. tied.contents old.store.contents (mirrors_first old.store.contents none);
      }

  -- what is carried out, after the tune book
  carried_run : (bytes : List ℕ) (old new : StoreView) → CarriesOut h.directory (ahead SoFar bytes) old new → CarriesOut no_directory (transcript_of book SoFar bytes) old new
  carried_run bytes old new (stored, t, is, follows) =
      (stored, run_output (text ++ t.text) t.directory, sym (so_far SoFar bytes stored) ∙ ap (with_text_before text) is, from_empty old new stored t.directory follows)

  -- what is written first, after the tune book
  first_run : (front more : List ℕ) (old new : Outlets) (mid : Option (List ℕ)) → Appends old.output mid text
      → TellsFirst h.directory (ahead SoFar front) (ahead Stopped more) (outlets mid old.store) new
      → TellsFirst no_directory (transcript_of book SoFar front) (transcript_of book Stopped more) old new
  first_run front more old new mid wrote (stored, t, between, is, wrote', follows, (later, t', is', follows')) = (
    stored,
    run_output (text ++ t.text) t.directory,
    between,
    sym (so_far SoFar front stored) ∙ ap (with_text_before text) is,
    Appends-trans old.output mid new.output text t.text wrote wrote',
    from_empty old.store between stored t.directory follows,
    (later, run_output (text ++ t'.text) t'.directory, sym (so_far Stopped more (stored ++ later)) ∙ ap (with_text_before text) is', follows'),
  )

  fault_after_book : (fault : RunFault) (input left : Option (List ℕ)) (old new : Outlets) (mid : Option (List ℕ)) → Appends old.output mid text
      → Leaves h.directory ahead (at input (outlets mid old.store)) (at left new) fault
      → LeavesRun book (transcript_of book) (at input old) (at left new) fault
  fault_after_book Read input left old new mid wrote (taken, took, (stored, t, is, wrote', follows)) = (
    taken,
    took,
    (
      stored,
      run_output (text ++ t.text) t.directory,
      sym (so_far SoFar taken stored) ∙ ap (with_text_before text) is,
      Appends-trans old.output mid new.output text t.text wrote wrote',
      from_empty old.store new.store stored t.directory follows,
    ),
  )
  fault_after_book Write input left old new mid wrote (Within front back took carried) = Within front back took (carried_run front old.store new.store carried)
  fault_after_book Write input left old new mid wrote (AtTheEnd taken took end carried) = AtTheEnd taken took end (carried_run (taken ++ 10 ∷ []) old.store new.store carried)
  fault_after_book Memory input left old new mid wrote (InHand front next back took one first) = inl (InHand front next back took one (first_run front (front ++ next) old new mid wrote first))
  fault_after_book Memory input left old new mid wrote (LastInHand taken took end first) = inl (LastInHand taken took end (first_run taken (taken ++ 10 ∷ []) old new mid wrote first))

  -- what is written, from the answer to the tune book on
  pub run_after_book : {T : Type 0} (result : Result T RunFault) (input left : Option (List ℕ)) (old new : Outlets) (mid : Option (List ℕ)) → Appends old.output mid text
      → MatchResult result (λ _. AnswersInput h.directory ahead (at input (outlets mid old.store)) (at left new)) (Leaves h.directory ahead (at input (outlets mid old.store)) (at left new))
      → MatchResult result (λ _. Completes (transcript book) (at input old) (at left new)) (LeavesRun book (transcript_of book) (at input old) (at left new))
  run_after_book (Ok x) input left old new mid wrote said = all_after_book input left old new mid wrote said
  run_after_book (Err fault) input left old new mid wrote said = fault_after_book fault input left old new mid wrote said

transcript_of-nil : (extent : Extent) → transcript_of None extent [] [] ≡ Some (run_output [] no_directory)
unfolding transcript_of input_lines requests answers
transcript_of-nil Whole = refl
transcript_of-nil SoFar = refl
transcript_of-nil Stopped = refl

-- a run whose first allocation fails
not_begun : (book input : Option (List ℕ)) (old : Outlets) (new : Option (List ℕ)) → Keeps old.output new → LeavesRun book (transcript_of book) (at input old) (at input (outlets new old.store)) Memory
not_begun None input old new kept = inl (InHand [] [] [] (Consumes-nil input) none_ends (
  [],
  run_output [] no_directory,
  old.store,
  transcript_of-nil SoFar,
  Appends-kept old.output old.output new [] (Appends-nil old.output) kept,
  follows_none old.store no_directory,
  ([], run_output [] no_directory, transcript_of-nil Stopped, follows_none old.store no_directory),
))
not_begun (Some bytes) input old new kept = inr (refl, Keeps-refl input, kept, refl)

-- a tune book asks the store for nothing
book_carried : (book : Option (List ℕ)) (s : StoreView) → CarriesOut no_directory (transcript_of book SoFar []) s s
unfolding transcript_of input_lines requests answers outcome_of
book_carried None s = ([], run_output [] no_directory, refl, follows_none s no_directory)
book_carried (Some bytes) s = ([], run_output (edit_answer [] (edited [] (insertion 1 (book_lines bytes))) ++ []) no_directory, refl, follows_none s no_directory)

-- a run that cannot answer the tune book
pub not_opened : (fault : RunFault) (book input : Option (List ℕ)) (old : Outlets) (new : Option (List ℕ)) → FailsToOpen old.output new fault
    → LeavesRun book (transcript_of book) (at input old) (at input (outlets new old.store)) fault
not_opened Read book input old new h = absurd h
not_opened Write book input old new h = Within [] [] (Consumes-nil input) (book_carried book old.store)
not_opened Memory book input old new h = not_begun book input old new h

-- a tune book that is not answered: nothing was read
pub not_read : (fault : RunFault) (old new input : Option (List ℕ)) (counts : ReadCounts) → FailsToOpen old new fault → Reads {T = Unit {0}} input counts counts (Err fault)
not_read Read old new input counts h = absurd h
not_read Write old new input counts h = refl
not_read Memory old new input counts h = refl

-- what a run leaves with a fault, whatever it returns without one
runs_as : {T U : Type 0} (fault : RunFault) (book : Option (List ℕ)) (old new : RunView) → Runs {T = T} book old new (Err fault) → Runs {T = U} book old new (Err fault)
runs_as fault book old new h = record { transcript = h.transcript; calls = h.calls; reads = h.reads; writes = h.writes }

-- what a run leaves, by the fault that another result passes on
pub runs_exit : {T U : Type 0} (r : Result U RunFault) (fault : RunFault) (book : Option (List ℕ)) (old new : RunView) → IsErr r × IsErrAnd r (λ e. e ≡ fault)
    → Runs {T = T} book old new (Err fault) → Runs {T = U} book old new r
runs_exit r fault book old new is h = subst (λ r. Runs book old new r) (sym (fault_is r fault is)) (runs_as fault book old new h)
