-- Laws of a machine that is fed pieces of an input.
use Rattle.std.proofs.Common.{◌≡◌, ℕ, ◌+◌, ◌<◌, ◌≤◌, Bool, true, false, List, [], ◌∷◌, ◌++◌, length, take, Option, Some, None}
use Rattle.std.proofs.Common.{inl, inr, refl, sym, ap, ◌∙◌, subst, arith, append_assoc, append-nil, length-append, length-take}
use Rattle.std.proofs.Common.{if◌then◌else◌, ◌==◌, Result, Ok, Err, MatchResult}
use Rattle.std.specs.Prelude.{IsErr, IsErrAnd, IfSome}
use Rattle.std.proofs.lemmas.Grind.{common_steps}
use Rattle.std.proofs.lemmas.Bool.{not-true}
use Rattle.std.proofs.lemmas.Bool.Decides.{nat_tests}
use Rattle.std.specs.Io.KnownBytes.{Appends, Keeps, Consumes, IsAtEnd}
use Rattle.std.proofs.KnownBytes.{Appends-nil, Appends-trans, Appends-kept, Consumes-nil, Consumes-trans, Consumes-kept}
use Rattle.std.proofs.lemmas.List.Elements.{All-append, All-nil}
use Rattle.abc_fold.specs.Work.{raised}
use Rattle.abc_publish.specs.Publisher.{Directory}
use Rattle.abc_text.specs.Cut.{HasNoByte}
use Rattle.abc2midi_live.specs.Machine.{Future, future_change, IsClean, Answers, AsksNothing, CarriesOut, EndsOneAtMost}
use Rattle.abc2midi_live.specs.Machine.{change_between, future_of_bytes, MachineState}
use Rattle.abc2midi_live.specs.Outcome.{RunEnds, Outlets, outlets, Serves, Tells, TellsFirst, FailsToFeed, FailsToServe, FailsAtEnd}
use Rattle.abc2midi_live.specs.Outcome.{AnswersInput, Turn, Leaves, Within, AtTheEnd, InHand, LastInHand, read_counts, Reads}
use Rattle.abc2midi_live.specs.Outcome.{Failed, read_faults}
use Rattle.abc2midi_live.specs.Storing.{StoreAnswer, StoreView, Follows}
use Rattle.abc2midi_live.specs.RunOutput.{Extent, Whole, SoFar, Stopped, RunOutput, run_output, with_text_before, is_whole}
use Rattle.abc2midi_live.specs.RunOutput.{nothing_more}
use Rattle.abc2midi_live.specs.Transcript.{input_lines, most_kept}
use Rattle.abc2midi_live.specs.declared.run_fault.RunFault.{RunFault}
use Rattle.abc2midi_live.specs.declared.run_fault.RunFault.TheVariants.{Read, Write, Memory}
use Rattle.abc2midi_live.proofs.Counts.{raised_none, raised_twice}
use Rattle.abc2midi_live.proofs.InputLines.{input_lines-line, input_lines-kept, input_lines-begun, input_lines-last}
use Rattle.abc2midi_live.proofs.InputLines.{input_lines-nil}
use Rattle.abc2midi_live.proofs.Storing.{follows_none, follows_same, follows_both}
use Rattle.abc2midi_live.proofs.RunOutputs.{no_text_before, answers_both, answers_none, ended_with, continued_with}

abbrev OfLines : Type 0
OfLines = Future (List ℕ)

abbrev Ahead : Type 0
Ahead = Future ℕ

-- what is to be written to bytes, by the lines after those that have begun
ahead_is : (future : OfLines) (begun : List ℕ) (extent : Extent) (bytes line : List ℕ) (stored : List StoreAnswer)
    → begun ++ bytes ≡ line → future_of_bytes future begun extent bytes stored ≡ future extent (input_lines (is_whole extent) line) stored
unfolding future_of_bytes
ahead_is future begun extent bytes line stored e = ap (λ l. future extent (input_lines (is_whole extent) l) stored) e

take_short : (n : ℕ) (line : List ℕ) → length line ≤ n → take n line ≡ line
take_short n line h = grind (arith, common_steps)

no_length : (bytes : List ℕ) → length bytes ≤ 0 → bytes ≡ []
no_length [] h = refl
no_length (b ∷ bytes) h = absurd (omega arith)

-- a line that a piece ends is served
line_ended : (before after : OfLines) (d : Directory) (begun piece line begun' : List ℕ) (stored : List StoreAnswer) (text : List ℕ) (goes_on : Bool) → IsClean begun → IsClean piece
    → line ≡ take most_kept (begun ++ piece) → begun' ≡ [] → Answers (future_change before after d) (line ∷ []) stored text goes_on
    → Answers (future_change (future_of_bytes before begun) (future_of_bytes after begun') d) (piece ++ 10 ∷ []) stored text goes_on
line_ended before after d begun piece line begun' stored text goes_on clean clean_piece e none served extent rest later =
    let whole : begun ++ ((piece ++ 10 ∷ []) ++ rest) ≡ (begun ++ piece) ++ 10 ∷ rest = ap (λ l. begun ++ l) (append_assoc piece (10 ∷ []) rest) ∙ sym (append_assoc begun piece (10 ∷ rest)) in
    let next : future_of_bytes after begun' extent rest later ≡ after extent (input_lines (is_whole extent) rest) later = ahead_is after begun' extent rest rest later (ap (λ b. b ++ rest) none) in
    ahead_is before begun extent ((piece ++ 10 ∷ []) ++ rest) ((begun ++ piece) ++ 10 ∷ rest) (stored ++ later) whole
    ∙ ap (λ l. before extent l (stored ++ later)) (input_lines-line (is_whole extent) (begun ++ piece) rest (All-append (λ b. (b == 10) ≡ false) begun piece clean clean_piece))
    ∙ ap (λ l. before extent (l ∷ input_lines (is_whole extent) rest) (stored ++ later)) (sym e)
    ∙ served extent (input_lines (is_whole extent) rest) later
    ∙ ap (λ t. with_text_before text (if goes_on then t else nothing_more d later)) (sym next)

-- the answer to a line that a piece ends, if nothing comes after it
line_alone : (future : OfLines) (begun piece line : List ℕ) (extent : Extent) (stored : List StoreAnswer) → IsClean begun → IsClean piece → line ≡ take most_kept (begun ++ piece)
    → future_of_bytes future begun extent (piece ++ 10 ∷ []) stored ≡ future extent (line ∷ []) stored
line_alone future begun piece line extent stored clean clean_piece e =
    ahead_is future begun extent (piece ++ 10 ∷ []) ((begun ++ piece) ++ 10 ∷ []) stored (sym (append_assoc begun piece (10 ∷ [])))
    ∙ ap (λ l. future extent l stored) (input_lines-line (is_whole extent) (begun ++ piece) [] (All-append (λ b. (b == 10) ≡ false) begun piece clean clean_piece))
    ∙ ap (λ l. future extent (take most_kept (begun ++ piece) ∷ l) stored) (input_lines-nil (is_whole extent))
    ∙ ap (λ l. future extent (l ∷ []) stored) (sym e)

-- a piece without the end of a line is stored
pub piece_kept : (future : OfLines) (d : Directory) (begun piece begun' : List ℕ) → IsClean begun → IsClean piece → begun' ≡ take most_kept (begun ++ piece)
    → Answers (future_change (future_of_bytes future begun) (future_of_bytes future begun') d) piece [] [] true
piece_kept future d begun piece begun' clean clean_piece e extent rest later =
    ahead_is future begun extent (piece ++ rest) ((begun ++ piece) ++ rest) later (sym (append_assoc begun piece rest))
    ∙ sym (ap (λ l. future extent l later) (input_lines-kept (is_whole extent) (begun ++ piece) rest (All-append (λ b. (b == 10) ≡ false) begun piece clean clean_piece)))
    ∙ sym (ahead_is future begun' extent rest (take most_kept (begun ++ piece) ++ rest) later (ap (λ b. b ++ rest) e))
    ∙ sym (no_text_before (future_of_bytes future begun' extent rest later))

-- nothing is asked for before the store answers
pub unasked_ahead : (future : OfLines) (d : Directory) (begun bytes : List ℕ) (s : StoreView)
    → ((lines : List (List ℕ)) → AsksNothing d (future Stopped lines)) → CarriesOut d (future_of_bytes future begun Stopped bytes) s s
unfolding future_of_bytes
unasked_ahead future d begun bytes s none =
    let t = none (input_lines false (begun ++ bytes)) in
    ([], t.0, t.1, follows_same s d t.0.directory t.2)

-- nothing is written to a line that has only begun
pub future_of_bytes-nothing : (future : OfLines) (d : Directory) (begun : List ℕ) → IsClean begun
    → future SoFar [] [] ≡ Some (run_output [] d) → future_of_bytes future begun SoFar [] [] ≡ Some (run_output [] d)
future_of_bytes-nothing future d begun clean waits =
    ahead_is future begun SoFar [] begun [] (append-nil begun) ∙ ap (λ l. future SoFar l []) (input_lines-begun begun clean) ∙ waits

-- the end of the input ends a line that has begun
last_ahead : (future : OfLines) (begun : List ℕ) (stored : List StoreAnswer) → IsClean begun → 0 < length begun
    → length begun ≤ most_kept → future_of_bytes future begun Whole [] stored ≡ future Whole (begun ∷ []) stored
last_ahead future begun stored clean some short =
    ahead_is future begun Whole [] begun stored (append-nil begun)
    ∙ ap (λ l. future Whole l stored) (input_lines-last begun clean some) ∙ ap (λ l. future Whole (l ∷ []) stored) (take_short most_kept begun short)

-- it ends that line as a line feed does
last_alone : (future : OfLines) (begun line : List ℕ) (extent : Extent) (stored : List StoreAnswer) → IsClean begun
    → length begun ≤ most_kept → line ≡ begun → future_of_bytes future begun extent (10 ∷ []) stored ≡ future extent (line ∷ []) stored
last_alone future begun line extent stored clean short e =
    ahead_is future begun extent (10 ∷ []) (begun ++ 10 ∷ []) stored refl
    ∙ ap (λ l. future extent l stored) (input_lines-line (is_whole extent) begun [] clean)
    ∙ ap (λ l. future extent (take most_kept begun ∷ l) stored) (input_lines-nil (is_whole extent))
    ∙ ap (λ l. future extent (l ∷ []) stored) (take_short most_kept begun short ∙ sym e)

none_ahead : (future : OfLines) (begun : List ℕ) (stored : List StoreAnswer) → length begun ≤ 0 → future_of_bytes future begun Whole [] stored ≡ future Whole [] stored
none_ahead future begun stored none = ahead_is future begun Whole [] [] stored (append-nil begun ∙ no_length begun none) ∙ ap (λ l. future Whole l stored) (input_lines-nil true)

-- the state of a machine that reads lines
abbrev pub LineState : Type 0
LineState = MachineState (List ℕ)

-- what serving a line says, as clauses have it
abbrev pub Served : LineState → LineState → List ℕ → Outlets → Outlets → Bool → Type 0
Served before after line old new goes_on = Serves before.directory (change_between before after) (line ∷ []) old new goes_on

-- two pieces are served
serves_both : {X : Type 0} (before mid after : Future X) (d e f : Directory) (a b : List X) (old w new : Outlets) (goes_on : Bool)
    → Serves d (future_change before mid e) a old w true → Serves e (future_change mid after f) b w new goes_on
    → Serves d (future_change before after f) (a ++ b) old new goes_on
serves_both before mid after d e f a b old w new goes_on (text, stored, wrote, says, follows) (text', stored', wrote', says', follows') = (
  text ++ text',
  stored ++ stored',
  Appends-trans old.output w.output new.output text text' wrote wrote',
  answers_both before mid after e f a b stored stored' text text' goes_on says says',
  follows_both old.store w.store new.store stored stored' d e f follows follows',
)

-- nothing is served
serves_none : {X : Type 0} (before after : Future X) (d : Directory) (w : Outlets) → after ≡ before → Serves d (future_change before after d) [] w w true
serves_none before after d w same = ([], [], Appends-nil w.output, answers_none before after d same, follows_none w.store d)

-- what is written after a piece that is served
tells_after : {X : Type 0} (before mid : Future X) (d e : Directory) (piece : List X) (extent : Extent) (rest : List X) (old w new : Outlets)
    → Serves d (future_change before mid e) piece old w true → Tells e (mid extent rest) w new → Tells d (before extent (piece ++ rest)) old new
tells_after before mid d e piece extent rest old w new (text, stored, wrote, says, follows) (stored', t, is, wrote', follows') = (
  stored ++ stored',
  run_output (text ++ t.text) t.directory,
  continued_with before mid e piece stored stored' text t extent rest says is,
  Appends-trans old.output w.output new.output text t.text wrote wrote',
  follows_both old.store w.store new.store stored stored' d e t.directory follows follows',
)

-- the text written if the machine ends with a piece
tells_ended : {X : Type 0} (before after : Future X) (d e : Directory) (piece : List X) (extent : Extent) (rest : List X) (old new : Outlets)
    → Serves d (future_change before after e) piece old new false → Tells d (before extent (piece ++ rest)) old new
tells_ended before after d e piece extent rest old new (text, stored, wrote, says, follows) = (
  stored,
  run_output text e,
  ended_with before after e piece stored text extent rest says,
  wrote,
  follows,
)

-- the answer to a piece, if nothing is to be written yet after it
tells_all : {X : Type 0} (before mid : Future X) (d e : Directory) (piece : List X) (old new : Outlets)
    → Serves d (future_change before mid e) piece old new true → mid SoFar [] [] ≡ Some (run_output [] e) → Tells d (before SoFar piece) old new
tells_all before mid d e piece old new served none =
    subst (λ p. Tells d (before SoFar p) old new) (append-nil piece)
    (tells_after before mid d e piece SoFar [] old new new served ([], run_output [] e, none, Appends-nil new.output, follows_none new.store e))

-- a piece that the store has answered is carried out, if nothing is to be written yet after it
pub carried_all : {X : Type 0} (before after : Future X) (d e : Directory) (piece : List X) (stored : List StoreAnswer) (text : List ℕ) (old new : StoreView)
    → Answers (future_change before after e) piece stored text true → Follows old new stored d e → after SoFar [] [] ≡ Some (run_output [] e) → CarriesOut d (before SoFar piece) old new
carried_all before after d e piece stored text old new says follows none =
    subst (λ p. CarriesOut d (before SoFar p) old new) (append-nil piece) (
      stored ++ [],
      run_output (text ++ []) e,
      continued_with before after e piece stored [] text (run_output [] e) SoFar [] says none,
      follows_both old new new stored [] d e e follows (follows_none new e),
    )

-- a piece after one that is served is carried out
carried_after : {X : Type 0} (before mid : Future X) (d e : Directory) (piece rest : List X) (old w new : Outlets)
    → Serves d (future_change before mid e) piece old w true → CarriesOut e (mid SoFar rest) w.store new.store
    → CarriesOut d (before SoFar (piece ++ rest)) old.store new.store
carried_after before mid d e piece rest old w new (text, stored, wrote, says, follows) (stored', t, is, follows') = (
  stored ++ stored',
  run_output (text ++ t.text) t.directory,
  continued_with before mid e piece stored stored' text t SoFar rest says is,
  follows_both old.store w.store new.store stored stored' d e t.directory follows follows',
)

-- Of a piece, a front has been served: what is left of it, and what that led to.
pub record Fed (before now : Ahead) (d e : Directory) (piece rest : List ℕ) (old new : Outlets) : Type 0 where
  pub front : List ℕ
  pub split : piece ≡ front ++ rest
  pub served : Serves d (future_change before now e) front old new true

pub fed_none : {before : Ahead} {d : Directory} {piece : List ℕ} {w : Outlets} → Fed before before d d piece piece w w
fed_none {before} {d} {piece} {w} = record { front = []; split = refl; served = serves_none before before d w refl }

-- the piece by its front and a line
fed_split : (piece front rest line back : List ℕ) → piece ≡ front ++ rest → rest ≡ line ++ 10 ∷ back → piece ≡ (front ++ (line ++ 10 ∷ [])) ++ back
fed_split piece front rest line back split e = split ∙ ap (λ l. front ++ l) (e ∙ sym (append_assoc line (10 ∷ []) back)) ∙ sym (append_assoc front (line ++ 10 ∷ []) back)

pub fed_more : {before mid after : Ahead} {d e f : Directory} {piece rest : List ℕ} (line : List ℕ) {back : List ℕ} {old w new : Outlets} {goes_on : Bool}
    → Fed before mid d e piece rest old w → rest ≡ line ++ 10 ∷ back → goes_on ≡ true
    → Serves e (future_change mid after f) (line ++ 10 ∷ []) w new goes_on → Fed before after d f piece back old new
fed_more {before} {mid} {after} {d} {e} {f} {piece} {rest} line {back} {old} {w} {new} fed is more served = record {
  front = fed.front ++ (line ++ 10 ∷ []);
  split = fed_split piece fed.front rest line back fed.split is;
  served = serves_both before mid after d e f fed.front (line ++ 10 ∷ []) old w new true fed.served
      (subst (Serves e (future_change mid after f) (line ++ 10 ∷ []) w new) more served);
}

-- the machine ends
pub fed_end : {before mid : Ahead} (after : Ahead) {d e : Directory} (f : Directory) {piece rest : List ℕ} (line back : List ℕ) {old w : Outlets} (new : Outlets)
    {goes_on : Bool} → Fed before mid d e piece rest old w → rest ≡ line ++ 10 ∷ back → goes_on ≡ false
    → Serves e (future_change mid after f) (line ++ 10 ∷ []) w new goes_on → Serves d (future_change before after f) piece old new false
fed_end {before} {mid} after {d} {e} f {piece} {rest} line back {old} {w} new fed is ends served =
    let front = fed.front ++ (line ++ 10 ∷ []) in
    let all = serves_both before mid after d e f fed.front (line ++ 10 ∷ []) old w new false fed.served
    (subst (Serves e (future_change mid after f) (line ++ 10 ∷ []) w new) ends served) in (
      all.0,
      all.1,
      all.2,
      λ extent more later. ap (λ p. before extent (p ++ more) (all.1 ++ later)) (fed_split piece fed.front rest line back fed.split is)
          ∙ ap (λ p. before extent p (all.1 ++ later)) (append_assoc front back more) ∙ all.3 extent (back ++ more) later,
      all.4,
    )

-- the rest of the piece is stored
pub fed_all : {before mid : Ahead} (after : Ahead) {d e : Directory} {piece rest line : List ℕ} {old new : Outlets} → Fed before mid d e piece rest old new → rest ≡ line
    → Answers (future_change mid after e) line [] [] true → Serves d (future_change before after e) piece old new true
fed_all {before} {mid} after {d} {e} {piece} {rest} {line} {old} {new} fed is says =
    subst (λ p. Serves d (future_change before after e) p old new true) (sym (fed.split ∙ ap (λ l. fed.front ++ l) is))
    (serves_both before mid after d e e fed.front line old new new true fed.served ([], [], Appends-nil new.output, says, follows_none new.store e))

-- what is written first, after a piece that is served
pub first_after : (before mid : Ahead) (d e : Directory) (piece front next : List ℕ) (old w new : Outlets) → Serves d (future_change before mid e) piece old w true
    → TellsFirst e (mid SoFar front) (mid Stopped (front ++ next)) w new → TellsFirst d (before SoFar (piece ++ front)) (before Stopped ((piece ++ front) ++ next)) old new
first_after before mid d e piece front next old w new (text, stored, wrote, says, follows) (stored', t, middle, is, wrote', follows', (more, t', is', follows'')) = (
  stored ++ stored',
  run_output (text ++ t.text) t.directory,
  middle,
  continued_with before mid e piece stored stored' text t SoFar front says is,
  Appends-trans old.output w.output new.output text t.text wrote wrote',
  follows_both old.store w.store middle stored stored' d e t.directory follows follows',
  (
    more,
    run_output (text ++ t'.text) t'.directory,
    ap (λ p. before Stopped p ((stored ++ stored') ++ more)) (append_assoc piece front next)
        ∙ ap (before Stopped (piece ++ (front ++ next))) (append_assoc stored stored' more)
        ∙ continued_with before mid e piece stored (stored' ++ more) text t' Stopped (front ++ next) says is',
    follows'',
  ),
)

-- nothing is written of what comes next
kept_first : (future : Ahead) (d : Directory) (next : List ℕ) (w new : Outlets) → Keeps w.output new.output
    → CarriesOut d (future Stopped next) w.store new.store → future SoFar [] [] ≡ Some (run_output [] d)
    → TellsFirst d (future SoFar []) (future Stopped ([] ++ next)) w new
kept_first future d next w new kept asked none =
    ([], run_output [] d, w.store, none, Appends-kept w.output w.output new.output [] (Appends-nil w.output) kept, follows_none w.store d, asked)

pub none_ends : EndsOneAtMost []
none_ends = ([], All-nil (λ b. (b == 10) ≡ false), inl refl)

-- an allocation fails
pub fed_broken : {before mid : Ahead} {d e : Directory} {piece rest : List ℕ} (next back : List ℕ) {old w : Outlets} (new : Outlets)
    → Fed before mid d e piece rest old w → rest ≡ next ++ back → EndsOneAtMost next → Keeps w.output new.output
    → CarriesOut e (mid Stopped next) w.store new.store → mid SoFar [] [] ≡ Some (run_output [] e) → FailsToFeed d before piece old new Memory
fed_broken {before} {mid} {d} {e} next back {old} {w} new fed is one kept asked none = (
  fed.front,
  next,
  back,
  fed.split ∙ ap (λ r. fed.front ++ r) is,
  one,
  subst (λ p. TellsFirst d (before SoFar p) (before Stopped (p ++ next)) old new) (append-nil fed.front)
      (first_after before mid d e fed.front [] next old w new fed.served (kept_first mid e next w new kept asked none)),
)

-- a line that a piece ends is carried out, or so far as the run goes
line_carried : (before before' : LineState) (begun piece line : List ℕ) (extent : Extent) (old new : StoreView) → before' ≡ before → IsClean begun
    → IsClean piece → line ≡ take most_kept (begun ++ piece) → CarriesOut before'.directory (before'.future extent (line ∷ [])) old new
    → CarriesOut before.directory (future_of_bytes before.future begun extent (piece ++ 10 ∷ [])) old new
line_carried before before' begun piece line extent old new same clean clean_piece is (stored, t, says, follows) = (
  stored,
  t,
  line_alone before.future begun piece line extent stored clean clean_piece is ∙ sym (ap (λ (s : LineState). s.future extent (line ∷ []) stored) same) ∙ says,
  subst (λ (s : LineState). Follows old new stored s.directory t.directory) same follows,
)

-- a line that a piece ends is served, or a fault comes
pub serve_line : (r : Result Bool RunFault) (before before' after : LineState) (begun piece line begun' : List ℕ) (old new : Outlets) → before' ≡ before → IsClean begun → IsClean piece
    → line ≡ take most_kept (begun ++ piece) → begun' ≡ []
    → MatchResult r (Served before' after line old new) (FailsToServe before'.directory (λ x. before'.future x (line ∷ [])) old new)
    → MatchResult r (Serves before.directory (future_change (future_of_bytes before.future begun) (future_of_bytes after.future begun') after.directory)
    (piece ++ 10 ∷ []) old new) (FailsToServe before.directory (λ x. future_of_bytes before.future begun x (piece ++ 10 ∷ [])) old new)
serve_line (Ok goes_on) before before' after begun piece line begun' old new same clean clean_piece is none (text, stored, wrote, says, follows) = (
  text,
  stored,
  wrote,
  line_ended before.future after.future after.directory begun piece line begun' stored text goes_on clean clean_piece is none
      (subst (λ (s : LineState). Answers (change_between s after) (line ∷ []) stored text goes_on) same says),
  subst (λ (s : LineState). Follows old.store new.store stored s.directory after.directory) same follows,
)
serve_line (Err Read) before before' after begun piece line begun' old new same clean clean_piece is none h = absurd h
serve_line (Err Write) before before' after begun piece line begun' old new same clean clean_piece is none h =
    line_carried before before' begun piece line SoFar old.store new.store same clean clean_piece is h
serve_line (Err Memory) before before' after begun piece line begun' old new same clean clean_piece is none h =
    (h.0, line_carried before before' begun piece line Stopped old.store new.store same clean clean_piece is h.1)

-- the last line is served: the text is that written after the line that has begun
last_line : (before before' : LineState) (begun line : List ℕ) (old new : Outlets) → before' ≡ before → line ≡ begun → IsClean begun → 0 < length begun → length begun ≤ most_kept
    → Tells before'.directory (before'.future Whole (line ∷ [])) old new → Tells before.directory (future_of_bytes before.future begun Whole []) old new
last_line before before' begun line old new same e clean some short (stored, t, is, wrote, follows) = (
  stored,
  t,
  last_ahead before.future begun stored clean some short ∙ ap (λ l. before.future Whole (l ∷ []) stored) (sym e)
      ∙ sym (ap (λ (s : LineState). s.future Whole (line ∷ []) stored) same) ∙ is,
  wrote,
  subst (λ (s : LineState). Follows old.store new.store stored s.directory t.directory) same follows,
)

-- the last line, if the machine ends with it
pub last_served : (before before' after : LineState) (begun line : List ℕ) (old new : Outlets) → before' ≡ before → line ≡ begun → IsClean begun
    → 0 < length begun → length begun ≤ most_kept → Served before' after line old new false → Tells before.directory (future_of_bytes before.future begun Whole []) old new
last_served before before' after begun line old new same is clean some short served =
    last_line before before' begun line old new same is clean some short
    (tells_ended before'.future after.future before'.directory after.directory (line ∷ []) Whole [] old new served)

-- the last line, and then the last words
last_said : (before before' after : LineState) (begun line words : List ℕ) (old w : Outlets) (new : Option (List ℕ)) → before' ≡ before → line ≡ begun → IsClean begun → 0 < length begun
    → length begun ≤ most_kept → Served before' after line old w true → after.future Whole [] [] ≡ Some (run_output words after.directory)
    → Appends w.output new words → Tells before.directory (future_of_bytes before.future begun Whole []) old (outlets new w.store)
last_said before before' after begun line words old w new same is clean some short served words_are said =
    last_line before before' begun line old (outlets new w.store) same is clean some short
    (tells_after before'.future after.future before'.directory after.directory (line ∷ []) Whole [] old w (outlets new w.store) served
    ([], run_output words after.directory, words_are, said, follows_none w.store after.directory))

-- the exit of a `?`, by the fault that it passes on
pub fault_exit : {T : Type 0} (r : Result T RunFault) (P : T → Type 0) (Q : RunFault → Type 0) (fault : RunFault) → IsErr r × IsErrAnd r (λ e. e ≡ fault) → Q fault → MatchResult r P Q
fault_exit (Ok x) P Q fault h q = let e = h.0 in cc
fault_exit (Err e) P Q fault h q = subst Q (sym h.1) q

-- no byte of a line is a line feed
pub is_clean : (line : List ℕ) → HasNoByte 10 line → IsClean line
is_clean line has = λ k d below. not-true _ (has k d below)

-- a fault while a line is served breaks the piece off
pub fed_fault : {before mid : Ahead} {d e : Directory} {piece rest : List ℕ} (line back : List ℕ) {old w : Outlets} (new : Outlets) (fault : RunFault)
    → Fed before mid d e piece rest old w → rest ≡ line ++ 10 ∷ back → IsClean line → FailsToServe e (λ x. mid x (line ++ 10 ∷ [])) w new fault
    → mid SoFar [] [] ≡ Some (run_output [] e) → FailsToFeed d before piece old new fault
fed_fault line back new Read fed is clean h none = h
fed_fault {before} {mid} {d} {e} {piece} {rest} line back {old} {w} new Write fed is clean h none = (
  fed.front ++ (line ++ 10 ∷ []),
  back,
  fed_split piece fed.front rest line back fed.split is,
  carried_after before mid d e fed.front (line ++ 10 ∷ []) old w new fed.served h,
)
fed_fault line back new Memory fed is clean h none =
    fed_broken (line ++ 10 ∷ []) back new fed (is ∙ sym (append_assoc line (10 ∷ []) back)) (line, clean, inr refl) h.0 h.1 none

-- the last line is carried out, or so far as the run goes
last_carried : (before before' : LineState) (begun line : List ℕ) (extent : Extent) (old new : StoreView) → before' ≡ before → line ≡ begun → IsClean begun → length begun ≤ most_kept
    → CarriesOut before'.directory (before'.future extent (line ∷ [])) old new → CarriesOut before.directory (future_of_bytes before.future begun extent (10 ∷ [])) old new
last_carried before before' begun line extent old new same is clean short (stored, t, says, follows) = (
  stored,
  t,
  last_alone before.future begun line extent stored clean short is ∙ sym (ap (λ (s : LineState). s.future extent (line ∷ []) stored) same) ∙ says,
  subst (λ (s : LineState). Follows old new stored s.directory t.directory) same follows,
)

-- a fault while the last line is served leaves the end of the input unserved
pub last_fault : (fault : RunFault) (before before' : LineState) (begun line : List ℕ) (old new : Outlets) → before' ≡ before → line ≡ begun → IsClean begun → length begun ≤ most_kept
    → FailsToServe before'.directory (λ x. before'.future x (line ∷ [])) old new fault → FailsAtEnd before.directory (future_of_bytes before.future begun) old new fault
last_fault Read before before' begun line old new same is clean short h = h
last_fault Write before before' begun line old new same is clean short h = inr (last_carried before before' begun line SoFar old.store new.store same is clean short h)
last_fault Memory before before' begun line old new same is clean short h = (h.0, last_carried before before' begun line Stopped old.store new.store same is clean short h.1)

-- if nothing has come of a last line, the last words are written
pub finish_none : (r : Result (Unit {0}) RunFault) (s : LineState) (begun words : List ℕ) (old : Outlets) (new : Option (List ℕ)) → length begun ≤ 0
    → s.future Whole [] [] ≡ Some (run_output words s.directory) → future_of_bytes s.future begun SoFar [] [] ≡ Some (run_output [] s.directory)
    → MatchResult r (λ _. Appends old.output new words) (λ fault. fault ≡ Write)
    → MatchResult r (λ _. Tells s.directory (future_of_bytes s.future begun Whole []) old (outlets new old.store))
    (FailsAtEnd s.directory (future_of_bytes s.future begun) old (outlets new old.store))
finish_none (Ok x) s begun words old new none e waits said = ([], run_output words s.directory, none_ahead s.future begun [] none ∙ e, said, follows_none old.store s.directory)
finish_none (Err fault) s begun words old new none e waits said =
    subst (FailsAtEnd s.directory (future_of_bytes s.future begun) old (outlets new old.store)) (sym said) (inl ([], run_output [] s.directory, waits, follows_none old.store s.directory))

-- else they are written after the answer to the last line
pub finish_said : (r : Result (Unit {0}) RunFault) (before before' after : LineState) (begun line words : List ℕ) (old w : Outlets) (new : Option (List ℕ)) {goes_on : Bool}
    → before' ≡ before → line ≡ begun → IsClean begun → 0 < length begun → length begun ≤ most_kept → goes_on ≡ true → Served before' after line old w goes_on
    → after.future Whole [] [] ≡ Some (run_output words after.directory) → after.future SoFar [] [] ≡ Some (run_output [] after.directory)
    → MatchResult r (λ _. Appends w.output new words) (λ fault. fault ≡ Write)
    → MatchResult r (λ _. Tells before.directory (future_of_bytes before.future begun Whole []) old (outlets new w.store))
    (FailsAtEnd before.directory (future_of_bytes before.future begun) old (outlets new w.store))
finish_said (Ok x) before before' after begun line words old w new same is clean some short more served are waits said =
    last_said before before' after begun line words old w new same is clean some short (subst (Served before' after line old w) more served) are said
finish_said (Err fault) before before' after begun line words old w new same is clean some short more served are waits said =
    let whole : Served before' after line old w true = subst (Served before' after line old w) more served in
    subst (FailsAtEnd before.directory (future_of_bytes before.future begun) old (outlets new w.store)) (sym said)
    (last_fault Write before before' begun line old (outlets new w.store) same is clean short
    (carried_all before'.future after.future before'.directory after.directory (line ∷ []) whole.1 whole.0 old.store w.store whole.3 whole.4 waits))

-- a test of whether anything has come
pub is_empty : (begun : List ℕ) (len : ℕ) → len ≡ length begun → (len == 0) ≡ true → length begun ≤ 0
is_empty begun len e h = grind (arith, nat_tests)

pub not_empty : (begun : List ℕ) (len : ℕ) → len ≡ length begun → (len == 0) ≡ false → 0 < length begun
not_empty begun len e h = grind (arith, nat_tests)

-- an end of a run
abbrev at : Option (List ℕ) → Outlets → RunEnds
at input out = record { input = input; out = out }

-- The part of an input that was read is served: at least as many bytes as there were reads, and their results.
pub record Heard (made : ℕ) (before now : Ahead) (d e : Directory) (input left : Option (List ℕ)) (old new : Outlets) : Type 0 where
  pub taken : List ℕ
  pub enough : made ≤ length taken
  pub took : Consumes input left taken
  pub served : Serves d (future_change before now e) taken old new true

pub heard_none : {before now : Ahead} {d e : Directory} {input : Option (List ℕ)} {w : Outlets} → now ≡ before → e ≡ d → Heard 0 before now d e input input w w
heard_none {before} {now} {d} {e} {input} {w} same same' = record {
  taken = [];
  enough = omega arith;
  took = Consumes-nil input;
  served = subst (λ e. Serves d (future_change before now e) [] w w true) (sym same') (serves_none before now d w same);
}

pub heard_turn : {made : ℕ} {before mid after : Ahead} {d e f : Directory} {input left left' : Option (List ℕ)} {old w new : Outlets} {goes_on : Bool}
    → Heard made before mid d e input left old w → goes_on ≡ true
    → Turn e (future_change mid after f) (at left w) (at left' new) goes_on → Heard (made + 1) before after d f input left' old new
heard_turn {before} {mid} {after} {d} {e} {f} {input} {left} {left'} {old} {w} {new} h more turn =
    let t : Turn e (future_change mid after f) (at left w) (at left' new) true = subst (Turn e (future_change mid after f) (at left w) (at left' new)) more turn in record {
      taken = h.taken ++ t.0;
      enough = omega (arith, h.enough, t.1, length-append h.taken t.0);
      took = Consumes-trans input left left' h.taken t.0 h.took t.2;
      served = serves_both before mid after d e f h.taken t.0 old w new true h.served t.3;
    }

-- all of the input is answered
heard_text : (before mid : Ahead) (taken : List ℕ) (first second : List StoreAnswer) (text : List ℕ) (t : RunOutput)
    (input left old w new : Option (List ℕ)) → Consumes input left taken → Appends old w text
    → ((rest : List ℕ) → mid Whole rest second ≡ Some t → before Whole (taken ++ rest) (first ++ second) ≡ Some (run_output (text ++ t.text) t.directory))
    → IfSome left (λ rest. (mid Whole rest second ≡ Some t) × Appends w new t.text)
    → IfSome input (λ bytes. (before Whole bytes (first ++ second) ≡ Some (run_output (text ++ t.text) t.directory)) × Appends old new (text ++ t.text))
heard_text before mid taken first second text t None left old w new took wrote says h = tt
heard_text before mid taken first second text t (Some bytes) None old w new took wrote says h = absurd took
heard_text before mid taken first second text t (Some bytes) (Some rest) old w new took wrote says h =
    (ap (λ b. before Whole b (first ++ second)) took ∙ says rest h.0, Appends-trans old w new text t.text wrote h.1)

pub heard_end : {made : ℕ} {before mid : Ahead} (after : Ahead) {d e : Directory} (f : Directory) {input left : Option (List ℕ)} (left' : Option (List ℕ)) {old w : Outlets}
    (new : Outlets) {goes_on : Bool} → Heard made before mid d e input left old w → goes_on ≡ false
    → Turn e (future_change mid after f) (at left w) (at left' new) goes_on → AnswersInput d before (at input old) (at left' new)
heard_end {before} {mid} after {d} {e} f {input} {left} left' {old} {w} new h ends turn =
    let rest : AnswersInput e mid (at left w) (at left' new) = subst (Turn e (future_change mid after f) (at left w) (at left' new)) ends turn in
    let stored = h.served.1 in
    let text = h.served.0 in (
      stored ++ rest.0,
      run_output (text ++ rest.1.text) rest.1.directory,
      follows_both old.store w.store new.store stored rest.0 d e rest.1.directory h.served.4 rest.2,
      heard_text before mid h.taken stored rest.0 text rest.1 input left old.output w.output new.output h.took h.served.2
          (λ more is. continued_with before mid e h.taken stored rest.0 text rest.1 Whole more h.served.3 is) rest.3,
    )

-- a fault leaves what it leaves of the rest
pub heard_left : {made : ℕ} {before mid : Ahead} {d e : Directory} {input left : Option (List ℕ)} (left' : Option (List ℕ)) {old w : Outlets} (new : Outlets)
    (fault : RunFault) → Heard made before mid d e input left old w
    → Leaves e mid (at left w) (at left' new) fault → Leaves d before (at input old) (at left' new) fault
heard_left {before} {mid} {d} {e} {input} {left} left' {old} {w} new Read h (taken, took, tells) = (
  h.taken ++ taken,
  Consumes-trans input left left' h.taken taken h.took took,
  tells_after before mid d e h.taken SoFar taken old w new h.served tells,
)
heard_left {before} {mid} {d} {e} {input} {left} left' {old} {w} new Write h (Within front back took carried) =
    Within (h.taken ++ front) back (subst (Consumes input left') (sym (append_assoc h.taken front back)) (Consumes-trans input left left' h.taken (front ++ back) h.took took))
    (carried_after before mid d e h.taken front old w new h.served carried)
heard_left {before} {mid} {d} {e} {input} {left} left' {old} {w} new Write h (AtTheEnd taken took end carried) =
    AtTheEnd (h.taken ++ taken) (Consumes-trans input left left' h.taken taken h.took took) end
    (subst (λ b. CarriesOut d (before SoFar b) old.store new.store) (sym (append_assoc h.taken taken (10 ∷ []))) (carried_after before mid d e h.taken (taken ++ 10 ∷ []) old w new h.served carried))
heard_left {before} {mid} {d} {e} {input} {left} left' {old} {w} new Memory h (InHand front next back took one first) =
    InHand (h.taken ++ front) next back
    (subst (Consumes input left') (sym (append_assoc h.taken front (next ++ back))) (Consumes-trans input left left' h.taken (front ++ (next ++ back)) h.took took))
    one (first_after before mid d e h.taken front next old w new h.served first)
heard_left {before} {mid} {d} {e} {input} {left} left' {old} {w} new Memory h (LastInHand taken took end first) =
    LastInHand (h.taken ++ taken) (Consumes-trans input left left' h.taken taken h.took took) end (first_after before mid d e h.taken taken (10 ∷ []) old w new h.served first)

-- the number of reads
pub heard_so_far : {made : ℕ} {before mid : Ahead} {d e : Directory} {input left : Option (List ℕ)} {old new : Outlets} → Heard made before mid d e input left old new
    → mid SoFar [] [] ≡ Some (run_output [] e) → Leaves d before (at input old) (at left new) Read
heard_so_far {before} {mid} {d} {e} {input} {left} {old} {new} h none = (h.taken, h.took, tells_all before mid d e h.taken old new h.served none)

-- each of the reads took a byte or more of the input
pub heard_enough : {made : ℕ} {before now : Ahead} {d e : Directory} {input left : Option (List ℕ)} {old new : Outlets}
    → Heard made before now d e input left old new → IfSome input (λ bytes. made ≤ length bytes)
heard_enough {input = None} h = tt
heard_enough {input = Some bytes} {left = None} h = absurd h.took
heard_enough {input = Some bytes} {left = Some rest} h = omega (arith, h.enough, ap length h.took, length-append h.taken rest)

-- a read failed
pub turn_failed : (before : Ahead) (d : Directory) (input left : Option (List ℕ)) (w : Outlets) → Keeps input left
    → before SoFar [] [] ≡ Some (run_output [] d) → Leaves d before (at input w) (at left w) Read
turn_failed before d input left w kept none = ([], Consumes-kept input input left [] (Consumes-nil input) kept, ([], run_output [] d, none, Appends-nil w.output, follows_none w.store d))

-- bytes were read
pub some_read : (count : ℕ) (buffer : List ℕ) → 0 < count → count ≤ length buffer → 0 < length (take count buffer)
some_read count buffer some within = omega (arith, length-take count buffer)

-- the machine extent with a piece
whole_output : (future : List ℕ → Option RunOutput) (piece : List ℕ) (t : RunOutput) (input left old new : Option (List ℕ))
    → Consumes input left piece → Appends old new t.text → ((rest : List ℕ) → future (piece ++ rest) ≡ Some t)
    → IfSome input (λ bytes. (future bytes ≡ Some t) × Appends old new t.text)
whole_output future piece t None left old new took wrote says = tt
whole_output future piece t (Some bytes) None old new took wrote says = absurd took
whole_output future piece t (Some bytes) (Some rest) old new took wrote says = (ap future took ∙ says rest, wrote)

-- a piece was fed
pub turn_fed : (r : Result Bool RunFault) (before after : Ahead) (d e : Directory) (piece : List ℕ) (input left : Option (List ℕ)) (old new : Outlets) → 0 < length piece → Consumes input left piece
    → MatchResult r (Serves d (future_change before after e) piece old new) (FailsToFeed d before piece old new)
    → MatchResult r (Turn d (future_change before after e) (at input old) (at left new)) (Leaves d before (at input old) (at left new))
turn_fed (Ok true) before after d e piece input left old new some took served = (piece, some, took, served)
turn_fed (Ok false) before after d e piece input left old new some took (text, stored, wrote, says, follows) = (
  stored,
  run_output text e,
  follows,
  whole_output (λ bytes. before Whole bytes stored) piece (run_output text e) input left old.output new.output took wrote (λ rest. ended_with before after e piece stored text Whole rest says),
)
turn_fed (Err Read) before after d e piece input left old new some took h = absurd h
turn_fed (Err Write) before after d e piece input left old new some took (front, back, split, carried) =
    Within front back (subst (Consumes input left) split took) carried
turn_fed (Err Memory) before after d e piece input left old new some took (front, next, back, split, one, first) =
    InHand front next back (subst (Consumes input left) split took) one first

-- the end of the input came
end_output : (future : List ℕ → Option RunOutput) (t : RunOutput) (input left old new : Option (List ℕ)) → Consumes input left [] → IsAtEnd left → Appends old new t.text → future [] ≡ Some t
    → IfSome input (λ bytes. (future bytes ≡ Some t) × Appends old new t.text)
end_output future t None left old new took end wrote is = tt
end_output future t (Some bytes) None old new took end wrote is = absurd took
end_output future t (Some bytes) (Some rest) old new took end wrote is = (ap future (took ∙ end) ∙ is, wrote)

pub turn_ended : (before : Ahead) (d : Directory) (input left : Option (List ℕ)) (old new : Outlets) → Consumes input left [] × IsAtEnd left
    → Tells d (before Whole []) old new → AnswersInput d before (at input old) (at left new)
turn_ended before d input left old new (took, end) (stored, t, is, wrote, follows) =
    (stored, t, follows, end_output (λ bytes. before Whole bytes stored) t input left old.output new.output took end wrote is)

pub turn_unserved : (before : Ahead) (d : Directory) (input left : Option (List ℕ)) (old new : Outlets) (fault : RunFault)
    → Consumes input left [] × IsAtEnd left → before SoFar [] [] ≡ Some (run_output [] d)
    → FailsAtEnd d before old new fault → Leaves d before (at input old) (at left new) fault
turn_unserved before d input left old new Read (took, end) none h = absurd h
turn_unserved before d input left old new Write (took, end) none (inl carried) = Within [] [] took carried
turn_unserved before d input left old new Write (took, end) none (inr carried) = AtTheEnd [] took end carried
turn_unserved before d input left old new Memory (took, end) none h = LastInHand [] took end (kept_first before d (10 ∷ []) old new h.0 h.1 none)

-- a read of no byte found the end of the input
pub nothing_read : (count : ℕ) (buffer : List ℕ) (input left : Option (List ℕ)) → count ≤ 0 → 0 < length buffer → Consumes input left (take count buffer)
    → (count ≡ 0 → 0 < length buffer → IsAtEnd left) → Consumes input left [] × IsAtEnd left
nothing_read count buffer input left none room took end =
    let e : count ≡ 0 = omega arith in
    (subst (λ n. Consumes input left (take n buffer)) e took, end e room)

-- the fault of an exit
pub fault_is : {T : Type 0} (r : Result T RunFault) (fault : RunFault) → IsErr r × IsErrAnd r (λ e. e ≡ fault) → r ≡ Err fault
fault_is (Ok x) fault h = let e = h.0 in cc
fault_is (Err e) fault h = ap Err h.1

-- a read's counts in a run that ends with its fault
pub reads_exit : (fault : RunFault) (input : Option (List ℕ)) (failures failures' calls calls' : ℕ)
    → failures' ≡ raised failures (read_faults {T = Unit {0}} (Err fault)) → Reads {T = Unit {0}} input (read_counts failures calls) (read_counts failures' calls') (Err fault)
reads_exit Read input failures failures' calls calls' e = Failed e
reads_exit Write input failures failures' calls calls' e = e ∙ raised_none failures
reads_exit Memory input failures failures' calls calls' e = e ∙ raised_none failures

-- one more call
pub calls_more : (old now new counter : ℕ) → now ≡ raised old counter → new ≡ raised now 1 → new ≡ raised old (counter + 1)
calls_more old now new counter e f = f ∙ ap (λ c. raised c 1) e ∙ raised_twice old counter 1
