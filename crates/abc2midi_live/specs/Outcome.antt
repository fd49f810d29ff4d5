-- How a run ends, and what it leaves. Not in ABC 2.1.
use Rattle.std.specs.Prelude.{◌≡◌, ℕ, ◌<◌, ◌≤◌, Bool, true, false, List, [], ◌∷◌, ◌++◌, length, Option, Some, Result, Ok, Err, ⊤}
use Rattle.std.specs.Prelude.{◌⊎◌, IfSome, IsSome, MatchResult}
use Rattle.std.specs.Io.KnownBytes.{Appends, Consumes, IsAtEnd, Keeps}
use Rattle.abc_publish.specs.Publisher.{Directory}
use Rattle.abc_text.specs.Byte.{line_feed}
use Rattle.abc2midi_live.specs.Machine.{change_between, Answers, CarriesOut, EndsOneAtMost, Future, MachineState, FutureChange}
use Rattle.abc2midi_live.specs.Storing.{Follows, HasNoFiles, MirrorsWhereTold, StoreAnswer, StoreView, faults_among}
use Rattle.abc2midi_live.specs.RunOutput.{Extent, Whole, SoFar, Stopped, RunOutput, is_whole}
use Rattle.abc2midi_live.specs.Transcript.{input_lines, no_directory, transcript, transcript_of}
use Rattle.abc_fold.specs.Work.{raised}
use Rattle.abc2midi_live.specs.declared.run_loop.TheConstants.{MOST_READS}
use Rattle.abc2midi_live.specs.declared.run_fault.RunFault.{RunFault}
use Rattle.abc2midi_live.specs.declared.run_fault.RunFault.TheVariants.{Read, Write, Memory}

-- How many faults of the writer a result reports.
abbrev pub write_faults : {T : Type 0} → Result T RunFault → ℕ
write_faults (Err Write) = 1
write_faults _ = 0

-- The visible state of a writer and of a store: the bytes written, if they are known, and the store.
pub record Outlets : Type 0 where
  pub output : Option (List ℕ)
  pub store : StoreView

abbrev pub outlets : Option (List ℕ) → StoreView → Outlets
outlets output store = record { output = output; store = store }

abbrev pub outlets_of : {W S : Type 0} → (W → Option (List ℕ)) → (S → StoreView) → W → S → Outlets
outlets_of contents seen writer store = outlets (contents writer) (seen store)

-- The result of a fault while a tune book is taken: an allocation fails before anything is written of its answer.
abbrev pub FailsToOpen : Option (List ℕ) → Option (List ℕ) → RunFault → Type 0
FailsToOpen old new Read = ⊥
FailsToOpen old new Write = ⊤
FailsToOpen old new Memory = Keeps old new

-- The result of a fault while a line is served. If its answer cannot be written, the line is carried out. An
-- allocation fails before anything is written of its answer, and the run stops within it. The last argument is the
-- known directory before it.
abbrev pub FailsToServe : Directory → (Extent → List StoreAnswer → Option RunOutput) → Outlets → Outlets → RunFault → Type 0
FailsToServe before answered old new Read = ⊥
FailsToServe before answered old new Write = CarriesOut before (answered SoFar) old.store new.store
FailsToServe before answered old new Memory = Keeps old.output new.output × CarriesOut before (answered Stopped) old.store new.store

-- A piece is served: the text written and the store's answers are the answer to the piece. The last argument is the
-- known directory before it.
abbrev pub Serves : {X : Type 0} → Directory → FutureChange X → List X → Outlets → Outlets → Bool → Type 0
Serves before t piece old new goes_on =
    (text : List ℕ) × (stored : List StoreAnswer) × Appends old.output new.output text × Answers t piece stored text goes_on
    × Follows old.store new.store stored before t.directory

-- The result of a piece that is served, or of the fault that it ends in.
abbrev pub ServesOrFails : {X : Type 0} → MachineState X → MachineState X → List X → Outlets → Outlets → Result Bool RunFault
    → Type 0
ServesOrFails before after piece old new result =
    MatchResult result (Serves before.directory (change_between before after) piece old new)
    (FailsToServe before.directory (λ extent. before.future extent piece) old new)

-- What is written for the answers of a store is written, and these are its answers.
abbrev pub Tells : Directory → (List StoreAnswer → Option RunOutput) → Outlets → Outlets → Type 0
Tells before answered old new =
    (stored : List StoreAnswer) × (run_output : RunOutput) × (answered stored ≡ Some run_output)
    × Appends old.output new.output run_output.text
    × Follows old.store new.store stored before run_output.directory

-- The result of a fault while the end of the input is served, which ends a line that has begun as a line feed does. If
-- something cannot be written, that line is carried out, if there is one. If an allocation fails, the run stops within
-- it.
abbrev pub FailsAtEnd : Directory → Future ℕ → Outlets → Outlets → RunFault → Type 0
FailsAtEnd before future old new Read = ⊥
FailsAtEnd before future old new Write =
    CarriesOut before (future SoFar []) old.store new.store ⊎ CarriesOut before (future SoFar (line_feed ∷ [])) old.store new.store
FailsAtEnd before future old new Memory = Keeps old.output new.output
    × CarriesOut before (future Stopped (line_feed ∷ [])) old.store new.store

-- The result of the end of the input, or of the fault that serving it ends in.
abbrev pub TellsOrFails : MachineState ℕ → Outlets → Outlets → Result Unit RunFault → Type 0
TellsOrFails before old new result =
    MatchResult result (λ _. Tells before.directory (before.future Whole []) old new)
    (FailsAtEnd before.directory before.future old new)

-- The text for the first answers of a store is written. Its later answers belong to the command in hand, within which
-- the run stops: `in_hand` includes the answer to that command, and nothing of that answer is written.
abbrev pub TellsFirst : Directory → (List StoreAnswer → Option RunOutput) → (List StoreAnswer → Option RunOutput) → Outlets
    → Outlets → Type 0
TellsFirst before answered in_hand old new =
    (stored : List StoreAnswer) × (run_output : RunOutput) × (middle : StoreView) × (answered stored ≡ Some run_output)
    × Appends old.output new.output run_output.text
    × Follows old.store middle stored before run_output.directory
    × CarriesOut run_output.directory (λ more. in_hand (stored ++ more)) middle new.store

-- The result of a fault while a piece of the input is served. If an answer cannot be written, a front of the piece is
-- carried out. If an allocation fails, a front of it is answered, and the run stops within the command of the next line.
abbrev pub FailsToFeed : Directory → Future ℕ → List ℕ → Outlets → Outlets → RunFault → Type 0
FailsToFeed before future piece old new Read = ⊥
FailsToFeed before future piece old new Write =
    (front : List ℕ) × (back : List ℕ) × (piece ≡ front ++ back) × CarriesOut before (future SoFar front) old.store new.store
FailsToFeed before future piece old new Memory =
    (front : List ℕ) × (next : List ℕ) × (back : List ℕ) × (piece ≡ front ++ (next ++ back)) × EndsOneAtMost next
    × TellsFirst before (future SoFar front) (future Stopped (front ++ next)) old new

-- The result of a piece of the input that is served, or of the fault within it.
abbrev pub FeedsOrBreaks : MachineState ℕ → MachineState ℕ → List ℕ → Outlets → Outlets → Result Bool RunFault → Type 0
FeedsOrBreaks before after piece old new result =
    MatchResult result (Serves before.directory (change_between before after) piece old new)
    (FailsToFeed before.directory before.future piece old new)

-- The ends of a run, if they are known: the bytes left in the reader, the bytes in the writer, and the visible state of
-- the store.
pub record RunEnds : Type 0 where
  pub input : Option (List ℕ)
  pub out : Outlets

abbrev pub run_ends : Option (List ℕ) → Option (List ℕ) → StoreView → RunEnds
run_ends input output store = record { input = input; out = outlets output store }

abbrev pub run_ends_of : {R W S : Type 0} → (R → Option (List ℕ)) → (W → Option (List ℕ)) → (S → StoreView) → R → W → S → RunEnds
run_ends_of remaining contents seen reader writer store = run_ends (remaining reader) (contents writer) (seen store)

-- The commands that were carried out if an answer could not be written, the one in hand among them. The store was
-- called for these and for nothing else. The definition leaves open what was written.
pub data WriteFailure (before : Directory) (answered : List ℕ → List StoreAnswer → Option RunOutput)
    (old new : RunEnds) : Type 0 where
  -- Those that are wholly within a front of what was read.
  Within :
      (front : List ℕ) → (back : List ℕ) → Consumes old.input new.input (front ++ back)
      → CarriesOut before (answered front) old.out.store new.out.store → WriteFailure before answered old new
  -- Those of the whole input, whose end ends its last line as a line feed does.
  AtTheEnd :
      (taken : List ℕ) → Consumes old.input new.input taken → IsAtEnd new.input
      → CarriesOut before (answered (taken ++ line_feed ∷ [])) old.out.store new.out.store → WriteFailure before answered old new

-- The commands that were answered before the one in hand, for which an allocation failed. The store was called for
-- these and for the first requests of the one in hand, if it has any, and for nothing else.
pub data MemoryFailure (before : Directory) (answered : Future ℕ) (old new : RunEnds) : Type 0 where
  -- Those before one that ends within what was read, or that had not ended yet.
  InHand :
      (front next back : List ℕ) → Consumes old.input new.input (front ++ (next ++ back)) → EndsOneAtMost next
      → TellsFirst before (answered SoFar front) (answered Stopped (front ++ next)) old.out new.out
      → MemoryFailure before answered old new
  -- Those before the last, which the end of the input ends as a line feed does.
  LastInHand :
      (taken : List ℕ) → Consumes old.input new.input taken → IsAtEnd new.input
      → TellsFirst before (answered SoFar taken) (answered Stopped (taken ++ line_feed ∷ [])) old.out new.out
      → MemoryFailure before answered old new

-- The result of a fault in a run, from its ends at first to those at last. `answered` is the text to be written for an
-- extent of an input and answers of the store, and `before` the known directory at first.
abbrev pub Leaves : Directory → Future ℕ → RunEnds → RunEnds → RunFault → Type 0
-- The answers to the commands wholly read.
Leaves before answered old new Read = (taken : List ℕ) × Consumes old.input new.input taken
    × Tells before (answered SoFar taken) old.out new.out
-- The store as the commands up to the one in hand leave it.
Leaves before answered old new Write = WriteFailure before (answered SoFar) old new
-- The answers to the commands before the one in hand, and the store as it was asked for some of what this asks for.
Leaves before answered old new Memory = MemoryFailure before answered old new

-- The result of a fault in a run that begins with a tune book. The book counts as a command, the first one. If an allocation
-- fails, its answer may not come: then nothing is read or written, and the store is not called.
abbrev pub LeavesRun : Option (List ℕ) → Future ℕ → RunEnds → RunEnds → RunFault → Type 0
LeavesRun book answered old new Read = Leaves no_directory answered old new Read
LeavesRun book answered old new Write = Leaves no_directory answered old new Write
LeavesRun book answered old new Memory =
    Leaves no_directory answered old new Memory
    ⊎ (IsSome book × Keeps old.input new.input × Keeps old.out.output new.out.output × (new.out.store ≡ old.out.store))

-- All of an input is answered, if it is known. In any case the store's answers lead to a directory.
abbrev pub AnswersInput : Directory → Future ℕ → RunEnds → RunEnds → Type 0
AnswersInput before future old new =
    (stored : List StoreAnswer) × (run_output : RunOutput) × Follows old.out.store new.out.store stored before run_output.directory
    × IfSome old.input (λ bytes. (future Whole bytes stored ≡ Some run_output)
    × Appends old.out.output new.out.output run_output.text)

-- The result of one read, from the known directory before it. If the run goes on, the read took bytes, and these are
-- answered as far as possible; else all that there was to read is answered.
abbrev pub Turn : Directory → FutureChange ℕ → RunEnds → RunEnds → Bool → Type 0
Turn before t old new true =
    (taken : List ℕ) × (0 < length taken) × Consumes old.input new.input taken × Serves before t taken old.out new.out true
Turn before t old new false = AnswersInput before t.before old new

-- The result of one read, or of the fault that it ends in.
abbrev pub TurnsOrFails : MachineState ℕ → MachineState ℕ → RunEnds → RunEnds → Result Bool RunFault → Type 0
TurnsOrFails before after old new result =
    MatchResult result (Turn before.directory (change_between before after) old new) (Leaves before.directory before.future old new)

-- A machine in this state answers all of an input, or a fault leaves a part of the answers.
abbrev pub AnswersAll : {T : Type 0} → MachineState (List ℕ) → RunEnds → RunEnds → Result T RunFault → Type 0
AnswersAll before old new result =
    MatchResult result (λ _. AnswersInput before.directory
    (λ extent input. before.future extent (input_lines (is_whole extent) input)) old new)
    (Leaves before.directory (λ extent input. before.future extent (input_lines (is_whole extent) input)) old new)

-- The text written is that of all of an input and the store's answers. The store was called once for each answer, and
-- has no other faults. If it had none of the files at first, it now has those of the known directory, and no other of
-- that kind.
pub record Completes (answered : List ℕ → List StoreAnswer → Option RunOutput) (old new : RunEnds) : Type 0 where
  pub stored : List StoreAnswer
  pub run_output : RunOutput
  pub text : IfSome old.input (λ bytes. (answered bytes stored ≡ Some run_output)
      × Appends old.out.output new.out.output run_output.text)
  pub failures : new.out.store.failures ≡ raised old.out.store.failures (faults_among stored)
  pub calls : new.out.store.calls ≡ raised old.out.store.calls (length stored)
  pub contents : HasNoFiles old.out.store.contents
      → MirrorsWhereTold old.out.store.contents new.out.store.contents run_output.directory

-- The transcript of a tune book, if there is one, and of an input is complete, or the part that a fault leaves.
abbrev pub Transcribes : {T : Type 0} → Option (List ℕ) → RunEnds → RunEnds → Result T RunFault → Type 0
Transcribes book old new result =
    MatchResult result (λ _. Completes (transcript book) old new) (LeavesRun book (transcript_of book) old new)

-- How many faults of the reader a read reports.
abbrev pub read_faults : {T : Type 0} → Result T RunFault → ℕ
read_faults (Err Read) = 1
read_faults _ = 0

-- The counts of a reader.
pub record ReadCounts : Type 0 where
  pub failures : ℕ
  pub calls : ℕ

-- How often a reader failed, of how many calls.
abbrev pub read_counts : ℕ → ℕ → ReadCounts
read_counts failures calls = record { failures = failures; calls = calls }

-- Why a run reports that it cannot read, from the bytes left in the reader.
pub data ReadCause (input : Option (List ℕ)) (old new : ReadCounts) : Type 0 where
  -- A read failed.
  Failed : new.failures ≡ raised old.failures 1 → ReadCause input old new
  -- None failed, but a run's limit of reads was reached, and each took a byte or more.
  Exhausted :
      new.failures ≡ old.failures → new.calls ≡ raised old.calls MOST_READS → IfSome input (λ bytes. MOST_READS ≤ length bytes)
      → ReadCause input old new

-- The reader's counts by a result.
abbrev pub Reads : {T : Type 0} → Option (List ℕ) → ReadCounts → ReadCounts → Result T RunFault → Type 0
Reads input old new (Ok x) = new.failures ≡ old.failures
Reads input old new (Err Read) = ReadCause input old new
Reads input old new (Err Write) = new.failures ≡ old.failures
Reads input old new (Err Memory) = new.failures ≡ old.failures

-- The visible state of a run's reader, writer and store: its ends, the reader's counts, and how often the writer failed.
pub record RunView : Type 0 where
  pub ends : RunEnds
  pub reads : ReadCounts
  pub writes : ℕ

abbrev pub run_view_of : {R W S : Type 0} → (R → Option (List ℕ)) → (R → ℕ) → (R → ℕ) → (W → Option (List ℕ)) → (W → ℕ)
    → (S → StoreView) → R → W → S → RunView
run_view_of remaining failures calls contents faults seen reader writer store = record {
  ends = run_ends_of remaining contents seen reader writer store;
  reads = read_counts (failures reader) (calls reader);
  writes = faults writer;
}

-- The result of a run.
pub record Runs {T : Type 0} (book : Option (List ℕ)) (old new : RunView) (result : Result T RunFault) : Type 0 where
  -- The text written is the transcript of the book, of the whole input and of the store's answers, and the store has
  -- the files that the transcript names. Or a fault leaves a part of these.
  pub transcript : Transcribes book old.ends new.ends result
  -- The counts of the reader and the writer.
  pub calls : (made : ℕ) × (made ≤ MOST_READS) × (new.reads.calls ≡ raised old.reads.calls made)
  pub reads : Reads old.ends.input old.reads new.reads result
  pub writes : new.writes ≡ raised old.writes (write_faults result)
