-- Bringing the directory up to date with the text. Not in ABC 2.1.
use Rattle.std.specs.Prelude.{◌≡◌, ℕ, ◌≤◌, zero, suc, ◌+◌, ◌-◌, ◌^◌, Bool, true, false, List, [], ◌∷◌, ◌++◌, filter, length}
use Rattle.std.specs.Prelude.{Option, Some, None, ◌⊎◌}
use Rattle.abc_lines.specs.Text.{Text}
use Rattle.abc_publish.specs.Publisher.{Directory, PublisherView, Slots, is_pending, maps_of, stored_as, with_entry}
use Rattle.abc_publish.specs.declared.slot.Stored.{Stored}
use Rattle.abc_publish.specs.declared.slot.Stored.TheVariants.{Unknown}
use Rattle.abc_tune_compiler.specs.Files.{Files, file_at}
use Rattle.abc2midi_live_protocol.specs.Answer.{end_line, failed_line, stored_line}
use Rattle.abc2midi_live.specs.Book.{files_of}
use Rattle.abc2midi_live.specs.Storing.{StoreAnswer, StoreView, Follows, Done, Fault}
use Rattle.abc2midi_live.specs.RunOutput.{RequestOutcome, Extent, Stopped, request_outcome, dialogue_view, line_before}
use Rattle.abc2midi_live.specs.RunOutput.{outcome_if_stopped}

-- `count` rising numbers from `first`.
unfoldable pub numbers_from : ℕ → ℕ → List ℕ
numbers_from first zero = []
numbers_from first (suc count) = first ∷ numbers_from (first + 1) count

-- The numbers that are pending, rising.
unfoldable pub pending_numbers : Directory → Files → List ℕ
pending_numbers directory files = filter (is_pending directory files) (numbers_from 0 (2 ^ 32))

-- The files of numbers are put or removed one after another, up to the first fault of the store. The arguments are
-- the text, the known directory, the numbers and the store's answers.
unfoldable pub build_outcome : Extent → Text → Directory → List ℕ → List StoreAnswer → Option RequestOutcome
build_outcome extent text directory [] answers = Some (request_outcome end_line (dialogue_view text directory) answers)
build_outcome extent text directory (n ∷ numbers) [] = outcome_if_stopped extent (dialogue_view text directory)
build_outcome extent text directory (n ∷ numbers) (Done ∷ answers) =
    line_before (stored_line n (file_at (files_of text) n))
    (build_outcome extent text (with_entry directory n (stored_as (file_at (files_of text) n))) numbers answers)
build_outcome extent text directory (n ∷ numbers) (Fault ∷ answers) =
    Some (request_outcome (failed_line n ++ end_line) (dialogue_view text (with_entry directory n (Some Unknown))) answers)

-- The numbers that are pending from one on, if there is one.
unfoldable pub pending_from : Directory → Files → Option ℕ → List ℕ
pending_from directory files None = []
pending_from directory files (Some first) = filter (is_pending directory files) (numbers_from first (2 ^ 32 - first))

-- The answer of a store that succeeded, and of one that failed.
abbrev pub answer_of : Bool → StoreAnswer
answer_of true = Done
answer_of false = Fault

-- The answer line of a file after the answer of the store.
abbrev pub answer_line : StoreAnswer → ℕ → Option (List ℕ) → List ℕ
answer_line Done number bytes = stored_line number bytes
answer_line Fault number bytes = failed_line number

-- The known file after that answer.
abbrev pub entry_after : StoreAnswer → Option (List ℕ) → Option Stored
entry_after Done bytes = stored_as bytes
entry_after Fault bytes = Some Unknown

-- A store gave one answer to the file of a number, and what the directory is known to hold is then what that leaves.
abbrev pub StoresOne : StoreView → StoreView → StoreAnswer → ℕ → Option (List ℕ) → Type 0
StoresOne old new answer number bytes =
    (directory : Directory) → Follows old new (answer ∷ []) directory (with_entry directory number (entry_after answer bytes))

-- A store was not called, or it gave one answer to the file of a number.
abbrev pub StoresOneAtMost : StoreView → StoreView → ℕ → Option (List ℕ) → Type 0
StoresOneAtMost old new number bytes = (new ≡ old) ⊎ ((answer : StoreAnswer) × StoresOne old new answer number bytes)

-- No job is under way.
abbrev pub IsIdle : PublisherView → Type 0
IsIdle p = (n : ℕ) → p.jobs n ≡ None

-- A stage of a build: what is known of the directory, and the number to go on from, if there is one.
pub record Stage : Type 0 where
  pub directory : Directory
  pub from : Option ℕ

abbrev pub stage : Directory → Option ℕ → Stage
stage directory from = record { directory = directory; from = from }

abbrev pub stage_of : Slots → Option ℕ → Stage
stage_of publisher from = stage (maps_of publisher).directory from

-- A text is an old one, and then this.
abbrev pub Extends : List ℕ → List ℕ → List ℕ → Type 0
Extends old new answer = new ≡ old ++ answer

-- What is written of the numbers that are pending at a stage, for what the store answers.
abbrev pub build_outcome_at : Extent → Text → Stage → List StoreAnswer → Option RequestOutcome
build_outcome_at extent text at answers =
    build_outcome extent text at.directory (pending_from at.directory (files_of text) at.from) answers

-- Whatever the store answers after these answers: what is written of the numbers pending at one stage is the text, and
-- then what is written of those pending at another.
abbrev pub Stores : Text → Stage → List StoreAnswer → List ℕ → Stage → Type 0
Stores text before now answer after =
    (extent : Extent) (later : List StoreAnswer) → build_outcome_at extent text before (now ++ later)
    ≡ line_before answer (build_outcome_at extent text after later)

-- Whatever the store answers after these answers: bringing the directory up to date writes this text, and leads to
-- this directory.
abbrev pub Builds : Text → Directory → List StoreAnswer → List ℕ → Directory → Type 0
Builds text before now answer after =
    (extent : Extent) (later : List StoreAnswer)
    → build_outcome extent text before (pending_numbers before (files_of text)) (now ++ later)
    ≡ Some (request_outcome answer (dialogue_view text after) later)

-- The answers of a store led from one stage of a build to another, with a text for them.
abbrev pub StoresBy : Text → Stage → Stage → (List ℕ → Type 0) → StoreView → StoreView → Type 0
StoresBy text before after IsAnswer old new =
    (now : List StoreAnswer) × (answer : List ℕ) × IsAnswer answer × Stores text before now answer after
    × Follows old new now before.directory after.directory

-- A failed allocation stops what a request leads to: the store gave these answers, each to what the request asks for,
-- and was called for nothing else.
abbrev pub StopsBy : Directory → (List StoreAnswer → Option RequestOutcome) → StoreView → StoreView → Type 0
StopsBy before answered old new =
    (stored : List StoreAnswer) × (a : RequestOutcome) × (answered stored ≡ Some a) × (a.left ≡ [])
    × Follows old new stored before a.after.directory

-- A build stops: the store was called for the first of the files of the numbers that are pending.
abbrev pub BuildStops : Text → Directory → StoreView → StoreView → Type 0
BuildStops text directory old new =
    StopsBy directory (build_outcome Stopped text directory (pending_numbers directory (files_of text))) old new

-- A build stops at a stage: the store was called for the first of the files that are pending there, if for any.
abbrev pub StopsAtOnce : Text → Stage → StoreView → StoreView → Type 0
StopsAtOnce text at old new = (stopped : StopsBy at.directory (build_outcome_at Stopped text at) old new) × (length stopped.0 ≤ 1)

-- The answers of a store brought the directory up to date, with this text for them.
abbrev pub BuildsBy : Text → Directory → Directory → List ℕ → StoreView → StoreView → Type 0
BuildsBy text before after answer old new = (now : List StoreAnswer) × Builds text before now answer after
    × Follows old new now before after
