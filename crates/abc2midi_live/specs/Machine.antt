-- What a machine that takes lines answers. Not in ABC 2.1.
use Rattle.std.specs.Prelude.{◌≡◌, ◌⊎◌, ℕ, Bool, true, false, if◌then◌else◌, List, [], ◌∷◌, ◌++◌, ◌==◌, All, Option, Some}
use Rattle.abc_publish.specs.Publisher.{Directory}
use Rattle.abc_text.specs.Byte.{line_feed}
use Rattle.abc2midi_live.specs.Storing.{Follows, StoreAnswer, StoreView}
use Rattle.abc2midi_live.specs.RunOutput.{Extent, RunOutput, with_text_before, is_whole, nothing_more}
use Rattle.abc2midi_live.specs.Transcript.{input_lines}
use Rattle.abc2midi_live.specs.declared.machine.Reply.{Reply}
use Rattle.abc2midi_live.specs.declared.machine.Reply.TheVariants.{Nothing, Answer, End}

-- The text to be written for the input that still comes, by its extent, for the answers that still come of a store.
abbrev pub Future : Type 0 → Type 0
Future X = Extent → List X → List StoreAnswer → Option RunOutput

-- What is to be written, from what it was before a piece to what it is after it.
pub record FutureChange (X : Type 0) : Type 0 where
  pub before : Future X
  pub after : Future X
  -- The known directory after the piece.
  pub directory : Directory

abbrev pub future_change : {X : Type 0} → Future X → Future X → Directory → FutureChange X
future_change before after directory = record { before = before; after = after; directory = directory }

-- The state of a machine: its answer to each input, and the known directory.
pub record MachineState (X : Type 0) : Type 0 where
  pub future : Future X
  pub directory : Directory

abbrev pub machine_state : {X : Type 0} → Future X → Directory → MachineState X
machine_state future directory = record { future = future; directory = directory }

-- The text to be written from a machine's state before a piece to its state after it.
abbrev pub change_between : {X : Type 0} → MachineState X → MachineState X → FutureChange X
change_between before after = future_change before.future after.future after.directory

-- Whatever comes after a piece, and whatever the store answers after these answers: what was to be written before it is
-- the text, and then, if the machine goes on, what is to be written after it.
abbrev pub Answers : {X : Type 0} → FutureChange X → List X → List StoreAnswer → List ℕ → Bool → Type 0
Answers {X} t piece now text goes_on =
    (extent : Extent) (rest : List X) (later : List StoreAnswer)
    → t.before extent (piece ++ rest) (now ++ later) ≡ with_text_before text
    (if goes_on then t.after extent rest later else nothing_more t.directory later)

-- The same of the reply to a line.
abbrev pub Replies : FutureChange (List ℕ) → List ℕ → List StoreAnswer → Reply → Type 0
Replies t line now Nothing = Answers t (line ∷ []) now [] true
Replies t line now (Answer text) = Answers t (line ∷ []) now text.items true
Replies t line now End = Answers t (line ∷ []) now [] false

-- A line is taken: the reply goes with the store's answers.
abbrev pub TakesLine : MachineState (List ℕ) → MachineState (List ℕ) → List ℕ → StoreView → StoreView → Reply → Type 0
TakesLine before after line old new reply =
    (stored : List StoreAnswer) × Replies (change_between before after) line stored reply
    × Follows old new stored before.directory after.directory

-- The input is carried out for these answers of a store. The definition leaves open what is written.
abbrev pub CarriesOut : Directory → (List StoreAnswer → Option RunOutput) → StoreView → StoreView → Type 0
CarriesOut before answered old new =
    (stored : List StoreAnswer) × (run_output : RunOutput) × (answered stored ≡ Some run_output)
    × Follows old new stored before run_output.directory

-- A store that does not answer is not called.
abbrev pub AsksNothing : Directory → (List StoreAnswer → Option RunOutput) → Type 0
AsksNothing before answered = (run_output : RunOutput) × (answered [] ≡ Some run_output) × (run_output.directory ≡ before)

-- No line ends within these bytes.
abbrev pub IsClean : List ℕ → Type 0
IsClean bytes = All (λ b. (b == line_feed) ≡ false) bytes

-- One line ends with these bytes at most, and none within them.
abbrev pub EndsOneAtMost : List ℕ → Type 0
EndsOneAtMost bytes = (line : List ℕ) × IsClean line × ((bytes ≡ line) ⊎ (bytes ≡ line ++ line_feed ∷ []))

-- The answers to bytes, if the beginning of a line has come before them.
unfoldable pub future_of_bytes : Future (List ℕ) → List ℕ → Future ℕ
future_of_bytes future begun extent bytes answers = future extent (input_lines (is_whole extent) (begun ++ bytes)) answers

-- The state of a machine that reads bytes, after the beginning of a line.
abbrev pub state_before_bytes : Future (List ℕ) → List ℕ → Directory → MachineState ℕ
state_before_bytes future begun directory = machine_state (future_of_bytes future begun) directory
