-- Commands that come line by line, and the answers to the lines that still come. Not in ABC 2.1.
use Rattle.std.specs.Prelude.{◌≡◌, ℕ, ◌-◌, Bool, true, false, is_ok, List, [], ◌∷◌, ◌++◌, length, Option, Some, None}
use Rattle.abc_lines.specs.Text.{Text}
use Rattle.abc_lines.specs.Edits.{edited}
use Rattle.abc2midi_live_protocol.specs.Command.{line_count, command_of}
use Rattle.abc2midi_live.specs.Building.{StopsBy}
use Rattle.abc2midi_live.specs.Machine.{CarriesOut, Future, FutureChange, future_change}
use Rattle.abc_publish.specs.Publisher.{Directory}
use Rattle.abc2midi_live.specs.Storing.{StoreAnswer, StoreView, Follows}
use Rattle.abc2midi_live.specs.RunOutput.{Extent, Stopped, DialogueView, request_outcome, with_text_before, nothing_more}
use Rattle.abc2midi_live.specs.Transcript.{Request, Edits, ListsFaults, ListsTitles, Shows, Builds, Misspelled, CutOff, Ends}
use Rattle.abc2midi_live.specs.Transcript.{request_of, requests, book_requests, answers, outcome_of, empty_dialogue, goes_on}
use Rattle.abc2midi_live_protocol.specs.declared.command.Command.{Command}
use Rattle.abc2midi_live.specs.declared.machine.Reply.{Reply}
use Rattle.abc2midi_live.specs.declared.machine.Reply.TheVariants.{Nothing, Answer, End}

-- A command with the first of the lines that belong to it.
pub record BegunCommand : Type 0 where
  pub command : Command
  pub lines : Text

abbrev pub with_first_lines : Command → Text → BegunCommand
with_first_lines command lines = record { command = command; lines = lines }

-- The answers to the lines that come, from a state and a command that has begun.
unfoldable pub dialogue_future : DialogueView → Option BegunCommand → Future (List ℕ)
dialogue_future h None extent lines stored = answers extent h (requests 0 lines) stored
dialogue_future h (Some begun) extent lines stored =
    answers extent h (request_of begun.command (begun.lines ++ lines)
    ∷ requests (line_count begun.command - length begun.lines) lines) stored

-- A reply, and the store's answers, from what is to be written before it to what is to be written after it.
abbrev pub Says : FutureChange (List ℕ) → List StoreAnswer → Reply → Type 0
Says t now Nothing = (extent : Extent) (lines : List (List ℕ)) (later : List StoreAnswer)
    → t.before extent lines (now ++ later) ≡ t.after extent lines later
Says t now (Answer text) = (extent : Extent) (lines : List (List ℕ)) (later : List StoreAnswer)
    → t.before extent lines (now ++ later) ≡ with_text_before text.items (t.after extent lines later)
Says t now End = (extent : Extent) (lines : List (List ℕ)) (later : List StoreAnswer)
    → t.before extent lines (now ++ later) ≡ nothing_more t.directory later

-- Whatever the store answers after these answers, the answer to a request and the state after it.
abbrev pub AnswersWith : DialogueView → Request → List StoreAnswer → List ℕ → DialogueView → Type 0
AnswersWith old request now text new =
    (extent : Extent) (later : List StoreAnswer) → outcome_of extent old request (now ++ later)
    ≡ Some (request_outcome text new later)

-- A reply to a whole request, the store's answers, and the state after it.
abbrev pub Responds : DialogueView → DialogueView → Request → List StoreAnswer → Reply → Type 0
Responds old new request now Nothing = ⊥
Responds old new request now (Answer text) = AnswersWith old request now text.items new × (goes_on request ≡ true)
Responds old new request now End = AnswersWith old request now [] new × (goes_on request ≡ false)

-- Whether the text takes the edit: nothing else costs any work that is counted.
abbrev pub is_taken : Text → Request → Bool
is_taken text (Edits splice) = is_ok (edited text splice)
is_taken text ListsFaults = false
is_taken text ListsTitles = false
is_taken text (Shows number) = false
is_taken text Builds = false
is_taken text Misspelled = false
is_taken text CutOff = false
is_taken text Ends = false

-- The request of a command that has begun and one more line.
abbrev pub request_with : Option BegunCommand → List ℕ → Request
request_with None line = request_of (command_of line) []
request_with (Some begun) line = request_of begun.command (begun.lines ++ line ∷ [])

-- The answers to the lines that come, before and after a step of a command that has the first of its lines.
abbrev pub dialogue_change : DialogueView → BegunCommand → DialogueView → Option BegunCommand → FutureChange (List ℕ)
dialogue_change old first new begun = future_change (dialogue_future old (Some first)) (dialogue_future new begun) new.directory

-- The answer to a tune book is this text, and then the answers to the lines that come after it.
abbrev pub Opens : Option (List ℕ) → List ℕ → DialogueView → Option BegunCommand → Type 0
Opens book text h begun =
    (extent : Extent) (lines : List (List ℕ)) (stored : List StoreAnswer)
    → answers extent empty_dialogue (book_requests book ++ requests 0 lines) stored
    ≡ with_text_before text (dialogue_future h begun extent lines stored)

-- The answers to the lines that come are this reply, for the store's answers, and then the text written after it.
abbrev pub SaysBy : FutureChange (List ℕ) → Directory → Reply → StoreView → StoreView → Type 0
SaysBy t before reply old new = (stored : List StoreAnswer) × Says t stored reply × Follows old new stored before t.directory

-- A whole request is replied to, for the store's answers.
abbrev pub RespondsBy : DialogueView → DialogueView → Request → Reply → StoreView → StoreView → Type 0
RespondsBy before after request reply old new =
    (stored : List StoreAnswer) × Responds before after request stored reply
    × Follows old new stored before.directory after.directory

-- A request stops: the store was called for the first of what it asks for.
abbrev pub RequestStops : DialogueView → Request → StoreView → StoreView → Type 0
RequestStops before request old new = StopsBy before.directory (outcome_of Stopped before request) old new

-- The same of a command that has the first of its lines.
abbrev pub CommandStops : DialogueView → BegunCommand → StoreView → StoreView → Type 0
CommandStops before begun old new = CarriesOut before.directory (dialogue_future before (Some begun) Stopped []) old new
