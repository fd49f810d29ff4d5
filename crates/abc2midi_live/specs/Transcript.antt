-- What the program writes for an input: the answers to its commands, in order. Not in ABC 2.1.
use Rattle.std.specs.Prelude.{ℕ, zero, suc, ◌+◌, ◌==◌, nat_le, Bool, true, false, if◌then◌else◌, List, [], ◌∷◌, ◌++◌}
use Rattle.std.specs.Prelude.{length, take, drop, map, Option, Some, None, option_and_then, Result, Ok, Err}
use Rattle.std.specs.List.{slice_split}
use Rattle.std.specs.Result.{result_unwrap_or}
use Rattle.std.specs.Str.{bytes_eq}
use Rattle.abc_lines.specs.declared.limits.TheConstants.{LONGEST_LINE}
use Rattle.abc_text.specs.Byte.{line_feed}
use Rattle.abc_lines.specs.Text.{Text, Splice}
use Rattle.abc_lines.specs.Edits.{insertion, replacement, deletion, edited}
use Rattle.abc_lines.specs.TextLines.{lines_in, whole_lines}
use Rattle.abc_publish.specs.Publisher.{Directory}
use Rattle.abc_tune_compiler.specs.Files.{file_at}
use Rattle.abc2midi_live.specs.Book.{files_of, faults_of, titles_of}
use Rattle.abc2midi_live_protocol.specs.Command.{command_of, line_count}
use Rattle.abc2midi_live_protocol.specs.Answer.{report, refusal, fault_list, title_list, hex_line, unknown_line, truncated_line}
use Rattle.abc2midi_live.specs.Building.{pending_numbers, build_outcome}
use Rattle.abc2midi_live.specs.Storing.{StoreAnswer}
use Rattle.abc2midi_live.specs.RunOutput.{Extent, Whole, is_whole, DialogueView, dialogue_view, RunOutput, with_text_before}
use Rattle.abc2midi_live.specs.RunOutput.{nothing_more, RequestOutcome, request_outcome}
use Rattle.abc_lines.specs.declared.edit_error.EditError.{EditError}
use Rattle.abc2midi_live_protocol.specs.declared.command.Command.{Command}
use Rattle.abc2midi_live_protocol.specs.declared.command.Command.TheVariants.{Insert, Replace, Delete, Faults, Titles, Hex, Build, Quit}
use Rattle.abc2midi_live_protocol.specs.declared.command.Command.TheVariants.{Unknown}

-- The stored bytes of a line of an input are at most one more than a line of a text may have.
abbrev pub most_kept : ℕ
most_kept = LONGEST_LINE + 1

-- The lines of an input, of a long one its front.
unfoldable pub input_lines : Bool → List ℕ → List (List ℕ)
input_lines ended bytes = map (take most_kept) (whole_lines ended (slice_split (λ b. b == line_feed) bytes))

-- The bytes EF BB BF, by which a text says that it is UTF-8.
abbrev pub byte_order_mark : List ℕ
byte_order_mark = 239 ∷ 187 ∷ 191 ∷ []

-- One mark at the start is dropped.
unfoldable pub without_mark : List ℕ → List ℕ
without_mark bytes = if bytes_eq (take 3 bytes) byte_order_mark then drop 3 bytes else bytes

-- The lines of a tune book. A carriage return stays in its line.
unfoldable pub book_lines : List ℕ → Text
book_lines bytes = lines_in (without_mark bytes)

-- A command with the lines that belong to it.
pub data Request : Type 0 where
  Edits : (splice : Option Splice) → Request
  ListsFaults : Request
  ListsTitles : Request
  Shows : (number : ℕ) → Request
  Misspelled : Request
  Builds : Request
  CutOff : Request  -- There are not as many lines as it asks for.
  Ends : Request

-- A command takes its lines from those that follow it.
unfoldable pub request_of : Command → List (List ℕ) → Request
request_of (Insert at count) lines = if nat_le count (length lines) then Edits (insertion at (take count lines)) else CutOff
request_of (Replace from to count) lines =
    if nat_le count (length lines) then Edits (replacement from to (take count lines)) else CutOff
request_of (Delete from to) lines = Edits (deletion from to)
request_of Faults lines = ListsFaults
request_of Titles lines = ListsTitles
request_of (Hex number) lines = Shows number
request_of Build lines = Builds
request_of Quit lines = Ends
request_of Unknown lines = Misspelled

-- The requests of lines, of which the first `taken` belong to the command before.
unfoldable pub requests : ℕ → List (List ℕ) → List Request
requests taken [] = []
requests zero (line ∷ lines) = request_of (command_of line) lines ∷ requests (line_count (command_of line)) lines
requests (suc taken) (line ∷ lines) = requests taken lines

-- The answer to an edit of a text.
unfoldable pub edit_answer : Text → Result Text EditError → List ℕ
edit_answer before (Ok after) = report (files_of before) (files_of after)
edit_answer before (Err error) = refusal error

-- The answer to a request. One that is cut off has its answer once the input has ended. There is none if the store has
-- fewer answers than the request needs, unless the run stops within the request.
unfoldable pub outcome_of : Extent → DialogueView → Request → List StoreAnswer → Option RequestOutcome
outcome_of extent h (Edits splice) answers =
    Some (request_outcome (edit_answer h.text (edited h.text splice))
    (dialogue_view (result_unwrap_or (edited h.text splice) h.text) h.directory) answers)
outcome_of extent h ListsFaults answers = Some (request_outcome (fault_list (faults_of h.text)) h answers)
outcome_of extent h ListsTitles answers = Some (request_outcome (title_list (titles_of h.text)) h answers)
outcome_of extent h (Shows number) answers = Some (request_outcome (hex_line (file_at (files_of h.text) number)) h answers)
outcome_of extent h Builds answers = build_outcome extent h.text h.directory (pending_numbers h.directory (files_of h.text)) answers
outcome_of extent h Misspelled answers = Some (request_outcome unknown_line h answers)
outcome_of extent h CutOff answers = Some (request_outcome (if is_whole extent then truncated_line else []) h answers)
outcome_of extent h Ends answers = Some (request_outcome [] h answers)

-- Whether the run goes on after a request.
abbrev pub goes_on : Request → Bool
goes_on (Edits splice) = true
goes_on ListsFaults = true
goes_on ListsTitles = true
goes_on (Shows number) = true
goes_on Builds = true
goes_on Misspelled = true
goes_on CutOff = false
goes_on Ends = false

-- The text written in answer to requests, for exactly these answers of a store. No request has an answer after `quit`.
unfoldable pub answers : Extent → DialogueView → List Request → List StoreAnswer → Option RunOutput
answers extent h [] stored = nothing_more h.directory stored
answers extent h (request ∷ rest) stored =
    option_and_then (λ a. with_text_before a.text
    (if goes_on request then answers extent a.after rest a.left else nothing_more a.after.directory a.left))
    (outcome_of extent h request stored)

-- A tune book comes before the commands, and is an insertion before line 1.
abbrev pub book_requests : Option (List ℕ) → List Request
book_requests None = []
book_requests (Some bytes) = Edits (insertion 1 (book_lines bytes)) ∷ []

-- No number has a file.
abbrev pub no_directory : Directory
no_directory n = None

-- The first state: no lines, and no file.
abbrev pub empty_dialogue : DialogueView
empty_dialogue = dialogue_view [] no_directory

-- The text written for a tune book, if there is one, the whole of an input, and all the answers of a store; None if the
-- input needs fewer answers, or more.
unfoldable pub transcript : Option (List ℕ) → List ℕ → List StoreAnswer → Option RunOutput
transcript book input stored = answers Whole empty_dialogue (book_requests book ++ requests 0 (input_lines true input)) stored

-- The same for a tune book and an extent of an input: if that is not all of it, the answers to the commands that are
-- wholly in it.
unfoldable pub transcript_of : Option (List ℕ) → Extent → List ℕ → List StoreAnswer → Option RunOutput
transcript_of book extent input stored =
    answers extent empty_dialogue (book_requests book ++ requests 0 (input_lines (is_whole extent) input)) stored
