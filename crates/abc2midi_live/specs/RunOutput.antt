-- The output of a run. Not in ABC 2.1.
use Rattle.std.specs.Prelude.{ℕ, Bool, true, false, List, [], ◌∷◌, ◌++◌, Option, Some, None, option_map}
use Rattle.abc_lines.specs.Text.{Text}
use Rattle.abc_publish.specs.Publisher.{Directory}
use Rattle.abc2midi_live.specs.Storing.{StoreAnswer}

-- How much of the input of a run has come.
pub data Extent : Type 0 where
  Whole : Extent  -- All of it.
  SoFar : Extent  -- More may come.
  Stopped : Extent  -- More may come, but the run stops within its last request, so the store need not answer all of that.

abbrev pub is_whole : Extent → Bool
is_whole Whole = true
is_whole SoFar = false
is_whole Stopped = false

-- The state between two commands: the text, and the known directory.
pub record DialogueView : Type 0 where
  pub text : Text
  pub directory : Directory

abbrev pub dialogue_view : Text → Directory → DialogueView
dialogue_view text directory = record { text = text; directory = directory }

-- The text written, and the known directory after it.
pub record RunOutput : Type 0 where
  pub text : List ℕ
  pub directory : Directory

abbrev pub run_output : List ℕ → Directory → RunOutput
run_output text directory = record { text = text; directory = directory }

-- A text before what is written.
abbrev pub with_text_before : List ℕ → Option RunOutput → Option RunOutput
with_text_before text rest = option_map (λ t. run_output (text ++ t.text) t.directory) rest

-- Nothing more is written, and no answer of the store is left over.
abbrev pub nothing_more : Directory → List StoreAnswer → Option RunOutput
nothing_more directory [] = Some (run_output [] directory)
nothing_more directory (answer ∷ answers) = None

-- The result of a request: its answer, the state after it, and the answers of the store that are left.
pub record RequestOutcome : Type 0 where
  pub text : List ℕ
  pub after : DialogueView
  pub left : List StoreAnswer

abbrev pub request_outcome : List ℕ → DialogueView → List StoreAnswer → RequestOutcome
request_outcome text after left = record { text = text; after = after; left = left }

-- The result of a request for more answers than the store has: none, unless the run stops there.
abbrev pub outcome_if_stopped : Extent → DialogueView → Option RequestOutcome
outcome_if_stopped Whole h = None
outcome_if_stopped SoFar h = None
outcome_if_stopped Stopped h = Some (request_outcome [] h [])

-- A line before the answer.
abbrev pub line_before : List ℕ → Option RequestOutcome → Option RequestOutcome
line_before line rest = option_map (λ a. request_outcome (line ++ a.text) a.after a.left) rest
