-- The tokens of a line of a text. Not in ABC 2.1, but for the blocks.
use Rattle.std.specs.Prelude.{◌≡◌, ℕ, ◌-◌, Bool, true, false, ◌&&◌, List, Option, None, Some}
use Rattle.std.specs.Option.{option_map}
use Rattle.std.specs.List.{list_any}
use Rattle.abc_book.specs.Laws.{holds}
use Rattle.abc_book.specs.declared.block.Block.{Block}
use Rattle.abc_book.specs.declared.block.BlockKind.{BlockKind}
use Rattle.abc_book.specs.declared.block.BlockKind.TheVariants.{FileHeader, Tune, Free}
use Rattle.abc_fold.specs.Work.{Counters}
use Rattle.abc_lines.specs.Text.{Text}
use Rattle.abc_live_session.specs.Edit.{line_at}
use Rattle.abc_live_session.specs.declared.tokens_error.TokensError.{TokensError}
use Rattle.abc_live_session.specs.declared.tokens_error.TokensError.TheVariants.{NoSuchLine, OutOfMemory}
use Rattle.abc_scan.specs.Class.{class_of}
use Rattle.abc_tokens.specs.LineTokens.{line_tokens, whole_kind}
use Rattle.abc_tokens.specs.Scanned.{work_after}
use Rattle.abc_tokens.specs.declared.line_token.LineToken.{LineToken}
use Rattle.abc_tune_compiler.specs.Book.{blocks_in}
use Rattle.abc_tune_compiler.specs.Rules.{Rules}

-- Whether the lines of a block of this kind are compiled: free text has no effect. ABC 2.1 section 2.2.
abbrev pub is_compiled_kind : BlockKind → Bool
is_compiled_kind FileHeader = true
is_compiled_kind Tune = true
is_compiled_kind Free = false

-- A block has a line, and its lines are compiled.
abbrev pub compiles : ℕ → Block → Bool
compiles line block = is_compiled_kind block.kind && holds line block

-- Whether a block, if there is one, has the line at an index.
abbrev pub is_in_block : ℕ → Option Block → Bool
is_in_block line None = false
is_in_block line (Some block) = holds line block

-- Whether the line at an index lies in the file header or in a tune, by a compiler's classes of lines. ABC 2.1 section 2.2.
abbrev pub is_compiled : {State Cell Items Defaults : Type 0} → Rules State Cell Items Defaults → Text → ℕ → Bool
is_compiled rules text line = list_any (compiles line) (blocks_in rules text)

-- The tokens of the line of a number, counted from 1, if the text has it.
abbrev pub tokens_at : {State Cell Items Defaults : Type 0} → Rules State Cell Items Defaults → Text → ℕ
    → Option (List LineToken)
tokens_at rules text number = option_map (line_tokens (is_compiled rules text (number - 1))) (line_at text number)

-- The counters after a question for the tokens of a line: it is scanned if it is cut.
abbrev pub work_for : Bool → Option (List ℕ) → Counters → Counters
work_for compiled None before = before
work_for compiled (Some line) before = work_after (whole_kind compiled (class_of line)) before

-- The counters after a question for the tokens of the line of a number.
abbrev pub work_at : {State Cell Items Defaults : Type 0} → Rules State Cell Items Defaults → Text → ℕ → Counters → Counters
work_at rules text number before = work_for (is_compiled rules text (number - 1)) (line_at text number) before

-- Why a question for the tokens of a line is refused: the text does not have it, or an allocation failed.
abbrev pub RefusesLine : Option (List ℕ) → TokensError → Type 0
RefusesLine None error = error ≡ NoSuchLine
RefusesLine (Some line) error = error ≡ OutOfMemory
