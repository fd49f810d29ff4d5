-- The tokens of a line as C sees them.
use Rattle.std.specs.Prelude.{◌≡◌, ◌⊎◌, ℕ, List, map, Option, None, Some, option_map}
use Rattle.abc_fold.specs.Work.{Counters}
use Rattle.abc_live.specs.Tokens.{tokens_at, work_at}
use Rattle.abc_live.specs.declared.LineToken.{LineToken}
use Rattle.abc_live.specs.declared.LineTokenKind.{LineTokenKind}
use Rattle.abc_live.specs.declared.LineTokenKind.TheVariants as kinds
use Rattle.abc_tune.specs.Abc.{rules_of_abc}
use Rattle.c_handle.specs.Copies.{CopyResult, slot_answer}
use Rattle.c_handle.specs.declared.codes.TheConstants.{CODE_OUT_OF_MEMORY}
use Rattle.c_handle.specs.declared.open_session.OpenSession.{OpenSession}
use Rattle.c_handle.specs.declared.token_record.TokenRecord.{TokenRecord}

-- The number of a kind, as the header of C has it.
abbrev pub kind_number : LineTokenKind → ℕ
kind_number kinds.Note = 1
kind_number kinds.Rest = 2
kind_number kinds.BarRest = 3
kind_number kinds.Chord = 4
kind_number kinds.InlineField = 5
kind_number kinds.BarLine = 6
kind_number kinds.Ending = 7
kind_number kinds.Tuplet = 8
kind_number kinds.BrokenRhythm = 9
kind_number kinds.Tie = 10
kind_number kinds.Dynamic = 11
kind_number kinds.Blank = 12
kind_number kinds.Quoted = 13
kind_number kinds.Decoration = 14
kind_number kinds.Grace = 15
kind_number kinds.Space = 16
kind_number kinds.NoEffect = 17
kind_number kinds.BadByte = 18
kind_number kinds.Unclosed = 19
kind_number kinds.Comment = 20
kind_number kinds.NumberField = 21
kind_number kinds.TitleField = 22
kind_number kinds.KeyField = 23
kind_number kinds.OtherField = 24
kind_number kinds.Directive = 25
kind_number kinds.FreeText = 26

-- A token with the number of its kind.
abbrev pub token_record : LineToken → TokenRecord
token_record token = record { from = token.from; to = token.to; kind = kind_number token.kind; depth = token.depth }

-- The tokens of the line of a number, counted from 1.
abbrev pub tokens_in : ℕ → OpenSession → Option (List TokenRecord)
tokens_in number held = option_map (map token_record) (tokens_at rules_of_abc held.session.text number)

-- Items are copied as this says, or an allocation failed and none is.
abbrev pub CopiesOrFails : {A : Type 0} → CopyResult A → List A → CopyResult A → Type 0
CopiesOrFails wanted buffer answer = (answer ≡ wanted) ⊎ (answer ≡ (CODE_OUT_OF_MEMORY, 0, buffer))

-- The same of items that may be missing. If they are, that is the answer, whatever else fails.
abbrev pub CopiesFound : {A B : Type 0} → Option B → CopyResult A → List A → CopyResult A → Type 0
CopiesFound None wanted buffer answer = answer ≡ wanted
CopiesFound (Some found) wanted buffer answer = CopiesOrFails wanted buffer answer

-- The tokens of the line of a number are copied from a slot, or the line is there and an allocation failed. A slot without a
-- session is misused.
abbrev pub CopiesTokens : ℕ → Option OpenSession → List TokenRecord → CopyResult TokenRecord → Type 0
CopiesTokens number None buffer answer = answer ≡ slot_answer None buffer
CopiesTokens number (Some held) buffer answer =
    CopiesFound (tokens_in number held) (slot_answer (Some (tokens_in number held)) buffer) buffer answer

-- The counters after the tokens of the line of a number were asked for.
abbrev pub work_in : ℕ → Option OpenSession → Counters → Counters
work_in number None before = before
work_in number (Some held) before = work_at rules_of_abc held.session.text number before
