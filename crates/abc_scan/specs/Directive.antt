-- Directives. ABC 2.1 section 11: it names `%%propagate-accidentals`; `%%MIDI program` is an extension of abc2midi.
use Rattle.std.specs.Prelude.{◌≡◌, ◌⊎◌, ◌↔◌, ◌≤◌, ℕ, Bool, true, Option, Some, None, List, [], ◌∷◌, ◌++◌, codes, length, drop}
use Rattle.std.specs.Prelude.{is_some, if◌then◌else◌, ◌==◌}
use Rattle.abc_text.specs.Blank.{AreBlanks}
use Rattle.abc_text.specs.Number.{IsNumber}
use Rattle.abc_text.specs.Word.{begins_with, leading_blanks}
use Rattle.abc_scan.specs.declared.directive.Directive.{Directive}
use Rattle.abc_scan.specs.declared.directive.Directive.TheVariants as directives
use Rattle.abc_scan.specs.declared.directive.Reach.{Reach}
use Rattle.abc_scan.specs.declared.directive.Reach.TheVariants.{Not, Octave, Pitch}
use Rattle.abc_scan.specs.Byte.{percent}
use Rattle.abc_scan.specs.Number.{number_at}

-- Blanks between two words: one at least.
abbrev pub IsGap : List ℕ → Type 0
IsGap text = (1 ≤ length text) × AreBlanks text

-- The text that may follow a directive: blanks, and then nothing or a comment.
pub record IsEnd (text : List ℕ) : Type 0 where
  pub blanks : List ℕ
  pub comment : List ℕ
  pub spelling : text ≡ blanks ++ comment
  pub blanks_are : AreBlanks blanks
  pub comment_is : (comment ≡ []) ⊎ ((rest : List ℕ) × (comment ≡ percent ∷ rest))

-- The line that sets a MIDI program, by its number as it is written.
pub record IsProgramLine (text : List ℕ) (number : ℕ) : Type 0 where
  pub gap : List ℕ
  pub second_gap : List ℕ
  pub digits : List ℕ
  pub end : List ℕ
  pub spelling : text ≡ codes "%%MIDI" ++ (gap ++ (codes "program" ++ (second_gap ++ (digits ++ end))))
  pub gap_is : IsGap gap
  pub second_gap_is : IsGap second_gap
  pub number_is : IsNumber digits number
  pub end_is : IsEnd end

-- The word for the reach of accidentals.
abbrev pub name_of : Reach → List ℕ
name_of Not = codes "not"
name_of Octave = codes "octave"
name_of Pitch = codes "pitch"

-- The line that sets the reach of accidentals.
pub record IsReachLine (text : List ℕ) (reach : Reach) : Type 0 where
  pub gap : List ℕ
  pub end : List ℕ
  pub spelling : text ≡ codes "%%propagate-accidentals" ++ (gap ++ (name_of reach ++ end))
  pub gap_is : IsGap gap
  pub end_is : IsEnd end

-- The text spells a directive. That it begins in the first column is not in ABC 2.1.
abbrev pub IsDirective : List ℕ → Directive → Type 0
IsDirective text (directives.Program number) = IsProgramLine text number
IsDirective text (directives.Reach reach) = IsReachLine text reach

-- A line that is a directive.
abbrev pub IsDirectiveLine : List ℕ → Type 0
IsDirectiveLine text = (directive : Directive) × IsDirective text directive

-- The reading of a text after its leading blanks; none if it has no leading blank.
abbrev pub after_gap : (List ℕ → Option Directive) → List ℕ → Option Directive
after_gap reading text = if leading_blanks text == 0 then None else reading (drop (leading_blanks text) text)

-- Nothing, or a comment.
abbrev pub is_comment_or_none : List ℕ → Bool
is_comment_or_none [] = true
is_comment_or_none (b ∷ bs) = b == percent

-- A directive, if the text after it may follow a directive.
abbrev pub directive_at_end : Directive → List ℕ → Option Directive
directive_at_end directive end = if is_comment_or_none (drop (leading_blanks end) end) then Some directive else None

-- The program of a number that was read at the front of a text.
abbrev pub program_by : List ℕ → Option (ℕ × ℕ) → Option Directive
program_by text None = None
program_by text (Some number) = directive_at_end (directives.Program number.0) (drop number.1 text)

-- The program whose number a text begins with.
abbrev pub program_directive : List ℕ → Option Directive
program_directive text = program_by text (number_at text)

-- The directive read after `%%MIDI` and its blanks.
abbrev pub midi_directive : List ℕ → Option Directive
midi_directive text = if begins_with (codes "program") text then after_gap program_directive (drop 7 text) else None

-- The directive read after `%%propagate-accidentals` and its blanks.
abbrev pub reach_directive : List ℕ → Option Directive
reach_directive text =
    if begins_with (codes "not") text then directive_at_end (directives.Reach Not) (drop 3 text)
    else (if begins_with (codes "octave") text then directive_at_end (directives.Reach Octave) (drop 6 text)
    else (if begins_with (codes "pitch") text then directive_at_end (directives.Reach Pitch) (drop 5 text)
    else None))

-- The directive that a text spells.
unfoldable pub directive_of : List ℕ → Option Directive
directive_of text =
    if begins_with (codes "%%MIDI") text then after_gap midi_directive (drop 6 text)
    else (if begins_with (codes "%%propagate-accidentals") text then after_gap reach_directive (drop 23 text)
    else None)

-- Whether a text spells a directive.
abbrev pub is_directive : List ℕ → Bool
is_directive text = is_some (directive_of text)

-- A text spells at most one directive: the one that is read.
abbrev pub ReadsDirectives : Type 0
ReadsDirectives = (text : List ℕ) (directive : Directive) → (directive_of text ≡ Some directive) ↔ IsDirective text directive
