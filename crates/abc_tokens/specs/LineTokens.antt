-- The tokens of a line, as editors see them. ABC 2.1 section 4; which parts have an entry of their own is not in ABC 2.1.
use Rattle.std.specs.Prelude.{ℕ, ◌+◌, Bool, List, [], ◌∷◌, ◌++◌, map, flat_map, length, slice_range, nat_lt, is_some, Option, None, Some}
use Rattle.std.specs.Prelude.{if◌then◌else◌, ◌==◌}
use Rattle.abc_text.specs.Blank.{is_blank}
use Rattle.abc_text.specs.LineEnd.{without_return}
use Rattle.abc_scan.specs.declared.line_class.LineClass.{LineClass}
use Rattle.abc_scan.specs.declared.line_class.LineClass.TheVariants as classes
use Rattle.abc_scan.specs.declared.chord_part.ChordPartKind.{ChordPartKind}
use Rattle.abc_scan.specs.declared.chord_part.ChordPartKind.TheVariants as parts
use Rattle.abc_scan.specs.declared.spanned.Spanned.{Spanned}
use Rattle.abc_scan.specs.declared.token.TokenKind.{TokenKind}
use Rattle.abc_scan.specs.declared.token.TokenKind.TheVariants as kinds
use Rattle.abc_scan.specs.Byte.{quote, exclamation, opening_brace, small_y}
use Rattle.abc_scan.specs.Class.{class_of}
use Rattle.abc_scan.specs.Dynamic.{dynamic_of}
use Rattle.abc_scan.specs.Line.{tokens_of}
use Rattle.abc_tokens.specs.declared.line_token.LineToken.{LineToken}
use Rattle.abc_tokens.specs.declared.line_token.LineTokenKind.{LineTokenKind}
use Rattle.abc_tokens.specs.declared.line_token.LineTokenKind.TheVariants as of_line

-- The kind of a part without effect, by its first byte. ABC 2.1 sections 4.12, 4.14, 4.18, 4.19 and 6.1.2.
abbrev pub no_effect_kind : List ℕ → LineTokenKind
no_effect_kind [] = of_line.NoEffect
no_effect_kind (b ∷ bs) =
    if is_blank b then of_line.Blank
    else (if b == quote then of_line.Quoted
    else (if b == exclamation then of_line.Decoration
    else (if b == opening_brace then of_line.Grace
    else (if b == small_y then of_line.Space
    else of_line.NoEffect))))

-- The kind of a field, by its letter: `X`, `T`, `K`, or another. ABC 2.1 section 3.
abbrev pub field_kind : ℕ → LineTokenKind
field_kind letter =
    if letter == 88 then of_line.NumberField
    else (if letter == 84 then of_line.TitleField
    else (if letter == 75 then of_line.KeyField
    else of_line.OtherField))

-- The kind of a part of a chord with these bytes.
abbrev pub part_kind : List ℕ → ChordPartKind → LineTokenKind
part_kind text (parts.Note note) = of_line.Note
part_kind text parts.Tie = of_line.Tie
part_kind text parts.NoEffect = if is_some (dynamic_of text) then of_line.Dynamic else no_effect_kind text
part_kind text parts.BadByte = of_line.BadByte

-- The kind of a token with these bytes.
abbrev pub token_kind : List ℕ → TokenKind → LineTokenKind
token_kind text (kinds.Note note) = of_line.Note
token_kind text (kinds.Rest value) = of_line.Rest
token_kind text (kinds.BarRest bars) = of_line.BarRest
token_kind text (kinds.Chord chord) = of_line.Chord
token_kind text (kinds.InlineField field) = of_line.InlineField
token_kind text (kinds.Bar bar) = of_line.BarLine
token_kind text (kinds.Ending passes) = of_line.Ending
token_kind text (kinds.Tuplet tuplet) = of_line.Tuplet
token_kind text (kinds.Broken broken) = of_line.BrokenRhythm
token_kind text kinds.Tie = of_line.Tie
token_kind text kinds.Blank = of_line.Blank
token_kind text (kinds.Dynamic dynamic) = of_line.Dynamic
token_kind text kinds.NoEffect = no_effect_kind text
token_kind text (kinds.Field field) = field_kind field.letter
token_kind text (kinds.Directive directive) = of_line.Directive
token_kind text kinds.Unclosed = of_line.Unclosed
token_kind text kinds.BadByte = of_line.BadByte

-- A token from one place of a line to another: places count from 0, columns from 1.
abbrev pub line_token : LineTokenKind → ℕ → ℕ → ℕ → LineToken
line_token kind depth from to = record { from = from + 1; to = to + 1; kind = kind; depth = depth }

-- A token of a line by itself.
abbrev pub outer_token : List ℕ → Spanned TokenKind → LineToken
outer_token line t = line_token (token_kind (slice_range line t.from t.to) t.kind) 0 t.from t.to

-- A part of a chord that begins at this place of a line.
abbrev pub part_token : List ℕ → ℕ → Spanned ChordPartKind → LineToken
part_token line at p =
    line_token (part_kind (slice_range line (at + p.from) (at + p.to)) p.kind) 1 (at + p.from) (at + p.to)

-- The parts of a token that begins at this place of a line: only chords have some. ABC 2.1 section 4.17.
abbrev pub part_tokens : List ℕ → ℕ → TokenKind → List LineToken
part_tokens line at (kinds.Chord chord) = map (part_token line at) chord.parts
part_tokens line at _ = []

-- A token of a line, and its parts after it.
abbrev pub with_parts : List ℕ → Spanned TokenKind → List LineToken
with_parts line t = outer_token line t ∷ part_tokens line t.from t.kind

-- The comment from one place of a line to another, if there is one. ABC 2.1 section 2.2.
abbrev pub comment_between : ℕ → ℕ → List LineToken
comment_between from to = if nat_lt from to then line_token of_line.Comment 0 from to ∷ [] else []

-- The place after the last of these tokens, or this place if there are none.
abbrev pub end_after : ℕ → List (Spanned TokenKind) → ℕ
end_after at [] = at
end_after at (t ∷ ts) = end_after t.to ts

-- The tokens of a line that is cut into these, and its comment after the last of them.
abbrev pub tokens_with_parts : List ℕ → List (Spanned TokenKind) → List LineToken
tokens_with_parts line found =
    flat_map (with_parts line) found ++ comment_between (end_after 0 found) (length (without_return line))

-- The tokens into which a line is cut, and its comment.
abbrev pub cut_tokens : List ℕ → List LineToken
cut_tokens line = tokens_with_parts line (tokens_of line)

-- One token for a whole line, without the carriage return at its end.
abbrev pub whole_line : LineTokenKind → List ℕ → List LineToken
whole_line kind line = line_token kind 0 0 (length (without_return line)) ∷ []

-- The kind of the one token of a whole line, or none if the line is cut. A line of the file header or of a tune is compiled;
-- any other is free text. ABC 2.1 section 2.2.
abbrev pub whole_kind : Bool → LineClass → Option LineTokenKind
whole_kind is_compiled classes.Blank = Some of_line.Blank
whole_kind is_compiled classes.Comment = Some of_line.Comment
whole_kind is_compiled _ = if is_compiled then None else Some of_line.FreeText

-- The tokens of a line that is one token of this kind, or is cut.
abbrev pub tokens_by : Option LineTokenKind → List ℕ → List LineToken
tokens_by None line = cut_tokens line
tokens_by (Some kind) line = whole_line kind line

-- The tokens of a line, by whether it is compiled.
abbrev pub line_tokens : Bool → List ℕ → List LineToken
line_tokens is_compiled line = tokens_by (whole_kind is_compiled (class_of line)) line
