-- The tokens of a music line. ABC 2.1 section 4.
use Rattle.std.specs.Prelude.{◌≡◌, ℕ, Bool, true, false, Option, Some, None, List, take, if◌then◌else◌, ◌||◌, ◌==◌}
use Rattle.std.specs.Option.{option_map, option_or}
use Rattle.abc_scan.specs.declared.dynamic.Dynamic.{Dynamic}
use Rattle.abc_scan.specs.declared.start.Start.{Start}
use Rattle.abc_scan.specs.declared.start.Start.TheVariants as starts
use Rattle.abc_scan.specs.declared.token.TokenKind.{TokenKind}
use Rattle.abc_scan.specs.declared.token.TokenKind.TheVariants as kinds
use Rattle.abc_scan.specs.Bar.{IsBar, bar_at}
use Rattle.abc_scan.specs.BarRest.{IsBarRest, bar_rest_at}
use Rattle.abc_scan.specs.Broken.{IsBroken, broken_at}
use Rattle.abc_scan.specs.Byte.{quote, exclamation, opening_bracket, opening_brace}
use Rattle.abc_scan.specs.Chord.{IsChord, chord_at}
use Rattle.abc_scan.specs.Cutting.{Kinds, Grammar, Reader, as_kind, of_kind, next}
use Rattle.abc_scan.specs.Delimited.{delimited_at}
use Rattle.abc_scan.specs.Dynamic.{IsDynamic, dynamic_of}
use Rattle.abc_scan.specs.Ending.{IsEnding, ending_at}
use Rattle.abc_scan.specs.InlineField.{IsInlineField, inline_field_at}
use Rattle.abc_scan.specs.NoEffect.{HasNoEffect, extra_space_at}
use Rattle.abc_scan.specs.Note.{IsNote, IsRest, note_at, rest_at}
use Rattle.abc_scan.specs.Single.{IsBlankToken, IsTie}
use Rattle.abc_scan.specs.Start.{start_of}
use Rattle.abc_scan.specs.Tuplet.{IsTuplet, tuplet_at}

-- The bytes spell a token of this kind, with a bar line directly before them or without. A field line and a directive
-- line are no tokens of music. A byte alone spells none.
abbrev pub Spells : Bool → List ℕ → TokenKind → Type 0
Spells after_bar text (kinds.Note note) = IsNote text note
Spells after_bar text (kinds.Rest value) = IsRest text value
Spells after_bar text (kinds.BarRest bars) = IsBarRest text bars
Spells after_bar text (kinds.Chord chord) = IsChord text chord
Spells after_bar text (kinds.InlineField field) = IsInlineField text field
Spells after_bar text (kinds.Bar bar) = IsBar text bar
Spells after_bar text (kinds.Ending passes) = IsEnding after_bar text passes
Spells after_bar text (kinds.Tuplet tuplet) = IsTuplet text tuplet
Spells after_bar text (kinds.Broken broken) = IsBroken text broken
Spells after_bar text kinds.Tie = IsTie text
Spells after_bar text kinds.Blank = IsBlankToken text
Spells after_bar text (kinds.Dynamic dynamic) = IsDynamic text dynamic
Spells after_bar text kinds.NoEffect = HasNoEffect text × ((dynamic : Dynamic) → ¬ IsDynamic text dynamic)
Spells after_bar text _ = ⊥

-- A byte that opens something: `[`, `"`, `!` or `{`.
abbrev pub opens : ℕ → Bool
opens b = (b == opening_bracket) || (b == quote) || (b == exclamation) || (b == opening_brace)

-- A byte of a line that begins no token is unclosed if it opens something. Not in ABC 2.1.
abbrev pub unmatched_byte : ℕ → TokenKind
unmatched_byte b = if opens b then kinds.Unclosed else kinds.BadByte

-- Whether a token is a bar line.
abbrev pub is_bar : TokenKind → Bool
is_bar (kinds.Bar bar) = true
is_bar _ = false

-- The bytes of a line that begin no token, and its bar lines.
abbrev pub line_kinds : Kinds TokenKind
line_kinds = record { unmatched = unmatched_byte; is_bar = is_bar }

-- The grammar of the tokens of a line.
abbrev pub line_grammar : Grammar TokenKind
line_grammar = record { kinds = line_kinds; spells = Spells }

-- The kind of a text between delimiters: a dynamic, or a token without effect.
abbrev pub dynamic_or_ignored : Option Dynamic → TokenKind
dynamic_or_ignored None = kinds.NoEffect
dynamic_or_ignored (Some dynamic) = kinds.Dynamic dynamic

-- The token between delimiters at the front of a text that takes `size` bytes.
abbrev pub enclosed_token : List ℕ → ℕ → TokenKind × ℕ
enclosed_token text size = (dynamic_or_ignored (dynamic_of (take size text)), size)

-- The longest token of this kind at the front of a text, and its size in bytes. None if it needs memory or a search for
-- its end. A tuplet is longer than its `(`.
abbrev pub mark_by : Start → Bool → List ℕ → Option (TokenKind × ℕ)
mark_by starts.Note after_bar text = as_kind kinds.Note (note_at text)
mark_by starts.Rest after_bar text = as_kind kinds.Rest (rest_at text)
mark_by starts.BarRest after_bar text = as_kind kinds.BarRest (bar_rest_at text)
mark_by starts.BarLine after_bar text = as_kind kinds.Bar (bar_at text)
mark_by starts.Digit after_bar text = as_kind kinds.Ending (ending_at after_bar text)
mark_by starts.Parenthesis after_bar text = option_or (as_kind kinds.Tuplet (tuplet_at text)) (Some (kinds.NoEffect, 1))
mark_by starts.Broken after_bar text = as_kind kinds.Broken (broken_at text)
mark_by starts.Tie after_bar text = Some (kinds.Tie, 1)
mark_by starts.Blank after_bar text = Some (kinds.Blank, 1)
mark_by starts.Space after_bar text = of_kind kinds.NoEffect (extra_space_at text)
mark_by starts.Single after_bar text = Some (kinds.NoEffect, 1)
mark_by _ after_bar text = None

-- The longest token at the front of a text that begins in this way, and its size in bytes. A chord is longer than the
-- ending that begins with the same bytes.
abbrev pub reading_by : Start → Bool → List ℕ → Option (TokenKind × ℕ)
reading_by starts.InlineField after_bar text = as_kind kinds.InlineField (inline_field_at text)
reading_by starts.Bracket after_bar text =
    option_or (as_kind kinds.Chord (chord_at text)) (as_kind kinds.Ending (ending_at after_bar text))
reading_by starts.Delimited after_bar text = option_map (enclosed_token text) (delimited_at text)
reading_by start after_bar text = mark_by start after_bar text

-- The longest token at the front of a text, and its size in bytes.
unfoldable pub reading_at : Bool → List ℕ → Option (TokenKind × ℕ)
reading_at after_bar text = reading_by (start_of text) after_bar text

-- The reader of the tokens of a line.
abbrev pub line_reader : Reader TokenKind
line_reader = record { kinds = line_kinds; reading = reading_at }

-- The first token of a text, and its size in bytes: a token, else one byte that begins none.
abbrev pub next_token : Bool → List ℕ → TokenKind × ℕ
next_token after_bar text = next line_reader after_bar text

-- The first token of a text, and its size in bytes, whether a bar line is before it or not.
abbrev pub ComesFirst : TokenKind × ℕ → List ℕ → Type 0
ComesFirst token text = (after_bar : Bool) → next_token after_bar text ≡ token
