-- The kind of token that a text can begin with, by its first bytes.
use Rattle.std.specs.Prelude.{ℕ, Bool, ◌&&◌, ◌||◌, List, [], ◌∷◌, if◌then◌else◌, ◌==◌, nat_le}
use Rattle.std.specs.Char.{is_ascii_alphabetic, is_ascii_digit}
use Rattle.abc_scan.specs.declared.start.Start.{Start}
use Rattle.abc_scan.specs.declared.start.Start.TheVariants as starts
use Rattle.abc_text.specs.Blank.{is_blank}
use Rattle.abc_scan.specs.BarRest.{is_bar_rest_letter}
use Rattle.abc_scan.specs.Byte.{quote, exclamation, open_parenthesis, minus_sign, colon, less_sign, equals_sign, greater_sign}
use Rattle.abc_scan.specs.Byte.{opening_bracket, caret, underscore, small_y, opening_brace, bar_stroke}
use Rattle.abc_scan.specs.Note.{is_rest_letter}

-- A byte that is a token without effect: a letter H to W or h to w, or one of `` ` `` `.` `~` `\` `$` `#` `*` `;`
-- `?` `@` `(` `)`. ABC 2.1 sections 4.7, 4.11, 4.14, 4.16, 6.1.1 and 8.1.
abbrev pub has_no_effect : ℕ → Bool
has_no_effect b =
    ((nat_le 72 b && nat_le b 87) || (nat_le 104 b && nat_le b 119))
    || (b == 96) || (b == 46) || (b == 126) || (b == 92) || (b == 36) || (b == 35) || (b == 42) || (b == 59) || (b == 63)
    || (b == 64) || (b == 40) || (b == 41)

-- An accidental, or the letter of a note. ABC 2.1 sections 4.1 and 4.2.
abbrev pub begins_note : ℕ → Bool
begins_note b =
    (nat_le 65 b && nat_le b 71) || (nat_le 97 b && nat_le b 103) || (b == caret) || (b == underscore) || (b == equals_sign)

-- The kind of token that one of the remaining bytes begins.
abbrev pub mark_start : ℕ → Start
mark_start b =
    if is_rest_letter b then starts.Rest
    else (if is_bar_rest_letter b then starts.BarRest
    else (if (b == bar_stroke) || (b == colon) then starts.BarLine
    else (if (b == greater_sign) || (b == less_sign) then starts.Broken
    else (if b == minus_sign then starts.Tie
    else (if (b == quote) || (b == exclamation) || (b == opening_brace) then starts.Delimited
    else (if b == small_y then starts.Space
    else starts.Nothing))))))

-- The kind of token that a byte other than `[` begins.
unfoldable pub byte_start : ℕ → Start
byte_start b =
    if b == open_parenthesis then starts.Parenthesis
    else (if has_no_effect b then starts.Single
    else (if is_ascii_digit b then starts.Digit
    else (if is_blank b then starts.Blank
    else (if begins_note b then starts.Note
    else mark_start b))))

-- The kind of token that a `[` begins, by the bytes after it: a bar line if a `|` follows, an inline field if a letter
-- and a colon follow.
unfoldable pub bracket_start : List ℕ → Start
bracket_start [] = starts.Bracket
bracket_start (b ∷ []) = if b == bar_stroke then starts.BarLine else starts.Bracket
bracket_start (b ∷ c ∷ rest) =
    if b == bar_stroke then starts.BarLine
    else (if is_ascii_alphabetic b && (c == colon) then starts.InlineField else starts.Bracket)

-- The kind of token that a text begins with.
abbrev pub start_of : List ℕ → Start
start_of [] = starts.Nothing
start_of (b ∷ rest) = if b == opening_bracket then bracket_start rest else byte_start b
