-- The directives that are heard. They are extensions of abc2midi.
use Rattle.std.specs.Prelude.{ℕ, ℤ, int_lt, pos, neg_ℤ, ◌==◌, ◌||◌, nat_le, if◌then◌else◌, List, [], ◌∷◌, codes, length, drop, slice_range, Option, Some, None}
use Rattle.std.specs.Option.{option_map, option_and_then}
use Rattle.std.specs.Str.{bytes_eq}
use Rattle.abc_bars_items.specs.declared.program.TheConstants.{HIGHEST_PROGRAM}
use Rattle.abc_bars_items.specs.declared.velocity.TheConstants.{HIGHEST_VELOCITY}
use Rattle.abc_text.specs.Blank.{trim_blanks}
use Rattle.abc_text.specs.Cut.{cut_at}
use Rattle.abc_text.specs.LineEnd.{without_return}
use Rattle.abc_text.specs.Number.{number_of}
use Rattle.abc_text.specs.Word.{begins_with, first_word, leading_blanks}
use Rattle.abc_marks.specs.declared.directive.PlayingDirective.{PlayingDirective}
use Rattle.abc_marks.specs.declared.directive.PlayingDirective.TheVariants as directives
use Rattle.abc_marks_readers.specs.Pattern.{pattern_of}

-- The front of a text that is cut, or the whole text.
abbrev pub front_or : List ℕ → Option (List ℕ × List ℕ) → List ℕ
front_or text None = text
front_or text (Some parts) = parts.0

-- A text up to its first `%`.
abbrev pub before_comment : List ℕ → List ℕ
before_comment text = front_or text (cut_at 37 text)

-- The text after `%%MIDI` and blanks, without its comment.
abbrev pub after_midi : List ℕ → Option (List ℕ)
after_midi line =
    let text = without_return line in
    if begins_with (codes "%%MIDI") text
    then (if leading_blanks (drop 6 text) == 0 then None else Some (before_comment (drop 6 text)))
    else None

-- The first word of a text, and the rest without the blanks at its ends.
abbrev pub name_and_value : List ℕ → Option (List ℕ × List ℕ)
name_and_value text = option_map (λ w. (slice_range text w.0 w.1, trim_blanks (drop w.1 text))) (first_word text)

-- The number, if it is no higher.
abbrev pub if_up_to : ℕ → ℕ → Option ℕ
if_up_to highest number = if nat_le number highest then Some number else None

-- The number that a text spells, if it is no higher.
abbrev pub number_up_to : ℕ → List ℕ → Option ℕ
number_up_to highest text = option_and_then (if_up_to highest) (number_of text)

-- The number that the first word of a text spells, if it is no higher.
abbrev pub first_number : ℕ → List ℕ → Option ℕ
first_number highest text = option_and_then (λ w. number_up_to highest (slice_range text w.0 w.1)) (first_word text)

-- The velocity that a text spells: 0 is none.
abbrev pub if_positive : ℕ → Option ℕ
if_positive n = if n == 0 then None else Some n

abbrev pub velocity_in : List ℕ → Option ℕ
velocity_in text = option_and_then if_positive (number_up_to HIGHEST_VELOCITY text)

-- The number that a sign or none and one to nine digits spell.
abbrev pub signed_number : List ℕ → Option ℤ
signed_number [] = None
signed_number (b ∷ bs) =
    if b == 45 then option_map (λ n. neg_ℤ (pos n)) (number_of bs)
    else (if b == 43 then option_map pos (number_of bs) else option_map pos (number_of (b ∷ bs)))

-- Half tones, if they are five octaves at most.
abbrev pub if_near : ℤ → Option ℤ
if_near n = if int_lt n (neg_ℤ (pos 60)) || int_lt (pos 60) n then None else Some n

-- The half tones that a text spells, from -60 to 60.
abbrev pub transposition_of : List ℕ → Option ℤ
transposition_of text = option_and_then if_near (signed_number text)

-- A directive without a value.
abbrev pub flag_of : PlayingDirective → List ℕ → Option PlayingDirective
flag_of directive value = if length value == 0 then Some directive else None

-- The directive of this name and value that sets a program.
unfoldable pub program_directive_of : List ℕ → List ℕ → Option PlayingDirective
program_directive_of name value =
    if bytes_eq name (codes "chordprog") then option_map directives.ChordProgram (first_number HIGHEST_PROGRAM value)
    else (if bytes_eq name (codes "bassprog") then option_map directives.BassProgram (first_number HIGHEST_PROGRAM value)
    else None)

-- The directive of this name and value that sets a velocity or a program.
unfoldable pub velocity_directive_of : List ℕ → List ℕ → Option PlayingDirective
velocity_directive_of name value =
    if bytes_eq name (codes "chordvol") then option_map directives.ChordVelocity (velocity_in value)
    else (if bytes_eq name (codes "bassvol") then option_map directives.BassVelocity (velocity_in value)
    else program_directive_of name value)

-- The directive of this name and value, if it has no pattern.
unfoldable pub plain_directive_of : List ℕ → List ℕ → Option PlayingDirective
plain_directive_of name value =
    if bytes_eq name (codes "gchordon") then flag_of directives.AccompanimentOn value
    else (if bytes_eq name (codes "gchordoff") then flag_of directives.AccompanimentOff value
    else (if bytes_eq name (codes "transpose") then option_map directives.Transpose (transposition_of value)
    else velocity_directive_of name value))

-- The directive of a pattern.
abbrev pub pattern_directive_of : List ℕ → Option PlayingDirective
pattern_directive_of value = option_map directives.Pattern (pattern_of value)

-- The directive of a name and a value.
abbrev pub directive_named : List ℕ × List ℕ → Option PlayingDirective
directive_named words = if bytes_eq words.0 (codes "gchord") then pattern_directive_of words.1 else plain_directive_of words.0 words.1

-- The directive that a line spells.
unfoldable pub playing_directive_of : List ℕ → Option PlayingDirective
playing_directive_of line = option_and_then (λ text. option_and_then directive_named (name_and_value text)) (after_midi line)
