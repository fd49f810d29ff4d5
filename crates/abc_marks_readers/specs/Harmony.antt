-- Chord names in quoted text. ABC 2.1 section 4.18.
use Rattle.std.specs.Prelude.{ℕ, Bool, not, ◌+◌, ◌-◌, ◌%◌, ◌&&◌, ◌||◌, ◌==◌, if◌then◌else◌, List, [], ◌∷◌, codes, length, take, drop, reverse, Option, Some, None}
use Rattle.std.specs.List.{prefix_len, ends_with}
use Rattle.std.specs.Option.{option_map, option_and_then}
use Rattle.std.specs.Prelude.{nat_eq}
use Rattle.std.specs.Str.{bytes_eq}
use Rattle.abc_marks.specs.declared.chord_name.ChordKind.{ChordKind}
use Rattle.abc_marks.specs.declared.chord_name.ChordKind.TheVariants as kinds
use Rattle.abc_marks.specs.declared.chord_name.ChordName.{ChordName}
use Rattle.abc_marks.specs.ChordName.{IsChordName}
use Rattle.abc_text.specs.declared.letter.Letter.{Letter}
use Rattle.abc_text.specs.Blank.{trim_blanks}
use Rattle.abc_text.specs.Cut.{cut_at}
use Rattle.abc_text.specs.Letter.{capital, letter_of, semitones}
use Rattle.abc_text.specs.Word.{begins_with}
use Rattle.abc_marks_readers.specs.declared.harmony.Harmony.{Harmony}
use Rattle.abc_marks_readers.specs.declared.harmony.Harmony.TheVariants as harmonies
use Rattle.abc_marks_readers.specs.ChordKind.{kind_named}

-- A sharp is one half tone up, a flat eleven; then the octave does not count.
abbrev pub sign_at : List ℕ → ℕ × List ℕ
sign_at [] = (0, [])
sign_at (b ∷ rest) = if b == 35 then (1, rest) else (if b == 98 then (11, rest) else (0, b ∷ rest))

-- The half tones of a letter and a sign above C.
abbrev pub pitch_class : Letter → ℕ → ℕ
pitch_class letter sign = (semitones letter + sign) % 12

-- The letter, if it is the capital that a byte is.
abbrev pub if_capital : ℕ → Letter → Option Letter
if_capital b letter = if capital letter == b then Some letter else None

-- The letter of a root, which is a capital.
abbrev pub root_letter : ℕ → Option Letter
root_letter b = option_and_then (if_capital b) (letter_of b)

-- The pitch, if nothing follows it.
abbrev pub pitch_at_end : ℕ → List ℕ → Option ℕ
pitch_at_end pitch [] = Some pitch
pitch_at_end pitch (b ∷ bs) = None

-- The pitch that a letter, capital or small, and a sign spell.
abbrev pub pitch_spelled : ℕ → List ℕ → Option ℕ
pitch_spelled byte rest =
    option_and_then (λ letter. pitch_at_end (pitch_class letter (sign_at rest).0) (sign_at rest).1) (letter_of byte)

-- The bass that a text after the kind of a chord says: the root, or the letter after a slash.
abbrev pub bass_of : ℕ → List ℕ → Option ℕ
bass_of root [] = Some root
bass_of root (slash ∷ []) = None
bass_of root (slash ∷ byte ∷ rest) = if slash == 47 then pitch_spelled byte rest else None

-- The kind of a chord by the text cut at its first slash.
abbrev pub kind_by : List ℕ → Option (List ℕ × List ℕ) → Option (ChordKind × List ℕ)
kind_by text None = option_map (λ kind. (kind, [])) (kind_named text)
kind_by text (Some parts) = option_map (λ kind. (kind, drop (length parts.0) text)) (kind_named parts.0)

-- The kind of a chord at the front of a text, and the rest from a slash on. One name, `6/9`, has a slash itself.
abbrev pub kind_and_bass : List ℕ → Option (ChordKind × List ℕ)
kind_and_bass text =
    if begins_with (codes "6/9") text then Some (kinds.SixthNinth, drop 3 text) else kind_by text (cut_at 47 text)

-- The chord on a root, by the text after the root.
abbrev pub chord_on : ℕ → List ℕ → Option ChordName
chord_on root text =
    option_and_then (λ found. option_map (λ bass. record { root = root; kind = found.0; bass = bass }) (bass_of root found.1))
    (kind_and_bass text)

-- The chord that a text names: a root, a kind, and perhaps a slash and a bass.
abbrev pub chord_name_of : List ℕ → Option ChordName
chord_name_of [] = None
chord_name_of (b ∷ following) =
    option_and_then (λ letter. chord_on (pitch_class letter (sign_at following).0) (sign_at following).1) (root_letter b)

-- Whether a byte is no parenthesis.
abbrev pub is_plain : ℕ → Bool
is_plain b = not (b == 40) && not (b == 41)

-- The number of bytes at the end of a text that are no parentheses.
abbrev pub last_part : List ℕ → ℕ
last_part text = prefix_len is_plain (reverse text)

-- A text without the part in parentheses at its end: the last byte closes it, and before its plain bytes is what opens it.
abbrev pub without_part : List ℕ → List ℕ
without_part text =
    let inside = take (length text - 1) text in
    let front = take (length inside - last_part inside) inside in
    if ends_with nat_eq text (41 ∷ [])
    then (if ends_with nat_eq front (40 ∷ []) then take (length front - 1) front else text)
    else text

-- Whether a text ends the harmony.
abbrev pub is_no_chord : List ℕ → Bool
is_no_chord text = bytes_eq text (codes "N.C.") || bytes_eq text (codes "NC")

-- The harmony that a name sets.
abbrev pub harmony_named : List ℕ → Option Harmony
harmony_named name =
    if is_no_chord name then Some harmonies.NoChord else option_map harmonies.Chord (chord_name_of name)

-- The harmony that a quoted text sets. Blanks at its ends and a part in parentheses at its end do not count.
unfoldable pub harmony_of : List ℕ → Option Harmony
harmony_of text = harmony_named (trim_blanks (without_part (trim_blanks text)))

-- A harmony of a chord name in range.
abbrev pub IsHarmony : Harmony → Type 0
IsHarmony (harmonies.Chord name) = IsChordName name
IsHarmony harmonies.NoChord = Unit {0}
