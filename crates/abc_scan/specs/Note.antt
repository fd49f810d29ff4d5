-- Notes and rests. ABC 2.1 sections 4.1 to 4.3 and 4.5.
use Rattle.std.specs.Prelude.{◌≡◌, ℕ, ℤ, pos, ◌-ℤ◌, ◌+◌, Bool, true, false, not, nat_le, ◌&&◌, ◌||◌, ◌⊎◌, Option, Some, None, List}
use Rattle.std.specs.Prelude.{[], ◌∷◌, ◌++◌, length, take, drop, if◌then◌else◌, ◌==◌, nat_lt, count_by}
use Rattle.std.specs.List.{prefix_len, AllPass}
use Rattle.std.specs.Option.{option_map}
use Rattle.abc_text.specs.declared.accidental.Accidental.{Accidental}
use Rattle.abc_text.specs.declared.accidental.Accidental.TheVariants.{DoubleFlat, Flat, Natural, Sharp, DoubleSharp}
use Rattle.abc_text.specs.declared.letter.Letter.{Letter}
use Rattle.abc_text.specs.Accidental.{spelling}
use Rattle.abc_text.specs.Letter.{IsLetter, letter_of}
use Rattle.abc_text.specs.Digit.{is_digit}
use Rattle.abc_scan.specs.declared.length.WrittenLength.{WrittenLength}
use Rattle.abc_scan.specs.declared.length.WrittenLength.TheVariants.{Factor}
use Rattle.abc_scan.specs.declared.note.Note.{Note}
use Rattle.abc_scan.specs.Byte.{apostrophe, comma, equals_sign, caret, underscore}
use Rattle.abc_scan.specs.Length.{IsLength, is_slash, length_at, length_size}

-- The spelling of an accidental, or of none. ABC 2.1 section 4.2.
abbrev pub accidental_text : Option Accidental → List ℕ
accidental_text None = []
accidental_text (Some accidental) = spelling accidental

-- `'` and `,`, which raise and lower a note by an octave. ABC 2.1 section 4.1.
abbrev pub is_octave_mark : ℕ → Bool
is_octave_mark b = (b == apostrophe) || (b == comma)

-- Octaves above the one of the capital letters: 1 for a small letter.
abbrev pub letter_octave : ℕ → ℕ
letter_octave letter = if nat_lt letter 97 then 0 else 1

-- The octave of a letter with marks: one more for each `'`, one less for each `,`.
abbrev pub octave : ℕ → List ℕ → ℤ
octave letter marks =
    pos (letter_octave letter + count_by (λ b. b == apostrophe) marks) -ℤ pos (count_by (λ b. b == comma) marks)

-- A note: an accidental or none, a letter, octave marks, and a length.
pub record IsNote (text : List ℕ) (note : Note) : Type 0 where
  pub letter : ℕ
  pub marks : List ℕ
  pub written : List ℕ
  pub spelling : text ≡ accidental_text note.accidental ++ (letter ∷ (marks ++ written))
  pub letter_is : IsLetter letter note.letter
  pub octave_marks : AllPass is_octave_mark marks
  pub octave_is : note.octave ≡ octave letter marks
  pub length_is : IsLength written note.length

-- A rest: `z` or `x`, and a length. ABC 2.1 section 4.5.
pub record IsRest (text : List ℕ) (value : WrittenLength) : Type 0 where
  pub letter : ℕ
  pub written : List ℕ
  pub spelling : text ≡ letter ∷ written
  pub letter_is : (letter ≡ 122) ⊎ (letter ≡ 120)
  pub length_is : IsLength written value

-- Whether a text begins with this byte.
abbrev pub begins_with_byte : ℕ → List ℕ → Bool
begins_with_byte byte [] = false
begins_with_byte byte (b ∷ bs) = b == byte

-- The longest accidental at the front of a text. ABC 2.1 section 4.2.
unfoldable pub accidental_at : List ℕ → Option Accidental
accidental_at [] = None
accidental_at (b ∷ bs) =
    if b == caret then (if begins_with_byte caret bs then Some DoubleSharp else Some Sharp)
    else (if b == underscore then (if begins_with_byte underscore bs then Some DoubleFlat else Some Flat)
    else (if b == equals_sign then Some Natural else None))

-- The size of an accidental in bytes.
abbrev pub accidental_size : Option Accidental → ℕ
accidental_size a = length (accidental_text a)

-- The number of octave marks at the front of a text.
abbrev pub marks_size : List ℕ → ℕ
marks_size text = prefix_len is_octave_mark text

-- The longest note of an accidental, a letter's byte and the text after it, and its size in bytes.
abbrev pub note_of : Option Accidental → ℕ → List ℕ → Letter → Note × ℕ
note_of accidental byte rest letter = (
  record {
    accidental = accidental;
    letter = letter;
    octave = octave byte (take (marks_size rest) rest);
    length = length_at (drop (marks_size rest) rest);
  },
  accidental_size accidental + 1 + marks_size rest + length_size (drop (marks_size rest) rest),
)

-- The longest note of an accidental and the text after it, and its size in bytes.
abbrev pub note_after : Option Accidental → List ℕ → Option (Note × ℕ)
note_after accidental [] = None
note_after accidental (b ∷ rest) = option_map (note_of accidental b rest) (letter_of b)

-- The longest note at the front of a text, and its size in bytes.
unfoldable pub note_at : List ℕ → Option (Note × ℕ)
note_at text = note_after (accidental_at text) (drop (accidental_size (accidental_at text)) text)

-- Whether a note that is a letter alone ends before a text: it begins with neither an octave mark nor a length.
abbrev pub ends_letter : List ℕ → Bool
ends_letter [] = true
ends_letter (b ∷ bs) = not (is_octave_mark b || (is_digit b || is_slash b))

-- A digit that alone is a length: 0 is refused.
abbrev pub is_factor : ℕ → Bool
is_factor b = nat_le 49 b && nat_le b 57

-- The note of a letter without accidental or octave marks, `num` times as long as the unit.
abbrev pub plain_note : ℕ → ℕ → Letter → Note
plain_note byte num letter = record { accidental = None; letter = letter; octave = pos (letter_octave byte); length = Factor num 1 }

-- A note is that of the letter which a byte is.
pub record IsPlain (byte num : ℕ) (note : Note) : Type 0 where
  pub letter : letter_of byte ≡ Some note.letter
  pub plain : note ≡ plain_note byte num note.letter

-- Reading the front of a text gives this note and size, and the text begins with the note's letter.
pub record IsShort (text : List ℕ) (read : Note × ℕ) : Type 0 where
  pub byte : ℕ
  pub rest : List ℕ
  pub spelling : text ≡ byte ∷ rest
  pub letter : IsLetter byte read.0.letter
  pub is_read : note_at text ≡ Some read

-- `z` or `x`. ABC 2.1 section 4.5.
abbrev pub is_rest_letter : ℕ → Bool
is_rest_letter b = (b == 122) || (b == 120)

-- The longest rest at the front of a text, and its size in bytes.
unfoldable pub rest_at : List ℕ → Option (WrittenLength × ℕ)
rest_at [] = None
rest_at (b ∷ rest) = if is_rest_letter b then Some (length_at rest, 1 + length_size rest) else None
