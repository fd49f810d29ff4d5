-- The accidentals of a bar. ABC 2.1 sections 4.2 and 11.3.
use Rattle.std.specs.Prelude.{ℤ, List, [], Option, Some, None, unwrap_or}
use Rattle.std.specs.BTreeMap.{insert_entry, is_at}
use Rattle.std.specs.Map.{lookup}
use Rattle.std.specs.Ordering.{int_cmp}
use Rattle.abc_text.specs.declared.letter.Letter.{Letter}
use Rattle.abc_text.specs.declared.letter.Letter.TheVariants.{C, D, E, F, G, A, B}
use Rattle.abc_scan.specs.declared.directive.Reach.{Reach}
use Rattle.abc_scan.specs.declared.directive.Reach.TheVariants.{Not, Octave, Pitch}
use Rattle.abc_scan.specs.declared.note.Note.{Note}
use Rattle.abc_bars_voice.specs.declared.accidentals.Accidentals.{Accidentals}
use Rattle.abc_bars_voice.specs.declared.accidentals.Accidentals.TheVariants.{Own, InOctaves, OnLetters}
use Rattle.abc_bars_voice.specs.declared.accidentals.LetterAccidentals.{LetterAccidentals}

-- No accidentals on any letter.
abbrev pub no_letters : LetterAccidentals
no_letters = record { c = None; d = None; e = None; f = None; g = None; a = None; b = None }

-- By how many semitones the last accidental on a letter alters it, if there is one.
abbrev pub on_letter : LetterAccidentals → Letter → Option ℤ
on_letter letters C = letters.c
on_letter letters D = letters.d
on_letter letters E = letters.e
on_letter letters F = letters.f
on_letter letters G = letters.g
on_letter letters A = letters.a
on_letter letters B = letters.b

-- The accidentals after one more on a letter.
abbrev pub with_letter : LetterAccidentals → Letter → ℤ → LetterAccidentals
with_letter letters C by = record letters { c = Some by }
with_letter letters D by = record letters { d = Some by }
with_letter letters E by = record letters { e = Some by }
with_letter letters F by = record letters { f = Some by }
with_letter letters G by = record letters { g = Some by }
with_letter letters A by = record letters { a = Some by }
with_letter letters B by = record letters { b = Some by }

-- The accidentals in an octave.
unfoldable pub letters_in : List (ℤ × LetterAccidentals) → ℤ → LetterAccidentals
letters_in octaves octave = unwrap_or (lookup (is_at (int_cmp octave)) octaves) no_letters

-- The accidentals of each octave after one more on a letter in an octave; the octaves rise.
unfoldable pub with_octave : List (ℤ × LetterAccidentals) → ℤ → Letter → ℤ → List (ℤ × LetterAccidentals)
with_octave octaves octave letter by =
    insert_entry int_cmp octaves octave (with_letter (letters_in octaves octave) letter by)

-- The accidentals at the beginning of a bar, none, with this reach.
abbrev pub no_accidentals : Reach → Accidentals
no_accidentals Not = Own
no_accidentals Octave = InOctaves []
no_accidentals Pitch = OnLetters no_letters

-- How far accidentals reach.
abbrev pub reach_of : Accidentals → Reach
reach_of Own = Not
reach_of (InOctaves octaves) = Octave
reach_of (OnLetters letters) = Pitch

-- By how many semitones the last of the accidentals that reach a note alters it, if there is one.
abbrev pub written_on : Accidentals → Note → Option ℤ
written_on Own note = None
written_on (InOctaves octaves) note = on_letter (letters_in octaves note.octave) note.letter
written_on (OnLetters letters) note = on_letter letters note.letter

-- The accidentals after that of one more note.
abbrev pub with_accidental : Accidentals → Note → ℤ → Accidentals
with_accidental Own note by = Own
with_accidental (InOctaves octaves) note by = InOctaves (with_octave octaves note.octave note.letter by)
with_accidental (OnLetters letters) note by = OnLetters (with_letter letters note.letter by)
