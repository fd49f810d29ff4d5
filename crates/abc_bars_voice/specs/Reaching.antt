-- Which accidentals a note hears, apart from how they are stored. ABC 2.1 sections 4.2 and 11.3.
use Rattle.std.specs.Prelude.{◌≡◌, ℤ, List, [], ◌∷◌, ◌++◌, All, Option, Some, None}
use Rattle.abc_scan.specs.declared.directive.Reach.{Reach}
use Rattle.abc_scan.specs.declared.directive.Reach.TheVariants.{Not, Octave, Pitch}
use Rattle.abc_scan.specs.declared.note.Note.{Note}
use Rattle.abc_text.specs.declared.accidental.Accidental.{Accidental}
use Rattle.abc_text.specs.Accidental.{alteration as accidental_alteration}
use Rattle.abc_text.specs.Letter.{capital}
use Rattle.abc_bars_voice.specs.declared.accidentals.Accidentals.{Accidentals}
use Rattle.abc_bars_voice.specs.Accidentals.{no_accidentals, written_on}
use Rattle.abc_bars_voice.specs.Alteration.{with_own}

-- Whether an accidental on one note reaches another: never, on its letter in its octave, as both are written, or on
-- its letter in any octave. What the three words mean is not in ABC 2.1.
abbrev pub Reaches : Reach → Note → Note → Type 0
Reaches Not earlier note = ⊥
Reaches Octave earlier note = (capital earlier.letter ≡ capital note.letter) × (earlier.octave ≡ note.octave)
Reaches Pitch earlier note = capital earlier.letter ≡ capital note.letter

-- A note hears the accidental of an earlier one.
pub record Hears (reach : Reach) (note earlier : Note) : Type 0 where
  pub accidental : Accidental
  pub written : earlier.accidental ≡ Some accidental
  pub reaches : Reaches reach earlier note

-- What a note hears of these notes, oldest first: the accidental of the last note whose accidental reaches it.
pub record HearsLast (reach : Reach) (notes : List Note) (note : Note) (heard : Option ℤ) : Type 0 where
  pub last : (before following : List Note) (earlier : Note) (accidental : Accidental) → notes ≡ before ++ earlier ∷ following
      → earlier.accidental ≡ Some accidental → Reaches reach earlier note → All (λ other. ¬ Hears reach note other) following
      → heard ≡ Some (accidental_alteration accidental)
  pub none : All (λ other. ¬ Hears reach note other) notes → heard ≡ None

-- The accidentals after more notes.
abbrev pub after_notes : Accidentals → List Note → Accidentals
after_notes accidentals [] = accidentals
after_notes accidentals (note ∷ notes) = after_notes (with_own accidentals note) notes

-- A note hears of the notes of its bar the last accidental that reaches it.
abbrev pub AccidentalsReach : Type 0
AccidentalsReach =
    (reach : Reach) (notes : List Note) (note : Note)
    → HearsLast reach notes note (written_on (after_notes (no_accidentals reach) notes) note)

-- The accidentals after notes are nothing but what notes hear of them: they are equal if every note would hear the same,
-- in whatever order they were written.
abbrev pub SameWhereHeardAlike : Type 0
SameWhereHeardAlike =
    (reach : Reach) (notes others : List Note)
    → ((note : Note) → written_on (after_notes (no_accidentals reach) notes) note
    ≡ written_on (after_notes (no_accidentals reach) others) note)
    → after_notes (no_accidentals reach) notes ≡ after_notes (no_accidentals reach) others
