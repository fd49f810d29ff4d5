-- The accidentals of a field K: as they are read.
use Rattle.std.specs.Prelude.{ℕ, Bool, Option, Some, None, List, [], ◌∷◌, ◌++◌}
use Rattle.std.specs.Option.{is_some, option_map, option_and_then}
use Rattle.abc_text.specs.declared.accidental.Accidental.{Accidental}
use Rattle.abc_text.specs.declared.letter.Letter.{Letter}
use Rattle.abc_text.specs.Accidental.{accidental_of}
use Rattle.abc_text.specs.Letter.{letter_of}
use Rattle.abc_fields.specs.declared.accidental.SignatureChange.{SignatureChange}

-- A byte is a letter of a note.
abbrev pub is_letter : ℕ → Bool
is_letter b = is_some (letter_of b)

-- A change in front of others.
abbrev pub and_change : Letter → Option (List SignatureChange) → Accidental → Option (List SignatureChange)
and_change letter changes accidental = option_map (λ more. record { accidental = accidental; letter = letter } ∷ more) changes

-- The changes if a letter follows this accidental, or no accidental.
abbrev pub at_letter : Option Letter → Option Accidental → Option (List SignatureChange) → Option (List SignatureChange)
    → Option (List SignatureChange)
at_letter None accidental following on = on
at_letter (Some letter) accidental following on = option_and_then (and_change letter following) accidental

-- The changes of a text after these marks.
abbrev pub changes_with : List ℕ → List ℕ → Option (List SignatureChange)
changes_with [] [] = Some []
changes_with [] (m ∷ ms) = None
changes_with (b ∷ bs) marks = at_letter (letter_of b) (accidental_of marks) (changes_with bs []) (changes_with bs (marks ++ b ∷ []))

-- The changes of a text that consists of changes alone.
unfoldable pub changes_of : List ℕ → Option (List SignatureChange)
changes_of text = changes_with text []
