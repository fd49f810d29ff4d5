-- The shift of a voice. ABC 2.1 sections 4.6 and 7.1.
use Rattle.std.specs.Prelude.{ℕ, ℤ, pos, neg_ℤ, ◌≤ℤ◌, Option, Some, None, IfSome, List, [], ◌∷◌}
use Rattle.std.specs.Option.{option_and_then}
use Rattle.abc_fields.specs.declared.property.Property.{Property}
use Rattle.abc_fields.specs.declared.property.Property.TheVariants.{Clef, Octave, Transpose, Other}
use Rattle.abc_fields.specs.declared.shift.Shift.{Shift}
use Rattle.abc_fields.specs.Property.{property_of}
use Rattle.abc_text.specs.declared.digit.TheConstants.{LARGEST_NUMBER}

-- A part lies between the two bounds, the lower one below 0.
abbrev pub IsWithin : ℕ → ℤ → Type 0
IsWithin m n = (neg_ℤ (pos m) ≤ℤ n) × (n ≤ℤ pos m)

-- The clef of a shift is within an octave, the other parts within nine digits.
pub record IsSmallShift (shift : Shift) : Type 0 where
  pub clef : IfSome shift.clef (IsWithin 12)
  pub octave : IfSome shift.octave (IsWithin LARGEST_NUMBER)
  pub transpose : IfSome shift.transpose (IsWithin LARGEST_NUMBER)

-- A shift after one more property.
abbrev pub with_property : Shift → Property → Shift
with_property shift (Clef n) = record shift { clef = Some n }
with_property shift (Octave n) = record shift { octave = Some n }
with_property shift (Transpose n) = record shift { transpose = Some n }
with_property shift Other = shift

-- A shift after more words.
abbrev pub shift_after : List (List ℕ) → Shift → Option Shift
shift_after [] shift = Some shift
shift_after (word ∷ words) shift = option_and_then (λ p. shift_after words (with_property shift p)) (property_of word)

-- A shift without any part.
abbrev pub no_shift : Shift
no_shift = record { clef = None; octave = None; transpose = None }

-- The shift that words set; none if a number is refused.
unfoldable pub shift_of : List (List ℕ) → Option Shift
shift_of words = shift_after words no_shift
