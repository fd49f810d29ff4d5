-- The shift that properties set. ABC 2.1 sections 4.6 and 7.1.
use Rattle.std.specs.Prelude.{◌≡◌, ℕ, ℤ, Option, Some, None, List, [], ◌∷◌}
use Rattle.std.specs.List.{AllZip}
use Rattle.std.specs.Option.{option_or}
use Rattle.abc_fields.specs.declared.property.Property.{Property}
use Rattle.abc_fields.specs.declared.property.Property.TheVariants.{Clef, Octave, Transpose}
use Rattle.abc_fields.specs.declared.shift.Shift.{Shift}
use Rattle.abc_fields.specs.Spelling.Property.{IsProperty}

-- The clef that a property sets.
abbrev pub clef_in : Property → Option ℤ
clef_in (Clef n) = Some n
clef_in _ = None

-- The octave that it sets.
abbrev pub octave_in : Property → Option ℤ
octave_in (Octave n) = Some n
octave_in _ = None

-- The transposition that it sets.
abbrev pub transpose_in : Property → Option ℤ
transpose_in (Transpose n) = Some n
transpose_in _ = None

-- The last value that is set for a part. Not in ABC 2.1.
abbrev pub last_said : (Property → Option ℤ) → List Property → Option ℤ
last_said said [] = None
last_said said (p ∷ ps) = option_or (last_said said ps) (said p)

-- The shift that words set. Each word sets a property, and of each part the last one counts.
pub record IsShift (words : List (List ℕ)) (shift : Shift) : Type 0 where
  pub properties : List Property
  pub said : AllZip IsProperty words properties
  pub clef : shift.clef ≡ last_said clef_in properties
  pub octave : shift.octave ≡ last_said octave_in properties
  pub transpose : shift.transpose ≡ last_said transpose_in properties
