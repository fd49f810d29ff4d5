-- The names of modes. ABC 2.1 section 3.1.14.
use Rattle.std.specs.Prelude.{ℕ, ◌≡◌, ◌⊎◌, List, [], ◌∷◌, codes}
use Rattle.std.specs.List.{Contains}
use Rattle.abc_fields.specs.declared.mode.Mode.{Mode}
use Rattle.abc_fields.specs.declared.mode.Mode.TheVariants.{Lydian, Ionian, Mixolydian, Dorian, Aeolian, Phrygian, Locrian}
use Rattle.abc_fields.specs.Mode.{front_of}

-- The first three letters of a mode's names; major is Ionian, and minor is Aeolian.
abbrev pub names_of : Mode → List (List ℕ)
names_of Lydian = codes "lyd" ∷ []
names_of Ionian = codes "maj" ∷ codes "ion" ∷ []
names_of Mixolydian = codes "mix" ∷ []
names_of Dorian = codes "dor" ∷ []
names_of Aeolian = codes "min" ∷ codes "aeo" ∷ []
names_of Phrygian = codes "phr" ∷ []
names_of Locrian = codes "loc" ∷ []

-- A run of letters names a mode: it is `m`, or its first three letters, capitals or not, are those of
-- one of the mode's names.
abbrev pub IsMode : List ℕ → Mode → Type 0
IsMode run mode = ((run ≡ codes "m") × (mode ≡ Aeolian)) ⊎ Contains (names_of mode) (front_of run)
