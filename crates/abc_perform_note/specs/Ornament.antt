-- What every ornament keeps of its note. ABC 2.1 section 4.14.
use Rattle.std.specs.Prelude.{◌≡◌, ℕ, List, [], ◌∷◌, ◌++◌, map, sum}
use Rattle.abc_perform_note.specs.declared.part.Part.{Part}

-- The parts take as long as the note: nothing after it moves. Not in ABC 2.1.
pub record TakesTime (length : ℕ) (parts : List Part) : Type 0 where
  pub exact : sum (map (λ part. part.length.0) parts) ≡ length

-- The last part is of this key. Not in ABC 2.1.
abbrev pub EndsOn : ℕ → List Part → Type 0
EndsOn key parts = (front : List Part) × (last : Part) × ((parts ≡ front ++ last ∷ []) × (last.key ≡ key))

-- The keys of the parts, in order. Not in ABC 2.1.
abbrev pub keys_of : List Part → List ℕ
keys_of parts = map (λ part. part.key) parts
