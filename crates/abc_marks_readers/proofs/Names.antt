-- Choices among values that have names.
use Rattle.std.proofs.Common.{◌≡◌, ℕ, Bool, true, false, cond, List, Option, Some, None, refl, sym, subst}
use Rattle.std.specs.List.{Contains}
use Rattle.std.specs.Option.{option_or}
use Rattle.std.specs.Str.{bytes_eq}
use Rattle.std.proofs.lemmas.Slice.Eq.{bytes_eq-Decides}

-- the first value whose test passes has the name
pub chosen : {V : Type 0} (names : V → List (List ℕ)) (t : Bool) (a : V) (rest : Option V) (value : V) (text : List ℕ) → cond t (Some a) rest ≡ Some value
    → (t ≡ true → Contains (names a) text) → (rest ≡ Some value → Contains (names value) text) → Contains (names value) text
chosen names true a rest value text e here later = let same : a ≡ value = cc in subst (λ v. Contains (names v) text) same (here refl)
chosen names false a rest value text e here later = later e

-- the first table that has a value
pub either : {V : Type 0} (names : V → List (List ℕ)) (first rest : Option V) (value : V) (text : List ℕ) → option_or first rest ≡ Some value
    → (first ≡ Some value → Contains (names value) text) → (rest ≡ Some value → Contains (names value) text) → Contains (names value) text
either names None rest value text e here later = later e
either names (Some a) rest value text e here later = here e

pub same : (text known : List ℕ) → bytes_eq text known ≡ true → known ≡ text
same text known e = sym ((bytes_eq-Decides text known).0 e)
