-- Streams and stores as contracts see them: their faults, and the contents of a store. Not in ABC 2.1.
use Rattle.std.specs.Prelude.{◌≡◌, ◌≢◌, ℕ, List, Option, Some, None, Result, Ok, Err, ⊤}
use Rattle.std.specs.Cmp.Lexicographic.{slice_cmp}
use Rattle.std.specs.Ordering.{nat_cmp}
use Rattle.std.specs.FinMap.{FinMap, get, insert, remove}

-- The number of faults of a call's result.
abbrev pub faults : {T E : Type 0} → Result T E → ℕ
faults (Ok x) = 0
faults (Err e) = 1

-- The contents of a store: names, and the bytes of each.
abbrev pub Contents : Type 0
Contents = FinMap (slice_cmp nat_cmp) (List ℕ)

-- If the contents are known, they are the old ones with these bytes under this name.
abbrev pub Puts : Option Contents → Option Contents → List ℕ → List ℕ → Type 0
Puts None new name bytes = ⊤
Puts (Some old) None name bytes = ⊥
Puts (Some old) (Some new) name bytes = new ≡ insert old name bytes

-- If the contents are known, they are the old ones without this name.
abbrev pub TakesOut : Option Contents → Option Contents → List ℕ → Type 0
TakesOut None new name = ⊤
TakesOut (Some old) None name = ⊥
TakesOut (Some old) (Some new) name = new ≡ remove old name

-- If the contents are known, every name but this one has its old bytes.
abbrev pub KeepsOthers : Option Contents → Option Contents → List ℕ → Type 0
KeepsOthers None new name = ⊤
KeepsOthers (Some old) None name = ⊥
KeepsOthers (Some old) (Some new) name = (other : List ℕ) → other ≢ name → get new other ≡ get old other
