-- The names of voices in the order in which they were mentioned.
use Rattle.std.specs.Prelude.{ℕ, List, [], Option, Some, None}
use Rattle.indexmap.specs.IndexSet.{IndexSet}

-- The names of a set, or none without one.
abbrev pub names_in : {S : Type 0} → Option (IndexSet (List ℕ) S) → List (List ℕ)
names_in None = []
names_in (Some names) = names.keys
