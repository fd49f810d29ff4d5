-- Sorting without repeated elements.
use Rattle.std.specs.Prelude.{List, [], ◌∷◌}
use Rattle.std.specs.declared.cmp.Ordering.{Ordering}
use Rattle.std.specs.BTreeSet.{insert_key}

-- The elements inserted into this list, which is in order, each once.
abbrev pub insert_all : {A : Type 0} → (A → A → Ordering) → List A → List A → List A
insert_all cmp sorted [] = sorted
insert_all cmp sorted (x ∷ xs) = insert_all cmp (insert_key cmp sorted x) xs

-- The elements in order, each once.
abbrev pub sort_dedup : {A : Type 0} → (A → A → Ordering) → List A → List A
sort_dedup cmp xs = insert_all cmp [] xs
