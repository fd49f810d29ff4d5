-- What holds of what each element of a list gives.
use Rattle.std.proofs.Common.{map, List, [], ◌∷◌}
use Rattle.std.proofs.lemmas.List.Elements.{All-nil, All-cons, All-head, All-tail}
use Rattle.std.specs.Prelude.{All}

pub of_map : {X Y : Type 0} (P : Y → Type 0) (f : X → Y) (xs : List X) → All P (map f xs) → All (λ x. P (f x)) xs
of_map P f [] all = All-nil (λ x. P (f x))
of_map P f (x ∷ xs) all = All-cons (λ y. P (f y)) x xs (All-head P (f x) (map f xs) all) (of_map P f xs (All-tail P (f x) (map f xs) all))
