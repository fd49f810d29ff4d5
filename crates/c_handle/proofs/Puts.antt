-- A list written over the front of another, element by element.
use Rattle.std.proofs.Common.{◌≡◌, ℕ, zero, suc, ◌<◌, ◌≤◌, List, [], ◌∷◌, ◌++◌, drop, length, map, slice_index_or, slice_set, take, refl, ap, arith}

pub put-next : {A B : Type 0} (f : A → B) (xs : List A) (ys : List B) (k : ℕ) (d : A) → k < length xs → length xs ≤ length ys
    → slice_set (map f (take k xs) ++ drop k ys) k (f (slice_index_or xs k d)) ≡ map f (take (suc k) xs) ++ drop (suc k) ys
put-next f [] ys k d below fits = absurd (omega arith)
put-next f (x ∷ xs) [] k d below fits = absurd (omega arith)
put-next f (x ∷ xs) (y ∷ ys) zero d below fits = refl
put-next f (x ∷ xs) (y ∷ ys) (suc k) d below fits = ap (λ zs. f x ∷ zs) (put-next f xs ys k d (omega arith) (omega arith))
