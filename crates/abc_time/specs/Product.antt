-- Products.
use Rattle.std.specs.Prelude.{ℕ, List, [], ◌∷◌, ◌*◌}

-- The product of the numbers: 1 if there is none. Not in ABC 2.1.
abbrev pub product_of : List ℕ → ℕ
product_of [] = 1
product_of (n ∷ ns) = n * product_of ns
