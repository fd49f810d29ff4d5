-- Lists that begin with the items of another one. Not in ABC 2.1.
use Rattle.std.specs.Prelude.{◌≡◌, List, length, take}

-- The items of a list are the first ones of another.
abbrev pub StayInFront : {X : Type 0} → List X → List X → Type 0
StayInFront items longer = take (length items) longer ≡ items
