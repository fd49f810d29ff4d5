-- What stays in front while more is put after it.
use Rattle.std.proofs.Common.{◌≡◌, ◌≤◌, List, length, take, sym, ap, ◌∙◌, arith, min}
use Rattle.std.proofs.lemmas.List.{length-take, take-take}
use Rattle.abc_live_index.specs.StayInFront.{StayInFront}

-- There are as many.
front_long : {X : Type 0} (items longer : List X) → StayInFront items longer → length items ≤ length longer
front_long items longer stay = let count : min (length items) (length longer) ≡ length items = sym (length-take (length items) longer) ∙ ap length stay in omega (arith, count)

-- What stays in front of what stays in front.
pub front_both : {X : Type 0} (items longer longest : List X) → StayInFront items longer → StayInFront longer longest → StayInFront items longest
front_both items longer longest one other =
    sym (take-take (length items) (length longer) longest (front_long items longer one)) ∙ ap (take (length items)) other ∙ one
