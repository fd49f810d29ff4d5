use Rattle.std.proofs.Common.{◌≡◌, ◌++◌, drop, map}
use Rattle.std.specs.Borrow.{Bor}
use Rattle.abc_bars_items.specs.Item.{Items}
use Rattle.abc_play.specs.Places.{placed_cell, tune_places}
use Rattle.abc_play.proofs.place.tune_places.Given as goal

-- the places so far, and those of the other cells
abbrev pub invariant-loop-at : goal.invariant-loop-at
invariant-loop-at l = l.places.items ++ tune_places (map placed_cell (drop l.at l.cells)) (map (λ (one : Bor Items). one.now) (drop l.at l.given))
    ≡ tune_places (map placed_cell l.cells) (map (λ (one : Bor Items). one.now) l.given)
