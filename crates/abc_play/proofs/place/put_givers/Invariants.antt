use Rattle.std.proofs.Common.{◌≡◌, ◌++◌, drop, map}
use Rattle.abc_play.specs.Places.{giver_places}
use Rattle.abc_play.proofs.place.put_givers.Given as goal

-- the places so far, and the others
abbrev pub invariant-loop-giver : goal.invariant-loop-giver
invariant-loop-giver l = l.places.items ++ map (giver_places l.line l.cell) (drop l.giver-index l.givers) ≡ l.initial.places.items ++ map (giver_places l.line l.cell) l.givers
