use Rattle.std.proofs.Common.{◌≡◌, take}
use Rattle.std.specs.Prelude.{filter_map}
use Rattle.abc_play.specs.Places.{part_place_at}
use Rattle.abc_play.proofs.place.part_places.Given as goal

-- the places of the parts that are passed
abbrev pub invariant-loop-index : goal.invariant-loop-index
invariant-loop-index l = l.places ≡ filter_map (part_place_at l.line l.at l.parts) (take l.index-index l.found)
