use Rattle.std.proofs.Common.{◌≡◌, take}
use Rattle.std.specs.List.{flat_map}
use Rattle.abc_repeat.specs.Runs.{items_at}
use Rattle.abc_voices_sections.specs.ItemRuns.{runs_of}
use Rattle.abc_voices_sections.proofs.play.items_at_places.Given as goal

-- what is at the places that are passed
abbrev pub invariant-loop-place : goal.invariant-loop-place
invariant-loop-place g l = l.items.items ≡ flat_map (items_at (runs_of l.item_runs)) (take l.place-index l.places)
