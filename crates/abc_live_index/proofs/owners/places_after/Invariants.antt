use Rattle.std.proofs.Common.{◌≡◌, drop}
use Rattle.abc_live_index.specs.TuneChange.{new_outputs}
use Rattle.abc_live_index.specs.Owners.{claims_of, owners_after, owners_of}
use Rattle.abc_live_index.proofs.owners.places_after.Given as goal

-- the owners after the tunes so far, and the rest
abbrev pub invariant-loop-place : goal.invariant-loop-place
invariant-loop-place l = owners_after l.places.entries l.place (claims_of (drop l.place (new_outputs l.change))) ≡ owners_of (new_outputs l.change)
