use Rattle.std.proofs.Common.{◌≡◌, take}
use Rattle.abc_live_index.specs.TuneChange.{new_outputs, old_outputs}
use Rattle.abc_live_index.specs.Owners.{claims_of}
use Rattle.abc_live_index.proofs.tune_change.TuneChange.keeps_claims.Given as goal

-- the claims so far are the same
abbrev pub invariant-loop-place : goal.invariant-loop-place
invariant-loop-place l = take l.place (claims_of (old_outputs l.self)) ≡ take l.place (claims_of (new_outputs l.self))
