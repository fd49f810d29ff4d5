use Rattle.std.proofs.Common.{ap, ◌∙◌, arith}
use Rattle.abc_live_index.proofs.ClaimSteps.{owners_end, owners_on}
use Rattle.abc_live_index.specs.TuneChange.{new_outputs}
use Rattle.abc_live_index.specs.Owners.{owners_with_claim, owners_of}
use Rattle.abc_live_index.specs.declared.owners.Claim.{Claim}
use Rattle.abc_live_index.proofs.owners.places_after.Goals as goal

pub loop-place-preserved : goal.loop-place-preserved
loop-place-preserved c =
    owners_on (new_outputs
    c.args.change.now) c.loop-place.place c.new_at.result.now c.loop-place.places.entries c.put_claim.new.places.entries (owners_of (new_outputs c.args.change.now)) c.new_at.ensures
    (c.in_ok-put_claim.ensures ∙ ap (λ (claim : Claim). owners_with_claim c.loop-place.places.entries claim c.loop-place.place) c.of.ensures) c.loop-place.invariant

pub returns : goal.returns
returns c =
    owners_end (new_outputs c.args.change.now) c.loop-place.place c.loop-place.places.entries
    (owners_of (new_outputs c.args.change.now)) (omega (arith, c.count-place-end.ensures)) c.loop-place.invariant
