use Rattle.abc_live_index.proofs.ClaimSteps.{claims_end, claims_front, claims_on}
use Rattle.abc_live_index.specs.TuneChange.{new_outputs, old_outputs}
use Rattle.abc_live_index.proofs.tune_change.TuneChange.keeps_claims.Goals as goal

pub loop-place-init : goal.loop-place-init
loop-place-init c = claims_front (old_outputs c.args.self.now) (new_outputs c.args.self.now) c.args.self.now.tunes.from c.requires.front

pub loop-place-preserved : goal.loop-place-preserved
loop-place-preserved c =
    claims_on (old_outputs c.args.self.now) (new_outputs c.args.self.now) c.loop-place.place (c.keeps_claim.ensures c.if-not-keeps_claim.false) c.loop-place.invariant

pub returns : goal.returns
returns c = λ _.
    claims_end (old_outputs c.args.self.now)
    (new_outputs
    c.args.self.now) c.args.self.now.tunes.from c.args.self.now.tunes.came c.args.self.now.tunes.to c.loop-place.place c.requires.order
    (c.keeps_count.ensures.exact.0 c.if-not-keeps_count.false) c.requires.following c.loop-place-test.false c.loop-place.invariant
