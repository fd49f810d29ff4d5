use Rattle.std.proofs.Common.{subst}
use Rattle.abc_publish.specs.Publisher.{maps_of}
use Rattle.tests_live.specs.HeldJobs.{IsUnderWay}
use Rattle.tests_live.proofs.Jobs.{given, new, own, stays}
use Rattle.tests.proofs.jobs.take.Goals as goal

pub returns-in-Nothing-Some : goal.returns-in-Nothing-Some
returns-in-Nothing-Some g c = own _ _ _ _ (given _ _ _ _ _ c.expect-taken.ensures c.in-Nothing-Some.is-1 c.take.ensures.after)

pub returns-in-One-Some : goal.returns-in-One-Some
returns-in-One-Some g c =
    let after = given _ _ _ _ _ c.expect-taken.ensures c.in-One-Some.is-1 c.take.ensures.after in
    let next = given _ _ _ _ _ c.expect-taken.ensures c.in-One-Some.is-1 c.take.ensures.job in
    let job = subst (IsUnderWay (maps_of c.args.publisher.now)) c.in-One-Some.is-0 c.requires in
    let other = new (maps_of c.args.publisher.now) _ _ c.in-One-Some.older.number _ c.in-One-Some.older.bytes next.0 job in
    (stays (maps_of c.args.publisher.now) _ c.in-One-Some.older.number _ c.in-One-Some.older.bytes _ after other job, own _ _ _ _ after, other)
