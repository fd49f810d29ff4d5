use Rattle.std.proofs.Common.{◌≡◌}
use Rattle.abc_publish.specs.Publisher.{maps_of}
use Rattle.tests_live.specs.HeldJobs.{IsUnderWay}
use Rattle.tests.proofs.orders.try_events.Given as goal

abbrev pub invariant-loop-event : goal.invariant-loop-event
invariant-loop-event g l = IsUnderWay (maps_of l.publisher) l.held × (l.count ≡ l.event-index)
