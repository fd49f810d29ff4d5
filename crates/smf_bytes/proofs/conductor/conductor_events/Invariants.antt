use Rattle.std.proofs.Common.{◌≡◌, ◌++◌}
use Rattle.std.specs.Prelude.{map, take}
use Rattle.smf_bytes.specs.Event.{title_events, change_event}
use Rattle.smf_bytes.proofs.conductor.conductor_events.Given as goal

abbrev pub invariant-loop-change : goal.invariant-loop-change
invariant-loop-change l = l.events.items ≡ title_events l.title ++ map change_event (take l.change-index l.changes)
