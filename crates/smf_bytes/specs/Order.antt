-- The order of events in a track.
use Rattle.std.specs.Prelude.{List, [], ◌∷◌, if◌then◌else◌}
use Rattle.std.specs.Ordering.{nat_cmp, ordering_then, is_lt}
use Rattle.std.specs.declared.cmp.Ordering.{Ordering}
use Rattle.std.specs.Cmp.Lexicographic.{slice_cmp}
use Rattle.smf_bytes.specs.declared.event.Event.{Event}

-- Events compare by tick, then class, then key, then bytes, byte by byte. The order at one tick is
-- not in ABC 2.1.
abbrev pub event_cmp : Event → Event → Ordering
event_cmp a b =
    ordering_then (nat_cmp a.tick b.tick)
    (ordering_then (nat_cmp a.class b.class) (ordering_then (nat_cmp a.key b.key) (slice_cmp nat_cmp a.bytes b.bytes)))

-- An event goes before the first that is not less.
abbrev pub insert_event : Event → List Event → List Event
insert_event event [] = event ∷ []
insert_event event (first ∷ rest) =
    if is_lt (event_cmp first event) then first ∷ insert_event event rest else event ∷ first ∷ rest

-- The sorted list of the events.
abbrev pub in_order : List Event → List Event
in_order [] = []
in_order (event ∷ events) = insert_event event (in_order events)
