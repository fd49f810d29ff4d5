use Rattle.std.proofs.Common.{◌≡◌, ◌<◌, length}
use Rattle.std.specs.Prelude.{IsPermutation}
use Rattle.smf_bytes.proofs.voice.move_back.Given as goal

-- the events in some order, and a place among them
abbrev pub invariant-loop : goal.invariant-loop
invariant-loop l = record {
  within : l.place < length l.fn.events;
  whole : length l.events ≡ length l.fn.events;
  moved : IsPermutation l.fn.events l.events;
}
