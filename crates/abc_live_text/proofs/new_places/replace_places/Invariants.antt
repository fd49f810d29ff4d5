use Rattle.std.proofs.Common.{◌≡◌, ◌+◌, ◌≤◌, ◌++◌, drop, length, take}
use Rattle.abc_live_text.proofs.new_places.replace_places.Given as goal

-- the tunes that have been put, and those still to be put instead of old ones
abbrev pub invariant-loop-i : goal.invariant-loop-i
invariant-loop-i l = record {
  room : l.front + length l.places ≤ length l.tunes.items;
  same : take (l.front + l.i) l.tunes.items ++ (drop l.i l.places ++ drop (l.front + length l.places) l.tunes.items)
      ≡ take l.front l.initial.tunes.items ++ (l.places ++ drop (l.front + length l.places) l.initial.tunes.items);
}
