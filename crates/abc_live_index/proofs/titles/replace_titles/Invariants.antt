use Rattle.std.proofs.Common.{◌≡◌, ◌+◌, ◌≤◌, ◌++◌, drop, length, take}
use Rattle.std.specs.Vec.Iter.{into_iter_items}
use Rattle.abc_live_index.proofs.titles.replace_titles.Given as goal

-- the titles that have been put, and those still to be put instead of old ones
abbrev pub invariant-loop-title : goal.invariant-loop-title
invariant-loop-title l = record {
  room : l.place + length (into_iter_items l.title-iterator) ≤ length l.titles.items;
  same : take l.place l.titles.items ++ (into_iter_items l.title-iterator ++ drop (l.place + length (into_iter_items l.title-iterator)) l.titles.items)
      ≡ take l.front l.initial.titles.items ++ (l.fn.some.items ++ drop (l.front + length l.fn.some.items) l.initial.titles.items);
}
