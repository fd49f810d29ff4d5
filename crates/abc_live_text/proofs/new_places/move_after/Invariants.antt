use Rattle.std.proofs.Common.{◌≡◌, ◌++◌, All, drop, length, map, take}
use Rattle.abc_lines.specs.declared.limits.TheConstants.{MOST_LINES}
use Rattle.abc_live_text.specs.Pieces.{LiesWithin}
use Rattle.abc_live_text.specs.KeptText.{LiesAfter, block_after}
use Rattle.abc_live_text.proofs.new_places.move_after.Given as goal

-- the tunes that have been moved, and those still to be moved
abbrev pub invariant-loop-i : goal.invariant-loop-i
invariant-loop-i l = record {
  same : take l.i l.tunes.items ++ map (block_after l.stretch) (drop l.i l.tunes.items)
      ≡ take l.stretch.tunes.to l.initial.tunes.items ++ map (block_after l.stretch) (drop l.stretch.tunes.to l.initial.tunes.items);
  beyond : All (LiesAfter l.stretch) (drop l.i l.tunes.items);
  within : All (LiesWithin MOST_LINES) (drop l.i l.tunes.items);
  count : length l.tunes.items ≡ length l.initial.tunes.items;
}
