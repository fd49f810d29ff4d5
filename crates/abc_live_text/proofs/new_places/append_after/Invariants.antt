use Rattle.std.proofs.Common.{◌≡◌, ◌-◌, ◌++◌, map, take, drop}
use Rattle.abc_live_text.specs.KeptText.{block_after}
use Rattle.abc_live_text.proofs.new_places.append_after.Given as goal

abbrev pub invariant-loop-i : goal.invariant-loop-i
invariant-loop-i l = record {
  made : l.tunes.items ≡ l.initial.tunes.items ++ map (block_after l.stretch) (take (l.i - l.stretch.tunes.to) (drop l.stretch.tunes.to l.old));
}
