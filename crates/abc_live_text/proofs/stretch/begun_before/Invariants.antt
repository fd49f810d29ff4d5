use Rattle.std.proofs.Common.{◌-◌, ◌<◌, ◌≤◌, drop, length}
use Rattle.abc_live_text.specs.NewParts.{start_of}
use Rattle.abc_live_text.proofs.stretch.begun_before.Given as goal

abbrev pub invariant-loop-count : goal.invariant-loop-count
invariant-loop-count l = record {
  least : l.first ≤ l.count;
  order : l.count ≤ l.end;
  most : l.end ≤ length l.tunes;
  next : l.line ≤ start_of (drop l.end l.tunes) l.line;
  last : l.first < l.count → start_of (drop (l.count - 1) l.tunes) 0 < l.line;
}

abbrev pub decreases-loop-count : goal.decreases-loop-count
decreases-loop-count l = l.end - l.count
