use Rattle.std.proofs.Common.{◌≡◌, ◌≤◌, ◌-◌, ◌++◌, take, drop, All}
use Rattle.abc_voices_sections.specs.ItemRuns.{runs_of, items_in, AreAllPlayed, IsRun}
use Rattle.abc_voices_sections.proofs.item_runs.item_runs.Given as goal

-- the runs so far, what takes its turn after them, and the rest
abbrev pub invariant-loop-at : goal.invariant-loop-at
invariant-loop-at g l = record {
  inside : l.begin ≤ l.at;
  whole : items_in (runs_of l.found.items) ++ drop l.begin l.part ≡ l.part;
  each : All (IsRun g.T.AsItem.item_of) (runs_of l.found.items);
  turns : AreAllPlayed g.T.AsItem.item_of (take (l.at - l.begin) (drop l.begin l.part));
}
