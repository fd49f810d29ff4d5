use Rattle.std.proofs.Common.{◌≡◌, ◌≤◌, ◌-◌, ◌++◌, take, drop, map}
use Rattle.abc_voices_sections.specs.Stage.{steps_at}
use Rattle.abc_voices_sections.specs.Section.{cut, cut_from}
use Rattle.abc_voices_sections.proofs.section.sections.Given as goal

-- the sections so far, and those of the rest after the open one
abbrev pub invariant-loop-at : goal.invariant-loop-at
invariant-loop-at g l = record {
  inside : l.begin ≤ l.at;
  found : map steps_at l.found.items ++ cut_from g.T.AsItem.item_of l.opening (take (l.at - l.begin) (drop l.begin l.steps)) l.voice (drop l.at l.steps) ≡ cut g.T.AsItem.item_of l.fn.first l.steps;
}
