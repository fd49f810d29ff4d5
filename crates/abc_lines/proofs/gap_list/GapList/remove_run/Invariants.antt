use Rattle.std.proofs.Common.{◌≡◌, ◌+◌, []}
use Rattle.abc_lines.specs.Block.{gap_block}
use Rattle.abc_lines.specs.GapList.{replaced_run}
use Rattle.abc_lines.proofs.gap_list.GapList.remove_run.Given as goal

-- the number of items after the place that are gone
abbrev pub invariant-loop-dropped : goal.invariant-loop-dropped
invariant-loop-dropped g l =
    (l.self-inside.block ≡ gap_block (replaced_run l.fn.self.items l.at l._dropped []) l.at (l.fn.self.room + l._dropped))
    × (l.self-inside.moved ≡ l.initial.self-inside.moved)
