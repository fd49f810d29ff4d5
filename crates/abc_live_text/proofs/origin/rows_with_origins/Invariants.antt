use Rattle.std.proofs.Common.{◌≡◌, ◌+◌, ◌++◌, drop, map}
use Rattle.abc_live_text.specs.Origin.{BlocksRise, rows_until}
use Rattle.abc_live_text.specs.Row.{carried_row}
use Rattle.abc_live_text.proofs.origin.rows_with_origins.Given as goal

abbrev pub invariant-loop-i : goal.invariant-loop-i
invariant-loop-i g l = record {
  placed_rows : l.placed_rows.items ++ rows_until (map carried_row l.rows.items) l.at l.to (l.number + l.i) (drop l.i l.blocks)
      ≡ rows_until (map carried_row l.rows.items) l.from l.to l.number l.blocks;
  rise : BlocksRise l.at (drop l.i l.blocks) l.to;
}
