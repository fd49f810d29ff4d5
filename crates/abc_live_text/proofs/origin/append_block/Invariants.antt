use Rattle.std.proofs.Common.{◌≡◌, ◌++◌, map}
use Rattle.abc_live_text.specs.Origin.{rows_between, cell_count, rows_along}
use Rattle.abc_live_text.specs.Row.{carried_row}
use Rattle.abc_live_text.proofs.origin.append_block.Given as goal

abbrev pub invariant-loop-i : goal.invariant-loop-i
invariant-loop-i g l = record {
  placed_rows : l.placed_rows.items ≡ l.initial.placed_rows.items ++ rows_along l.source 0 (rows_between (map carried_row l.rows.items) l.from l.i);
  count : l.first ≡ cell_count (rows_between (map carried_row l.rows.items) l.from l.i);
}
