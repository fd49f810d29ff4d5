use Rattle.std.proofs.Common.{◌≡◌, ◌++◌, map, None}
use Rattle.abc_live_text.specs.Origin.{rows_between}
use Rattle.abc_live_text.specs.Row.{carried_row, at_origin}
use Rattle.abc_live_text.proofs.origin.append_without_origin.Given as goal

abbrev pub invariant-loop-i : goal.invariant-loop-i
invariant-loop-i g l = record {
  placed_rows : l.placed_rows.items ≡ l.initial.placed_rows.items ++ map (at_origin None) (rows_between (map carried_row l.rows.items) l.from l.i);
}
