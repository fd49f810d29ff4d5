use Rattle.std.proofs.Common.{◌≡◌, ◌++◌, map, take}
use Rattle.abc_live_text.specs.Row.{carried_row}
use Rattle.abc_live_text.proofs.new_parts.append_new.Given as goal

abbrev pub invariant-loop-i : goal.invariant-loop-i
invariant-loop-i g l = record {
  made : l.rows.items ≡ l.initial.rows.items ++ map carried_row (take l.i l.new);
}
