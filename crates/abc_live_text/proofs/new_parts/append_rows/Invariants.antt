use Rattle.std.proofs.Common.{◌≡◌, ◌++◌, ◌-◌, take, drop}
use Rattle.abc_live_text.proofs.new_parts.append_rows.Given as goal

abbrev pub invariant-loop-i : goal.invariant-loop-i
invariant-loop-i g l = record {
  made : l.rows.items ≡ l.initial.rows.items ++ take (l.i - l.from) (drop l.from l.more);
}
