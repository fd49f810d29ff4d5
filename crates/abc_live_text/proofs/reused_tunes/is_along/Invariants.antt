use Rattle.std.proofs.Common.{◌≡◌, ◌≤◌, drop}
use Rattle.abc_live_text.specs.ReusedTunes.{is_along}
use Rattle.abc_live_text.proofs.reused_tunes.is_along.Given as goal

abbrev pub invariant-loop-row : goal.invariant-loop-row
invariant-loop-row g l = record {
  inside : l.place ≤ l.count;
  same : is_along l.source l.count 0 l.rows ≡ is_along l.source l.count l.place (drop l.row-index l.rows);
}
