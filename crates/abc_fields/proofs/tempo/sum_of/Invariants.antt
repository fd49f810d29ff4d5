use Rattle.std.proofs.Common.{◌≡◌, ◌≤◌, ◌-◌, ◌*◌}
use Rattle.abc_fields.specs.Tempo.{sum_of, add_fraction}
use Rattle.abc_fields.proofs.tempo.sum_of.Given as goal

-- the sum so far and the sum of the rest make the whole sum
abbrev pub invariant-loop : goal.invariant-loop
invariant-loop l = record {
  value : add_fraction l.sum (sum_of (16 - l.counter) l.rest) ≡ sum_of 16 l.fn.text;
  range : l.sum ≤ l.counter * 262144;
}
