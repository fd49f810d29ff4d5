use Rattle.std.proofs.Common.{◌≡◌, ◌-◌}
use Rattle.abc_fields.specs.Tempo.{halve}
use Rattle.abc_fields.proofs.tempo.lowest_terms.Given as goal

-- the parts halved so far have the same lowest terms
abbrev pub invariant-loop : goal.invariant-loop
invariant-loop l = halve (9 - l.counter) l.num l.den ≡ halve 9 l.fn.sum 512
