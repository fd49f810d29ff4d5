use Rattle.std.proofs.Common.{◌≡◌, ◌++◌, take, drop, replicate}
use Rattle.std.specs.List.{concat}
use Rattle.abc_repeat.proofs.order_play.put_copies.Given as goal

-- the list holds this number of copies
abbrev pub invariant-loop : goal.invariant-loop
invariant-loop l = l.sections.items ≡ take l.begin l.initial.sections.items ++ concat (replicate l.counter (drop l.begin l.initial.sections.items))
