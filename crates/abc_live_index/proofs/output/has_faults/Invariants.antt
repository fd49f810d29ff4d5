use Rattle.std.proofs.Common.{◌≡◌, drop}
use Rattle.abc_live_index.specs.Output.{has_faults}
use Rattle.abc_live_index.proofs.output.has_faults.Given as goal

-- the rest gives what the whole gives
abbrev pub invariant-loop-one : goal.invariant-loop-one
invariant-loop-one g l = has_faults (g.C.Compiler.rules l.compiler) (drop l.one-index l.items) ≡ has_faults (g.C.Compiler.rules l.compiler) l.items
