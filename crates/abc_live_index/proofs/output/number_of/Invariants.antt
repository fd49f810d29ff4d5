use Rattle.std.proofs.Common.{◌≡◌, drop}
use Rattle.abc_tune_compiler.specs.Tune.{first_of}
use Rattle.abc_live_index.proofs.output.number_of.Given as goal

-- the rest gives what the whole gives
abbrev pub invariant-loop-one : goal.invariant-loop-one
invariant-loop-one g l = first_of (g.C.Compiler.rules l.compiler).number 0 (drop l.one-index l.items) ≡ first_of (g.C.Compiler.rules l.compiler).number 0 l.items
