use Rattle.std.proofs.Common.{◌≡◌, ◌++◌, drop}
use Rattle.abc_lines.specs.Text.{seen_lines}
use Rattle.abc_tune_memo.specs.Bytes.{bytes_of_lines}
use Rattle.abc_live_index.proofs.key.bytes_of.Given as goal

-- the bytes so far, and those of the rest
abbrev pub invariant-loop-line : goal.invariant-loop-line
invariant-loop-line g l =
    l.bytes.items ++ bytes_of_lines (g.C.Compiler.rules l.compiler).class (seen_lines (drop l.line-index l.lines)) ≡ bytes_of_lines (g.C.Compiler.rules l.compiler).class (seen_lines l.lines)
