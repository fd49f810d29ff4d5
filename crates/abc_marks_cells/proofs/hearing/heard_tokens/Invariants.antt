use Rattle.std.proofs.Common.{◌≡◌, ◌++◌, drop}
use Rattle.abc_marks_cells.specs.Hearing.{heard_tokens}
use Rattle.abc_marks_cells.proofs.hearing.heard_tokens.Given as goal

-- the tokens so far, and those still to come
abbrev pub invariant-loop-token : goal.invariant-loop-token
invariant-loop-token l = l.heard.items ++ heard_tokens l.line (drop l.token-index l.tokens) ≡ heard_tokens l.line l.tokens
