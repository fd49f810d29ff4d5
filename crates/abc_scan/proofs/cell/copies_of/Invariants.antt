use Rattle.std.proofs.Common.{◌≡◌, take}
use Rattle.abc_scan.proofs.cell.copies_of.Given as goal

-- copies of the tokens so far
abbrev pub invariant-loop-token : goal.invariant-loop-token
invariant-loop-token l = l.copies.items ≡ take l.token-index l.tokens
