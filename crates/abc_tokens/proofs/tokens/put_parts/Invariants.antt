use Rattle.std.proofs.Common.{◌≡◌, ◌++◌, drop, map}
use Rattle.abc_tokens.specs.LineTokens.{part_token}
use Rattle.abc_tokens.proofs.tokens.put_parts.Given as goal

-- the tokens so far, and those of the parts that are left
abbrev pub invariant-loop-part : goal.invariant-loop-part
invariant-loop-part l =
    l.tokens.items ++ map (part_token l.line l.at) (drop l.part-index l.chord.parts) ≡ l.fn.tokens.items ++ map (part_token l.line l.at) l.chord.parts
