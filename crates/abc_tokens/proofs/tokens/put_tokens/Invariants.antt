use Rattle.std.proofs.Common.{◌≡◌, ◌++◌, drop}
use Rattle.std.specs.Prelude.{flat_map}
use Rattle.abc_tokens.specs.LineTokens.{end_after, with_parts}
use Rattle.abc_tokens.proofs.tokens.put_tokens.Given as goal

-- the tokens so far, and those that are left
abbrev pub invariant-loop-token : goal.invariant-loop-token
invariant-loop-token l = record {
  found : l.tokens.items ++ flat_map (with_parts l.line) (drop l.token-index l.found) ≡ l.fn.tokens.items ++ flat_map (with_parts l.line) l.found;
  end : end_after l.end (drop l.token-index l.found) ≡ end_after 0 l.found;
}
