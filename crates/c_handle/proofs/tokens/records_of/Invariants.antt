use Rattle.std.proofs.Common.{◌≡◌, ◌++◌, drop, map}
use Rattle.c_handle.specs.TokenRecords.{token_record}
use Rattle.c_handle.proofs.tokens.records_of.Given as goal

-- the records so far, and those of the tokens that are left
abbrev pub invariant-loop-token : goal.invariant-loop-token
invariant-loop-token l = l.records.items ++ map token_record (drop l.token-index l.tokens) ≡ map token_record l.tokens
