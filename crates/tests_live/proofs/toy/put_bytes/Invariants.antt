use Rattle.std.proofs.Common.{◌≡◌, ◌++◌, drop}
use Rattle.tests_live.proofs.toy.put_bytes.Given as goal

-- what is put, and the rest
abbrev pub invariant-loop-byte : goal.invariant-loop-byte
invariant-loop-byte l = l.file ++ drop l.byte-index l.bytes ≡ l.initial.file ++ l.bytes
