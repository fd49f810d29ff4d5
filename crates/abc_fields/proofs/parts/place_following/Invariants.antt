use Rattle.std.proofs.Common.{◌≡◌, Some, drop}
use Rattle.std.specs.List.{fold}
use Rattle.abc_fields.specs.Parts.{order_bytes, next_of, place_following}
use Rattle.abc_fields.proofs.parts.place_following.Given as goal

-- the place after the rest is the place after the whole text
abbrev pub invariant-loop-byte : goal.invariant-loop-byte
invariant-loop-byte l = fold next_of (Some l.place) (order_bytes (drop l.byte-index l.text)) ≡ place_following l.text
