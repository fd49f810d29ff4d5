use Rattle.std.proofs.Common.{◌≡◌, ℕ, ◌<◌, length, slice_get}
use Rattle.abc_bars_header.proofs.same_header.VoicesSame.same.Given as goal

abbrev pub invariant-loop-at : goal.invariant-loop-at
invariant-loop-at g l = record {
  agree : (k : ℕ) → k < l.at → slice_get l.fn.self k ≡ slice_get l.fn.other k;
  count : l.at-end ≡ length l.fn.self;
}
