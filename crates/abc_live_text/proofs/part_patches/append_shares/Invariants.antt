use Rattle.std.proofs.Common.{◌≡◌, ◌++◌, take}
use Rattle.abc_live_text.proofs.part_patches.append_shares.Given as goal

abbrev pub invariant-loop-i : goal.invariant-loop-i
invariant-loop-i g l = record {
  made : l.chains.items ≡ l.initial.chains.items ++ take l.i l.more;
}
