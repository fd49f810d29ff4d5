use Rattle.std.proofs.Common.{◌≡◌, None, drop}
use Rattle.std.specs.Prelude.{option_copied}
use Rattle.abc_voices_sections.specs.Items.{items_of}
use Rattle.abc_voices.specs.Opening.{order_after, after_all}
use Rattle.abc_voices.proofs.opening.order_of.Given as goal

-- what holds so far, and after the rest
abbrev pub invariant-loop-item : goal.invariant-loop-item
invariant-loop-item l = after_all order_after (option_copied l.order) (items_of (drop l.item-index l.tune)) ≡ after_all order_after None (items_of l.tune)
