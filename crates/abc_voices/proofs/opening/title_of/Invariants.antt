use Rattle.std.proofs.Common.{◌≡◌, drop}
use Rattle.abc_voices_sections.specs.Items.{items_of}
use Rattle.abc_voices.specs.Opening.{title_of}
use Rattle.abc_voices.proofs.opening.title_of.Given as goal

-- there is none so far
abbrev pub invariant-loop-item : goal.invariant-loop-item
invariant-loop-item l = title_of (items_of (drop l.item-index l.tune)) ≡ title_of (items_of l.tune)
