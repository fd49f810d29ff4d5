use Rattle.std.proofs.Common.{◌≡◌, drop}
use Rattle.abc_voices_sections.specs.Items.{items_of}
use Rattle.abc_voices_sections.specs.Section.{letters}
use Rattle.abc_voices_sections.proofs.section.has_one_section.Given as goal

-- the letters of the rest are all
abbrev pub invariant-loop-item : goal.invariant-loop-item
invariant-loop-item l = letters (items_of (drop l.item-index l.tune)) ≡ letters (items_of l.tune)
