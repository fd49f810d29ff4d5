use Rattle.std.proofs.Common.{◌≡◌, ◌++◌, drop}
use Rattle.abc_voices_sections.specs.Items.{items_of}
use Rattle.abc_voices_sections.specs.Section.{letters}
use Rattle.abc_voices_sections.proofs.section.letters.Given as goal

-- the letters so far, and those of the rest
abbrev pub invariant-loop-item : goal.invariant-loop-item
invariant-loop-item l = l.found.items ++ letters (items_of (drop l.item-index l.tune)) ≡ letters (items_of l.tune)
