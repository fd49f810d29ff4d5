use Rattle.std.proofs.Common.{◌≡◌, drop}
use Rattle.abc_voices_sections.specs.Items.{items_of}
use Rattle.abc_voices_sections.specs.Section.{opening_voice}
use Rattle.abc_voices_sections.proofs.section.opening_voice.Given as goal

-- none is declared so far
abbrev pub invariant-loop-item : goal.invariant-loop-item
invariant-loop-item l = opening_voice (items_of (drop l.item-index l.tune)) ≡ opening_voice (items_of l.tune)
