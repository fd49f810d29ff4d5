use Rattle.std.proofs.Common.{◌≡◌, ◌++◌, drop}
use Rattle.abc_voices_sections.specs.Items.{items_of}
use Rattle.abc_voices.specs.Fields.{without_music}
use Rattle.abc_voices.proofs.fields.without_music.Given as goal

-- the fields so far, and those of the rest
abbrev pub invariant-loop-item : goal.invariant-loop-item
invariant-loop-item l = items_of l.found.items ++ without_music (items_of (drop l.item-index l.tune)) ≡ without_music (items_of l.tune)
