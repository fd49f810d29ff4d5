use Rattle.std.proofs.Common.{◌≡◌, drop}
use Rattle.abc_voices.specs.Fields.{is_steady}
use Rattle.abc_voices_sections.specs.Items.{items_of}
use Rattle.abc_voices.proofs.fields.is_steady.Given as goal

-- the rest says what all say
abbrev pub invariant-loop-item : goal.invariant-loop-item
invariant-loop-item l = is_steady (items_of (drop l.item-index l.fields)) ≡ is_steady (items_of l.fields)
