use Rattle.std.proofs.Common.{◌≡◌, drop}
use Rattle.abc_voices.specs.Fields.{keeps_programs}
use Rattle.abc_voices_sections.specs.Items.{items_of}
use Rattle.abc_voices.proofs.fields.keeps_programs.Given as goal

-- the rest says what all say
abbrev pub invariant-loop-item : goal.invariant-loop-item
invariant-loop-item l = keeps_programs (items_of (drop l.item-index l.fields)) ≡ keeps_programs (items_of l.fields)
