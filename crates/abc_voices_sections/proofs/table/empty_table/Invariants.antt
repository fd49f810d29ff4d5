use Rattle.std.proofs.Common.{◌≡◌, map, take}
use Rattle.std.specs.Prelude.{None}
use Rattle.abc_voices_sections.proofs.table.empty_table.Given as goal

-- none for each section that is passed
abbrev pub invariant-loop-section : goal.invariant-loop-section
invariant-loop-section g l = l.table.items ≡ map (λ section. None) (take l._section-index l.sections)
