-- The faults of a text once a stretch of its lines has been replaced. Not in ABC 2.1.
use Rattle.std.specs.Prelude.{ℕ, ◌+◌, ◌-◌, Bool, List, ◌++◌, filter, map, nat_le, nat_lt}
use Rattle.abc_lines.specs.ItemRange.{removed_count}
use Rattle.abc_lines.specs.declared.item_range.Replacement.{Replacement}
use Rattle.abc_tune_compiler.specs.Fault.{fault_cmp}
use Rattle.abc_tune_compiler.specs.Sort.{sort_dedup}
use Rattle.abc_tune_compiler.specs.declared.fault.Fault.{Fault}

-- Whether a fault is in one of the first `from` lines.
abbrev pub is_before : ℕ → Fault → Bool
is_before from fault = nat_le fault.line from

-- Whether a fault is after the first `to` lines.
abbrev pub is_after : ℕ → Fault → Bool
is_after to fault = nat_lt to fault.line

-- A fault after lines that other lines replace, with its new line.
abbrev pub shifted_fault : ℕ → ℕ → Fault → Fault
shifted_fault gone came fault = record { line = fault.line - gone + came; column = fault.column; code = fault.code }

-- The old faults, with new ones instead of those of the lines that are replaced. The faults after these lines move with
-- their own lines.
unfoldable pub faults_after : Replacement → List Fault → List Fault → List Fault
faults_after lines old new =
    filter (is_before lines.from) old ++ (sort_dedup fault_cmp new
    ++ map (shifted_fault (removed_count lines) lines.came) (filter (is_after (lines.from + removed_count lines)) old))
