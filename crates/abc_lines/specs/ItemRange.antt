-- Ranges of items, and what replaces them. Not in ABC 2.1.
use Rattle.std.specs.Prelude.{ℕ, ◌-◌}
use Rattle.abc_lines.specs.declared.item_range.Replacement.{Replacement}

-- How many items a replacement removes.
abbrev pub removed_count : Replacement → ℕ
removed_count items = items.to - items.from
