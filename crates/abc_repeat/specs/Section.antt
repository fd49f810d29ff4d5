-- The sections of a tune and their letters. ABC 2.1 section 3.1.9.
use Rattle.std.specs.Prelude.{ℕ, ◌-◌, ◌==◌, if◌then◌else◌, List, Option, None, slice_index_or}
use Rattle.std.specs.List.{position_from}
use Rattle.std.specs.Char.{is_ascii_uppercase}
use Rattle.abc_repeat.specs.declared.section.FirstSections.{FirstSections}

-- The letter A, in ASCII.
abbrev pub letter_a : ℕ
letter_a = 65

-- The first section of a letter A to Z, among sections with these letters, counted from 1. The choice of the first is
-- not in ABC 2.1.
abbrev pub first_section : List ℕ → ℕ → Option ℕ
first_section letters letter = if is_ascii_uppercase letter then position_from (λ own. own == letter) 1 letters else None

-- The section of a letter in a table of first sections.
abbrev pub section_of : FirstSections → ℕ → Option ℕ
section_of sections letter = if is_ascii_uppercase letter then slice_index_or sections.by_letter (letter - letter_a) None else None
