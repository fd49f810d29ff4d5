use Rattle.std.proofs.Common.{◌≡◌, ℕ, ◌+◌, ◌-◌, true, ◌==◌, length, drop, get_or, None}
use Rattle.std.specs.List.{position_from}
use Rattle.std.specs.Option.{option_or}
use Rattle.std.specs.Char.{is_ascii_uppercase}
use Rattle.abc_repeat.proofs.section.FirstSections.of.Given as goal

-- the section of a letter in the table, or else in the rest
abbrev pub invariant-loop-at : goal.invariant-loop-at
invariant-loop-at l = record {
  wide : length l.by_letter ≡ 26;
  firsts : (letter : ℕ) → is_ascii_uppercase letter ≡ true
      → option_or (get_or l.by_letter (letter - 65) None) (position_from (λ own. own == letter) (l.at + 1) (drop l.at l.letters)) ≡ position_from (λ own. own == letter) 1 l.letters;
}
