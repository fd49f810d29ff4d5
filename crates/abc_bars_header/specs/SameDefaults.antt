-- Equality of the values that a file header sets. Not in ABC 2.1.
use Rattle.std.specs.Prelude.{◌≡◌, Bool, true}
use Rattle.std.specs.Cmp.{IsEquivalence}
use Rattle.abc_bars_header.specs.contracts.defaults.Defaults.{the_row}
use Rattle.abc_bars_header.specs.declared.defaults.Defaults.{Defaults}
use Rattle.abc_bars_voice.specs.Equality.{Equality, by_code, equivalence}

-- The values of M:, L: and Q: and of directives, by each.
abbrev pub defaults_equality : Equality Defaults
defaults_equality = by_code the_row.coded

-- Whether the same values are set.
unfoldable pub same_defaults : Defaults → Defaults → Bool
same_defaults = defaults_equality.same

-- It decides exactly whether they are equal.
pub same_defaults_decides : (a b : Defaults) → (same_defaults a b ≡ true → a ≡ b) × (a ≡ b → same_defaults a b ≡ true)
unfolding same_defaults
same_defaults_decides a b = defaults_equality.exact a b

pub defaults_equivalence : IsEquivalence same_defaults
unfolding same_defaults
defaults_equivalence = equivalence defaults_equality
