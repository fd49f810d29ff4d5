-- The lengths of notes.
use Rattle.std.specs.Prelude.{ℕ, ◌≤◌}
use Rattle.abc_time.specs.Grains.{grains_of_the_longest_length}

-- A length that a note, chord or rest may have: at most 1,024 whole notes. Not in ABC 2.1.
abbrev pub IsLengthOfANote : ℕ → Type 0
IsLengthOfANote length = length ≤ grains_of_the_longest_length
