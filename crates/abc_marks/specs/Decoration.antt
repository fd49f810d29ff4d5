-- Decorations of notes and chords. ABC 2.1 section 4.14.
use Rattle.std.specs.Prelude.{ℕ}
use Rattle.abc_marks.specs.declared.decoration.Accent.{Accent}
use Rattle.abc_marks.specs.declared.decoration.Accent.TheVariants as accents
use Rattle.abc_marks.specs.declared.decoration.Shortening.{Shortening}
use Rattle.abc_marks.specs.declared.decoration.Shortening.TheVariants as shortenings

-- What an accent adds to the velocity of MIDI. Not in ABC 2.1.
abbrev pub added_velocity : Accent → ℕ
added_velocity accents.Accent = 20
added_velocity accents.Marcato = 30

-- The number by which the length of a sound is divided. Not in ABC 2.1.
abbrev pub shortening_divisor : Shortening → ℕ
shortening_divisor shortenings.Staccato = 2
shortening_divisor shortenings.Wedge = 4
