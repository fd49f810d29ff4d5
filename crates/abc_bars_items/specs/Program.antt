-- Programs (MIDI 1.0).
use Rattle.std.specs.Prelude.{ℕ, nat_le, if◌then◌else◌, Option, Some, None}
use Rattle.abc_bars_items.specs.declared.program.TheConstants.{HIGHEST_PROGRAM}

-- The program of a number, which is refused if MIDI has no such program. Not in ABC 2.1.
abbrev pub program_of : ℕ → Option ℕ
program_of written = if nat_le written HIGHEST_PROGRAM then Some written else None
