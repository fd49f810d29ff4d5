-- Columns of faults.
use Rattle.std.specs.Prelude.{ℕ, ◌+◌, ◌-◌, ◌^◌, min}

-- The column, counted from 1, of the byte at a place of a line, counted from 0, as far as 32 bits count. Not in ABC 2.1.
abbrev pub column_of : ℕ → ℕ
column_of place = min (place + 1) (2 ^ 32 - 1)
