-- The front of a text that a reader takes.
use Rattle.std.specs.Prelude.{ℕ, ◌+◌, ◌<◌, ◌≤◌, List, length}

-- A size from 1 up to the length of a text.
pub record IsFront (text : List ℕ) (size : ℕ) : Type 0 where
  pub some : 0 < size
  pub inside : size ≤ length text

-- A value that is read after one byte, and the size of both in bytes.
abbrev pub after_byte : {V : Type 0} → V × ℕ → V × ℕ
after_byte read = (read.0, 1 + read.1)
