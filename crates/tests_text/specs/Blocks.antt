-- Blocks by their first and last line, and classes of lines, for the examples.
use Rattle.std.specs.Prelude.{ℕ}
use Rattle.abc_scan.specs.declared.line_class.LineClass.{LineClass}
use Rattle.abc_scan.specs.declared.line_class.LineClass.TheVariants.{Field}
use Rattle.abc_book.specs.declared.block.Block.{Block}
use Rattle.abc_book.specs.declared.block.BlockKind.TheVariants.{FileHeader, Tune, Free}

-- An `X:` line, a `K:` line and a `+:` line.
abbrev pub reference : LineClass
reference = Field 88

abbrev pub key : LineClass
key = Field 75

abbrev pub continued : LineClass
continued = Field 43

-- A file header, a tune and free text from a line up to another, counted from 0.
abbrev pub header : ℕ → ℕ → Block
header from to = record { kind = FileHeader; from = from; to = to }

abbrev pub tune : ℕ → ℕ → Block
tune from to = record { kind = Tune; from = from; to = to }

abbrev pub free : ℕ → ℕ → Block
free from to = record { kind = Free; from = from; to = to }
