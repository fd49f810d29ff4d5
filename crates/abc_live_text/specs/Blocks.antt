-- The blocks of rows. Not in ABC 2.1.
use Rattle.std.specs.Prelude.{List, Option, map}
use Rattle.abc_book.specs.Block.{blocks_of}
use Rattle.abc_book.specs.declared.block.Block.{Block}
use Rattle.abc_tune_compiler.specs.Book.{header_in, tunes_in}
use Rattle.abc_live_text.specs.Pieces.{class_in}
use Rattle.abc_live_text.specs.Row.{CarriedRow}

-- The file header among rows, if there is one, and the tunes.
abbrev pub header_among : {Cell : Type 0} → List (CarriedRow Cell) → Option Block
header_among rows = header_in (blocks_of (map class_in rows))

abbrev pub tunes_among : {Cell : Type 0} → List (CarriedRow Cell) → List Block
tunes_among rows = tunes_in (blocks_of (map class_in rows))
