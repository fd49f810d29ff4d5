-- The stretch of a text that an edit changes, and the blocks after the edit. Not in ABC 2.1.
use Rattle.std.specs.Prelude.{◌≡◌, ◌⊎◌, ℕ, ◌+◌, ◌-◌, IsTrue, nat_le, nat_lt, List, [], ◌∷◌, ◌++◌, filter, length, map}
use Rattle.abc_scan.specs.declared.line_class.LineClass.{LineClass}
use Rattle.abc_book.specs.declared.block.Block.{Block}
use Rattle.abc_book.specs.Block.{is_x_line, blocks_of}
use Rattle.abc_book.specs.Laws.{move_block}

-- Lines that are empty or begin with an X: line.
abbrev pub BeginTune : List LineClass → Type 0
BeginTune [] = Unit {0}
BeginTune (class ∷ classes) = IsTrue (is_x_line class)

-- No block continues from the lines before into these: they are the first of the text, or begin a tune.
abbrev pub IsCut : List LineClass → List LineClass → Type 0
IsCut before following = (before ≡ []) ⊎ BeginTune following

-- The blocks of lines that begin at line `first`, with their places in the text.
abbrev pub blocks_at : ℕ → List LineClass → List Block
blocks_at first classes = map (move_block first) (blocks_of classes)

-- The blocks that begin before a line, and the blocks that begin at or after it.
abbrev pub blocks_before : ℕ → List Block → List Block
blocks_before line blocks = filter (λ block. nat_lt block.from line) blocks

abbrev pub blocks_after : ℕ → List Block → List Block
blocks_after line blocks = filter (λ block. nat_le line block.from) blocks

-- A block after `went` lines that `came` lines replaced.
abbrev pub shift_block : ℕ → ℕ → Block → Block
shift_block went came block = record { kind = block.kind; from = block.from - went + came; to = block.to - went + came }

-- A stretch replaces another one. Each is the first of the text, begins a tune, or has no lines, and the lines after it
-- are none or begin a tune. Then the blocks before it stay, and the blocks after it move by the difference of lines.
abbrev pub AStretchIsEnough : Type 0
AStretchIsEnough =
    (before old new following : List LineClass) → IsCut before old → IsCut before new → BeginTune following
    → let there = blocks_of (before ++ (old ++ following)) in let end = length before + length old in
    blocks_of (before ++ (new ++ following))
    ≡ blocks_before (length before) there
    ++ (blocks_at (length before) new ++ map (shift_block (length old) (length new)) (blocks_after end there))
