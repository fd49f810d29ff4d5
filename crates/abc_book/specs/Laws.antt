-- Laws of the blocks of every text.
use Rattle.std.specs.Prelude.{◌≡◌, ℕ, ◌+◌, ◌<◌, ◌≤◌, ◌↔◌, Bool, ◌&&◌, nat_le, nat_lt, IsTrue, Some, List, [], ◌∷◌, ◌++◌, length}
use Rattle.std.specs.Prelude.{map, All, count_by, slice_get}
use Rattle.abc_scan.specs.declared.line_class.LineClass.{LineClass}
use Rattle.abc_scan.specs.declared.line_class.LineClass.TheVariants.{Blank, Comment, Field}
use Rattle.abc_book.specs.declared.block.Block.{Block}
use Rattle.abc_book.specs.declared.block.BlockKind.TheVariants.{Tune}
use Rattle.abc_book.specs.declared.pass.OpenBlock.TheVariants.{Nothing}
use Rattle.abc_book.specs.Block.{is_x_line, letter_x, blocks_of}
use Rattle.abc_book.specs.Pass.{blocks_from}

-- One recursion gives the blocks.
abbrev pub OnePass : Type 0
OnePass = (classes : List LineClass) → blocks_of classes ≡ blocks_from Nothing 0 classes

-- A line lies in a block.
abbrev pub holds : ℕ → Block → Bool
holds line block = nat_le block.from line && nat_lt line block.to

-- A line that is neither a comment nor blank lies in exactly one block. ABC 2.1 section 2.2.
abbrev pub EachLineInOneBlock : Type 0
EachLineInOneBlock =
    (classes : List LineClass) (line : ℕ) (class : LineClass) → slice_get classes line ≡ Some class
    → ¬ (class ≡ Blank) → ¬ (class ≡ Comment) → count_by (holds line) (blocks_of classes) ≡ 1

-- A blank line lies in no block. ABC 2.1 section 2.2.
abbrev pub NoBlankInABlock : Type 0
NoBlankInABlock =
    (classes : List LineClass) (line : ℕ) → slice_get classes line ≡ Some Blank
    → count_by (holds line) (blocks_of classes) ≡ 0

-- A block `lines` lines further down.
abbrev pub move_block : ℕ → Block → Block
move_block lines block = record { kind = block.kind; from = block.from + lines; to = block.to + lines }

-- The blocks of a text are those of the lines before an X: line, and those of the rest. Not in ABC 2.1.
abbrev pub AnXLineCuts : Type 0
AnXLineCuts =
    (before following : List LineClass) (x : LineClass) → IsTrue (is_x_line x)
    → blocks_of (before ++ x ∷ following) ≡ blocks_of before ++ map (move_block (length before)) (blocks_of (x ∷ following))

-- Blocks of at least one line follow one another from the first line to the last.
abbrev pub RiseFromTo : ℕ → List Block → ℕ → Type 0
RiseFromTo first [] last = first ≤ last
RiseFromTo first (block ∷ blocks) last = (first ≤ block.from) × (block.from < block.to) × RiseFromTo block.to blocks last

abbrev pub BlocksRise : Type 0
BlocksRise = (classes : List LineClass) → RiseFromTo 0 (blocks_of classes) (length classes)

-- A block is a tune exactly if its first line is an X: line. ABC 2.1 section 2.2.
abbrev pub XLinesBeginTunes : Type 0
XLinesBeginTunes =
    (classes : List LineClass)
    → All (λ block. (block.kind ≡ Tune) ↔ (slice_get classes block.from ≡ Some (Field letter_x))) (blocks_of classes)
