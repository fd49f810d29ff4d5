-- The blocks of a text by one recursion over its lines.
use Rattle.std.specs.Prelude.{ℕ, ◌+◌, List, [], ◌∷◌, ◌++◌, if◌then◌else◌, ◌==◌}
use Rattle.abc_scan.specs.declared.line_class.LineClass.{LineClass}
use Rattle.abc_scan.specs.declared.line_class.LineClass.TheVariants.{Blank, Comment, Field, Directive, Music}
use Rattle.abc_book.specs.declared.block.Block.{Block}
use Rattle.abc_book.specs.declared.block.BlockKind.{BlockKind}
use Rattle.abc_book.specs.declared.block.BlockKind.TheVariants.{FileHeader, Tune, Free}
use Rattle.abc_book.specs.declared.pass.OpenBlock.{OpenBlock}
use Rattle.abc_book.specs.declared.pass.OpenBlock.TheVariants.{Nothing, Inside, Ended}
use Rattle.abc_book.specs.Block.{letter_x}

-- The block of one line.
abbrev pub one_line : BlockKind → ℕ → Block
one_line kind at = record { kind = kind; from = at; to = at + 1 }

-- The block of a line without X:. A line without an open block before it opens one of this kind.
abbrev pub with_line : BlockKind → OpenBlock → ℕ → Block
with_line opening Nothing at = one_line opening at
with_line opening (Inside block) at = record block { to = at + 1 }
with_line opening Ended at = one_line Free at

-- The open block before the line that follows a blank one.
abbrev pub after_blank : OpenBlock → OpenBlock
after_blank Nothing = Nothing
after_blank (Inside block) = Ended
after_blank Ended = Ended

-- The open block before the line that follows this one.
abbrev pub after_line : OpenBlock → ℕ → LineClass → OpenBlock
after_line before at Blank = after_blank before
after_line before at Comment = before
after_line before at (Field letter) =
    if letter == letter_x then Inside (one_line Tune at) else Inside (with_line FileHeader before at)
after_line before at Directive = Inside (with_line FileHeader before at)
after_line before at Music = Inside (with_line Free before at)

-- The block that is open at the end of a text.
abbrev pub last_block : OpenBlock → List Block
last_block Nothing = []
last_block (Inside block) = block ∷ []
last_block Ended = []

-- The block that a line ends.
abbrev pub block_ended_by : OpenBlock → LineClass → List Block
block_ended_by before Blank = last_block before
block_ended_by before (Field letter) = if letter == letter_x then last_block before else []
block_ended_by before _ = []

-- The blocks that lines make after an open block; the first of them has this number.
abbrev pub blocks_from : OpenBlock → ℕ → List LineClass → List Block
blocks_from before at [] = last_block before
blocks_from before at (class ∷ classes) =
    block_ended_by before class ++ blocks_from (after_line before at class) (at + 1) classes
