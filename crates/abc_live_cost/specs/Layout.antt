-- A text with its blocks: along which runs of lines a fold goes, and in which states it begins. Not in ABC 2.1.
use Rattle.std.specs.Prelude.{ℕ, ◌+◌, List, [], ◌∷◌, ◌++◌, map, length, Option, Some, None}
use Rattle.abc_book.specs.Laws.{RiseFromTo}
use Rattle.abc_book.specs.declared.block.Block.{Block}
use Rattle.abc_lines.specs.Text.{Text}
use Rattle.abc_tune_compiler.specs.Book.{blocks_in, header_in, opening_of, tunes_in}
use Rattle.abc_tune_compiler.specs.Rules.{Rules}
use Rattle.abc_fold.specs.Steps.{Steps}

-- A text, its file header and its tunes, the state in which the file header begins and the one in which each tune
-- does.
pub record Layout (State : Type 0) : Type 0 where
  pub text : Text
  pub header : Option Block
  pub tunes : List Block
  pub first : State
  pub opening : State

-- The text with the blocks that it has.
abbrev pub layout_of : {State Cell Items Defaults : Type 0} → Steps State Cell Items → Rules State Cell Items Defaults → Text
    → Layout State
layout_of steps rules text = record {
  text = text;
  header = header_in (blocks_in rules text);
  tunes = tunes_in (blocks_in rules text);
  first = rules.header;
  opening = opening_of steps.next rules text (blocks_in rules text);
}

-- A block along which the fold goes, from its opening on: the file header, which is number 0, or a tune, which is
-- counted from 1.
pub record FoldedBlock (State : Type 0) : Type 0 where
  pub source : ℕ
  pub block : Block
  pub opening : State

abbrev pub chain_at : {State : Type 0} → ℕ → State → Block → FoldedBlock State
chain_at source opening block = record { source = source; block = block; opening = opening }

-- The chain of the file header, if there is one.
abbrev pub header_chain : {State : Type 0} → State → Option Block → List (FoldedBlock State)
header_chain first None = []
header_chain first (Some block) = chain_at 0 first block ∷ []

-- The chains of tunes, of which the first has this number.
abbrev pub tune_chains : {State : Type 0} → ℕ → State → List Block → List (FoldedBlock State)
tune_chains source opening [] = []
tune_chains source opening (block ∷ blocks) = chain_at source opening block ∷ tune_chains (source + 1) opening blocks

-- The chains of a text, in order.
abbrev pub chains_of : {State : Type 0} → Layout State → List (FoldedBlock State)
chains_of layout = header_chain layout.first layout.header ++ tune_chains 1 layout.opening layout.tunes

-- The blocks of chains follow one another from one line to another.
abbrev pub ChainsRise : {State : Type 0} → ℕ → List (FoldedBlock State) → ℕ → Type 0
ChainsRise first chains last = RiseFromTo first (map (λ chain. chain.block) chains) last

-- The file header and the tunes follow one another within the text.
abbrev pub LiesInOrder : {State : Type 0} → Layout State → Type 0
LiesInOrder layout = ChainsRise 0 (chains_of layout) (length layout.text)
