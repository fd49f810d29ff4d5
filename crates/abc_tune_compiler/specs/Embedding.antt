-- A compiler inside another one: on the lines that both read alike the other one makes the same. Not in ABC 2.1.
use Rattle.std.specs.Prelude.{◌≡◌, ℕ, List, All, map, Some, None}
use Rattle.abc_book.specs.declared.block.Block.{Block}
use Rattle.abc_fold.specs.Steps.{Steps}
use Rattle.abc_lines.specs.Text.{Text}
use Rattle.abc_tune_compiler.specs.Book.{book_of}
use Rattle.abc_tune_compiler.specs.Rules.{Rules}
use Rattle.abc_tune_compiler.specs.Tune.{lines_in, tune_of}

-- Both compilers have the same class of a line, and the same cells of it, as one of them takes the cells of the other.
pub record IsReadAlike {State Cell Items Defaults OuterState OuterCell OuterItems OuterDefaults : Type 0}
    (rules : Rules State Cell Items Defaults) (outer_rules : Rules OuterState OuterCell OuterItems OuterDefaults)
    (cell : Cell → OuterCell) (line : List ℕ) : Type 0 where
  pub class : outer_rules.class line ≡ rules.class line
  pub cells : outer_rules.cells line ≡ map cell (rules.cells line)

-- The states, cells and items of a compiler are also ones of another, the outer one, which does with them what the compiler does.
pub record IsEmbedded {State Cell Items Defaults OuterState OuterCell OuterItems OuterDefaults : Type 0}
    (steps : Steps State Cell Items) (rules : Rules State Cell Items Defaults)
    (outer : Steps OuterState OuterCell OuterItems) (outer_rules : Rules OuterState OuterCell OuterItems OuterDefaults)
    (state : State → OuterState) (cell : Cell → OuterCell) (items : Items → OuterItems) : Type 0 where
  pub header : outer_rules.header ≡ state rules.header
  pub first : outer_rules.tune None ≡ state (rules.tune None)
  pub tune : (after : State) → outer_rules.tune (Some (state after)) ≡ state (rules.tune (Some after))
  pub next : (s : State) (c : Cell) → outer.next (state s) (cell c) ≡ state (steps.next s c)
  pub gives : (s : State) (c : Cell) → outer.gives (state s) (cell c) ≡ items (steps.gives s c)
  pub number : (i : Items) → outer_rules.number (items i) ≡ rules.number i
  pub title : (i : Items) → outer_rules.title (items i) ≡ rules.title i
  pub faults : (i : Items) → outer_rules.faults (items i) ≡ rules.faults i
  pub bytes : (is : List Items) → outer_rules.bytes (map items is) ≡ rules.bytes is
  pub build_faults : (is : List Items) → outer_rules.build_faults (map items is) ≡ rules.build_faults is

-- A tune of lines that both compilers read alike has the same number, title, bytes and faults by both, if both begin it alike.
abbrev pub HasSameTune : (State Cell Items Defaults OuterState OuterCell OuterItems OuterDefaults : Type 0) → Type 0
HasSameTune State Cell Items Defaults OuterState OuterCell OuterItems OuterDefaults =
    (steps : Steps State Cell Items) (rules : Rules State Cell Items Defaults)
    (outer : Steps OuterState OuterCell OuterItems) (outer_rules : Rules OuterState OuterCell OuterItems OuterDefaults)
    (state : State → OuterState) (cell : Cell → OuterCell) (items : Items → OuterItems)
    → IsEmbedded steps rules outer outer_rules state cell items
    → (opening : State) (text : Text) (block : Block) → All (IsReadAlike rules outer_rules cell) (lines_in text block)
    → tune_of outer.next outer.gives outer_rules (state opening) text block ≡ tune_of steps.next steps.gives rules opening text block

-- A text of lines that both compilers read alike has the same book by both.
abbrev pub HasSameBook : (State Cell Items Defaults OuterState OuterCell OuterItems OuterDefaults : Type 0) → Type 0
HasSameBook State Cell Items Defaults OuterState OuterCell OuterItems OuterDefaults =
    (steps : Steps State Cell Items) (rules : Rules State Cell Items Defaults)
    (outer : Steps OuterState OuterCell OuterItems) (outer_rules : Rules OuterState OuterCell OuterItems OuterDefaults)
    (state : State → OuterState) (cell : Cell → OuterCell) (items : Items → OuterItems)
    → IsEmbedded steps rules outer outer_rules state cell items
    → (text : Text) → All (IsReadAlike rules outer_rules cell) text → book_of outer outer_rules text ≡ book_of steps rules text
