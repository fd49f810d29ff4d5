-- An edit that has been prepared, and what its stretch has. Not in ABC 2.1.
use Rattle.std.specs.Prelude.{◌≡◌, ℕ, ◌<◌, ◌++◌, List, [], drop, if◌then◌else◌, length, map, nat_lt, Option, Some, None}
use Rattle.std.specs.List.{AllZip}
use Rattle.abc_book.specs.declared.block.Block.{Block}
use Rattle.abc_live_text.specs.Row.{Row}
use Rattle.abc_live_text.specs.KeptText.{TextPatchView, IsStretch, KeptTextView, ArePartsOf, old_tunes, parts_after, parts_of}
use Rattle.abc_live_cost.specs.OldItems.{HasItemsOf}
use Rattle.abc_fold.specs.Chain.{ChainView}
use Rattle.abc_fold.specs.Steps.{Steps}
use Rattle.abc_live_index.specs.KeptBook.{KeptBookView}
use Rattle.abc_live_index.specs.Outputs.{files_of, titles_of}
use Rattle.abc_lines.specs.Text.{IsText, Splice, spliced}
use Rattle.abc_live_index.specs.Output.{output_in}
use Rattle.abc_live_index.specs.Tunes.{HasCells, cell_faults_by, faults_by}
use Rattle.abc_live_index.specs.declared.output.Output.{Output}
use Rattle.abc_tune_compiler.specs.Book.{Book, book_of}
use Rattle.abc_tune_compiler.specs.Rules.{Rules}
use Rattle.abc_tune_compiler.specs.declared.fault.Fault.{Fault}

-- How many cells a line has.
abbrev pub count_in : {Cell : Type 0} → Row Cell → ℕ
count_in row = length row.cells

-- A prepared edit of a text makes this splice of it: what is kept of the text before and after is that of the text.
pub record IsPrepared {C State Cell Items Defaults : Type 0} (steps : Steps State Cell Items)
    (rules : Rules State Cell Items Defaults) (s : Splice) (patch : TextPatchView C State Cell Items) : Type 0 where
  pub makes : patch.text ≡ spliced patch.on.lines.text s
  pub limits : IsText patch.text
  pub old_parts : ArePartsOf steps rules patch.on.lines.text (parts_of patch.on)
  pub new_parts : ArePartsOf steps rules patch.text (parts_after patch)
  pub in_stretch : IsStretch s patch
  pub own_items : AllZip (HasItemsOf (old_tunes patch)) patch.new_chains patch.reused_tunes

-- What tunes give and faults are those of a book.
pub record IsBook (outputs : List Output) (found : List Fault) (book : Book) : Type 0 where
  pub files : files_of outputs ≡ book.files
  pub titles : titles_of outputs ≡ book.titles
  pub faults : found ≡ book.faults

-- A kept book has what the tunes of a kept text give, and its files, titles and faults are those of the text.
abbrev pub HasOutputs : {C State Cell Items Defaults : Type 0} → Rules State Cell Items Defaults
    → KeptTextView C State Cell Items → KeptBookView → Type 0
HasOutputs rules on book = book.outputs.items ≡ map (output_in rules) (drop 1 on.chains.items)

abbrev pub IsBookOf : {C State Cell Items Defaults : Type 0} → Steps State Cell Items → Rules State Cell Items Defaults
    → KeptTextView C State Cell Items → KeptBookView → Type 0
IsBookOf steps rules on book = IsBook book.outputs.items book.faults (book_of steps rules on.lines.text)

-- A file header that does not lie before some lines lies among them, and its chain has their cells.
abbrev pub HeaderCells : {State Cell Items : Type 0} → ℕ → List ℕ → ChainView State Cell Items → Option Block → Type 0
HeaderCells before counts chain None = Unit {0}
HeaderCells before counts chain (Some block) = before < block.to → HasCells before counts chain block

-- The tunes of chains lie among some lines, and the chains have the cells of their lines.
abbrev pub TuneCells : {State Cell Items : Type 0} → ℕ → List ℕ → List (ChainView State Cell Items) → List Block → Type 0
TuneCells before counts chains places = AllZip (HasCells before counts) chains places

-- The faults of a file header that lies among some lines, and none of one that lies before them.
abbrev pub header_faults_there : {State Cell Items Defaults : Type 0} → Rules State Cell Items Defaults → ℕ → List ℕ
    → ChainView State Cell Items → Option Block → List Fault
header_faults_there rules before counts chain None = []
header_faults_there rules before counts chain (Some block) =
    if nat_lt before block.to then cell_faults_by rules before counts chain block else []

-- The faults of the lines of a stretch: those of the file header, if it lies there, and those of the tunes.
abbrev pub stretch_faults : {State Cell Items Defaults : Type 0} → Rules State Cell Items Defaults → ℕ → List ℕ
    → ChainView State Cell Items → Option Block → List (ChainView State Cell Items) → List Block → List Fault
stretch_faults rules before counts first header chains places = header_faults_there rules before counts first header
    ++ faults_by rules before counts chains places
