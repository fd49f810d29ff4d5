-- The book of a text: the file of each reference number, the titles, the faults. Not in ABC 2.1.
use Rattle.std.specs.Prelude.{Bool, true, false, if◌then◌else◌, List, [], ◌∷◌, ◌++◌, map, filter, Option, Some, None}
use Rattle.std.specs.List.{flat_map}
use Rattle.abc_book.specs.Block.{blocks_of}
use Rattle.abc_book.specs.declared.block.Block.{Block}
use Rattle.abc_book.specs.declared.block.BlockKind.{BlockKind}
use Rattle.abc_book.specs.declared.block.BlockKind.TheVariants as kinds
use Rattle.abc_fold.specs.Steps.{Steps}
use Rattle.abc_lines.specs.Text.{Text}
use Rattle.abc_tune_compiler.specs.declared.fault.Fault.{Fault}
use Rattle.abc_tune_compiler.specs.declared.title.Title.{Title}
use Rattle.abc_tune_compiler.specs.Fault.{fault_cmp}
use Rattle.abc_tune_compiler.specs.Files.{Files, files_from}
use Rattle.abc_tune_compiler.specs.Placed.{items_along, state_along}
use Rattle.abc_tune_compiler.specs.Rules.{Rules}
use Rattle.abc_tune_compiler.specs.Sort.{sort_dedup}
use Rattle.abc_tune_compiler.specs.Tune.{Tune, cells_in, faults_along, tune_of}

-- Whether a block is a file header.
abbrev pub is_file_header : BlockKind → Bool
is_file_header kinds.FileHeader = true
is_file_header kinds.Tune = false
is_file_header kinds.Free = false

-- Whether a block is a tune.
abbrev pub is_tune : BlockKind → Bool
is_tune kinds.FileHeader = false
is_tune kinds.Tune = true
is_tune kinds.Free = false

-- The blocks of a text, by the classes of its lines.
abbrev pub blocks_in : {State Cell Items Defaults : Type 0} → Rules State Cell Items Defaults → Text → List Block
blocks_in rules text = blocks_of (map rules.class text)

-- The file header, if there is one: no other block comes before it.
abbrev pub header_in : List Block → Option Block
header_in [] = None
header_in (block ∷ blocks) = if is_file_header block.kind then Some block else None

-- The tunes of a text in their order.
abbrev pub tunes_in : List Block → List Block
tunes_in blocks = filter (λ block. is_tune block.kind) blocks

-- What a compiler makes of a text: the faults of its file header, and its tunes.
pub record CompiledText : Type 0 where
  pub faults : List Fault
  pub tunes : List Tune

abbrev pub compiled_text : List Fault → List Tune → CompiledText
compiled_text faults tunes = record { faults = faults; tunes = tunes }

-- The faults of a file header.
abbrev pub header_faults : {State Cell Items Defaults : Type 0} → (State → Cell → State) → (State → Cell → Items)
    → Rules State Cell Items Defaults → Text → Option Block → List Fault
header_faults next gives rules text None = []
header_faults next gives rules text (Some block) =
    faults_along rules.faults (items_along next gives rules.header (cells_in rules text block))

-- The state after a file header.
abbrev pub state_after_header : {State Cell Items Defaults : Type 0} → (State → Cell → State) → Rules State Cell Items Defaults
    → Text → Option Block → Option State
state_after_header next rules text None = None
state_after_header next rules text (Some block) = Some (state_along next rules.header (cells_in rules text block))

-- The state in which each tune of a text begins.
abbrev pub opening_of : {State Cell Items Defaults : Type 0} → (State → Cell → State) → Rules State Cell Items Defaults → Text
    → List Block → State
opening_of next rules text blocks = rules.tune (state_after_header next rules text (header_in blocks))

-- What a compiler makes of the blocks of a text.
abbrev pub compiled_text_of : {State Cell Items Defaults : Type 0} → (State → Cell → State) → (State → Cell → Items)
    → Rules State Cell Items Defaults → Text → List Block → CompiledText
compiled_text_of next gives rules text blocks =
    compiled_text (header_faults next gives rules text (header_in blocks))
    (map (tune_of next gives rules (opening_of next rules text blocks) text) (tunes_in blocks))

-- The files, the titles tune by tune, and the faults in order, each once.
pub record Book : Type 0 where
  pub files : Files
  pub titles : List Title
  pub faults : List Fault

-- The book without files, titles and faults.
abbrev pub empty_book : Book
empty_book = record { files = []; titles = []; faults = [] }

-- The entry of a tune in the title index.
abbrev pub title_of : Tune → Title
title_of tune = record { number = tune.number; text = tune.title }

-- The book of a compiled text.
abbrev pub book_from : CompiledText → Book
book_from compiled = record {
  files = files_from [] compiled.tunes;
  titles = map title_of compiled.tunes;
  faults = sort_dedup fault_cmp (compiled.faults ++ flat_map (λ tune. tune.faults) compiled.tunes);
}

-- The book of a text.
unfoldable pub book_of : {State Cell Items Defaults : Type 0} → Steps State Cell Items → Rules State Cell Items Defaults → Text
    → Book
book_of steps rules text = book_from (compiled_text_of steps.next steps.gives rules text (blocks_in rules text))
