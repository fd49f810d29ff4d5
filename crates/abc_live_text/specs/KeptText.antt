-- What contracts see of a kept text, and of a prepared edit of it. Not in ABC 2.1.
use Rattle.std.specs.Prelude.{◌≡◌, ◌⊎◌, ℕ, zero, suc, ◌+◌, ◌-◌, ◌≤◌, All, List, [], ◌∷◌, ◌++◌, drop, length, map, take, Option}
use Rattle.std.specs.Prelude.{Some}
use Rattle.abc_book.specs.Stretch.{shift_block}
use Rattle.abc_book.specs.declared.block.Block.{Block}
use Rattle.abc_fold.specs.Chain.{ChainView}
use Rattle.abc_fold.specs.Steps.{Steps}
use Rattle.abc_fold.specs.Work.{Counters, raised}
use Rattle.abc_lines.specs.GapList.{GapListView}
use Rattle.abc_lines.specs.LineBuffer.{LineBufferView, LinePatchView}
use Rattle.abc_lines.specs.ListSplice.{SplicePatchView}
use Rattle.abc_lines.specs.ItemRange.{removed_count}
use Rattle.abc_lines.specs.Text.{Splice, Text}
use Rattle.abc_live_cost.specs.FreshCells.{fresh_cells_after}
use Rattle.abc_tune_compiler.specs.Book.{blocks_in, header_in, tunes_in}
use Rattle.abc_tune_compiler.specs.Rules.{Rules}
use Rattle.abc_live_text.specs.Chains.{AreChains}
use Rattle.abc_live_text.specs.Row.{Row, row_cells, row_class}
use Rattle.abc_live_text.specs.declared.stretch.Stretch.{Stretch}

-- Rows have the classes and the cells of the lines of a text.
pub record AreRows {State Cell Items Defaults : Type 0} (rules : Rules State Cell Items Defaults) (text : Text)
    (rows : List (Row Cell)) : Type 0 where
  pub classes : map row_class rows ≡ map rules.class text
  pub cells : map row_cells rows ≡ map rules.cells text

-- What is kept of a text beside its lines: its rows, the places of its file header and its tunes, and their chains, that
-- of the file header first.
pub record Parts (State Cell Items : Type 0) : Type 0 where
  pub rows : List (Row Cell)
  pub header : Option Block
  pub tunes : List Block
  pub chains : List (ChainView State Cell Items)

abbrev pub parts : {State Cell Items : Type 0} → List (Row Cell) → Option Block → List Block → List (ChainView State Cell Items)
    → Parts State Cell Items
parts rows header tunes chains = record { rows = rows; header = header; tunes = tunes; chains = chains }

-- The parts are those of a text. The rows have the classes and the cells of its lines. The chains are the folds over their
-- blocks, each from the state in which its block begins.
pub record ArePartsOf {State Cell Items Defaults : Type 0} (steps : Steps State Cell Items)
    (rules : Rules State Cell Items Defaults) (text : Text) (kept : Parts State Cell Items) : Type 0 where
  pub read : AreRows rules text kept.rows
  pub header_is : kept.header ≡ header_in (blocks_in rules text)
  pub tunes_are : kept.tunes ≡ tunes_in (blocks_in rules text)
  pub chains_are : AreChains steps rules text kept.chains

-- A compiler, a text with its room, and what is kept of the text: its rows, the places of its file header and its tunes,
-- and their chains.
pub record KeptTextView (C State Cell Items : Type 0) : Type 0 where
  pub compiler : C
  pub lines : LineBufferView
  pub rows : GapListView (Row Cell)
  pub header : Option Block
  pub tunes : List Block
  pub chains : GapListView (ChainView State Cell Items)

abbrev pub parts_of : {C State Cell Items : Type 0} → KeptTextView C State Cell Items → Parts State Cell Items
parts_of on = parts on.rows.items on.header on.tunes on.chains.items

-- A kept text, and the text after an edit with its kept parts. Nothing changes outside the stretch. Of the tunes in it the
-- patch has the chains, the places, and which of them have the items of old tunes.
pub record TextPatchView (C State Cell Items : Type 0) : Type 0 where
  pub on : KeptTextView C State Cell Items
  pub text : Text
  pub rows : List (Row Cell)
  pub header : Option Block
  pub tunes : List Block
  pub chains : List (ChainView State Cell Items)
  pub stretch : Stretch
  pub new_chains : List (ChainView State Cell Items)
  pub places : List Block
  pub reused_tunes : List (Option ℕ)

-- The kept parts of the new text.
abbrev pub parts_after : {C State Cell Items : Type 0} → TextPatchView C State Cell Items → Parts State Cell Items
parts_after patch = parts patch.rows patch.header patch.tunes patch.chains

-- What a prepared edit makes of the lines of a text and of its kept parts.
pub record PatchedParts (State Cell Items : Type 0) : Type 0 where
  pub lines : LinePatchView
  pub rows : SplicePatchView (Row Cell)
  pub header : Option Block
  pub tunes : List Block
  pub chains : SplicePatchView (ChainView State Cell Items)

abbrev pub patched_parts : {State Cell Items : Type 0} → LinePatchView → SplicePatchView (Row Cell) → Option Block → List Block
    → SplicePatchView (ChainView State Cell Items) → PatchedParts State Cell Items
patched_parts lines rows header tunes chains =
    record { lines = lines; rows = rows; header = header; tunes = tunes; chains = chains }

-- A prepared edit of a kept text, by the text after it, the kept parts of that, its stretch and the tunes of the stretch.
abbrev pub text_patch_view : {C State Cell Items : Type 0} → KeptTextView C State Cell Items → Text → Parts State Cell Items
    → Stretch → List (ChainView State Cell Items) → List Block → List (Option ℕ) → TextPatchView C State Cell Items
text_patch_view on text kept stretch new_chains places reused_tunes = record {
  on = on;
  text = text;
  rows = kept.rows;
  header = kept.header;
  tunes = kept.tunes;
  chains = kept.chains;
  stretch = stretch;
  new_chains = new_chains;
  places = places;
  reused_tunes = reused_tunes;
}

-- The patched parts belong to a kept text, and are those of the new text.
pub record IsPatch {C State Cell Items Defaults : Type 0} (steps : Steps State Cell Items)
    (rules : Rules State Cell Items Defaults) (on : KeptTextView C State Cell Items)
    (new : PatchedParts State Cell Items) : Type 0 where
  pub lines_on : new.lines.on ≡ on.lines
  pub rows_on : new.rows.on ≡ on.rows
  pub chains_on : new.chains.on ≡ on.chains
  pub parts_are : ArePartsOf steps rules new.lines.after (parts new.rows.after.items new.header new.tunes new.chains.after.items)

-- The same by the definitions of the text's own compiler.
abbrev pub Patches : {C State Cell Items Defaults : Type 0} → (C → Steps State Cell Items)
    → (C → Rules State Cell Items Defaults) → KeptTextView C State Cell Items → PatchedParts State Cell Items → Type 0
Patches steps rules on new = IsPatch (steps on.compiler) (rules on.compiler) on new

-- The chains of the tunes: the file header's is before them.
abbrev pub old_tunes : {C State Cell Items : Type 0} → TextPatchView C State Cell Items → List (ChainView State Cell Items)
old_tunes patch = drop 1 patch.on.chains.items

-- The place after the edit of a block that is after the stretch.
abbrev pub block_after : Stretch → Block → Block
block_after stretch block = shift_block (removed_count stretch.lines) stretch.lines.came block

-- Blocks before a stretch, and after it.
abbrev pub LiesBefore : Stretch → Block → Type 0
LiesBefore stretch block = block.to ≤ stretch.lines.from

abbrev pub LiesAfter : Stretch → Block → Type 0
LiesAfter stretch block = stretch.lines.to ≤ block.from

-- Blocks in the lines that replace those of the stretch.
abbrev pub LiesInNew : Stretch → Block → Type 0
LiesInNew stretch block = (stretch.lines.from ≤ block.from) × (block.to ≤ stretch.lines.from + stretch.lines.came)

-- Blocks in the lines that are replaced.
abbrev pub LiesInOld : Stretch → Block → Type 0
LiesInOld stretch block = (stretch.lines.from ≤ block.from) × (block.to ≤ stretch.lines.to)

abbrev pub MayLieBefore : Stretch → Option Block → Type 0
MayLieBefore stretch header = (block : Block) → header ≡ Some block → LiesBefore stretch block

abbrev pub MayEndBy : ℕ → Option Block → Type 0
MayEndBy line header = (block : Block) → header ≡ Some block → block.to ≤ line

-- The stretch begins with the text, and the file header lies in it, before and after.
pub record HoldsHeader {C State Cell Items : Type 0} (patch : TextPatchView C State Cell Items) : Type 0 where
  pub front : patch.stretch.tunes.from ≡ 0
  pub from : patch.stretch.lines.from ≡ 0
  pub goes : MayEndBy patch.stretch.lines.to patch.on.header
  pub comes : MayEndBy patch.stretch.lines.came patch.header

-- The file header lies before the stretch, and stays.
pub record KeepsHeader {C State Cell Items : Type 0} (patch : TextPatchView C State Cell Items) : Type 0 where
  pub header : patch.header ≡ patch.on.header
  pub chain : take 1 patch.chains ≡ take 1 patch.on.chains.items
  pub before : MayLieBefore patch.stretch patch.on.header

-- All lines of a splice lie in the stretch of an edit, and nothing outside the stretch changes but the numbers of the
-- lines after it.
pub record IsStretch {C State Cell Items : Type 0} (s : Splice) (patch : TextPatchView C State Cell Items) : Type 0 where
  pub order : patch.stretch.tunes.from ≤ patch.stretch.tunes.to
  pub count : patch.stretch.tunes.to ≤ length patch.on.tunes
  pub begins : patch.stretch.lines.from ≤ s.at
  pub ends : s.at + s.removed ≤ patch.stretch.lines.to
  pub inside : patch.stretch.lines.to ≤ length patch.on.lines.text
  pub came : patch.stretch.lines.came ≡ removed_count patch.stretch.lines - s.removed + length s.lines
  pub chains_are : drop 1 patch.chains ≡ take patch.stretch.tunes.from (old_tunes patch)
      ++ (patch.new_chains ++ drop patch.stretch.tunes.to (old_tunes patch))
  pub tunes_are : patch.tunes ≡ take patch.stretch.tunes.from patch.on.tunes
      ++ (patch.places ++ map (block_after patch.stretch) (drop patch.stretch.tunes.to patch.on.tunes))
  pub places_count : length patch.places ≡ length patch.new_chains
  pub before : All (LiesBefore patch.stretch) (take patch.stretch.tunes.from patch.on.tunes)
  pub beyond : All (LiesAfter patch.stretch) (drop patch.stretch.tunes.to patch.on.tunes)
  pub among : All (LiesInNew patch.stretch) patch.places
  pub amid : All (LiesInOld patch.stretch) (take (patch.stretch.tunes.to - patch.stretch.tunes.from)
      (drop patch.stretch.tunes.from patch.on.tunes))
  pub header_is : HoldsHeader patch ⊎ KeepsHeader patch
  pub lines_before : take patch.stretch.lines.from patch.text ≡ take patch.stretch.lines.from patch.on.lines.text
  pub lines_after : drop (patch.stretch.lines.from + patch.stretch.lines.came) patch.text
      ≡ drop patch.stretch.lines.to patch.on.lines.text

-- `count` numbers in order, each of an old tune that stays.
abbrev pub kept_numbers : ℕ → ℕ → List (Option ℕ)
kept_numbers first zero = []
kept_numbers first (suc count) = Some first ∷ kept_numbers (first + 1) count

-- For each tune of the text after an edit the old one that has its items, if one is known. Of the `tunes` old ones those
-- outside the stretch stay.
abbrev pub reused_tunes_after : Stretch → ℕ → List (Option ℕ) → List (Option ℕ)
reused_tunes_after stretch tunes reused_tunes = kept_numbers 0 stretch.tunes.from
    ++ (reused_tunes ++ kept_numbers stretch.tunes.to (tunes - stretch.tunes.to))

abbrev pub all_reused_tunes : {C State Cell Items : Type 0} → TextPatchView C State Cell Items → List (Option ℕ)
all_reused_tunes patch = reused_tunes_after patch.stretch (length patch.on.tunes) patch.reused_tunes

-- How many cells of a kept text a splice makes fresh.
abbrev pub fresh_cells_in : {C State Cell Items Defaults : Type 0} → Steps State Cell Items → Rules State Cell Items Defaults
    → KeptTextView C State Cell Items → Splice → ℕ
fresh_cells_in steps rules on s = fresh_cells_after steps rules on.lines.text s

-- The lines scanned have risen by at most `lines`, the steps folded by at most `steps`; no tune has been built.
pub record IsWorkUpTo (lines steps : ℕ) (before after : Counters) : Type 0 where
  pub built : after.built ≡ before.built
  pub least_scanned : before.scanned ≤ after.scanned
  pub most_scanned : after.scanned ≤ raised before.scanned lines
  pub least_folded : before.folded ≤ after.folded
  pub most_folded : after.folded ≤ raised before.folded steps
