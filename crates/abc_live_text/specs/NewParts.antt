-- The parts that an edit folds again: the tunes of its stretch, and the file header if that may change. Not in ABC 2.1.
use Rattle.std.specs.Prelude.{◌≡◌, ◌⊎◌, ℕ, ◌+◌, ◌-◌, ◌<◌, ◌≤◌, All, List, [], ◌∷◌, ◌++◌, drop, length, map, take, Option, Some}
use Rattle.std.specs.Prelude.{None, IsSome}
use Rattle.std.specs.List.{AllZip}
use Rattle.abc_book.specs.Laws.{move_block}
use Rattle.abc_book.specs.declared.block.Block.{Block}
use Rattle.abc_fold.specs.Chain.{ChainView}
use Rattle.abc_fold.specs.Steps.{Steps}
use Rattle.abc_lines.specs.ItemRange.{removed_count}
use Rattle.abc_lines.specs.Text.{Splice, Text, spliced}
use Rattle.abc_tune_compiler.specs.Book.{blocks_in, header_in, tunes_in}
use Rattle.abc_tune_compiler.specs.Rules.{Rules}
use Rattle.abc_live_text.specs.Pieces.{LiesWithin}
use Rattle.abc_live_text.specs.Chains.{AreChains}
use Rattle.abc_live_text.specs.Origin.{rows_until}
use Rattle.abc_live_text.specs.Row.{CarriedRow, Row, carried_row, new_row}
use Rattle.abc_live_text.specs.KeptText.{KeptTextView, LiesInOld, LiesBefore, LiesAfter, MayEndBy, MayLieBefore, block_after}
use Rattle.abc_live_text.specs.KeptText.{reused_tunes_after}
use Rattle.abc_live_cost.specs.OldItems.{HasItemsOf, TakesUntouched}
use Rattle.abc_live_text.specs.declared.item_splice.ItemSplice.{ItemSplice}
use Rattle.abc_live_text.specs.declared.new_parts.NewParts.{NewParts}
use Rattle.abc_live_text.specs.declared.stretch.Stretch.{Stretch}
use Rattle.abc_live_text.specs.declared.stretch.Span.{Span}

-- Where the first of some blocks begins; without one, at the end.
abbrev pub start_of : List Block → ℕ → ℕ
start_of [] last = last
start_of (block ∷ blocks) last = block.from

-- A splice of lines.
abbrev pub splice_at : ℕ → ℕ → Text → Splice
splice_at at removed lines = record { at = at; removed = removed; lines = lines }

-- A law of the splice that puts lines instead of others, if the rows of a splice were read from the lines.
abbrev pub ForSplice : {State Cell Items Defaults : Type 0} → Rules State Cell Items Defaults → ItemSplice (Row Cell)
    → (Splice → Type 0) → Type 0
ForSplice rules splice Holds =
    (lines : Text) → splice.new.now ≡ map (new_row rules) lines → Holds (splice_at splice.at splice.removed lines)

-- A stretch that begins with the last tune before an edit, and goes on to the first one after it.
pub record IsSpan (tunes : List Block) (count at removed : ℕ) (span : Span) : Type 0 where
  pub order : span.tunes.from < span.tunes.to
  pub most : span.tunes.to ≤ length tunes
  pub from : span.lines.from ≡ start_of (drop span.tunes.from tunes) count
  pub to : span.lines.to ≡ start_of (drop span.tunes.to tunes) count
  pub begins : span.lines.from < at
  pub ends : at + removed ≤ span.lines.to

-- The first tunes and the first lines of a text.
abbrev pub span_to : ℕ → ℕ → Span
span_to tunes lines = record { tunes = record { from = 0; to = tunes }; lines = record { from = 0; to = lines } }

-- The first lines of a text, up to a tune or to the end, that an edit ending at `end` may change.
pub record IsLead (tunes : List Block) (count end : ℕ) (lead : Span) : Type 0 where
  pub begins : lead ≡ span_to lead.tunes.to lead.lines.to
  pub most : lead.tunes.to ≤ length tunes
  pub to : lead.lines.to ≡ start_of (drop lead.tunes.to tunes) count
  pub ends : end ≤ lead.lines.to

-- Lines after an edit of them: new ones, without origins, replace those that go.
abbrev pub edited_rows : {Cell : Type 0} → ℕ → ℕ → List (Row Cell) → List (CarriedRow Cell) → List (CarriedRow Cell)
edited_rows at removed new old = take at old ++ (map carried_row new ++ drop (at + removed) old)

-- The stretch of a span that has `came` lines after an edit.
abbrev pub span_stretch : Span → ℕ → Stretch
span_stretch span came =
    record { tunes = span.tunes; lines = record { from = span.lines.from; to = span.lines.to; came = came } }

-- The lines of a stretch that begins with a tune, with the chains that hold their cells.
abbrev pub old_span_rows : {C State Cell Items : Type 0} → KeptTextView C State Cell Items → Span → List (CarriedRow Cell)
old_span_rows on span = rows_until (map carried_row on.rows.items) span.lines.from span.lines.to (span.tunes.from + 1)
    (take (span.tunes.to - span.tunes.from) (drop span.tunes.from on.tunes))

-- The same after an edit of them.
abbrev pub span_rows : {C State Cell Items : Type 0} → KeptTextView C State Cell Items → Span → ℕ → ℕ → List (Row Cell)
    → List (CarriedRow Cell)
span_rows on span at removed new = edited_rows (at - span.lines.from) removed new (old_span_rows on span)

-- The chain of the file header: a new one, or the old one.
abbrev pub first_of : {State Cell Items : Type 0} → Option (ChainView State Cell Items) → List (ChainView State Cell Items)
    → List (ChainView State Cell Items)
first_of None old = take 1 old
first_of (Some first) old = first ∷ []

-- The chains of a text after an edit.
abbrev pub chains_after : {State Cell Items : Type 0} → Option (ChainView State Cell Items) → Stretch
    → List (ChainView State Cell Items) → List (ChainView State Cell Items) → List (ChainView State Cell Items)
chains_after first stretch old new_chains =
    first_of first old ++ (take stretch.tunes.from (drop 1 old) ++ (new_chains ++ drop stretch.tunes.to (drop 1 old)))

-- The places of its tunes.
abbrev pub tunes_after : Stretch → List Block → List Block → List Block
tunes_after stretch old tunes =
    take stretch.tunes.from old
    ++ (map (move_block stretch.lines.from) tunes ++ map (block_after stretch) (drop stretch.tunes.to old))

-- The file header stays, and lies before the stretch.
pub record HeaderStays {State Cell Items : Type 0} (first : Option (ChainView State Cell Items)) (header was : Option Block)
    (stretch : Stretch) : Type 0 where
  pub none : first ≡ None
  pub header_stays : header ≡ was
  pub before : MayLieBefore stretch was

-- The file header is folded again, and lies in the first lines of the text before and after.
pub record HeaderIsReplaced {State Cell Items : Type 0} (first : Option (ChainView State Cell Items)) (header was : Option Block)
    (stretch : Stretch) : Type 0 where
  pub some : IsSome first
  pub front : stretch.tunes.from ≡ 0
  pub from : stretch.lines.from ≡ 0
  pub goes : MayEndBy stretch.lines.to was
  pub comes : MayEndBy stretch.lines.came header

-- The parts that an edit folds again: the file header, with its chain if that may change, and the tunes of the stretch, their
-- lines counted from its first line. Each tune has its chain, and the old tune whose items it has, if there is one.
pub record NewPartsView (State Cell Items : Type 0) : Type 0 where
  pub stretch : Stretch
  pub header : Option Block
  pub first : Option (ChainView State Cell Items)
  pub tunes : List Block
  pub new_chains : List (ChainView State Cell Items)
  pub reused_tunes : List (Option ℕ)

abbrev pub new_parts_view : {State Cell Items : Type 0} → Stretch → Option Block → Option (ChainView State Cell Items)
    → List Block → List (ChainView State Cell Items) → List (Option ℕ) → NewPartsView State Cell Items
new_parts_view stretch header first tunes chains reused =
    record { stretch = stretch; header = header; first = first; tunes = tunes; new_chains = chains; reused_tunes = reused }

abbrev pub view_of_new_parts : {C Defaults State Cell Items Work : Type 0} → NewParts C Defaults State Cell Items Work
    → NewPartsView State Cell Items
view_of_new_parts r =
    new_parts_view r.stretch r.header r.first r.folded.tunes.items r.folded.new_chains.items r.folded.reused_tunes.items

-- The parts that were folded again are those of the new text.
pub record AreNewParts {C State Cell Items Defaults : Type 0} (steps : Steps State Cell Items)
    (rules : Rules State Cell Items Defaults) (on : KeptTextView C State Cell Items) (s : Splice)
    (new : NewPartsView State Cell Items) : Type 0 where
  pub order : new.stretch.tunes.from ≤ new.stretch.tunes.to
  pub most : new.stretch.tunes.to ≤ length on.tunes
  pub begins : new.stretch.lines.from ≤ s.at
  pub ends : s.at + s.removed ≤ new.stretch.lines.to
  pub inside : new.stretch.lines.to ≤ length on.lines.text
  pub came : new.stretch.lines.came ≡ removed_count new.stretch.lines - s.removed + length s.lines
  pub header_is : new.header ≡ header_in (blocks_in rules (spliced on.lines.text s))
  pub tunes_are : tunes_in (blocks_in rules (spliced on.lines.text s)) ≡ tunes_after new.stretch on.tunes new.tunes
  pub chains_are : AreChains steps rules (spliced on.lines.text s)
      (chains_after new.first new.stretch on.chains.items new.new_chains)
  pub count : length new.new_chains ≡ length new.tunes
  pub before : All (LiesBefore new.stretch) (take new.stretch.tunes.from on.tunes)
  pub beyond : All (LiesAfter new.stretch) (drop new.stretch.tunes.to on.tunes)
  pub among : All (LiesWithin new.stretch.lines.came) new.tunes
  pub amid : All (LiesInOld new.stretch) (take (new.stretch.tunes.to - new.stretch.tunes.from)
      (drop new.stretch.tunes.from on.tunes))
  pub keeps : HeaderStays new.first new.header on.header new.stretch ⊎ HeaderIsReplaced new.first new.header on.header new.stretch
  pub lines_before : take new.stretch.lines.from (spliced on.lines.text s) ≡ take new.stretch.lines.from on.lines.text
  pub lines_after : drop (new.stretch.lines.from + new.stretch.lines.came) (spliced on.lines.text s)
      ≡ drop new.stretch.lines.to on.lines.text
  pub items : AllZip (HasItemsOf (drop 1 on.chains.items)) new.new_chains new.reused_tunes
  pub untouched : TakesUntouched steps rules on.lines.text s (reused_tunes_after new.stretch (length on.tunes) new.reused_tunes)

-- A new chain of the file header comes with the first tunes.
abbrev pub MayReplaceHeader : {A : Type 0} → Option A → Stretch → Type 0
MayReplaceHeader None stretch = Unit {0}
MayReplaceHeader (Some first) stretch = stretch.tunes.from ≡ 0
