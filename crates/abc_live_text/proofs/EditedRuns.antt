-- The lines that an edit folds again, among those of the old text and of the new one.
use Rattle.std.proofs.Common.{◌≡◌, ◌+◌, ◌-◌, ◌≤◌, List, ◌++◌, map, All, length, take, drop, sym, ◌∙◌, ap}
use Rattle.std.proofs.lemmas.List.{map-append}
use Rattle.abc_book.specs.Laws.{move_block}
use Rattle.abc_book.specs.Stretch.{shift_block}
use Rattle.abc_book.specs.declared.block.Block.{Block}
use Rattle.abc_lines.specs.Text.{Splice, Text, spliced}
use Rattle.abc_scan.specs.declared.line_class.LineClass.{LineClass}
use Rattle.abc_tune_compiler.specs.Book.{blocks_in, tunes_in}
use Rattle.abc_tune_compiler.specs.Rules.{Rules}
use Rattle.abc_live_text.specs.Blocks.{tunes_among}
use Rattle.abc_live_text.specs.Chains.{places_of}
use Rattle.abc_live_text.specs.Pieces.{class_in}
use Rattle.abc_live_text.specs.Row.{CarriedRow, Row, carried_row}
use Rattle.abc_live_text.specs.declared.stretch.Span.{Span}
use Rattle.abc_live_text.proofs.EditedRows.{Parted, stretch_rows}
use Rattle.abc_live_text.proofs.OutsideStretch.{StartsFrom}
use Rattle.abc_live_text.proofs.Spans.{Ends}
use Rattle.abc_live_text.proofs.WholeRows.{placed_from}

-- The classes of rows in three parts.
pub part_classes : {Cell : Type 0} (rows a own b : List (CarriedRow Cell)) (classes : List LineClass)
    → rows ≡ a ++ (own ++ b) → map class_in rows ≡ classes → map class_in a ++ (map class_in own ++ map class_in b) ≡ classes
part_classes rows a own b classes parts read =
    (λ i. map class_in a ++ sym (map-append class_in own b) i)
    ∙ (sym (map-append class_in a (own ++ b)) ∙ (ap (map class_in) (sym parts) ∙ read))

-- The lines and the tunes of a span, whose rows with their origins are `own`, in a text and after an edit of them.
pub record IsEditedRun {State Cell Items Defaults : Type 0} (rules : Rules State Cell Items Defaults) (text : Text)
    (s : Splice) (rows : List (Row Cell)) (span : Span) (own : List (CarriedRow Cell)) : Type 0 where
  pub parts : Parted rules s (placed_from (map carried_row rows) 0 0 (places_of (blocks_in rules text))) own span.lines.from
  pub tunes : tunes_in (blocks_in rules (spliced text s)) ≡ take span.tunes.from (tunes_in (blocks_in rules text))
      ++ (map (move_block span.lines.from) (tunes_among (stretch_rows rules s span.lines.from own))
      ++ map (shift_block (span.lines.to - span.lines.from) (length (stretch_rows rules s span.lines.from own))) (drop span.tunes.to (tunes_in (blocks_in rules text))))
  pub before : All (Ends span.lines.from) (take span.tunes.from (tunes_in (blocks_in rules text)))
  pub following : All (StartsFrom span.lines.to) (drop span.tunes.to (tunes_in (blocks_in rules text)))
  pub amid : All (λ (block : Block). (span.lines.from ≤ block.from) × (block.to ≤ span.lines.to))
      (take (span.tunes.to - span.tunes.from) (drop span.tunes.from (tunes_in (blocks_in rules text))))
  pub order : span.tunes.from ≤ span.tunes.to
  pub most : span.tunes.to ≤ length (tunes_in (blocks_in rules text))
  pub begins : span.lines.from ≤ s.at
  pub ends : s.at + s.removed ≤ span.lines.to
  pub inside : span.lines.to ≤ length text
  pub count : length own ≡ span.lines.to - span.lines.from
