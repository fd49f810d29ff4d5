-- The rows of an edited text, by those of a stretch.
use Rattle.std.proofs.Common.{◌≡◌, ℕ, ◌+◌, ◌-◌, ◌≤◌, List, ◌++◌, map, All, length, take, drop, refl, sym, ◌∙◌, ap}
use Rattle.std.proofs.Common.{arith, subst}
use Rattle.std.specs.List.{flat_map}
use Rattle.std.proofs.lemmas.List.{take_at, drop_at}
use Rattle.std.proofs.lemmas.List.Elements.{All-take, All-drop}
use Rattle.abc_book.specs.Block.{blocks_of}
use Rattle.abc_book.specs.Laws.{move_block}
use Rattle.abc_book.specs.declared.block.Block.{Block}
use Rattle.abc_fold.specs.Chain.{ChainView}
use Rattle.abc_fold.specs.Steps.{Steps}
use Rattle.abc_lines.specs.Text.{Splice, Text, spliced}
use Rattle.abc_live_cost.specs.KeptState.{steps_over}
use Rattle.abc_live_cost.specs.Layout.{layout_of}
use Rattle.abc_live_cost.specs.Origin.{origins}
use Rattle.abc_tune_compiler.specs.Book.{blocks_in, header_in, opening_of, tunes_in}
use Rattle.abc_tune_compiler.specs.Rules.{Rules}
use Rattle.abc_live_text.specs.Pieces.{IsCarried, IsChain, LiesWithin, cells_in, class_in, kept_states_of, origin_in, rows_in}
use Rattle.abc_live_text.specs.Pieces.{steps_taken}
use Rattle.abc_live_text.specs.Chains.{AreChains, places_of}
use Rattle.abc_live_text.specs.Origin.{BlocksRise, rows_until}
use Rattle.abc_live_text.specs.Row.{CarriedRow, Row, carried_row}
use Rattle.abc_live_text.specs.KeptText.{AreRows}
use Rattle.abc_live_text.proofs.StretchLines.{BeginAfter, length-until, placed_both}
use Rattle.abc_live_text.proofs.Edits.{edit_carried, edit_of, edit_origins, edit_read, fresh_row}
use Rattle.abc_live_text.proofs.FreshSteps.{map-over}
use Rattle.abc_live_text.proofs.Parts.{edited_parts, part_moved}
use Rattle.abc_live_text.proofs.ChainPlaces.{places_rise}
use Rattle.abc_live_text.proofs.RowOrigins.{all_origins, by_strip, from_origins, settled_carried, strip_from}
use Rattle.abc_live_text.proofs.WholeRows.{AreRead, placed_from}

-- What is known of all rows of the edited text.
pub record AreRenewed {State Cell Items Defaults : Type 0} (steps : Steps State Cell Items)
    (rules : Rules State Cell Items Defaults) (text : Text) (s : Splice) (old : List (ChainView State Cell Items)) (rows : List (CarriedRow Cell)) : Type 0 where
  pub read : AreRead rules (spliced text s) rows
  pub from : map origin_in rows ≡ origins rules.cells (layout_of steps rules text) s
  pub carried : All (IsCarried old) rows

pub bare_read : {State Cell Items Defaults : Type 0} (rules : Rules State Cell Items Defaults) (text : Text)
    (rows : List (Row Cell)) → AreRows rules text rows → AreRead rules text (map carried_row rows)
bare_read rules text rows read = record {
  classes = map-over class_in carried_row rows ∙ read.classes;
  cells = map-over cells_in carried_row rows ∙ read.cells;
}

-- The rows of a text with all its chains.
pub placed_read : {State Cell Items Defaults : Type 0} (rules : Rules State Cell Items Defaults) (text : Text)
    (rows : List (Row Cell)) → AreRows rules text rows → AreRead rules text (placed_from (map carried_row rows) 0 0 (places_of (blocks_in rules text)))
placed_read rules text rows are =
    let read = bare_read rules text rows are in
    let all = map carried_row rows in
    let blocks = blocks_in rules text in
    let same : blocks ≡ blocks_of (map class_in all) = ap blocks_of (sym read.classes) in
    let strip = strip_from all 0 0 (places_of blocks) (places_rise all blocks same) in
    let here = placed_from all 0 0 (places_of blocks) in
    record {
      classes = by_strip class_in here all strip (λ l. refl) ∙ read.classes;
      cells = by_strip cells_in here all strip (λ l. refl) ∙ read.cells;
    }

-- Edited.
pub new_parts : {State Cell Items Defaults : Type 0} (steps : Steps State Cell Items) (rules : Rules State Cell Items Defaults)
    (text : Text) (s : Splice) (rows : List (Row Cell)) (old : List (ChainView State Cell Items))
    → AreRows rules text rows → AreChains steps rules text old
    → AreRenewed steps rules text s old (edit_of rules s (placed_from (map carried_row rows) 0 0 (places_of (blocks_in rules text))))
new_parts steps rules text s rows old are chains =
    let read = bare_read rules text rows are in
    let all = map carried_row rows in
    let blocks = blocks_in rules text in
    let here = placed_from all 0 0 (places_of blocks) in
    let opening = opening_of steps.next rules text blocks in
    record {
      read = edit_read rules s here text (placed_read rules text rows are);
      from = edit_origins steps rules s here text (from_origins rules.cells opening all text 0 0 (places_of blocks) read.cells
          ∙ all_origins rules.cells rules.header opening text (header_in blocks) (tunes_in blocks));
      carried = edit_carried rules old s here (settled_carried steps rules text all old read.cells chains);
    }

-- The rows of a stretch after an edit in it.
abbrev pub stretch_rows : {State Cell Items Defaults : Type 0} → Rules State Cell Items Defaults → Splice → ℕ → List (CarriedRow Cell) → List (CarriedRow Cell)
stretch_rows rules s from own = take (s.at - from) own ++ (map (fresh_row rules) s.lines ++ drop (s.at + s.removed - from) own)

-- The place of a stretch among the chains of a text.
pub record IsAmong (from to count : ℕ) (front own back : List Block) : Type 0 where
  pub first : BlocksRise 0 front from
  pub here : BlocksRise from own to
  pub begins : BeginAfter from (own ++ back)
  pub ends : BeginAfter to back
  pub inside : to ≤ count

-- All rows are those before the stretch, in it, and after it.
pub record Parted {State Cell Items Defaults : Type 0} (rules : Rules State Cell Items Defaults) (s : Splice) (all own : List (CarriedRow Cell)) (from : ℕ) : Type 0 where
  pub before : List (CarriedRow Cell)
  pub following : List (CarriedRow Cell)
  pub old_are : all ≡ before ++ (own ++ following)
  pub new_are : edit_of rules s all ≡ before ++ (stretch_rows rules s from own ++ following)
  pub count : from ≡ length before

pub parted : {State Cell Items Defaults : Type 0} (rules : Rules State Cell Items Defaults) (s : Splice) (rows : List (CarriedRow Cell)) (from to : ℕ) (front own back : List Block)
    → IsAmong from to (length rows) front own back → from ≤ to → from ≤ s.at → s.at + s.removed ≤ to
    → Parted {State = State} {Items = Items} {Defaults = Defaults} rules s (placed_from rows 0 0 (front ++ (own ++ back))) (rows_until rows from to (0 + length front) own) from
parted rules s rows from to front own back among order h k =
    let a = rows_until rows 0 from 0 front in
    let o = rows_until rows from to (0 + length front) own in
    let d = placed_from rows to (0 + length front + length own) back in
    let whole : placed_from rows 0 0 (front ++ (own ++ back)) ≡ a ++ (o ++ d) =
    placed_both rows 0 from 0 front (own ++ back) among.first among.begins ∙ ap (λ l. a ++ l) (placed_both rows from to (0 + length front) own back among.here among.ends) in
    let long_a : length a ≡ from = length-until rows 0 from 0 front among.first (omega (arith, order, among.inside)) ∙ (let z : from - 0 ≡ from = omega arith in z) in
    let long_o : length o ≡ to - from = length-until rows from to (0 + length front) own among.here among.inside in
    record {
      before = a;
      following = d;
      old_are = whole;
      new_are = ap (edit_of rules s) whole
          ∙ (edited_parts a o d (map (fresh_row rules) s.lines) s.at s.removed (omega (arith, long_a, h)) (omega (arith, long_a, long_o, k, order))
          ∙ ap (λ n. a ++ (stretch_rows rules s n o ++ d)) long_a);
      count = sym long_a;
    }

pub all_mid : {X : Type 0} (P : X → Type 0) (a own b : List X) → All P (a ++ (own ++ b)) → All P own
all_mid P a own b all = subst (All P) (take_at own b (length own) refl)
    (All-take P (length own) (own ++ b) (subst (All P) (drop_at a (own ++ b) (length a) refl) (All-drop P (length a) (a ++ (own ++ b)) all)))

-- A tune of the stretch in the text.
pub rows_moved : {Cell : Type 0} (a own b : List (CarriedRow Cell)) (n : ℕ) (block : Block) → n ≡ length a
    → LiesWithin (length own) block → rows_in (a ++ (own ++ b)) (move_block n block) ≡ rows_in own block
rows_moved a own b n block e within = part_moved a own b block.from block.to n e within.0 within.1

pub chain_moved : {State Cell Items : Type 0} (steps : Steps State Cell Items) (opening : State) (a own b : List (CarriedRow Cell))
    (n : ℕ) (chain : ChainView State Cell Items) (block : Block) → n ≡ length a → LiesWithin (length own) block
    → IsChain steps opening own chain block → IsChain steps opening (a ++ (own ++ b)) chain (move_block n block)
chain_moved steps opening a own b n chain block e within is = record {
  folds = is.folds;
  cells = is.cells ∙ ap (flat_map cells_in) (sym (rows_moved a own b n block e within));
}

pub steps_moved : {State Cell Items : Type 0} (steps : Steps State Cell Items) (opening : State)
    (old : List (ChainView State Cell Items)) (a own b : List (CarriedRow Cell)) (n : ℕ) (block : Block) → n ≡ length a → LiesWithin (length own) block
    → steps_taken steps opening old own block ≡ steps_taken steps opening old (a ++ (own ++ b)) (move_block n block)
steps_moved steps opening old a own b n block e within =
    ap (λ rows. steps_over steps opening (flat_map cells_in rows) (flat_map (kept_states_of old) rows)) (sym (rows_moved a own b n block e within))
