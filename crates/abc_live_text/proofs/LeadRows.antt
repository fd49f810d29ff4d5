-- The first lines of a text, before and after an edit of them.
use Rattle.std.proofs.Common.{◌≡◌, ◌+◌, ◌-◌, ◌≤◌, List, [], ◌∷◌, ◌++◌, map, All, length, take, drop, sym, ◌∙◌, ap, subst}
use Rattle.std.proofs.Common.{arith, take-append-drop}
use Rattle.std.proofs.lemmas.List.{length-map, nil_from_length}
use Rattle.std.proofs.lemmas.List.Elements.{All-nil}
use Rattle.abc_book.specs.Block.{blocks_of}
use Rattle.abc_book.specs.Laws.{RiseFromTo, move_block}
use Rattle.abc_book.specs.Stretch.{shift_block}
use Rattle.abc_book.specs.declared.block.Block.{Block}
use Rattle.abc_lines.specs.Text.{Splice, Text, spliced}
use Rattle.abc_tune_compiler.specs.Book.{blocks_in, header_in, tunes_in}
use Rattle.abc_tune_compiler.specs.Rules.{Rules}
use Rattle.abc_live_text.specs.Pieces.{class_in}
use Rattle.abc_live_text.specs.Chains.{header_place, places_of}
use Rattle.abc_live_text.specs.Origin.{BlocksRise, rows_until}
use Rattle.abc_live_text.specs.NewParts.{IsLead, span_to, start_of}
use Rattle.abc_live_text.specs.Row.{CarriedRow, Row, carried_row}
use Rattle.abc_live_text.specs.KeptText.{AreRows}
use Rattle.abc_live_text.specs.declared.stretch.Span.{Span}
use Rattle.abc_live_text.proofs.StretchLines.{BeginAfter, length-until}
use Rattle.abc_live_text.proofs.Edits.{edit_of}
use Rattle.abc_live_text.proofs.TuneStretch.{all_starts, begin_after, laid_out, strict_rest}
use Rattle.abc_live_text.proofs.NewBlocks.{begin_rest, header_first, tunes_first}
use Rattle.abc_live_text.proofs.EditedRows.{IsAmong, Parted, parted, placed_read, stretch_rows}
use Rattle.abc_live_text.proofs.Spans.{Ends, rise_amid, rise_front, rise_to, start_inside}
use Rattle.abc_live_text.proofs.EditedRuns.{IsEditedRun, part_classes}
use Rattle.abc_live_text.specs.Blocks.{header_among}
use Rattle.abc_live_text.proofs.WholeRows.{AreRead, placed_from}

module _ {State Cell Items Defaults : Type 0} (rules : Rules State Cell Items Defaults) (text : Text) (s : Splice) (rows : List (Row Cell)) (lead : Span) where
  -- The file header and the tunes that begin among the first lines.
  abbrev pub first_places : List Block
  first_places = header_place (header_in (blocks_in rules text)) ∷ take lead.tunes.to (tunes_in (blocks_in rules text))

  abbrev pub first_run : List (CarriedRow Cell)
  first_run = rows_until (map carried_row rows) 0 lead.lines.to 0 first_places

  abbrev pub new_run : List (CarriedRow Cell)
  new_run = stretch_rows rules s 0 first_run

  -- What is known of the first lines.
  pub record IsLeadRun : Type 0 where
    pub run : IsEditedRun rules text s rows (span_to lead.tunes.to lead.lines.to) first_run
    pub header : header_in (blocks_in rules (spliced text s)) ≡ header_among new_run
    pub header_ends : (header_place (header_in (blocks_in rules text))).to ≤ lead.lines.to
    pub rise : BlocksRise 0 first_places lead.lines.to

  pub lead_facts : AreRows rules text rows → IsLead (tunes_in (blocks_in rules text)) (length text) (s.at + s.removed) lead
      → AreRead rules (spliced text s) (edit_of rules s (placed_from (map carried_row rows) 0 0 (places_of (blocks_in rules text))))
      → IsLeadRun
  lead_facts are is new =
      let blocks = blocks_in rules text in
      let tunes = tunes_in blocks in
      let head = header_place (header_in blocks) in
      let front = take lead.tunes.to tunes in
      let back = drop lead.tunes.to tunes in
      let all = map carried_row rows in
      let laid = laid_out rules text rows are in
      let whole : front ++ back ≡ tunes = take-append-drop lead.tunes.to tunes in
      let rise : BlocksRise 0 ((head ∷ front) ++ back) (length text) = subst (λ (l : List Block). BlocksRise 0 (head ∷ l) (length text)) (sym whole) laid.rise in
      let inside : lead.lines.to ≤ length text = subst (λ n. n ≤ length text) (sym is.to) (start_inside 0 (head ∷ front) back (length text) rise).1 in
      let here : BlocksRise 0 (head ∷ front) lead.lines.to = subst (BlocksRise 0 (head ∷ front)) (sym is.to) (rise_front 0 (head ∷ front) back (length text) rise) in
      let zeroth : 0 ≤ 0 = omega arith in
      let among : IsAmong 0 lead.lines.to (length all) [] (head ∷ front) back = record {
        first = zeroth;
        here = here;
        begins = omega arith;
        ends = subst (λ n. BeginAfter n back) (sym is.to) (begin_after back (length text));
        inside = omega (arith, inside, laid.long);
      } in
      let cut = parted rules s all 0 lead.lines.to [] (head ∷ front) back among (omega arith) (omega arith) is.ends in
      let places : placed_from all 0 0 (places_of blocks) ≡ placed_from all 0 0 ((head ∷ front) ++ back) = ap (λ (l : List Block). placed_from all 0 0 (head ∷ l)) (sym whole) in
      let own : Parted rules s (placed_from all 0 0 (places_of blocks)) first_run 0 = subst (λ x. Parted rules s x first_run 0) (sym places) cut in
      let a = map class_in own.before in
      let o = map class_in first_run in
      let r = map class_in new_run in
      let b = map class_in own.following in
      let old_classes : a ++ (o ++ b) ≡ map rules.class text =
      part_classes _ own.before first_run own.following _ own.old_are (placed_read rules text rows are).classes in
      let new_classes : a ++ (r ++ b) ≡ map rules.class (spliced text s) =
      part_classes _ own.before new_run own.following _ own.new_are new.classes in
      let none : own.before ≡ [] = nil_from_length own.before (sym own.count) in
      let none_classes : a ≡ [] = ap (map class_in) none in
      let count : length first_run ≡ lead.lines.to = length-until all 0 lead.lines.to 0 (head ∷ front) here (omega (arith, inside, laid.long))
      ∙ (let z : lead.lines.to - 0 ≡ lead.lines.to = omega arith in z) in
      let long_old : length o ≡ lead.lines.to - 0 = length-map first_run class_in ∙ (count ∙ (let z : lead.lines.to ≡ lead.lines.to - 0 = omega arith in z)) in
      let long_before : length a ≡ 0 = ap length none_classes in
      let long_all : length (a ++ (o ++ b)) ≡ length text = ap length old_classes ∙ length-map text rules.class in
      let tunes_are : tunes_in (blocks_of (a ++ (o ++ b))) ≡ front ++ back = ap (λ c. tunes_in (blocks_of c)) old_classes ∙ sym whole in
      let to : length a + length o ≡ start_of back (length (a ++ (o ++ b))) = (let sum : length a + length o
      ≡ lead.lines.to = omega (arith, long_before, long_old) in sum) ∙ (is.to ∙ ap (start_of back) (sym long_all)) in
      let law = tunes_first a o r b front back none_classes tunes_are to in
      let law_header = header_first a r b none_classes (begin_rest a o b front back tunes_are to) in
      let strict_parts : RiseFromTo 0 (front ++ back) (length text) = subst (λ (l : List Block). RiseFromTo 0 l (length text)) (sym whole) laid.strict in
      let start = is.to in
      let none_after : lead.tunes.to ≡ lead.tunes.to - 0 = omega arith in
      record {
        run = record {
          parts = own;
          tunes = sym (ap (λ c. tunes_in (blocks_of c)) new_classes) ∙ (law
              ∙ (λ i. map (move_block (long_before i)) (tunes_in (blocks_of r)) ++ map (shift_block (long_old i) (length-map new_run class_in i)) back));
          before = All-nil (Ends 0);
          following = all_starts (start_of back (length text)) back (length text) lead.lines.to (omega (arith, start)) (strict_rest 0 front back (length text) strict_parts);
          amid = subst (λ n. All (λ (block : Block). (0 ≤ block.from) × (block.to ≤ lead.lines.to)) (take n tunes)) none_after (rise_amid 0 head.to front lead.lines.to (omega arith) here.2);
          order = omega arith;
          most = is.most;
          begins = omega arith;
          ends = is.ends;
          inside = inside;
          count = count ∙ (let z : lead.lines.to ≡ lead.lines.to - 0 = omega arith in z);
        };
        header = sym (ap (λ c. header_in (blocks_of c)) new_classes) ∙ law_header;
        header_ends = rise_to head.to front lead.lines.to here.2;
        rise = here;
      }
