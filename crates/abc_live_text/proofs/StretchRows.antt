-- The rows of a stretch that begins with a tune, as code builds them.
use Rattle.std.proofs.Common.{◌≡◌, ℕ, suc, ◌+◌, ◌-◌, ◌≤◌, List, [], ◌∷◌, ◌++◌, map, All, length, take, drop, sym, ◌∙◌, ap, subst}
use Rattle.std.proofs.Common.{arith}
use Rattle.std.proofs.lemmas.List.{length-take-le, length-map}
use Rattle.std.proofs.lemmas.List.Elements.{All-cons, All-nil, All-take, All-drop, All-append, All-weaker}
use Rattle.abc_book.specs.Block.{blocks_of}
use Rattle.abc_book.specs.declared.block.Block.{Block}
use Rattle.abc_fold.specs.Chain.{ChainView}
use Rattle.abc_fold.specs.Steps.{Steps}
use Rattle.abc_lines.specs.Text.{Text}
use Rattle.abc_tune_compiler.specs.Book.{blocks_in, tunes_in}
use Rattle.abc_tune_compiler.specs.Rules.{Rules}
use Rattle.abc_live_text.specs.Pieces.{IsCarried, LiesWithin, class_in}
use Rattle.abc_live_text.specs.Origin.{BlocksRise, rows_until}
use Rattle.abc_live_text.specs.NewParts.{IsSpan, old_span_rows, span_rows, splice_at}
use Rattle.abc_live_text.specs.Row.{CarriedRow, Row, carried_row, new_row, row_class}
use Rattle.abc_live_text.specs.KeptText.{KeptTextView, ArePartsOf, parts_of}
use Rattle.abc_live_text.specs.declared.stretch.Span.{Span}
use Rattle.abc_live_text.proofs.Edits.{fresh_row}
use Rattle.abc_live_text.proofs.FreshSteps.{map-over}
use Rattle.abc_live_text.proofs.TuneStretch.{IsSpanRun, span_facts, old_run}
use Rattle.abc_live_text.proofs.EditedRows.{all_mid, bare_read, new_parts, stretch_rows}
use Rattle.abc_live_text.proofs.ChainPlaces.{tunes_within}
use Rattle.abc_live_text.proofs.RowOrigins.{settled_carried}
use Rattle.abc_live_text.proofs.WholeTunes.{chains_count}

pub bare_carried : {State Cell Items : Type 0} (chains : List (ChainView State Cell Items)) (rows : List (Row Cell)) → All (IsCarried chains) (map carried_row rows)
bare_carried chains [] = All-nil (IsCarried chains)
bare_carried chains (row ∷ rows) = All-cons (IsCarried chains) (carried_row row) (map carried_row rows) tt (bare_carried chains rows)

-- New lines among old ones that are carried.
pub edited_carried : {State Cell Items : Type 0} (chains : List (ChainView State Cell Items)) (old : List (CarriedRow Cell))
    (new : List (Row Cell)) (at end : ℕ) → All (IsCarried chains) old → All (IsCarried chains) (take at old ++ (map carried_row new ++ drop end old))
edited_carried chains old new at end all =
    All-append (IsCarried chains) (take at old) (map carried_row new ++ drop end old) (All-take (IsCarried chains) at old all)
    (All-append (IsCarried chains) (map carried_row new) (drop end old) (bare_carried chains new) (All-drop (IsCarried chains) end old all))

pub length-rows : {State Cell Items Defaults : Type 0} (steps : Steps State Cell Items)
    (rules : Rules State Cell Items Defaults) {C : Type 0} (on : KeptTextView C State Cell Items) → ArePartsOf steps rules on.lines.text (parts_of on) → length on.rows.items ≡ length on.lines.text
length-rows steps rules on parts_are = sym (length-map on.rows.items row_class) ∙ (ap length parts_are.read.classes ∙ length-map on.lines.text rules.class)

pub tunes_inside : {State Cell Items Defaults : Type 0} (steps : Steps State Cell Items)
    (rules : Rules State Cell Items Defaults) {C : Type 0} (on : KeptTextView C State Cell Items)
    → ArePartsOf steps rules on.lines.text (parts_of on) → All (LiesWithin (length on.lines.text)) on.tunes
tunes_inside steps rules on parts_are =
    let read = bare_read rules on.lines.text on.rows.items parts_are.read in
    let same : blocks_in rules on.lines.text ≡ blocks_of (map class_in (map carried_row on.rows.items)) = ap blocks_of (sym read.classes) in
    subst (λ n. All (LiesWithin n) on.tunes) (length-map on.rows.items carried_row ∙ length-rows steps rules on parts_are)
    (subst (All (LiesWithin (length (map carried_row on.rows.items)))) (sym parts_are.tunes_are) (tunes_within (map carried_row on.rows.items) (blocks_in rules on.lines.text) same))

-- The chains go on past the tunes before a number, which are no more than all.
pub chains_reach : {C State Cell Items Defaults : Type 0} (steps : C → Steps State Cell Items) (rules : C → Rules State Cell Items Defaults)
    {on now : KeptTextView C State Cell Items} (view : on ≡ now)
    → ArePartsOf (steps on.compiler) (rules on.compiler) on.lines.text (parts_of on) → (n : ℕ) → n ≤ length now.tunes → n + 1 ≤ length now.chains.items
chains_reach {C = C} {State = State} {Cell = Cell} {Items = Items} steps rules {on = on} {now = now} view parts_are n most =
    let total = chains_count (steps on.compiler) (rules on.compiler) on.lines.text on.chains.items parts_are.chains_are in
    let tunes = ap length parts_are.tunes_are in
    let seen : length now.tunes ≡ length on.tunes = ap (λ (k : KeptTextView C State Cell Items). length k.tunes) (sym view) in
    let chains : length now.chains.items ≡ length on.chains.items = ap (λ (k : KeptTextView C State Cell Items). length k.chains.items) (sym view) in
    omega (arith, total, tunes, seen, chains, most)

-- The tunes lie within as many lines as a text may have.
pub tunes_within_most : {C State Cell Items Defaults : Type 0} (steps : C → Steps State Cell Items) (rules : C → Rules State Cell Items Defaults)
    {on now : KeptTextView C State Cell Items} (view : on ≡ now)
    → ArePartsOf (steps on.compiler) (rules on.compiler) on.lines.text (parts_of on) → (most : ℕ) → length on.lines.text ≤ most → (tunes : List Block) → tunes ≡ on.tunes → All (LiesWithin most) tunes
tunes_within_most steps rules {on = on} view parts_are most limit tunes e =
    subst (All (LiesWithin most)) (sym e) (All-weaker (LiesWithin (length on.lines.text)) (LiesWithin most) (λ block h. (h.0, omega (arith, h.1, limit))) on.tunes
    (tunes_inside (steps on.compiler) (rules on.compiler) on parts_are))

-- A kept text, seen from within as `on` and from outside as `now`, and a stretch of it.
module _ {C State Cell Items Defaults : Type 0} (steps : C → Steps State Cell Items) (rules : C → Rules State Cell Items Defaults) {on now : KeptTextView C State Cell Items} (view : on ≡ now)
    (parts_are : ArePartsOf (steps on.compiler) (rules on.compiler) on.lines.text (parts_of on)) (at removed : ℕ) (span : Span)
    (seen : IsSpan now.tunes (length now.lines.text) at removed span) where
  is : IsSpan on.tunes (length on.lines.text) at removed span
  is = subst (λ (k : KeptTextView C State Cell Items). IsSpan k.tunes (length k.lines.text) at removed span) (sym view) seen

  facts_of : (lines : Text) → IsSpanRun (rules on.compiler) on.lines.text (splice_at at removed lines) on.rows.items span
  facts_of lines = span_facts (rules on.compiler) on.lines.text (splice_at at removed lines) on.rows.items span parts_are.read
      (subst (λ (t : List Block). IsSpan t (length on.lines.text) at removed span) parts_are.tunes_are is)
      (new_parts (steps on.compiler) (rules on.compiler) on.lines.text (splice_at at removed lines) on.rows.items on.chains.items parts_are.read parts_are.chains_are).read

  own_is : (lines : Text) → old_span_rows on span ≡ old_run (rules on.compiler) on.lines.text (splice_at at removed lines) on.rows.items span
  own_is lines =
      let tunes = tunes_in (blocks_in (rules on.compiler) on.lines.text) in
      let long = ap length parts_are.tunes_are in
      let count : length (take span.tunes.from tunes) ≡ span.tunes.from = length-take-le span.tunes.from tunes (omega (arith, is.order, is.most, long)) in
      let number : span.tunes.from + 1 ≡ 0 + suc (length (take span.tunes.from tunes)) = omega (arith, count) in
      λ i. rows_until (map carried_row on.rows.items) span.lines.from span.lines.to (number i) (take (span.tunes.to - span.tunes.from) (drop span.tunes.from (parts_are.tunes_are i)))

  pub span_rise : (tunes : List Block) → tunes ≡ on.tunes → BlocksRise span.lines.from (take (span.tunes.to - span.tunes.from) (drop span.tunes.from tunes)) span.lines.to
  span_rise tunes e =
      subst (λ (t : List Block). BlocksRise span.lines.from (take (span.tunes.to - span.tunes.from) (drop span.tunes.from t)) span.lines.to) (sym (e ∙ parts_are.tunes_are)) (facts_of []).rise

  pub span_inside : span.lines.to ≤ length on.rows.items
  span_inside = let a = (facts_of []).run.inside in let b = length-rows (steps on.compiler) (rules on.compiler) on parts_are in omega (arith, a, b)

  old_is : (tunes : List Block) (old : List (CarriedRow Cell)) → tunes ≡ on.tunes
      → old ≡ rows_until (map carried_row on.rows.items) span.lines.from span.lines.to (span.tunes.from + 1) (take (span.tunes.to - span.tunes.from) (drop span.tunes.from tunes))
      → old ≡ old_span_rows on span
  old_is tunes old e o =
      o ∙ ap (λ (t : List Block). rows_until (map carried_row on.rows.items) span.lines.from span.lines.to (span.tunes.from + 1) (take (span.tunes.to - span.tunes.from) (drop span.tunes.from t))) e

  pub span_fits : (tunes : List Block) (old : List (CarriedRow Cell)) → tunes ≡ on.tunes
      → old ≡ rows_until (map carried_row on.rows.items) span.lines.from span.lines.to (span.tunes.from + 1) (take (span.tunes.to - span.tunes.from) (drop span.tunes.from tunes))
      → at - span.lines.from + removed ≤ length old
  span_fits tunes old e o =
      let count = ap length (old_is tunes old e o ∙ own_is []) ∙ (facts_of []).run.count in
      let begins = is.begins in
      let ends = is.ends in
      omega (arith, count, begins, ends)

  pub span_carried : (tunes : List Block) (new : List (Row Cell)) (old rows : List (CarriedRow Cell)) → tunes ≡ on.tunes
      → old ≡ rows_until (map carried_row on.rows.items) span.lines.from span.lines.to (span.tunes.from + 1) (take (span.tunes.to - span.tunes.from) (drop span.tunes.from tunes))
      → rows ≡ take (at - span.lines.from) old ++ (map carried_row new ++ drop (at - span.lines.from + removed) old) → All (IsCarried now.chains.items) rows
  span_carried tunes new old rows e o r =
      let parts = (facts_of []).run.parts in
      let read = bare_read (rules on.compiler) on.lines.text on.rows.items parts_are.read in
      let all = settled_carried (steps on.compiler) (rules on.compiler) on.lines.text (map carried_row on.rows.items) on.chains.items read.cells parts_are.chains_are in
      let own = all_mid (IsCarried on.chains.items) parts.before
      (old_run (rules on.compiler) on.lines.text (splice_at at removed []) on.rows.items span) parts.following (subst (All (IsCarried on.chains.items)) parts.old_are all) in
      subst (λ (k : KeptTextView C State Cell Items). All (IsCarried k.chains.items) rows) view
      (subst (All (IsCarried on.chains.items)) (sym r)
      (edited_carried on.chains.items old new (at - span.lines.from) (at - span.lines.from + removed) (subst (All (IsCarried on.chains.items)) (sym (old_is tunes old e o ∙ own_is [])) own)))

  -- The rows as code builds them.
  pub run_is : (lines : Text) (rows : List (CarriedRow Cell)) → rows ≡ span_rows on span at removed (map (new_row (rules on.compiler)) lines)
      → rows ≡ stretch_rows (rules on.compiler) (splice_at at removed lines) span.lines.from (old_run (rules on.compiler) on.lines.text (splice_at at removed lines) on.rows.items span)
  run_is lines rows r =
      let from = is.begins in
      let same = own_is lines in
      let fresh : map carried_row (map (new_row (rules on.compiler)) lines) ≡ map (fresh_row (rules on.compiler)) lines = map-over carried_row (new_row (rules on.compiler)) lines in
      let end : at - span.lines.from + removed ≡ at + removed - span.lines.from = omega (arith, from) in
      r ∙ (λ i. take (at - span.lines.from) (same i) ++ (fresh i ++ drop (end i) (same i)))
