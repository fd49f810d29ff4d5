-- What an edit after the beginning of a tune folds again.
use Rattle.std.proofs.Common.{◌≡◌, ◌+◌, ◌-◌, ◌≤◌, ℕ, List, map, Option, None, length, take, drop, refl, sym, ◌∙◌, ap, subst, inl}
use Rattle.std.specs.List.{AllZip, sum_by}
use Rattle.abc_book.specs.declared.block.Block.{Block}
use Rattle.abc_fold.specs.Chain.{ChainView}
use Rattle.abc_fold.specs.Steps.{Steps, IsAlike}
use Rattle.abc_fold.specs.Work.{Counters, IsRaisedUpTo}
use Rattle.abc_fold.proofs.Raised.{raised-none}
use Rattle.abc_lines.specs.Text.{Splice, Text, spliced}
use Rattle.abc_tune_compiler.specs.Book.{blocks_in, opening_of, tunes_in}
use Rattle.abc_tune_compiler.specs.Rules.{Rules}
use Rattle.abc_live_cost.specs.FreshCells.{fresh_cells_after}
use Rattle.abc_live_cost.specs.OldItems.{IsChainOf}
use Rattle.abc_live_text.specs.Blocks.{tunes_among}
use Rattle.abc_live_text.specs.KeptText.{KeptTextView}
use Rattle.abc_live_text.specs.Lead.{IsKeptOpening}
use Rattle.abc_live_text.specs.NewParts.{AreNewParts, IsSpan, new_parts_view, span_rows, span_stretch, splice_at}
use Rattle.abc_live_text.specs.Pieces.{steps_taken}
use Rattle.abc_live_text.specs.ReusedTunes.{AreRefolded}
use Rattle.abc_live_text.specs.Row.{CarriedRow, Row, new_row}
use Rattle.abc_live_text.specs.declared.stretch.Span.{Span}
use Rattle.abc_live_text.proofs.EditCost.{IsKept}
use Rattle.abc_live_text.proofs.EditedRows.{stretch_rows}
use Rattle.abc_live_text.proofs.OutsideStretch.{header_stays, lines_before, opening_stays}
use Rattle.abc_live_text.proofs.Parts.{zip_drop, zip_take}
use Rattle.abc_live_text.proofs.Refolds.{all_renewed, kept_alike, old_chains, run_chains, run_cost, run_renewed}
use Rattle.abc_live_text.proofs.StretchRows.{run_is}
use Rattle.abc_live_text.proofs.TuneStretch.{IsSpanRun, span_facts, old_run}

-- An edit after the beginning of a tune, and the rows of its stretch after it.
pub record IsSpanEdit {C State Cell Items Defaults : Type 0} (rules : Rules State Cell Items Defaults)
    (on : KeptTextView C State Cell Items) (s : Splice) (span : Span) (rows : List (CarriedRow Cell)) : Type 0 where
  pub inside : s.at + s.removed ≤ length on.lines.text
  pub is_span : IsSpan on.tunes (length on.lines.text) s.at s.removed span
  pub rows_are : rows ≡ span_rows on span s.at s.removed (map (new_row rules) s.lines)

-- It is one if code builds the rows from rows that were read from its lines.
pub span_edit : {C State Cell Items Defaults : Type 0} (rules : Rules State Cell Items Defaults) (on : KeptTextView C State Cell Items) (span : Span) (at removed : ℕ)
    (lines : Text) (new : List (Row Cell)) (made rows : List (CarriedRow Cell)) → at + removed ≤ length on.lines.text → IsSpan on.tunes (length on.lines.text) at removed span
    → rows ≡ made → made ≡ span_rows on span at removed new → new ≡ map (new_row rules) lines → IsSpanEdit rules on (splice_at at removed lines) span rows
span_edit rules on span at removed lines new made rows inside is e m n = record { inside = inside; is_span = is; rows_are = e ∙ (m ∙ ap (span_rows on span at removed) n) }

module _ {C State Cell Items Defaults : Type 0} {steps : Steps State Cell Items} {rules : Rules State Cell Items Defaults} {on : KeptTextView C State Cell Items}
    (kept : IsKept steps rules on) {s : Splice} {span : Span} {run : List (CarriedRow Cell)} (edit : IsSpanEdit rules on s span run)
    {own : State} (opening : IsKeptOpening rules on own) where
  same : on ≡ on
  same = refl

  runs : run ≡ stretch_rows rules s span.lines.from (old_run rules on.lines.text s on.rows.items span)
  runs = run_is (λ (k : C). steps) (λ (k : C). rules) same kept.parts_are s.at s.removed span edit.is_span s.lines run edit.rows_are

  facts : IsSpanRun rules on.lines.text s on.rows.items span
  facts = span_facts rules on.lines.text s on.rows.items span kept.parts_are.read
      (subst (λ (t : List Block). IsSpan t (length on.lines.text) s.at s.removed span) kept.parts_are.tunes_are edit.is_span) (all_renewed kept s edit.inside).read

  same_before : take span.lines.from (spliced on.lines.text s) ≡ take span.lines.from on.lines.text
  same_before = lines_before on.lines.text s span.lines.from facts.run.begins edit.inside

  -- Tunes begin as before.
  stays : opening_of steps.next rules (spliced on.lines.text s) (blocks_in rules (spliced on.lines.text s)) ≡ opening_of steps.next rules on.lines.text (blocks_in rules on.lines.text)
  stays = opening_stays steps rules on.lines.text (spliced on.lines.text s) span.lines.from (span.lines.to - span.lines.from) (length run) facts.header facts.header_ends same_before

  alike : IsAlike steps own (opening_of steps.next rules (spliced on.lines.text s) (blocks_in rules (spliced on.lines.text s)))
  alike = subst (λ o. IsAlike steps own o) (sym stays) (kept_alike steps rules on own kept.laws kept.lawful kept.parts_are opening)

  pub span_cost : {before after : Counters} → IsRaisedUpTo (sum_by (steps_taken steps own on.chains.items run) (tunes_among run)) before after
      → IsRaisedUpTo (fresh_cells_after steps rules on.lines.text s) before after
  span_cost {before = before} {after = after} raise = run_cost kept s edit.inside span _ run facts.run runs own alike before before after (raised-none _ _) raise

  pub span_renewed : {tunes : List Block} {made : List (ChainView State Cell Items)} {reused_tunes : List (Option ℕ)}
      → AreRefolded steps on.chains.items own run tunes made reused_tunes
      → AreNewParts steps rules on s (new_parts_view (span_stretch span (length run)) on.header None tunes made reused_tunes)
  span_renewed {tunes = tunes} {made = made} {reused_tunes = reused_tunes} refolded =
      let now = opening_of steps.next rules (spliced on.lines.text s) (blocks_in rules (spliced on.lines.text s)) in
      let R = IsChainOf steps rules.cells now on.lines.text in
      let blocks = tunes_in (blocks_in rules on.lines.text) in
      let chains : AllZip R (drop 1 on.chains.items) blocks = subst (λ (o : State). AllZip (IsChainOf steps rules.cells o on.lines.text) (drop 1 on.chains.items) blocks)
      (sym stays) (old_chains steps rules on.lines.text on.chains.items kept.parts_are.chains_are) in
      run_renewed kept s edit.inside span _ run facts.run runs own alike on.header None tunes made reused_tunes refolded
      (kept.parts_are.header_is ∙ sym facts.header)
      (header_stays steps rules on.lines.text (spliced on.lines.text s) (span_stretch span (length run)) on.chains.items made kept.parts_are.chains_are facts.header facts.header_ends same_before
      (run_chains kept s edit.inside span _ run facts.run runs own alike tunes made refolded.tunes_are refolded.chains_are
      (zip_take R span.tunes.from (drop 1 on.chains.items) blocks chains) (zip_drop R span.tunes.to (drop 1 on.chains.items) blocks chains)))
      (inl (record {
        none = refl;
        header_stays = refl;
        before = λ block h. (facts.header_ends block (sym kept.parts_are.header_is ∙ h)).1;
      }))
