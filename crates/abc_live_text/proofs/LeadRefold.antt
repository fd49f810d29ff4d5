-- What an edit of the first lines of a text makes anew.
use Rattle.std.proofs.Common.{◌≡◌, ℕ, ◌+◌, ◌-◌, ◌≤◌, List, [], ◌∷◌, ◌++◌, map, Option, Some, None, All, IfSome, length, take}
use Rattle.std.proofs.Common.{drop, refl, sym, ◌∙◌, ap, subst, arith, ⊎_elim, inr}
use Rattle.std.proofs.lemmas.List.{drop_all}
use Rattle.std.proofs.lemmas.Slice.Zip.{AllZip-long}
use Rattle.std.specs.List.{AllZip, sum_by}
use Rattle.abc_book.specs.Block.{blocks_of}
use Rattle.abc_book.specs.Laws.{move_block}
use Rattle.abc_book.specs.declared.block.Block.{Block}
use Rattle.abc_fold.specs.Chain.{ChainView}
use Rattle.abc_fold.specs.Steps.{Steps, IsAlike}
use Rattle.abc_fold.specs.Work.{Counters, IsRaisedUpTo}
use Rattle.abc_lines.specs.Text.{Splice, Text, spliced}
use Rattle.abc_live_cost.specs.FreshCells.{fresh_cells_after}
use Rattle.abc_live_cost.specs.OldItems.{IsChainOf}
use Rattle.abc_tune_compiler.specs.Book.{blocks_in, header_in, opening_of, tunes_in}
use Rattle.abc_tune_compiler.specs.Rules.{Rules}
use Rattle.abc_live_text.specs.Blocks.{header_among, tunes_among}
use Rattle.abc_live_text.specs.Pieces.{IsCarried, IsChain, LiesWithin, class_in, steps_taken}
use Rattle.abc_live_text.specs.Chains.{IsHeaderChain, state_after_chain, header_place, header_steps, places_of}
use Rattle.abc_live_text.specs.Lead.{BeginAlike, IsHeaderOpening, IsHeaderOpeningOf, IsLeadEdit, MayGoOn, lead_rows, old_lead_rows, whole_lead}
use Rattle.abc_live_text.specs.Origin.{BlocksRise, rows_until}
use Rattle.abc_live_text.specs.NewParts.{IsLead, AreNewParts, new_parts_view, span_stretch, span_to, splice_at, start_of}
use Rattle.abc_live_text.specs.Row.{CarriedRow, Row, carried_row, new_row}
use Rattle.abc_live_text.specs.KeptText.{KeptTextView, MayEndBy, ArePartsOf, parts_of}
use Rattle.abc_live_text.specs.ReusedTunes.{AreRefolded}
use Rattle.abc_live_text.specs.declared.stretch.Span.{Span}
use Rattle.abc_live_text.proofs.EditCost.{IsKept}
use Rattle.abc_live_text.proofs.Edits.{edit_of, fresh_row}
use Rattle.abc_live_text.proofs.Refolds.{all_renewed, head_cost, kept_alike, old_chains, run_chains, run_cost, run_renewed}
use Rattle.abc_live_text.proofs.LeadRows.{IsLeadRun, first_run, lead_facts, new_run}
use Rattle.abc_live_text.proofs.FreshSteps.{map-over}
use Rattle.abc_live_text.proofs.StretchRows.{edited_carried, length-rows}
use Rattle.abc_live_text.proofs.Openings.{folds_alike, header_made, opening_alike}
use Rattle.abc_live_text.proofs.Parts.{zip_drop, zip_same}
use Rattle.abc_live_text.proofs.EditedRows.{AreRenewed, all_mid, bare_read, chain_moved, new_parts, steps_moved}
use Rattle.abc_live_text.proofs.ChainPlaces.{header_within}
use Rattle.abc_live_text.proofs.RowOrigins.{settled_carried}
use Rattle.abc_live_text.proofs.WholeRows.{placed_from}

stays : (block : Block) → move_block 0 block ≡ block
stays block =
    let a : block.from + 0 ≡ block.from = omega arith in
    let b : block.to + 0 ≡ block.to = omega arith in
    λ i. record { kind = block.kind; from = a i; to = b i }

-- The chain of a file header and the steps that it takes, by the rows of the whole text.
header_moved : {State Cell Items : Type 0} (steps : Steps State Cell Items) (first : State) (a rows b : List (CarriedRow Cell))
    (chain : ChainView State Cell Items) (header : Option Block) → 0 ≡ length a → IfSome header (LiesWithin (length rows))
    → IsHeaderChain steps first rows chain header → IsHeaderChain steps first (a ++ (rows ++ b)) chain header
header_moved steps first a rows b chain None e within is = is
header_moved steps first a rows b chain (Some block) e within is = subst (IsChain steps first (a ++ (rows ++ b)) chain) (stays block) (chain_moved steps first a rows b 0 chain block e within is)

header_taken : {State Cell Items : Type 0} (steps : Steps State Cell Items) (first : State) (old : List (ChainView State Cell Items))
    (a rows b : List (CarriedRow Cell)) (header : Option Block) → 0 ≡ length a → IfSome header (LiesWithin (length rows))
    → header_steps steps first old rows header ≡ header_steps steps first old (a ++ (rows ++ b)) header
header_taken steps first old a rows b None e within = refl
header_taken steps first old a rows b (Some block) e within = steps_moved steps first old a rows b 0 block e within ∙ ap (steps_taken steps first old (a ++ (rows ++ b))) (stays block)

header_ended : (count : ℕ) (header : Option Block) → IfSome header (LiesWithin count) → MayEndBy count header
header_ended count None within = λ block e. absurd (cc)
header_ended count (Some own) within = λ block e. let same : own ≡ block = cc in subst (λ (b : Block). b.to ≤ count) same within.1

place_ended : (line : ℕ) (header : Option Block) → (header_place header).to ≤ line → MayEndBy line header
place_ended line None within = λ block e. absurd (cc)
place_ended line (Some own) within = λ block e. let same : own ≡ block = cc in subst (λ (b : Block). b.to ≤ line) same within

-- The whole text is its first lines.
pub whole_is_lead : {C State Cell Items : Type 0} (on : KeptTextView C State Cell Items) (lead : Span) (end : ℕ) → lead ≡ whole_lead on → end ≤ length on.lines.text
    → IsLead on.tunes (length on.lines.text) end lead
whole_is_lead on lead end e inside =
    let last : drop (length on.tunes) on.tunes ≡ [] = drop_all (length on.tunes) on.tunes (omega arith) in
    subst (IsLead on.tunes (length on.lines.text) end) (sym e)
    (record { begins = refl; most = omega arith; to = ap (λ (t : List Block). start_of t (length on.lines.text)) (sym last); ends = inside })

-- The rows of lines that were read are those of an edit.
pub lead_edit : {C State Cell Items Defaults : Type 0} (rules : Rules State Cell Items Defaults) (on : KeptTextView C State Cell Items) (lead : Span) (at removed : ℕ)
    (lines : Text) (new : List (Row Cell)) (made rows : List (CarriedRow Cell)) → at + removed ≤ length on.lines.text → IsLead on.tunes (length on.lines.text) (at + removed) lead
    → rows ≡ made → made ≡ lead_rows on lead at removed new → new ≡ map (new_row rules) lines → IsLeadEdit rules on (splice_at at removed lines) lead rows
lead_edit rules on lead at removed lines new made rows inside is e m n = record { inside = inside; is_lead = is; rows_are = e ∙ (m ∙ ap (lead_rows on lead at removed) n) }

-- A kept text, seen from within as `on` and from outside as `now`, and its first lines.
module _ {C State Cell Items Defaults : Type 0} (steps : C → Steps State Cell Items) (rules : C → Rules State Cell Items Defaults) {on now : KeptTextView C State Cell Items} (view : on ≡ now)
    (parts_are : ArePartsOf (steps on.compiler) (rules on.compiler) on.lines.text (parts_of on)) (at removed : ℕ) (lead : Span)
    (seen : IsLead now.tunes (length now.lines.text) (at + removed) lead) where
  is : IsLead on.tunes (length on.lines.text) (at + removed) lead
  is = subst (λ (k : KeptTextView C State Cell Items). IsLead k.tunes (length k.lines.text) (at + removed) lead) (sym view) seen

  facts_of : IsLeadRun (rules on.compiler) on.lines.text (splice_at at removed []) on.rows.items lead
  facts_of = lead_facts (rules on.compiler) on.lines.text (splice_at at removed []) on.rows.items lead parts_are.read
      (subst (λ (t : List Block). IsLead t (length on.lines.text) (at + removed) lead) parts_are.tunes_are is)
      (new_parts (steps on.compiler) (rules on.compiler) on.lines.text (splice_at at removed []) on.rows.items on.chains.items parts_are.read parts_are.chains_are).read

  own_is : old_lead_rows on lead ≡ first_run (rules on.compiler) on.lines.text (splice_at at removed []) on.rows.items lead
  own_is = λ i. rows_until (map carried_row on.rows.items) 0 lead.lines.to 0 (header_place (parts_are.header_is i) ∷ take lead.tunes.to (parts_are.tunes_are i))

  pub lead_rise : (tunes places : List Block) → tunes ≡ on.tunes → places ≡ header_place on.header ∷ take lead.tunes.to tunes → BlocksRise 0 places lead.lines.to
  lead_rise tunes places e p = subst (λ (b : List Block). BlocksRise 0 b lead.lines.to)
      (sym (p ∙ (λ i. header_place (parts_are.header_is i) ∷ take lead.tunes.to ((e ∙ parts_are.tunes_are) i)))) facts_of.rise

  pub lead_inside : lead.lines.to ≤ length on.rows.items
  lead_inside = let a = facts_of.run.inside in let b = length-rows (steps on.compiler) (rules on.compiler) on parts_are in omega (arith, a, b)

  old_is : (tunes places : List Block) (old : List (CarriedRow Cell)) → tunes ≡ on.tunes → places ≡ header_place on.header ∷ take lead.tunes.to tunes
      → old ≡ rows_until (map carried_row on.rows.items) 0 lead.lines.to 0 places → old ≡ old_lead_rows on lead
  old_is tunes places old e p o = o ∙ ap (λ (b : List Block). rows_until (map carried_row on.rows.items) 0 lead.lines.to 0 b)
      (p ∙ ap (λ (t : List Block). header_place on.header ∷ take lead.tunes.to t) e)

  pub lead_fits : (tunes places : List Block) (old : List (CarriedRow Cell)) → tunes ≡ on.tunes → places ≡ header_place on.header ∷ take lead.tunes.to tunes
      → old ≡ rows_until (map carried_row on.rows.items) 0 lead.lines.to 0 places → at + removed ≤ length old
  lead_fits tunes places old e p o =
      let count = ap length (old_is tunes places old e p o ∙ own_is) ∙ facts_of.run.count in
      let ends = is.ends in
      omega (arith, count, ends)

  pub lead_carried : (tunes places : List Block) (new : List (Row Cell)) (old rows : List (CarriedRow Cell)) → tunes ≡ on.tunes → places ≡ header_place on.header ∷ take lead.tunes.to tunes
      → old ≡ rows_until (map carried_row on.rows.items) 0 lead.lines.to 0 places
      → rows ≡ take at old ++ (map carried_row new ++ drop (at + removed) old) → All (IsCarried now.chains.items) rows
  lead_carried tunes places new old rows e p o r =
      let parts = facts_of.run.parts in
      let read = bare_read (rules on.compiler) on.lines.text on.rows.items parts_are.read in
      let all = settled_carried (steps on.compiler) (rules on.compiler) on.lines.text (map carried_row on.rows.items) on.chains.items read.cells parts_are.chains_are in
      let own = all_mid (IsCarried on.chains.items) parts.before
      (first_run (rules on.compiler) on.lines.text (splice_at at removed []) on.rows.items lead) parts.following (subst (All (IsCarried on.chains.items)) parts.old_are all) in
      subst (λ (k : KeptTextView C State Cell Items). All (IsCarried k.chains.items) rows) view
      (subst (All (IsCarried on.chains.items)) (sym r)
      (edited_carried on.chains.items old new at (at + removed) (subst (All (IsCarried on.chains.items)) (sym (old_is tunes places old e p o ∙ own_is)) own)))

module _ {C State Cell Items Defaults : Type 0} {steps : Steps State Cell Items} {rules : Rules State Cell Items Defaults} {on : KeptTextView C State Cell Items}
    (kept : IsKept steps rules on) {s : Splice} {lead : Span} {run : List (CarriedRow Cell)} (edit : IsLeadEdit rules on s lead run) where
  abbrev pub now_blocks : List Block
  now_blocks = blocks_in rules (spliced on.lines.text s)

  abbrev pub new_rows : List (CarriedRow Cell)
  new_rows = edit_of rules s (placed_from (map carried_row on.rows.items) 0 0 (places_of (blocks_in rules on.lines.text)))

  new_rows_are : AreRenewed steps rules on.lines.text s on.chains.items new_rows
  new_rows_are = all_renewed kept s edit.inside

  facts : IsLeadRun rules on.lines.text s on.rows.items lead
  facts = lead_facts rules on.lines.text s on.rows.items lead kept.parts_are.read
      (subst (λ (t : List Block). IsLead t (length on.lines.text) (s.at + s.removed) lead) kept.parts_are.tunes_are edit.is_lead) new_rows_are.read

  -- The rows as code builds them.
  runs : run ≡ new_run rules on.lines.text s on.rows.items lead
  runs =
      let old : old_lead_rows on lead ≡ first_run rules on.lines.text s on.rows.items lead =
      λ i. rows_until (map carried_row on.rows.items) 0 lead.lines.to 0 (header_place (kept.parts_are.header_is i) ∷ take lead.tunes.to (kept.parts_are.tunes_are i)) in
      let own : map carried_row (map (new_row rules) s.lines) ≡ map (fresh_row rules) s.lines = map-over carried_row (new_row rules) s.lines in
      let a : s.at ≡ s.at - 0 = omega arith in
      let b : s.at + s.removed ≡ s.at + s.removed - 0 = omega arith in
      edit.rows_are ∙ (λ i. take (a i) (old i) ++ (own i ++ drop (b i) (old i)))

  run_parts : new_rows ≡ facts.run.parts.before ++ (run ++ facts.run.parts.following)
  run_parts = facts.run.parts.new_are ∙ ap (λ r. facts.run.parts.before ++ (r ++ facts.run.parts.following)) (sym runs)

  header_there : header_among run ≡ header_in now_blocks
  header_there = ap (λ r. header_among r) runs ∙ sym facts.header

  header_lies : IfSome (header_in now_blocks) (LiesWithin (length run))
  header_lies = subst (λ (h : Option Block). IfSome h (LiesWithin (length run))) header_there (header_within run (blocks_of (map class_in run)) refl)

  -- The file header of these lines is that of the new text.
  pub lead_opening : {header : Option Block} {first : ChainView State Cell Items} {own : State} → IsHeaderOpening steps rules run header first own
      → IsHeaderOpeningOf steps rules (spliced on.lines.text s) header first own
  lead_opening {header = header} {first = first} {own = own} begin =
      let same = begin.header_is ∙ header_there in
      record {
        header_is = same;
        chain = header_made steps rules (spliced on.lines.text s) new_rows first (header_in now_blocks) kept.laws new_rows_are.read.cells
            (subst (λ r. IsHeaderChain steps rules.header r first (header_in now_blocks)) (sym run_parts)
            (header_moved steps rules.header facts.run.parts.before run facts.run.parts.following first (header_in now_blocks) facts.run.parts.count header_lies
            (subst (IsHeaderChain steps rules.header run first) same begin.chain)));
        begins = begin.begins ∙ ap (λ (h : Option Block). rules.tune (state_after_chain h first)) same;
      }

  -- What has been folded of it.
  pub lead_head : {before after : Counters} → IsRaisedUpTo (header_steps steps rules.header on.chains.items run (header_among run)) before after
      → IsRaisedUpTo (header_steps steps rules.header on.chains.items new_rows (header_in now_blocks)) before after
  lead_head {before = before} {after = after} raise = subst (λ n. IsRaisedUpTo n before after)
      (ap (header_steps steps rules.header on.chains.items run) header_there
      ∙ (header_taken steps rules.header on.chains.items facts.run.parts.before run facts.run.parts.following (header_in now_blocks) facts.run.parts.count header_lies
      ∙ ap (λ r. header_steps steps rules.header on.chains.items r (header_in now_blocks)) (sym run_parts))) raise

  pub lead_early : {before after : Counters} → IsRaisedUpTo (header_steps steps rules.header on.chains.items run (header_among run)) before after
      → IsRaisedUpTo (fresh_cells_after steps rules on.lines.text s) before after
  lead_early raise = head_cost kept s edit.inside _ _ (lead_head raise)

  module _ {header : Option Block} {first : ChainView State Cell Items} {own : State} (begin : IsHeaderOpeningOf steps rules (spliced on.lines.text s) header first own) where
    abbrev pub now_opening : State
    now_opening = opening_of steps.next rules (spliced on.lines.text s) now_blocks

    alike : IsAlike steps own now_opening
    alike = subst (λ o. IsAlike steps o now_opening) (sym begin.begins) (opening_alike steps rules (spliced on.lines.text s) first (header_in now_blocks) kept.laws kept.lawful begin.chain)

    pub lead_cost : {before now after : Counters} → IsRaisedUpTo (header_steps steps rules.header on.chains.items new_rows (header_in now_blocks)) before now
        → IsRaisedUpTo (sum_by (steps_taken steps own on.chains.items run) (tunes_among run)) now after
        → IsRaisedUpTo (fresh_cells_after steps rules on.lines.text s) before after
    lead_cost head raise = run_cost kept s edit.inside (span_to lead.tunes.to lead.lines.to) _ run facts.run runs own alike _ _ _ head raise

    -- The chains after the first lines, which begin in the states of the new text.
    rest : MayGoOn steps rules on lead.tunes.to own
        → AllZip (IsChainOf steps rules.cells now_opening on.lines.text) (drop lead.tunes.to (drop 1 on.chains.items)) (drop lead.tunes.to (tunes_in (blocks_in rules on.lines.text)))
    rest goes =
        let was = opening_of steps.next rules on.lines.text (blocks_in rules on.lines.text) in
        let R = IsChainOf steps rules.cells was on.lines.text in
        let Q = IsChainOf steps rules.cells now_opening on.lines.text in
        let chains = drop 1 on.chains.items in
        let blocks = tunes_in (blocks_in rules on.lines.text) in
        let old = old_chains steps rules on.lines.text on.chains.items kept.parts_are.chains_are in
        ⊎_elim
        (λ (all : length on.tunes ≤ lead.tunes.to).
        let many = ap length kept.parts_are.tunes_are in
        let count = AllZip-long R chains blocks old in
        let no_tunes : drop lead.tunes.to blocks ≡ [] = drop_all lead.tunes.to blocks (omega (arith, all, many)) in
        let no_chains : drop lead.tunes.to chains ≡ [] = drop_all lead.tunes.to chains (omega (arith, all, many, count)) in
        subst (λ c. AllZip Q c (drop lead.tunes.to blocks)) (sym no_chains) (subst (λ (b : List Block). AllZip Q [] b) (sym no_tunes) tt))
        (λ (begun : BeginAlike steps rules on own).
        let was_alike = kept_alike steps rules on begun.was kept.laws kept.lawful kept.parts_are begun.begins in
        let same : IsAlike steps was now_opening =
        kept.laws.transitive was begun.was now_opening (kept.laws.symmetric begun.was was was_alike) (kept.laws.transitive begun.was own now_opening begun.alike alike) in
        zip_same R Q (λ (block : Block). Unit {0}) (drop lead.tunes.to chains) (drop lead.tunes.to blocks)
        (λ chain block known is. record { folds = folds_alike steps was now_opening chain kept.laws same is.folds; cells = is.cells })
        (λ k d l. tt) (zip_drop R lead.tunes.to chains blocks old))
        goes

    -- What is folded again of the first lines.
    pub lead_renewed : {tunes : List Block} {made : List (ChainView State Cell Items)} {reused_tunes : List (Option ℕ)} → MayGoOn steps rules on lead.tunes.to own
        → AreRefolded steps on.chains.items own run tunes made reused_tunes
        → AreNewParts steps rules on s (new_parts_view (span_stretch lead (length run)) header (Some first) tunes made reused_tunes)
    lead_renewed {tunes = tunes} {made = made} {reused_tunes = reused_tunes} goes refolded =
        subst (λ (l : Span). AreNewParts steps rules on s (new_parts_view (span_stretch l (length run)) header (Some first) tunes made reused_tunes)) (sym edit.is_lead.begins)
        (run_renewed kept s edit.inside (span_to lead.tunes.to lead.lines.to) _ run facts.run runs own alike header (Some first) tunes made reused_tunes refolded begin.header_is
        (begin.chain, run_chains kept s edit.inside (span_to lead.tunes.to lead.lines.to) _ run facts.run runs own alike tunes made refolded.tunes_are refolded.chains_are tt (rest goes))
        (inr (record {
          some = refl;
          front = refl;
          from = refl;
          goes = subst (MayEndBy lead.lines.to) (sym kept.parts_are.header_is) (place_ended lead.lines.to (header_in (blocks_in rules on.lines.text)) facts.header_ends);
          comes = subst (MayEndBy (length run)) (sym begin.header_is) (header_ended (length run) (header_in now_blocks) header_lies);
        })))
