-- The tunes among lines that an edit folds again are those of the new text.
use Rattle.std.proofs.Common.{◌≡◌, ◌⊎◌, ℕ, suc, ◌+◌, ◌-◌, ◌≤◌, List, [], ◌∷◌, ◌++◌, map, Option, All, IsSome, length, take, drop}
use Rattle.std.proofs.Common.{get_or, refl, sym, ◌∙◌, ap, subst, arith, length-append, length-drop}
use Rattle.std.proofs.lemmas.List.{length-map, length-take-le}
use Rattle.std.specs.List.{AllZip, sum_by}
use Rattle.abc_book.specs.Block.{blocks_of}
use Rattle.abc_book.specs.Laws.{move_block}
use Rattle.abc_book.specs.Stretch.{shift_block}
use Rattle.abc_book.specs.declared.block.Block.{Block}
use Rattle.abc_tune_compiler.specs.Lawful.{AreLawful}
use Rattle.abc_fold.specs.Chain.{ChainView}
use Rattle.abc_fold.specs.Steps.{Steps, IsAlike, IsResumable}
use Rattle.abc_fold.specs.Work.{Counters, IsRaisedUpTo}
use Rattle.abc_lines.specs.Text.{Splice, Text, spliced}
use Rattle.abc_live_cost.specs.FreshCells.{fresh_cells_after}
use Rattle.abc_tune_compiler.specs.Book.{blocks_in, header_in, opening_of, tunes_in}
use Rattle.abc_tune_compiler.specs.Rules.{Rules}
use Rattle.abc_live_text.specs.Pieces.{IsChain, LiesWithin, class_in, rows_in, steps_taken}
use Rattle.abc_live_text.specs.Chains.{AreChains, header_steps, places_of, state_after_chain}
use Rattle.abc_live_text.specs.Blocks.{tunes_among}
use Rattle.abc_live_text.specs.Lead.{IsKeptOpening}
use Rattle.abc_live_text.specs.NewParts.{AreNewParts, HeaderIsReplaced, HeaderStays, chains_after, new_parts_view, span_stretch}
use Rattle.abc_live_text.specs.Row.{CarriedRow, carried_row}
use Rattle.abc_live_text.specs.KeptText.{KeptTextView, LiesInOld, LiesBefore, LiesAfter, ArePartsOf, kept_numbers, parts_of}
use Rattle.abc_live_text.specs.KeptText.{reused_tunes_after}
use Rattle.abc_live_text.specs.ReusedTunes.{AreRefolded, GoesAlong, KnowsAlong}
use Rattle.abc_live_cost.specs.OldItems.{HasItemsOf, IsChainOf}
use Rattle.abc_live_text.specs.declared.stretch.Span.{Span}
use Rattle.abc_live_text.proofs.EditCost.{IsKept}
use Rattle.abc_live_text.proofs.Edits.{edit_of, fresh_row}
use Rattle.abc_live_text.proofs.Costs.{raised_up}
use Rattle.abc_live_text.proofs.FreshSteps.{edit_steps}
use Rattle.abc_live_text.proofs.EditedRuns.{IsEditedRun}
use Rattle.abc_live_text.proofs.Openings.{folds_alike, opening_alike}
use Rattle.abc_live_text.proofs.OutsideStretch.{StartsFrom, kept_some, lines_before, lines_after, tunes_stay}
use Rattle.abc_live_text.proofs.OutsideStretch.{stretch_cost}
use Rattle.abc_live_text.proofs.Parts.{zip_both, zip_given, zip_same}
use Rattle.abc_live_text.proofs.EditedRows.{AreRenewed, chain_moved, new_parts, rows_moved, steps_moved, stretch_rows}
use Rattle.abc_live_text.proofs.ChainPlaces.{tunes_within}
use Rattle.abc_live_text.proofs.Spans.{Ends}
use Rattle.abc_live_text.proofs.UntouchedTunes.{takes_untouched}
use Rattle.abc_live_text.proofs.WholeRows.{placed_from}
use Rattle.std.proofs.lemmas.List.Sums.{sum_by-cons}
use Rattle.std.proofs.lemmas.Slice.Zip.{AllZip-long}
use Rattle.std.proofs.lemmas.List.Elements.{All-weaker}

-- The tunes among rows that were folded again.
pub refold_facts : {State Cell Items : Type 0} (steps : Steps State Cell Items) (old : List (ChainView State Cell Items)) (opening : State) (rows : List (CarriedRow Cell))
    (tunes here there : List Block) (made chains : List (ChainView State Cell Items)) (reused_tunes : List (Option ℕ)) → tunes ≡ tunes_among rows → here ≡ tunes → there ≡ tunes → chains ≡ made
    → AllZip (IsChain steps opening rows) made here
    → ((begun : State) → AllZip (IsChain steps begun rows) chains there → AllZip (HasItemsOf (drop 1 old)) chains reused_tunes)
    → ((begun : State) → AllZip (IsChain steps begun rows) chains there → KnowsAlong steps old begun rows there reused_tunes)
    → AreRefolded steps old opening rows tunes made reused_tunes
refold_facts {State = State} steps old opening rows tunes here there made chains reused_tunes t h e m all items along =
    let own : AllZip (IsChain steps opening rows) made tunes = subst (AllZip (IsChain steps opening rows) made) h all in
    let seen : (begun : State) → AllZip (IsChain steps begun rows) made tunes → AllZip (IsChain steps begun rows) chains there =
    λ begun is. subst (λ l. AllZip (IsChain steps begun rows) l there) (sym m) (subst (AllZip (IsChain steps begun rows) made) (sym e) is) in
    record {
      tunes_are = t;
      chains_are = own;
      items = subst (λ l. AllZip (HasItemsOf (drop 1 old)) l reused_tunes) m (items opening (seen opening own));
      along = λ begun is. subst (λ (l : List Block). KnowsAlong steps old begun rows l reused_tunes) e (along begun (seen begun is));
    }

-- The steps of tunes at their places in the text.
pub sum_by-moved : {State Cell Items : Type 0} (steps : Steps State Cell Items) (own : State) (old : List (ChainView State Cell Items))
    (a rows b : List (CarriedRow Cell)) (n : ℕ) (tunes : List Block) → n ≡ length a → All (LiesWithin (length rows)) tunes
    → sum_by (steps_taken steps own old rows) tunes ≡ sum_by (steps_taken steps own old (a ++ (rows ++ b))) (map (move_block n) tunes)
sum_by-moved steps own old a rows b n [] e within = refl
sum_by-moved steps own old a rows b n (t ∷ tunes) e within =
    let here = sum_by-cons (steps_taken steps own old rows) t tunes in
    let there = sum_by-cons (steps_taken steps own old (a ++ (rows ++ b))) (move_block n t) (map (move_block n) tunes) in
    let first = steps_moved steps own old a rows b n t e (within 0 t (omega arith)) in
    let more = sum_by-moved steps own old a rows b n tunes e (λ i d l. within (suc i) d (omega arith)) in
    omega (arith, here, there, first, more)

-- The same of what goes along old tunes.
pub along_moved : {State Cell Items : Type 0} (steps : Steps State Cell Items) (own : State) (old : List (ChainView State Cell Items))
    (a rows b : List (CarriedRow Cell)) (n : ℕ) (tunes : List Block) (reused_tunes : List (Option ℕ)) → n ≡ length a → All (LiesWithin (length rows)) tunes
    → KnowsAlong steps old own rows tunes reused_tunes
    → KnowsAlong steps old own (a ++ (rows ++ b)) (map (move_block n) tunes) reused_tunes
along_moved steps own old a rows b n [] [] e within all = tt
along_moved steps own old a rows b n [] (one ∷ reused_tunes) e within all = absurd all
along_moved steps own old a rows b n (t ∷ tunes) [] e within all = absurd all
along_moved steps own old a rows b n (t ∷ tunes) (one ∷ reused_tunes) e within all = (
  λ goes. all.0 (subst (GoesAlong steps old own) (rows_moved a rows b n t e (within 0 t (omega arith))) goes),
  along_moved steps own old a rows b n tunes reused_tunes e (λ i d l. within (suc i) d (omega arith)) all.1,
)

-- Which tunes take old ones over, all of them.
pub taken_all : {State Cell Items : Type 0} (steps : Steps State Cell Items) (own : State) (old : List (ChainView State Cell Items))
    (all : List (CarriedRow Cell)) (front mid back : List Block) (f b count : ℕ) (reused_tunes : List (Option ℕ)) → length front ≡ f → length back ≡ count - b
    → KnowsAlong steps old own all mid reused_tunes
    → KnowsAlong steps old own all (front ++ (mid ++ back)) (kept_numbers 0 f ++ (reused_tunes ++ kept_numbers b (count - b)))
taken_all steps own old all front mid back f b count reused_tunes e g own_all =
    let R : Block → Option ℕ → Type 0 = λ tune one. GoesAlong steps old own (rows_in all tune) → IsSome one in
    zip_both R front (mid ++ back) (kept_numbers 0 f) (reused_tunes ++ kept_numbers b (count - b)) (kept_some R 0 front f (λ x k goes. refl) e)
    (zip_both R mid back reused_tunes (kept_numbers b (count - b)) own_all (kept_some R b back (count - b) (λ x k goes. refl) g))

-- The state in which old tunes begin, by the chain that is kept of the file header.
old_opening : {State Cell Items Defaults : Type 0} (steps : Steps State Cell Items) (rules : Rules State Cell Items Defaults)
    (text : Text) (first : ChainView State Cell Items) (tunes : List (ChainView State Cell Items)) (own : State)
    → IsResumable steps → AreLawful steps rules → AreChains steps rules text (first ∷ tunes) → own ≡ rules.tune (state_after_chain (header_in (blocks_in rules text)) first)
    → IsAlike steps own (opening_of steps.next rules text (blocks_in rules text))
old_opening steps rules text first tunes own laws lawful chains is =
    subst (λ o. IsAlike steps o (opening_of steps.next rules text (blocks_in rules text))) (sym is) (opening_alike steps rules text first (header_in (blocks_in rules text)) laws lawful chains.0)

pub alike_old : {State Cell Items Defaults : Type 0} (steps : Steps State Cell Items) (rules : Rules State Cell Items Defaults)
    (text : Text) (chains : List (ChainView State Cell Items)) (first : ChainView State Cell Items) (own : State)
    → IsResumable steps → AreLawful steps rules → AreChains steps rules text chains → first ≡ get_or chains 0 first → own ≡ rules.tune (state_after_chain (header_in (blocks_in rules text)) first)
    → IsAlike steps own (opening_of steps.next rules text (blocks_in rules text))
alike_old steps rules text [] first own laws lawful chains there is = absurd chains
alike_old steps rules text (chain ∷ tunes) first own laws lawful chains there is =
    old_opening steps rules text chain tunes own laws lawful chains (is ∙ ap (λ c. rules.tune (state_after_chain (header_in (blocks_in rules text)) c)) there)

pub zips_moved : {State Cell Items : Type 0} (steps : Steps State Cell Items) (own : State) (a rows b : List (CarriedRow Cell))
    (n : ℕ) (made : List (ChainView State Cell Items)) (tunes : List Block) → n ≡ length a → All (LiesWithin (length rows)) tunes
    → AllZip (IsChain steps own rows) made tunes → AllZip (IsChain steps own (a ++ (rows ++ b))) made (map (move_block n) tunes)
zips_moved steps own a rows b n made tunes e within all =
    zip_given (IsChain steps own rows) (IsChain steps own (a ++ (rows ++ b))) (LiesWithin (length rows)) (move_block n) made tunes
    (λ chain block known is. chain_moved steps own a rows b n chain block e known is) within all

pub length-stretch_rows : {State Cell Items Defaults : Type 0} (rules : Rules State Cell Items Defaults) (s : Splice) (from to : ℕ)
    (own : List (CarriedRow Cell)) → length own ≡ to - from → from ≤ s.at → s.at + s.removed ≤ to → length (stretch_rows rules s from own) ≡ to - from - s.removed + length s.lines
length-stretch_rows rules s from to own count h k =
    let a = take (s.at - from) own in
    let b = map (fresh_row rules) s.lines in
    let d = drop (s.at + s.removed - from) own in
    let first : length a ≡ s.at - from = length-take-le (s.at - from) own (omega (arith, count, h, k)) in
    let second : length b ≡ length s.lines = length-map s.lines (fresh_row rules) in
    let third = length-drop (s.at + s.removed - from) own in
    let sum = length-append a (b ++ d) in
    let more = length-append b d in
    omega (arith, first, second, third, sum, more, count, h, k)

pub kept_alike : {C State Cell Items Defaults : Type 0} (steps : Steps State Cell Items) (rules : Rules State Cell Items Defaults)
    (on : KeptTextView C State Cell Items) (own : State) → IsResumable steps → AreLawful steps rules → ArePartsOf steps rules on.lines.text (parts_of on)
    → IsKeptOpening rules on own → IsAlike steps own (opening_of steps.next rules on.lines.text (blocks_in rules on.lines.text))
kept_alike steps rules on own laws lawful parts_are kept =
    alike_old steps rules on.lines.text on.chains.items kept.first own laws lawful parts_are.chains_are kept.there
    (kept.begins ∙ ap (λ (h : Option Block). rules.tune (state_after_chain h kept.first)) parts_are.header_is)

-- The chains that are kept of the tunes.
pub old_chains : {State Cell Items Defaults : Type 0} (steps : Steps State Cell Items) (rules : Rules State Cell Items Defaults)
    (text : Text) (chains : List (ChainView State Cell Items)) → AreChains steps rules text chains
    → AllZip (IsChainOf steps rules.cells (opening_of steps.next rules text (blocks_in rules text)) text) (drop 1 chains) (tunes_in (blocks_in rules text))
old_chains steps rules text [] are = absurd are
old_chains steps rules text (first ∷ chains) are = are.1

module _ {C State Cell Items Defaults : Type 0} {steps : Steps State Cell Items} {rules : Rules State Cell Items Defaults} {on : KeptTextView C State Cell Items}
    (kept : IsKept steps rules on) (s : Splice) (inside : s.at + s.removed ≤ length on.lines.text) where
  abbrev pub new_text : Text
  new_text = spliced on.lines.text s

  abbrev pub new_blocks : List Block
  new_blocks = blocks_in rules (spliced on.lines.text s)

  abbrev pub new_opening : State
  new_opening = opening_of steps.next rules (spliced on.lines.text s) (blocks_in rules (spliced on.lines.text s))

  abbrev pub old_blocks : List Block
  old_blocks = tunes_in (blocks_in rules on.lines.text)

  abbrev pub all_rows : List (CarriedRow Cell)
  all_rows = edit_of rules s (placed_from (map carried_row on.rows.items) 0 0 (places_of (blocks_in rules on.lines.text)))

  pub all_renewed : AreRenewed steps rules on.lines.text s on.chains.items all_rows
  all_renewed = new_parts steps rules on.lines.text s on.rows.items on.chains.items kept.parts_are.read kept.parts_are.chains_are

  -- The cost if only the file header has been folded.
  pub head_cost : (before after : Counters) → IsRaisedUpTo (header_steps steps rules.header on.chains.items all_rows (header_in new_blocks)) before after
      → IsRaisedUpTo (fresh_cells_after steps rules on.lines.text s) before after
  head_cost before after raise =
      let sum = edit_steps steps rules on.lines.text s on.chains.items all_rows new_opening kept.laws inside kept.parts_are.chains_are all_renewed.read all_renewed.from
      (kept.laws.reflexive new_opening) in
      raised_up _ _ before after (omega (arith, sum)) raise

  module _ (span : Span) (old run : List (CarriedRow Cell)) (facts : IsEditedRun rules on.lines.text s on.rows.items span old) (runs : run ≡ stretch_rows rules s span.lines.from old)
      (own : State) (alike : IsAlike steps own new_opening) where
    run_parts : all_rows ≡ facts.parts.before ++ (run ++ facts.parts.following)
    run_parts = facts.parts.new_are ∙ ap (λ r. facts.parts.before ++ (r ++ facts.parts.following)) (sym runs)

    tunes_there : tunes_in new_blocks ≡ take span.tunes.from on.tunes
        ++ (map (move_block span.lines.from) (tunes_among run) ++ map (shift_block (span.lines.to - span.lines.from) (length run)) (drop span.tunes.to on.tunes))
    tunes_there = facts.tunes ∙ (λ i. take span.tunes.from (sym kept.parts_are.tunes_are i)
        ++ (map (move_block span.lines.from) (tunes_among (sym runs i))
        ++ map (shift_block (span.lines.to - span.lines.from) (length (sym runs i))) (drop span.tunes.to (sym kept.parts_are.tunes_are i))))

    within : All (LiesWithin (length run)) (tunes_among run)
    within = tunes_within run (blocks_of (map class_in run)) refl

    -- What has been folded: the file header, and then these tunes.
    pub run_cost : (before now after : Counters) → IsRaisedUpTo (header_steps steps rules.header on.chains.items all_rows (header_in new_blocks)) before now
        → IsRaisedUpTo (sum_by (steps_taken steps own on.chains.items run) (tunes_among run)) now after
        → IsRaisedUpTo (fresh_cells_after steps rules on.lines.text s) before after
    run_cost before now after head raise =
        let places = map (move_block span.lines.from) (tunes_among run) in
        let moved_sum : sum_by (steps_taken steps own on.chains.items run) (tunes_among run) ≡ sum_by (steps_taken steps own on.chains.items all_rows) places =
        sum_by-moved steps own on.chains.items facts.parts.before run facts.parts.following span.lines.from (tunes_among run) facts.parts.count within
        ∙ ap (λ r. sum_by (steps_taken steps own on.chains.items r) places) (sym run_parts) in
        stretch_cost steps rules on.lines.text s on.chains.items all_rows own (take span.tunes.from on.tunes) places
        (map (shift_block (span.lines.to - span.lines.from) (length run)) (drop span.tunes.to on.tunes)) before now after kept.laws inside kept.parts_are.chains_are all_renewed alike tunes_there head
        (subst (λ n. IsRaisedUpTo n now after) moved_sum raise)

    line_sum : span.lines.from + (span.lines.to - span.lines.from) ≡ span.lines.to
    line_sum = let a = facts.begins in let b = facts.ends in omega (arith, a, b)

    came_is : length run ≡ span.lines.to - span.lines.from - s.removed + length s.lines
    came_is = ap length runs ∙ length-stretch_rows rules s span.lines.from span.lines.to old facts.count facts.begins facts.ends

    lines_past : drop (span.lines.from + length run) new_text ≡ drop (span.lines.from + (span.lines.to - span.lines.from)) on.lines.text
    lines_past =
        let sum = line_sum in
        let ends = facts.ends in
        let most = facts.inside in
        lines_after on.lines.text s span.lines.from (span.lines.to - span.lines.from) (length run) facts.begins (omega (arith, sum, ends)) (omega (arith, sum, most)) came_is

    placed_chains : (tunes : List Block) (made : List (ChainView State Cell Items)) → tunes ≡ tunes_among run → AllZip (IsChain steps own run) made tunes
        → AllZip (IsChain steps own all_rows) made (map (move_block span.lines.from) tunes)
    placed_chains tunes made e chains = subst (λ r. AllZip (IsChain steps own r) made (map (move_block span.lines.from) tunes)) (sym run_parts)
        (zips_moved steps own facts.parts.before run facts.parts.following span.lines.from made tunes facts.parts.count (subst (All (LiesWithin (length run))) (sym e) within) chains)

    -- The chains of the tunes of the new text, if those outside begin in its states.
    pub run_chains : (tunes : List Block) (made : List (ChainView State Cell Items)) → tunes ≡ tunes_among run → AllZip (IsChain steps own run) made tunes
        → AllZip (IsChainOf steps rules.cells new_opening on.lines.text) (take span.tunes.from (drop 1 on.chains.items)) (take span.tunes.from old_blocks)
        → AllZip (IsChainOf steps rules.cells new_opening on.lines.text) (drop span.tunes.to (drop 1 on.chains.items)) (drop span.tunes.to old_blocks)
        → AllZip (IsChainOf steps rules.cells new_opening new_text) (take span.tunes.from (drop 1 on.chains.items) ++ (made ++ drop span.tunes.to (drop 1 on.chains.items))) (tunes_in new_blocks)
    run_chains tunes made e chains front back =
        tunes_stay steps rules on.lines.text new_text span.lines.from (span.lines.to - span.lines.from) (length run) (drop 1 on.chains.items)
        made all_rows own new_opening span.tunes.from span.tunes.to
        (map (move_block span.lines.from) tunes) kept.laws (lines_before on.lines.text s span.lines.from facts.begins inside) lines_past
        (tunes_there
        ∙ (λ i. take span.tunes.from (kept.parts_are.tunes_are i)
        ++ (map (move_block span.lines.from) (sym e i) ++ map (shift_block (span.lines.to - span.lines.from) (length run)) (drop span.tunes.to (kept.parts_are.tunes_are i)))))
        facts.before (subst (λ n. All (StartsFrom n) (drop span.tunes.to old_blocks)) (sym line_sum) facts.following) front back alike all_renewed.read.cells (placed_chains tunes made e chains)

    -- What is folded again, with the file header and its chain.
    pub run_renewed : (header : Option Block) (first : Option (ChainView State Cell Items)) (tunes : List Block) (made : List (ChainView State Cell Items)) (reused_tunes : List (Option ℕ))
        → AreRefolded steps on.chains.items own run tunes made reused_tunes → header ≡ header_in new_blocks
        → AreChains steps rules new_text (chains_after first (span_stretch span (length run)) on.chains.items made)
        → HeaderStays first header on.header (span_stretch span (length run)) ⊎ HeaderIsReplaced first header on.header (span_stretch span (length run))
        → AreNewParts steps rules on s (new_parts_view (span_stretch span (length run)) header first tunes made reused_tunes)
    run_renewed header first tunes made reused_tunes refolded is chains keeps =
        let stretch = span_stretch span (length run) in
        let back = map (shift_block (span.lines.to - span.lines.from) (length run)) (drop span.tunes.to on.tunes) in
        let e = refolded.tunes_are in
        let all : tunes_in new_blocks ≡ take span.tunes.from on.tunes ++ (map (move_block span.lines.from) tunes ++ back) =
        tunes_there ∙ ap (λ (t : List Block). take span.tunes.from on.tunes ++ (map (move_block span.lines.from) t ++ back)) (sym e) in
        let here : All (LiesWithin (length run)) tunes = subst (All (LiesWithin (length run))) (sym e) within in
        let begun : AllZip (IsChain steps new_opening run) made tunes = zip_same (IsChain steps own run) (IsChain steps new_opening run) (LiesWithin (length run)) made tunes
        (λ chain block known own_chain. record { folds = folds_alike steps own new_opening chain kept.laws alike own_chain.folds; cells = own_chain.cells }) here refolded.chains_are in
        let goes = subst (λ r. KnowsAlong steps on.chains.items new_opening r (map (move_block span.lines.from) tunes) reused_tunes) (sym run_parts)
        (along_moved steps new_opening on.chains.items facts.parts.before run facts.parts.following span.lines.from tunes reused_tunes facts.parts.count here (refolded.along new_opening begun)) in
        let order = facts.order in
        let most : span.tunes.to ≤ length on.tunes = subst (λ (t : List Block). span.tunes.to ≤ length t) (sym kept.parts_are.tunes_are) facts.most in
        let front_count : length (take span.tunes.from on.tunes) ≡ span.tunes.from = length-take-le span.tunes.from on.tunes (omega (arith, order, most)) in
        let back_count : length back ≡ length on.tunes - span.tunes.to =
        length-map (drop span.tunes.to on.tunes) (shift_block (span.lines.to - span.lines.from) (length run)) ∙ length-drop span.tunes.to on.tunes in
        let whole = taken_all steps new_opening on.chains.items all_rows (take span.tunes.from on.tunes) (map (move_block span.lines.from) tunes) back
        span.tunes.from span.tunes.to (length on.tunes) reused_tunes front_count back_count goes in
        let same = kept.parts_are.tunes_are in
        let before = subst (λ (t : List Block). All (Ends span.lines.from) (take span.tunes.from t)) (sym same) facts.before in
        let following = subst (λ (t : List Block). All (StartsFrom span.lines.to) (drop span.tunes.to t)) (sym same) facts.following in
        record {
          order = facts.order;
          most = most;
          begins = facts.begins;
          ends = facts.ends;
          inside = facts.inside;
          came = came_is;
          header_is = is;
          tunes_are = all;
          chains_are = chains;
          count = sym (AllZip-long (IsChain steps own run) made tunes refolded.chains_are);
          before = All-weaker (Ends span.lines.from) (LiesBefore stretch) (λ b h. h.1) (take span.tunes.from on.tunes) before;
          beyond = All-weaker (StartsFrom span.lines.to) (LiesAfter stretch) (λ b h. h.0) (drop span.tunes.to on.tunes) following;
          among = here;
          amid = subst (λ (t : List Block). All (LiesInOld stretch) (take (span.tunes.to - span.tunes.from) (drop span.tunes.from t))) (sym same) facts.amid;
          keeps = keeps;
          lines_before = lines_before on.lines.text s span.lines.from facts.begins inside;
          lines_after = lines_past ∙ ap (λ n. drop n on.lines.text) line_sum;
          items = refolded.items;
          untouched = takes_untouched steps rules on.lines.text s on.chains.items all_rows
              (reused_tunes_after stretch (length on.tunes) reused_tunes) kept.laws kept.lawful inside kept.parts_are.chains_are all_renewed.read all_renewed.from
              (subst (λ (t : List Block). KnowsAlong steps on.chains.items new_opening all_rows t (reused_tunes_after stretch (length on.tunes) reused_tunes)) (sym all) whole);
        }
