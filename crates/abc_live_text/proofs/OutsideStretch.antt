-- What an edit leaves as it is: the lines outside its stretch, their chains and the state in which tunes begin.
use Rattle.std.proofs.Common.{◌≡◌, ℕ, zero, suc, ◌+◌, ◌-◌, ◌≤◌, List, [], ◌∷◌, ◌++◌, map, Option, Some, None, All, length, take}
use Rattle.std.proofs.Common.{drop, refl, sym, ◌∙◌, ap, subst, arith, drop-drop}
use Rattle.std.proofs.lemmas.List.{length-take-le, take-append-le, take-take}
use Rattle.std.specs.List.{AllZip, flat_map, sum_by}
use Rattle.std.proofs.lemmas.List.Sums.{sum_by-append}
use Rattle.abc_book.specs.Stretch.{shift_block}
use Rattle.abc_book.specs.declared.block.Block.{Block}
use Rattle.abc_fold.specs.Chain.{ChainView}
use Rattle.abc_fold.specs.Steps.{Steps, IsAlike, IsResumable}
use Rattle.abc_fold.specs.Work.{Counters, IsRaisedUpTo}
use Rattle.abc_lines.specs.Text.{Splice, Text, spliced}
use Rattle.abc_live_cost.specs.FreshCells.{fresh_cells_after}
use Rattle.abc_tune_compiler.specs.Book.{state_after_header, blocks_in, header_in, opening_of, tunes_in}
use Rattle.abc_tune_compiler.specs.Placed.{cells_from, state_along}
use Rattle.abc_tune_compiler.specs.Rules.{Rules}
use Rattle.abc_live_text.specs.Pieces.{IsChain, cells_in, steps_taken}
use Rattle.abc_live_text.specs.Chains.{AreChains, IsHeaderChainOf, header_steps}
use Rattle.abc_live_cost.specs.OldItems.{IsChainOf}
use Rattle.abc_live_text.specs.Row.{CarriedRow}
use Rattle.abc_live_text.specs.KeptText.{kept_numbers}
use Rattle.abc_live_text.specs.NewParts.{chains_after}
use Rattle.abc_live_text.specs.declared.stretch.Stretch.{Stretch}
use Rattle.abc_live_text.proofs.Costs.{raised_both, raised_up}
use Rattle.abc_live_text.proofs.Edits.{spliced_is}
use Rattle.abc_live_text.proofs.FreshSteps.{edit_steps}
use Rattle.abc_live_text.proofs.Openings.{tunes_made}
use Rattle.abc_live_text.proofs.Parts.{drop_past, part_before, part_following, zip_both, zip_given}
use Rattle.abc_live_text.proofs.Parts.{zip_same}
use Rattle.abc_live_text.proofs.EditedRows.{AreRenewed}
use Rattle.abc_live_text.proofs.Spans.{Ends}

-- The lines before a stretch, and those after it.
pub lines_before : (text : Text) (s : Splice) (from : ℕ) → from ≤ s.at → s.at + s.removed ≤ length text → take from (spliced text s) ≡ take from text
lines_before text s from h k =
    let long : length (take s.at text) ≡ s.at = length-take-le s.at text (omega (arith, k)) in
    ap (take from) (spliced_is text s) ∙ (take-append-le from (take s.at text) (s.lines ++ drop (s.at + s.removed) text) (omega (arith, long, h)) ∙ take-take from s.at text h)

pub lines_after : (text : Text) (s : Splice) (from gone came : ℕ) → from ≤ s.at → s.at + s.removed ≤ from + gone → from + gone ≤ length text → came ≡ gone - s.removed + length s.lines
    → drop (from + came) (spliced text s) ≡ drop (from + gone) text
lines_after text s from gone came h k inside e =
    let long : length (take s.at text) ≡ s.at = length-take-le s.at text (omega (arith, k, inside)) in
    let rest : ℕ = from + gone - (s.at + s.removed) in
    let a : from + came - length (take s.at text) - length s.lines ≡ rest = omega (arith, long, e, h, k) in
    let b : s.at + s.removed + rest ≡ from + gone = omega (arith, k) in
    ap (drop (from + came)) (spliced_is text s)
    ∙ (drop_past (from + came) (take s.at text) (s.lines ++ drop (s.at + s.removed) text) (omega (arith, long, e, h, k))
    ∙ (drop_past (from + came - length (take s.at text)) s.lines (drop (s.at + s.removed) text) (omega (arith, long, e, h, k))
    ∙ (ap (λ n. drop n (drop (s.at + s.removed) text)) a ∙ (drop-drop rest (s.at + s.removed) text ∙ ap (λ n. drop n text) b))))

abbrev pub StartsFrom : ℕ → Block → Type 0
StartsFrom line block = (line ≤ block.from) × (block.from ≤ block.to)

-- A chain of lines that stay is that of the new text.
chain_before : {State Cell Items : Type 0} (steps : Steps State Cell Items) (read : List ℕ → List Cell) (opening : State)
    (text new : Text) (from : ℕ) (chain : ChainView State Cell Items) (block : Block) → take from new ≡ take from text → Ends from block
    → IsChainOf steps read opening text chain block → IsChainOf steps read opening new chain block
chain_before steps read opening text new from chain block e ends own = record {
  folds = own.folds;
  cells = own.cells ∙ ap (flat_map read) (sym (part_before new text block.from block.to from e ends.0 ends.1));
}

pub chain_after : {State Cell Items : Type 0} (steps : Steps State Cell Items) (read : List ℕ → List Cell) (opening : State)
    (text new : Text) (from gone came : ℕ) (chain : ChainView State Cell Items) (block : Block) → drop (from + came) new ≡ drop (from + gone) text → StartsFrom (from + gone) block
    → IsChainOf steps read opening text chain block → IsChainOf steps read opening new chain (shift_block gone came block)
chain_after steps read opening text new from gone came chain block e starts own = record {
  folds = own.folds;
  cells = own.cells ∙ ap (flat_map read) (sym (part_following text new block.from block.to from gone came e starts.0 starts.1));
}

-- A file header that is before the stretch.
abbrev pub HeaderEnds : ℕ → Option Block → Type 0
HeaderEnds from header = (block : Block) → header ≡ Some block → Ends from block

header_before : {State Cell Items Defaults : Type 0} (steps : Steps State Cell Items) (rules : Rules State Cell Items Defaults)
    (text new : Text) (from : ℕ) (chain : ChainView State Cell Items) (header : Option Block) → take from new ≡ take from text → HeaderEnds from header
    → IsHeaderChainOf steps rules text chain header → IsHeaderChainOf steps rules new chain header
header_before steps rules text new from chain None e ends own = own
header_before steps rules text new from chain (Some block) e ends own = chain_before steps rules.cells rules.header text new from chain block e (ends block refl) own

state_before : {State Cell Items Defaults : Type 0} (next : State → Cell → State) (rules : Rules State Cell Items Defaults)
    (text new : Text) (from : ℕ) (header : Option Block) → take from new ≡ take from text → HeaderEnds from header
    → state_after_header next rules new header ≡ state_after_header next rules text header
state_before next rules text new from None e ends = refl
state_before next rules text new from (Some block) e ends =
    let own = ends block refl in
    ap (λ (lines : Text). Some (state_along next rules.header (cells_from rules.cells (block.from + 1) lines))) (part_before new text block.from block.to from e own.0 own.1)

module _ {State Cell Items Defaults : Type 0} (steps : Steps State Cell Items) (rules : Rules State Cell Items Defaults) (text new : Text) (from gone came : ℕ) where
  -- The tunes begin as before.
  pub opening_stays : header_in (blocks_in rules new) ≡ header_in (blocks_in rules text) → HeaderEnds from (header_in (blocks_in rules text)) → take from new ≡ take from text
      → opening_of steps.next rules new (blocks_in rules new) ≡ opening_of steps.next rules text (blocks_in rules text)
  opening_stays header ends e =
      ap (λ (h : Option Block). rules.tune (state_after_header steps.next rules new h)) header
      ∙ ap rules.tune (state_before steps.next rules text new from (header_in (blocks_in rules text)) e ends)

  -- The chains of tunes outside the stretch, and the new ones of the stretch, are those of the new text.
  pub tunes_stay : (tunes made : List (ChainView State Cell Items)) (rows : List (CarriedRow Cell)) (own now : State) (front following : ℕ) (places : List Block)
      → IsResumable steps → take from new ≡ take from text → drop (from + came) new ≡ drop (from + gone) text
      → tunes_in (blocks_in rules new) ≡ take front (tunes_in (blocks_in rules text)) ++ (places ++ map (shift_block gone came) (drop following (tunes_in (blocks_in rules text))))
      → All (Ends from) (take front (tunes_in (blocks_in rules text))) → All (StartsFrom (from + gone)) (drop following (tunes_in (blocks_in rules text)))
      → AllZip (IsChainOf steps rules.cells now text) (take front tunes) (take front (tunes_in (blocks_in rules text)))
      → AllZip (IsChainOf steps rules.cells now text) (drop following tunes) (drop following (tunes_in (blocks_in rules text)))
      → IsAlike steps own now → map cells_in rows ≡ map rules.cells new → AllZip (IsChain steps own rows) made places
      → AllZip (IsChainOf steps rules.cells now new) (take front tunes ++ (made ++ drop following tunes)) (tunes_in (blocks_in rules new))
  tunes_stay tunes made rows own now front following places laws e f all before starts old_front old_after alike read chains =
      let blocks = tunes_in (blocks_in rules text) in
      let a = zip_same (IsChainOf steps rules.cells now text) (IsChainOf steps rules.cells now new) (Ends from) (take front tunes) (take front blocks)
      (λ chain block known own. chain_before steps rules.cells now text new from chain block e known own) before old_front in
      let b = tunes_made steps rules.cells own now new rows made places laws alike read chains in
      let c = zip_given (IsChainOf steps rules.cells now text) (IsChainOf steps rules.cells now new) (StartsFrom (from + gone))
      (shift_block gone came) (drop following tunes) (drop following blocks)
      (λ chain block known own. chain_after steps rules.cells now text new from gone came chain block f known own) starts old_after in
      subst (AllZip (IsChainOf steps rules.cells now new) (take front tunes ++ (made ++ drop following tunes))) (sym all)
      (zip_both (IsChainOf steps rules.cells now new) (take front tunes) (made ++ drop following tunes) (take front blocks) (places ++ map (shift_block gone came) (drop following blocks)) a
      (zip_both (IsChainOf steps rules.cells now new) made (drop following tunes) places (map (shift_block gone came) (drop following blocks)) b c))

-- So is the chain of a file header that is before the stretch.
pub header_stays : {State Cell Items Defaults : Type 0} (steps : Steps State Cell Items) (rules : Rules State Cell Items Defaults)
    (text new : Text) (stretch : Stretch) (old made : List (ChainView State Cell Items)) → AreChains steps rules text old
    → header_in (blocks_in rules new) ≡ header_in (blocks_in rules text) → HeaderEnds stretch.lines.from (header_in (blocks_in rules text)) → take stretch.lines.from new ≡ take stretch.lines.from text
    → AllZip (IsChainOf steps rules.cells (opening_of steps.next rules new (blocks_in rules new)) new)
    (take stretch.tunes.from (drop 1 old) ++ (made ++ drop stretch.tunes.to (drop 1 old))) (tunes_in (blocks_in rules new))
    → AreChains steps rules new (chains_after None stretch old made)
header_stays steps rules text new stretch [] made chains header ends e all = absurd chains
header_stays steps rules text new stretch (first ∷ tunes) made chains header ends e all = (
  subst (λ (h : Option Block). IsHeaderChainOf steps rules new first h) (sym header) (header_before steps rules text new stretch.lines.from first (header_in (blocks_in rules text)) e ends chains.0),
  all,
)

-- The cost if the file header and the tunes of a stretch have been folded.
pub stretch_cost : {State Cell Items Defaults : Type 0} (steps : Steps State Cell Items) (rules : Rules State Cell Items Defaults)
    (text : Text) (s : Splice) (old : List (ChainView State Cell Items)) (rows : List (CarriedRow Cell)) (own : State) (front places back : List Block) (before now after : Counters)
    → IsResumable steps → s.at + s.removed ≤ length text → AreChains steps rules text old → AreRenewed steps rules text s old rows
    → IsAlike steps own (opening_of steps.next rules (spliced text s) (blocks_in rules (spliced text s)))
    → tunes_in (blocks_in rules (spliced text s)) ≡ front ++ (places ++ back)
    → IsRaisedUpTo (header_steps steps rules.header old rows (header_in (blocks_in rules (spliced text s)))) before now
    → IsRaisedUpTo (sum_by (steps_taken steps own old rows) places) now after → IsRaisedUpTo (fresh_cells_after steps rules text s) before after
stretch_cost steps rules text s old rows own front places back before now after laws inside chains new alike all head raise =
    let g = steps_taken steps own old rows in
    let sum = edit_steps steps rules text s old rows own laws inside chains new.read new.from alike in
    let first = ap (sum_by g) all in
    let second = sum_by-append g front (places ++ back) in
    let third = sum_by-append g places back in
    raised_up _ _ before after (omega (arith, sum, first, second, third)) (raised_both _ _ before now after head raise)

-- Tunes that stay have the items of old ones.
pub kept_some : {A : Type 0} (P : A → Option ℕ → Type 0) (first : ℕ) (xs : List A) (count : ℕ) → ((x : A) (k : ℕ) → P x (Some k)) → length xs ≡ count → AllZip P xs (kept_numbers first count)
kept_some P first [] zero each e = tt
kept_some P first [] (suc n) each e = absurd (omega arith)
kept_some P first (x ∷ xs) zero each e = absurd (omega arith)
kept_some P first (x ∷ xs) (suc n) each e = (each x first, kept_some P (first + 1) xs n each (omega arith))
