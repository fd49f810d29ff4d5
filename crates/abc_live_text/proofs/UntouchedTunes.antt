-- An untouched tune goes along one old chain, from its first cell to its last, and begins in an equivalent state.
use Rattle.std.proofs.Common.{◌≡◌, ◌⊎◌, ◌↔◌, All, IsSome, ℕ, zero, suc, ◌+◌, ◌-◌, ◌<◌, ◌≤◌, ◌==◌, ◌&&◌, ◌||◌, not, cond, Bool}
use Rattle.std.proofs.Common.{true, false, List, [], ◌∷◌, ◌++◌, map, Option, Some, None, length, take, drop, slice_get, refl, sym}
use Rattle.std.proofs.Common.{◌∙◌, ap, subst, arith, ⊎_elim, inl, inr}
use Rattle.std.proofs.lemmas.Bool.{cases_Bool, eqb-true, and_parts}
use Rattle.std.proofs.lemmas.Bool.Decides.{nat_tests}
use Rattle.std.proofs.lemmas.List.{length-map}
use Rattle.std.proofs.lemmas.List.Elements.{All-cons, All-nil}
use Rattle.std.specs.List.{AllZip, flat_map, list_any}
use Rattle.std.specs.Option.{option_map}
use Rattle.abc_book.specs.Block.{letter_x}
use Rattle.abc_book.specs.Laws.{RiseFromTo}
use Rattle.abc_book.specs.declared.block.Block.{Block}
use Rattle.abc_book.specs.declared.block.BlockKind.{BlockKind}
use Rattle.abc_book.specs.declared.block.BlockKind.TheVariants as kinds
use Rattle.abc_book.proofs.Rising.{blocks_rise, tunes_begin}
use Rattle.abc_tune_compiler.specs.Lawful.{AreLawful}
use Rattle.abc_fold.specs.Chain.{ChainView}
use Rattle.abc_fold.specs.Steps.{IsResumable, Steps}
use Rattle.abc_lines.specs.Text.{Splice, Text, spliced}
use Rattle.abc_live_cost.specs.Spot.{spots_of}
use Rattle.abc_live_cost.specs.FreshCells.{is_fresh_after, is_untouched}
use Rattle.abc_live_cost.specs.KeptState.{KeptState, following, both_kept, entry_of, kept_state_at, steps_over}
use Rattle.abc_live_cost.specs.Layout.{FoldedBlock, chain_at, layout_of, tune_chains}
use Rattle.abc_live_cost.specs.Origin.{Origin, address_of, addresses, addresses_from, origins}
use Rattle.abc_live_cost.specs.Past.{Past, first_past, fresh_cells_of, pasts, rest}
use Rattle.abc_live_cost.specs.Pieces.{are_one_tune, are_places, is_place, pasts_of_chain}
use Rattle.abc_live_cost.proofs.Pieces.{pieces_decide}
use Rattle.abc_live_cost.proofs.SameCells.{cells_of_chain}
use Rattle.abc_live_cost.proofs.Words.{chains_lie_in_order}
use Rattle.abc_scan.specs.declared.line_class.LineClass.{LineClass}
use Rattle.abc_scan.specs.declared.line_class.LineClass.TheVariants.{Blank, Comment, Field}
use Rattle.abc_tune_compiler.specs.Book.{blocks_in, is_tune, opening_of, tunes_in}
use Rattle.abc_tune_compiler.specs.Rules.{Rules}
use Rattle.abc_live_text.specs.Pieces.{cells_in, cells_over, entries_at, kept_states_of, kept_states_over, origin_in, rows_in}
use Rattle.abc_live_text.specs.Chains.{AreChains}
use Rattle.abc_live_cost.specs.OldItems.{IsChainOf, TakesUntouched}
use Rattle.abc_live_text.specs.Row.{CarriedRow}
use Rattle.abc_live_text.specs.ReusedTunes.{GoesAlong, KnowsAlong, continues, first_source, is_along, is_origin}
use Rattle.abc_live_text.proofs.FreshSteps.{block_addresses, are_kept, block_steps}
use Rattle.abc_live_text.proofs.WholeRows.{AreRead}

-- The places of `n` consecutive cells of a chain.
abbrev places_up : ℕ → ℕ → ℕ → List (Option (ℕ × ℕ))
places_up source place zero = []
places_up source place (suc n) = Some (source, place) ∷ places_up source (place + 1) n

addresses_up : {State : Type 0} (source place count : ℕ) (pieces : List (Option (Past State))) → are_places source place count pieces ≡ true → map address_of pieces ≡ places_up source place count
addresses_up source place zero [] e = refl
addresses_up source place (suc n) [] e = absurd (cc)
addresses_up source place zero (past ∷ others) e = absurd (cc)
addresses_up source place (suc n) (None ∷ others) e = absurd (cc)
addresses_up source place (suc n) (Some past ∷ others) e =
    let both = and_parts (is_place source place (Some past)) (are_places source (place + 1) n others) e in
    let own = and_parts (past.source == source) (past.place == place) both.0 in
    let s : past.source ≡ source = eqb-true past.source source own.0 in
    let p : past.place ≡ place = eqb-true past.place place own.1 in
    λ i. Some (s i, p i) ∷ addresses_up source (place + 1) n others both.1 i

-- rows whose cells are consecutive cells of a chain

both_same : (a b c d : ℕ) → a ≡ b → c ≡ d → ((a == b) && (c == d)) ≡ true
both_same a b c d e f = grind (arith, nat_tests)

self_same : (a b : ℕ) → a ≡ b → (a == b) ≡ true
self_same a b e = grind (arith, nat_tests)

head_source : (a b c d n : ℕ) (last : List (Option (ℕ × ℕ))) → (Some (a, b) ∷ last) ≡ places_up c d n → (a ≡ c) × (b ≡ d)
head_source a b c d zero last e = absurd (cc)
head_source a b c d (suc n) last e =
    let one : (a, b) ≡ (c, d) = cc in
    (ap (λ (p : ℕ × ℕ). p.0) one, ap (λ (p : ℕ × ℕ). p.1) one)

peel : {Cell : Type 0} (s f source place n : ℕ) (cells : List Cell) (last : List (Option (ℕ × ℕ)))
    → addresses_from s f cells ++ last ≡ places_up source place n → (m : ℕ) × (n ≡ length cells + m) × (last ≡ places_up source (place + length cells) m)
peel s f source place n [] last e = let same : place ≡ place + 0 = omega arith in (n, omega arith, e ∙ ap (λ k. places_up source k n) same)
peel s f source place zero (cell ∷ cells) last e = absurd (cc)
peel s f source place (suc n) (cell ∷ cells) last e =
    let tail : addresses_from s (f + 1) cells ++ last ≡ places_up source (place + 1) n = cc in
    let more = peel s (f + 1) source (place + 1) n cells last tail in
    let count = more.1 in
    let same : place + 1 + length cells ≡ place + suc (length cells) = omega arith in
    (more.0, omega (arith, count), more.2 ∙ ap (λ k. places_up source k more.0) same)

peel_row : {Cell : Type 0} (source place n : ℕ) (origin : Option Origin) (cells : List Cell) (last : List (Option (ℕ × ℕ)))
    → addresses origin cells ++ last ≡ places_up source place n → (m : ℕ) × (n ≡ length cells + m) × (last ≡ places_up source (place + length cells) m)
peel_row source place n (Some o) cells last e = peel o.source o.first source place n cells last e
peel_row source place n None [] last e = let same : place ≡ place + 0 = omega arith in (n, omega arith, e ∙ ap (λ k. places_up source k n) same)
peel_row source place zero None (cell ∷ cells) last e = absurd (cc)
peel_row source place (suc n) None (cell ∷ cells) last e = absurd (cc)

row_continues : {Cell : Type 0} (source place n : ℕ) (origin : Option Origin) (cells : List Cell) (last : List (Option (ℕ × ℕ)))
    → addresses origin cells ++ last ≡ places_up source place n → (length cells ≡ 0) ⊎ (is_origin source place origin ≡ true)
row_continues source place n origin [] last e = inl refl
row_continues source place zero None (cell ∷ cells) last e = absurd (cc)
row_continues source place (suc n) None (cell ∷ cells) last e = absurd (cc)
row_continues source place n (Some o) (cell ∷ cells) last e =
    let same = head_source o.source o.first source place n (addresses_from o.source (o.first + 1) cells ++ last) e in
    inr (both_same o.source source o.first place same.0 same.1)

continues_if : {Cell : Type 0} (source place : ℕ) (row : CarriedRow Cell) → (length row.cells ≡ 0) ⊎ (is_origin source place row.origin ≡ true) → continues source place row ≡ true
continues_if source place row e = ⊎_elim
    (λ (z : (length row.cells == 0) ≡ true). let is = z in simp is)
    (λ (z : (length row.cells == 0) ≡ false). ⊎_elim
    (λ (none : length row.cells ≡ 0). absurd (let bad = self_same (length row.cells) 0 none in cc))
    (λ (own : is_origin source place row.origin ≡ true). simp (z, own))
    e)
    (cases_Bool (length row.cells == 0))

along : {Cell : Type 0} (source n place : ℕ) (rows : List (CarriedRow Cell))
    → flat_map (λ (r : CarriedRow Cell). addresses r.origin r.cells) rows ≡ places_up source place n → is_along source (place + n) place rows ≡ true
along source zero place [] e = self_same place (place + 0) (omega arith)
along source (suc n) place [] e = absurd (cc)
along {Cell = Cell} source n place (row ∷ rows) e =
    let last = flat_map (λ (r : CarriedRow Cell). addresses r.origin r.cells) rows in
    let here = continues_if source place row (row_continues source place n row.origin row.cells last e) in
    let more = peel_row source place n row.origin row.cells last e in
    let count = more.1 in
    let total : place + length row.cells + more.0 ≡ place + n = omega (arith, count) in
    ap (λ b. b && is_along source (place + n) (place + length row.cells) rows) here
    ∙ subst (λ t. is_along source t (place + length row.cells) rows ≡ true) total (along source more.0 (place + length row.cells) rows more.2)

first_from : {Cell : Type 0} (source place n : ℕ) (origin : Option Origin) (cells : List Cell) (last : List (Option (ℕ × ℕ)))
    → addresses origin cells ++ last ≡ places_up source place n → 1 ≤ length cells → (o : Origin) × (origin ≡ Some o) × (o.source ≡ source) × (o.first ≡ place)
first_from source place n origin [] last e some = absurd (omega arith)
first_from source place zero None (cell ∷ cells) last e some = absurd (cc)
first_from source place (suc n) None (cell ∷ cells) last e some = absurd (cc)
first_from source place n (Some o) (cell ∷ cells) last e some =
    let same = head_source o.source o.first source place n (addresses_from o.source (o.first + 1) cells ++ last) e in
    (o, refl, same.0, same.1)

-- which old tune

any_tune : {State : Type 0} (p : FoldedBlock State → Bool) (source : ℕ) (opening : State) (blocks : List Block) → list_any p (tune_chains source opening blocks) ≡ true
    → (k : ℕ) × (block : Block) × (slice_get blocks k ≡ Some block) × (p (chain_at (source + k) opening block) ≡ true)
any_tune p source opening [] e = absurd (cc)
any_tune p source opening (block ∷ blocks) e = ⊎_elim
    (λ (t : p (chain_at source opening block) ≡ true). let same : source ≡ source + 0 = omega arith in (0, block, refl, subst (λ n. p (chain_at n opening block) ≡ true) same t))
    (λ (f : p (chain_at source opening block) ≡ false).
    let more = any_tune p (source + 1) opening blocks (ap (λ b. b || list_any p (tune_chains (source + 1) opening blocks)) (sym f) ∙ e) in
    let same : source + 1 + more.0 ≡ source + suc more.0 = omega arith in
    (suc more.0, more.1, more.2, subst (λ n. p (chain_at n opening more.1) ≡ true) same more.3))
    (cases_Bool (p (chain_at source opening block)))

tune_there : {State Cell Items : Type 0} (steps : Steps State Cell Items) (read : List ℕ → List Cell) (opening : State)
    (text : Text) (tunes : List (ChainView State Cell Items)) (blocks : List Block) (k : ℕ) (block : Block)
    → AllZip (IsChainOf steps read opening text) tunes blocks → slice_get blocks k ≡ Some block
    → (was : ChainView State Cell Items) × (slice_get tunes k ≡ Some was) × IsChainOf steps read opening text was block
tune_there steps read opening text [] [] k block all e = absurd (cc)
tune_there steps read opening text [] (b ∷ blocks) k block all e = absurd all
tune_there steps read opening text (chain ∷ tunes) [] k block all e = absurd all
tune_there steps read opening text (chain ∷ tunes) (b ∷ blocks) zero block all e =
    let same : b ≡ block = cc in
    (chain, refl, subst (IsChainOf steps read opening text chain) same all.0)
tune_there steps read opening text (chain ∷ tunes) (b ∷ blocks) (suc k) block all e = tune_there steps read opening text tunes blocks k block all.1 e

entries_there : {State Cell Items : Type 0} (chains : List (ChainView State Cell Items)) (source : ℕ) (was : ChainView State Cell Items)
    → slice_get chains source ≡ Some was → entries_at chains source ≡ was.entries
entries_there [] source was e = absurd (cc)
entries_there {State = State} {Cell = Cell} {Items = Items} (chain ∷ chains) zero was e = let same : chain ≡ was = cc in ap (λ (c : ChainView State Cell Items). c.entries) same
entries_there (chain ∷ chains) (suc source) was e = entries_there chains source was e

cell_count : {State Cell Items : Type 0} (steps : Steps State Cell Items) (read : List ℕ → List Cell) (text : Text) (opening : State) (source : ℕ) (was : ChainView State Cell Items) (block : Block)
    → IsChainOf steps read opening text was block → length (spots_of steps read text (chain_at source opening block)) ≡ length was.cells
cell_count {Cell = Cell} steps read text opening source was block own =
    let chain = chain_at source opening block in
    let same = ap length (cells_of_chain steps read text chain) in
    sym (length-map (spots_of steps read text chain) _) ∙ (same ∙ (length-map _ (λ (cell : Cell). Some cell) ∙ ap length (sym own.cells)))

-- the states in which they begin

held_first : {State : Type 0} (a b : Option State) (held : KeptState State) → both_kept a b ≡ Some held → a ≡ Some held.entry
held_first None b held e = absurd (cc)
held_first (Some a) None held e = absurd (cc)
held_first {State = State} (Some a) (Some b) held e =
    let same : record { entry = a; after = b } ≡ held = cc in
    ap (λ (h : KeptState State). Some h.entry) same

no_step : {State Cell Items : Type 0} (steps : Steps State Cell Items) (state : State) (cell : Cell) (cells : List Cell)
    (kept_states : List (Option (KeptState State))) (one : Option (KeptState State)) → first_past kept_states ≡ one
    → steps_over steps state (cell ∷ cells) kept_states ≡ 0 → (held : KeptState State) × (one ≡ Some held) × (steps.alike held.entry state ≡ true)
no_step steps state cell cells kept_states None first none =
    let fresh : is_fresh_after steps.alike state (entry_of (first_past kept_states)) ≡ true = ap (λ o. is_fresh_after steps.alike state (entry_of o)) first in
    let bad : 1 + steps_over steps (steps.next state cell) cells (rest kept_states) ≡ 0 =
    sym (ap (λ b. cond b (1 + steps_over steps (steps.next state cell) cells (rest kept_states)) (steps_over steps (following state (first_past kept_states)) cells (rest kept_states))) fresh)
    ∙ none in
    absurd (omega (arith, bad))
no_step steps state cell cells kept_states (Some held) first none = ⊎_elim
    (λ (t : steps.alike held.entry state ≡ true). (held, refl, t))
    (λ (f : steps.alike held.entry state ≡ false).
    let fresh : is_fresh_after steps.alike state (entry_of (first_past kept_states)) ≡ true = ap (λ o. is_fresh_after steps.alike state (entry_of o)) first ∙ ap not f in
    let bad : 1 + steps_over steps (steps.next state cell) cells (rest kept_states) ≡ 0 =
    sym (ap (λ b. cond b (1 + steps_over steps (steps.next state cell) cells (rest kept_states)) (steps_over steps (following state (first_past kept_states)) cells (rest kept_states))) fresh)
    ∙ none in
    absurd (omega (arith, bad)))
    (cases_Bool (steps.alike held.entry state))

begins_held : {State Cell Items : Type 0} (steps : Steps State Cell Items) (own : State) (old : List (ChainView State Cell Items))
    (row : CarriedRow Cell) (others : List (CarriedRow Cell)) (o : Origin) (cell : Cell) (cells : List Cell)
    → row.origin ≡ Some o → row.cells ≡ cell ∷ cells
    → steps_over steps own (flat_map cells_in (row ∷ others)) (flat_map (kept_states_of old) (row ∷ others)) ≡ 0
    → (held : KeptState State) × (kept_state_at (entries_at old) (Some (o.source, o.first)) ≡ Some held) × (steps.alike held.entry own ≡ true)
begins_held {State = State} {Cell = Cell} steps own old row others o cell cells from are none =
    let hold : Option (ℕ × ℕ) → Option (KeptState State) = kept_state_at (entries_at old) in
    let more_cells : List Cell = flat_map cells_in others in
    let more_helds : List (Option (KeptState State)) = flat_map (kept_states_of old) others in
    let same : steps_over steps own (row.cells ++ more_cells)
    (map hold (addresses row.origin row.cells) ++ more_helds) ≡ steps_over steps own (cell ∷ (cells ++ more_cells))
    (hold (Some (o.source, o.first)) ∷ (map hold (addresses_from o.source (o.first + 1) cells) ++ more_helds)) =
    λ i. steps_over steps own (are i ++ more_cells) (map hold (addresses (from i) (are i)) ++ more_helds) in
    no_step steps own cell (cells ++ more_cells) (hold (Some (o.source, o.first))
    ∷ (map hold (addresses_from o.source (o.first + 1) cells) ++ more_helds)) (hold (Some (o.source, o.first))) refl (sym same ∙ none)

-- The old chain begins in a kept state.
begins_there : {State Cell Items : Type 0} (old : List (ChainView State Cell Items)) (was : ChainView State Cell Items) (o : Origin) (source : ℕ) (held : KeptState State)
    → slice_get old source ≡ Some was → o.source ≡ source → o.first ≡ 0 → kept_state_at (entries_at old) (Some (o.source, o.first)) ≡ Some held
    → slice_get was.entries 0 ≡ Some held.entry
begins_there old was o source held there from place at =
    let entry : slice_get (entries_at old o.source) o.first ≡ Some held.entry = held_first (slice_get (entries_at old o.source) o.first) (slice_get (entries_at old o.source) (o.first + 1)) held at in
    let same : entries_at old o.source ≡ was.entries = ap (entries_at old) from ∙ entries_there old source was there in
    (λ i. slice_get (sym same i) (sym place i)) ∙ entry

abbrev first_source_of : Option Origin → Option ℕ
first_source_of origin = option_map (λ (o : Origin). o.source) origin

-- An untouched tune goes along an old one.
pub goes_along : {State Cell Items Defaults : Type 0} (steps : Steps State Cell Items) (rules : Rules State Cell Items Defaults)
    (text : Text) (s : Splice) (header : ChainView State Cell Items) (tunes : List (ChainView State Cell Items))
    (rows : List (CarriedRow Cell)) (opening : State) (source : ℕ) (block : Block) (row : CarriedRow Cell) (others : List (CarriedRow Cell)) (cell : Cell) (cells : List Cell)
    → IsResumable steps → s.at + s.removed ≤ length text → AreChains steps rules text (header ∷ tunes) → map cells_in rows ≡ map rules.cells (spliced text s)
    → map origin_in rows ≡ origins rules.cells (layout_of steps rules text) s
    → rows_in rows block ≡ row ∷ others → row.cells ≡ cell ∷ cells
    → is_untouched steps rules.cells (layout_of steps rules text) s (spots_of steps rules.cells (spliced text s) (chain_at source opening block)) ≡ true
    → GoesAlong steps (header ∷ tunes) opening (rows_in rows block)
goes_along {State = State} {Cell = Cell} {Items = Items} steps rules text s header tunes rows opening source block row others cell cells laws inside chains read from rows_are cells_are untouched =
    let read_cells = rules.cells in
    let laid = layout_of steps rules text in
    let new = spliced text s in
    let all = pasts steps read_cells laid s in
    let tune = chain_at source opening block in
    let old : List (ChainView State Cell Items) = header ∷ tunes in
    let lies = chains_lie_in_order steps rules text in
    let pieces = pasts_of_chain read_cells new all tune in
    let by : (FoldedBlock State → Bool) = λ was. are_places was.source 0 (length (spots_of steps read_cells text was)) pieces in
    let both = and_parts (fresh_cells_of steps read_cells new all tune == 0) (are_one_tune steps read_cells laid pieces) (pieces_decide steps read_cells laid s new tune lies inside ∙ untouched) in
    let fresh : fresh_cells_of steps read_cells new all tune ≡ 0 = eqb-true (fresh_cells_of steps read_cells new all tune) 0 both.0 in
    let none : steps_over steps opening (cells_over rows block) (kept_states_over old rows block) ≡ 0 =
    block_steps steps read_cells laid s old rows source opening opening block laws lies inside (are_kept steps rules text old chains) read from (laws.reflexive opening) ∙ fresh in
    let any = any_tune by 1 laid.opening laid.tunes both.1 in
    let there = tune_there steps read_cells laid.opening text tunes laid.tunes any.0 any.1 chains.1 any.2 in
    let was = there.0 in
    let count = cell_count steps read_cells text laid.opening (1 + any.0) was any.1 there.2 in
    let places : flat_map (λ (r : CarriedRow Cell). addresses r.origin r.cells) (rows_in rows block)
    ≡ places_up (1 + any.0) 0 (length (spots_of steps read_cells text (chain_at (1 + any.0) laid.opening any.1))) =
    sym (block_addresses steps read_cells laid s rows source opening block lies inside read from)
    ∙ addresses_up (1 + any.0) 0 (length (spots_of steps read_cells text (chain_at (1 + any.0) laid.opening any.1))) pieces any.3 in
    let number : 1 + any.0 ≡ suc any.0 = omega arith in
    let up : flat_map (λ (r : CarriedRow Cell). addresses r.origin r.cells) (rows_in rows block) ≡ places_up (suc any.0) 0 (length was.cells) = places ∙ (λ i. places_up (number i) 0 (count i)) in
    let own_row : addresses row.origin row.cells ++ flat_map
    (λ (r : CarriedRow Cell). addresses r.origin r.cells) others ≡ places_up (suc any.0) 0 (length was.cells) =
    sym (ap (flat_map (λ (r : CarriedRow Cell). addresses r.origin r.cells)) rows_are) ∙ up in
    let some : 1 ≤ length row.cells = rw cells_are (omega arith) in
    let first = first_from (suc any.0) 0 (length was.cells) row.origin row.cells (flat_map (λ (r : CarriedRow Cell). addresses r.origin r.cells) others) own_row some in
    let held = begins_held steps opening old row others first.0 cell cells first.1 cells_are
    (sym (λ i. steps_over steps opening (flat_map cells_in (rows_are i)) (flat_map (kept_states_of old) (rows_are i))) ∙ none) in
    let zero_length : 0 + length was.cells ≡ length was.cells = omega arith in
    record {
      number = any.0;
      was = was;
      there = there.1;
      source = ap first_source rows_are ∙ ((λ i. first_source_of (first.1 i)) ∙ ap (λ n. Some n) first.2);
      along = subst (λ n. is_along (suc any.0) n 0 (rows_in rows block) ≡ true) zero_length (along (suc any.0) (length was.cells) 0 (rows_in rows block) up);
      begun = held.0.entry;
      entry = begins_there old was first.0 (suc any.0) held.0 there.1 first.2 first.3 held.1;
      alike = held.2;
    }

-- the first cell of a tune

record FirstCell {Cell : Type 0} (rows : List (CarriedRow Cell)) (block : Block) : Type 0 where
  pub row : CarriedRow Cell
  pub others : List (CarriedRow Cell)
  pub cell : Cell
  pub cells : List Cell
  pub rows_are : rows_in rows block ≡ row ∷ others
  pub cells_are : row.cells ≡ cell ∷ cells

record FoundRow {State Cell Items Defaults : Type 0} (rules : Rules State Cell Items Defaults) (class : LineClass) (rows : List (CarriedRow Cell)) (n : ℕ) : Type 0 where
  pub row : CarriedRow Cell
  pub line : List ℕ
  pub others : List (CarriedRow Cell)
  pub there : drop n rows ≡ row ∷ others
  pub classed : rules.class line ≡ class
  pub read : row.cells ≡ rules.cells line

find_row : {State Cell Items Defaults : Type 0} (rules : Rules State Cell Items Defaults) (class : LineClass)
    (rows : List (CarriedRow Cell)) (text : Text) (n : ℕ) → map cells_in rows ≡ map rules.cells text
    → slice_get (map rules.class text) n ≡ Some class → FoundRow {State = State} {Items = Items} {Defaults = Defaults} rules class rows n
find_row rules class rows [] n cells e = absurd (cc)
find_row rules class [] (line ∷ text) n cells e = absurd (cc)
find_row rules class (row ∷ rows) (line ∷ text) zero cells e = record { row = row; line = line; others = rows; there = refl; classed = cc; read = cc }
find_row rules class (row ∷ rows) (line ∷ text) (suc n) cells e =
    let others : map cells_in rows ≡ map rules.cells text = cc in
    let found = find_row rules class rows text n others e in
    record { row = found.row; line = found.line; others = found.others; there = found.there; classed = found.classed; read = found.read }

some_cell : {Cell : Type 0} (cells : List Cell) → (cells ≡ [] → ⊥) → (cell : Cell) × (more : List Cell) × (cells ≡ cell ∷ more)
some_cell [] some = absurd (some refl)
some_cell (cell ∷ cells) some = (cell, cells, refl)

first_cell : {State Cell Items Defaults : Type 0} (steps : Steps State Cell Items) (rules : Rules State Cell Items Defaults)
    (rows : List (CarriedRow Cell)) (text : Text) (block : Block) → AreLawful steps rules → map cells_in rows ≡ map rules.cells text
    → slice_get (map rules.class text) block.from ≡ Some (Field letter_x) → block.from < block.to → FirstCell rows block
first_cell steps rules rows text block lawful cells e some =
    let found = find_row rules (Field letter_x) rows text block.from cells e in
    let none : rules.cells found.line ≡ [] → ⊥ = λ empty. ⊎_elim
    (λ (blank : rules.class found.line ≡ Blank). let bad : Blank ≡ Field letter_x = sym blank ∙ found.classed in absurd (cc))
    (λ (comment : rules.class found.line ≡ Comment). let bad : Comment ≡ Field letter_x = sym comment ∙ found.classed in absurd (cc))
    ((lawful.without_cells found.line).0 empty) in
    let cell = some_cell (rules.cells found.line) none in
    let count : block.to - block.from ≡ suc (block.to - (block.from + 1)) = omega (arith, some) in
    record {
      row = found.row;
      others = take (block.to - (block.from + 1)) found.others;
      cell = cell.0;
      cells = cell.1;
      rows_are = λ i. take (count i) (found.there i);
      cells_are = found.read ∙ cell.2;
    }

tune_kind : (kind : BlockKind) → is_tune kind ≡ true → kind ≡ kinds.Tune
tune_kind kinds.FileHeader e = absurd (cc)
tune_kind kinds.Tune e = refl
tune_kind kinds.Free e = absurd (cc)

first_cells : {State Cell Items Defaults : Type 0} (steps : Steps State Cell Items) (rules : Rules State Cell Items Defaults)
    (rows : List (CarriedRow Cell)) (text : Text) (blocks : List Block) (first last : ℕ) → AreLawful steps rules → map cells_in rows ≡ map rules.cells text
    → All (λ (block : Block). (block.kind ≡ kinds.Tune) ↔ (slice_get (map rules.class text) block.from
    ≡ Some (Field letter_x))) blocks → RiseFromTo first blocks last → All (FirstCell rows) (tunes_in blocks)
first_cells steps rules rows text [] first last lawful cells begin rise = All-nil (FirstCell rows)
first_cells steps rules rows text (block ∷ blocks) first last lawful cells begin rise =
    let more = first_cells steps rules rows text blocks block.to last lawful cells (λ i d l. begin (suc i) d (omega arith)) rise.2 in
    ⊎_elim
    (λ (e : is_tune block.kind ≡ true).
    let own = first_cell steps rules rows text block lawful cells ((begin 0 block (omega arith)).0 (tune_kind block.kind e)) rise.1 in
    simp e (All-cons (FirstCell rows) block (tunes_in blocks) own more))
    (λ (e : is_tune block.kind ≡ false). simp e more)
    (cases_Bool (is_tune block.kind))

-- all tunes at once

all_untouched : {State Cell Items Defaults : Type 0} (steps : Steps State Cell Items) (rules : Rules State Cell Items Defaults)
    (text : Text) (s : Splice) (header : ChainView State Cell Items) (tunes : List (ChainView State Cell Items))
    (rows : List (CarriedRow Cell)) (opening : State) (source : ℕ) (blocks : List Block) (reused_tunes : List (Option ℕ))
    → IsResumable steps → s.at + s.removed ≤ length text → AreChains steps rules text (header ∷ tunes) → map cells_in rows ≡ map rules.cells (spliced text s)
    → map origin_in rows ≡ origins rules.cells (layout_of steps rules text) s → All (FirstCell rows) blocks
    → KnowsAlong steps (header ∷ tunes) opening rows blocks reused_tunes
    → AllZip (λ tune one. is_untouched steps rules.cells (layout_of steps rules text) s
    (spots_of steps rules.cells (spliced text s) tune) ≡ true → IsSome one) (tune_chains source opening blocks) reused_tunes
all_untouched steps rules text s header tunes rows opening source [] [] laws inside chains read from first along = tt
all_untouched steps rules text s header tunes rows opening source [] (one ∷ reused_tunes) laws inside chains read from first along = absurd along
all_untouched steps rules text s header tunes rows opening source (block ∷ blocks) [] laws inside chains read from first along = absurd along
all_untouched steps rules text s header tunes rows opening source (block ∷ blocks) (one ∷ reused_tunes) laws inside chains read from first along =
    let own = first 0 block (omega arith) in (
      λ untouched. along.0
          (goes_along steps rules text s header tunes rows opening source block own.row own.others own.cell own.cells laws inside chains read from own.rows_are own.cells_are untouched),
      all_untouched steps rules text s header tunes rows opening (source + 1) blocks reused_tunes laws inside chains read from (λ i d l. first (suc i) d (omega arith)) along.1,
    )

-- If each tune that goes along an old one is reused, each untouched tune is.
pub takes_untouched : {State Cell Items Defaults : Type 0} (steps : Steps State Cell Items)
    (rules : Rules State Cell Items Defaults) (text : Text) (s : Splice) (old : List (ChainView State Cell Items)) (rows : List (CarriedRow Cell)) (reused_tunes : List (Option ℕ))
    → IsResumable steps → AreLawful steps rules → s.at + s.removed ≤ length text → AreChains steps rules text old → AreRead rules (spliced text s) rows
    → map origin_in rows ≡ origins rules.cells (layout_of steps rules text) s
    → KnowsAlong steps old (opening_of steps.next rules (spliced text s) (blocks_in rules (spliced text s))) rows (tunes_in (blocks_in rules (spliced text s))) reused_tunes
    → TakesUntouched steps rules text s reused_tunes
takes_untouched steps rules text s [] rows reused_tunes laws lawful inside chains read from along = absurd chains
takes_untouched steps rules text s (header ∷ tunes) rows reused_tunes laws lawful inside chains read from along =
    let new = spliced text s in
    let classes = map rules.class new in
    let first = first_cells steps rules rows new (blocks_in rules new) 0 (length classes) lawful read.cells (tunes_begin classes) (blocks_rise classes) in
    all_untouched steps rules text s header tunes rows (opening_of steps.next rules new (blocks_in rules new)) 1
    (tunes_in (blocks_in rules new)) reused_tunes laws inside chains read.cells from first along
