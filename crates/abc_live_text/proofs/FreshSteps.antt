-- The steps over the blocks of a new text are its fresh cells.
use Rattle.std.proofs.Common.{◌≡◌, ℕ, zero, suc, ◌+◌, ◌-◌, ◌<◌, ◌≤◌, List, [], ◌∷◌, ◌++◌, map, Option, Some, None, length, take}
use Rattle.std.proofs.Common.{drop, get_or, Contains, refl, sym, ◌∙◌, ap, subst, arith}
use Rattle.std.proofs.lemmas.List.{drop-map, map-append, length-map}
use Rattle.std.proofs.lemmas.List.Sums.{sum_by-cons}
use Rattle.std.specs.List.{flat_map, AllZip, sum_by}
use Rattle.abc_book.specs.declared.block.Block.{Block}
use Rattle.abc_fold.specs.Chain.{ChainView}
use Rattle.abc_fold.specs.Steps.{Steps, IsAlike, IsResumable, states_from}
use Rattle.abc_lines.specs.Text.{Splice, Text, spliced}
use Rattle.abc_live_cost.specs.FreshCells.{fresh_cells_after}
use Rattle.abc_live_cost.specs.KeptState.{AreKeptStates, KeptState, kept_state_at, steps_over, states_of}
use Rattle.abc_live_cost.specs.KeptState.{cells_of as chain_cells}
use Rattle.abc_live_cost.specs.Layout.{FoldedBlock, Layout, LiesInOrder, chain_at, header_chain, layout_of, tune_chains}
use Rattle.abc_live_cost.specs.Origin.{Origin, addresses, address_of, addresses_beside, addresses_from, origins}
use Rattle.abc_live_cost.specs.Past.{Past, fresh_cells_of, pasts}
use Rattle.abc_live_cost.specs.Pieces.{pasts_of_chain, pasts_beside, pasts_over}
use Rattle.abc_live_cost.proofs.FreshCounts.{edits_count}
use Rattle.abc_live_cost.proofs.KeptStates.{kept_states_match}
use Rattle.abc_live_cost.proofs.Origins.{origins_agree}
use Rattle.abc_live_cost.proofs.Steps.{steps_are_fresh}
use Rattle.abc_live_cost.proofs.Words.{chains_lie_in_order}
use Rattle.abc_tune_compiler.specs.Book.{blocks_in, header_in, opening_of, tunes_in}
use Rattle.abc_tune_compiler.specs.Rules.{Rules}
use Rattle.abc_tune_compiler.specs.Tune.{lines_in}
use Rattle.abc_live_text.specs.Pieces.{cells_in, cells_over, rows_in, entries_at, kept_states_over, origin_in, steps_taken}
use Rattle.abc_live_text.specs.Chains.{AreChains, IsHeaderChainOf, header_steps}
use Rattle.abc_live_cost.specs.OldItems.{IsChainOf}
use Rattle.abc_live_text.specs.Row.{CarriedRow}
use Rattle.abc_live_text.proofs.WholeRows.{AreRead}

pub map-over : {A B C : Type 0} (g : B → C) (h : A → B) (xs : List A) → map g (map h xs) ≡ map (λ x. g (h x)) xs
map-over g h [] = refl
map-over g h (x ∷ xs) = ap (λ l. g (h x) ∷ l) (map-over g h xs)

-- The origin of a line of the new text has the addresses of its pasts.
pub beside_whole : {State Cell : Type 0} (cells : List Cell) (row : List (Option (Past State))) → length row ≡ length cells → pasts_beside cells row ≡ row
beside_whole [] [] e = refl
beside_whole [] (p ∷ row) e = absurd (omega arith)
beside_whole (c ∷ cells) [] e = absurd (omega arith)
beside_whole (c ∷ cells) (p ∷ row) e = ap (λ l. p ∷ l) (beside_whole cells row (omega arith))

length-addresses_from : {Cell : Type 0} (source place : ℕ) (cells : List Cell) → length (addresses_from source place cells) ≡ length cells
length-addresses_from source place [] = refl
length-addresses_from source place (c ∷ cells) = ap suc (length-addresses_from source (place + 1) cells)

length-none : {Cell : Type 0} (cells : List Cell) → length (addresses None cells) ≡ length cells
length-none [] = refl
length-none (c ∷ cells) = ap suc (length-none cells)

pub length-addresses : {Cell : Type 0} (o : Option Origin) (cells : List Cell) → length (addresses o cells) ≡ length cells
length-addresses None cells = length-none cells
length-addresses (Some o) cells = length-addresses_from o.source o.first cells

cells_walk : {Cell : Type 0} (read : List ℕ → List Cell) (n : ℕ) (rows : List (CarriedRow Cell)) (text : Text)
    → map cells_in rows ≡ map read text → flat_map cells_in (take n rows) ≡ flat_map read (take n text)
cells_walk read zero rows text e = refl
cells_walk read (suc n) [] [] e = refl
cells_walk read (suc n) [] (bytes ∷ text) e = absurd (cc)
cells_walk read (suc n) (row ∷ rows) [] e = absurd (cc)
cells_walk read (suc n) (row ∷ rows) (bytes ∷ text) e =
    let here : row.cells ≡ read bytes = cc in
    let others : map cells_in rows ≡ map read text = cc in
    λ i. here i ++ cells_walk read n rows text others i

pub read_drop : {Cell : Type 0} (read : List ℕ → List Cell) (n : ℕ) (rows : List (CarriedRow Cell)) (text : Text)
    → map cells_in rows ≡ map read text → map cells_in (drop n rows) ≡ map read (drop n text)
read_drop read n rows text e = sym (drop-map cells_in n rows) ∙ (ap (drop n) e ∙ drop-map read n text)

-- The cells of the rows of a block are those of its lines.
pub block_cells : {Cell : Type 0} (read : List ℕ → List Cell) (rows : List (CarriedRow Cell)) (text : Text) (block : Block)
    → map cells_in rows ≡ map read text → cells_over rows block ≡ flat_map read (lines_in text block)
block_cells read rows text block e =
    cells_walk read (block.to - block.from) (drop block.from rows) (drop block.from text) (read_drop read block.from rows text e)

beside_rows : {Cell : Type 0} (read : List ℕ → List Cell) (rows : List (CarriedRow Cell)) (text : Text)
    → map cells_in rows ≡ map read text → addresses_beside read (map origin_in rows) text ≡ map (λ (r : CarriedRow Cell). addresses r.origin r.cells) rows
beside_rows read [] text e = refl
beside_rows read (row ∷ rows) [] e = absurd (cc)
beside_rows read (row ∷ rows) (bytes ∷ text) e =
    let here : read bytes ≡ row.cells = cc in
    let others : map cells_in rows ≡ map read text = cc in
    λ i. addresses row.origin (here i) ∷ beside_rows read rows text others i

-- The rows of an edited text have the addresses of its pasts.
pub addresses_are : {State Cell Items : Type 0} (steps : Steps State Cell Items) (read : List ℕ → List Cell) (laid : Layout State) (s : Splice) (rows : List (CarriedRow Cell))
    → LiesInOrder laid → s.at + s.removed ≤ length laid.text → map cells_in rows ≡ map read (spliced laid.text s) → map origin_in rows ≡ origins read laid s
    → map (λ row. map (address_of {State = State}) row) (pasts steps read laid s) ≡ map (λ (r : CarriedRow Cell). addresses r.origin r.cells) rows
addresses_are steps read laid s rows lies inside cells from =
    origins_agree steps read laid s lies inside ∙ (ap (λ o. addresses_beside read o (spliced laid.text s)) (sym from) ∙ beside_rows read rows (spliced laid.text s) cells)

-- The addresses of the pasts of a block are those of its rows.
walk : {State Cell : Type 0} (read : List ℕ → List Cell) (n : ℕ) (rows : List (CarriedRow Cell)) (text : Text) (all : List (List (Option (Past State))))
    → map cells_in rows ≡ map read text
    → map (λ row. map (address_of {State = State}) row) all ≡ map (λ (r : CarriedRow Cell). addresses r.origin r.cells) rows
    → map (address_of {State = State}) (pasts_over read (take n text) all) ≡ flat_map (λ (r : CarriedRow Cell). addresses r.origin r.cells) (take n rows)
walk read zero rows text all c e = refl
walk read (suc n) [] [] all c e = refl
walk read (suc n) [] (bytes ∷ text) all c e = absurd (cc)
walk read (suc n) (row ∷ rows) [] all c e = absurd (cc)
walk read (suc n) (row ∷ rows) (bytes ∷ text) [] c e = absurd (cc)
walk {State = State} {Cell = Cell} read (suc n) (row ∷ rows) (bytes ∷ text) (past ∷ all) c e =
    let own_cells : row.cells ≡ read bytes = cc in
    let other_cells : map cells_in rows ≡ map read text = cc in
    let here : map (address_of {State = State}) past ≡ addresses row.origin row.cells = cc in
    let others : map (λ row. map (address_of {State = State}) row) all ≡ map (λ (r : CarriedRow Cell). addresses r.origin r.cells) rows = cc in
    let count : length past ≡ length (read bytes) =
    sym (length-map past (address_of {State = State})) ∙ (ap length here ∙ (length-addresses row.origin row.cells ∙ ap length own_cells)) in
    let tail = pasts_over read (take n text) all in
    map-append (address_of {State = State}) (pasts_beside (read bytes) past) tail
    ∙ (ap (λ l. map (address_of {State = State}) l ++ map (address_of {State = State}) tail) (beside_whole (read bytes) past count)
    ∙ (λ i. here i ++ walk read n rows text all other_cells others i))

pub block_addresses : {State Cell Items : Type 0} (steps : Steps State Cell Items) (read : List ℕ → List Cell) (laid : Layout State)
    (s : Splice) (rows : List (CarriedRow Cell)) (source : ℕ) (opening : State) (block : Block)
    → LiesInOrder laid → s.at + s.removed ≤ length laid.text → map cells_in rows ≡ map read (spliced laid.text s) → map origin_in rows ≡ origins read laid s
    → map (address_of {State = State}) (pasts_of_chain read (spliced laid.text s) (pasts steps read laid s)
    (chain_at source opening block)) ≡ flat_map (λ (r : CarriedRow Cell). addresses r.origin r.cells) (rows_in rows block)
block_addresses {State = State} {Cell = Cell} steps read laid s rows source opening block lies inside cells from =
    let text = spliced laid.text s in
    let all = pasts steps read laid s in
    let by : List (Option (Past State)) → List (Option (ℕ × ℕ)) = λ row. map address_of row in
    let dropped : map by (drop block.from all) ≡ map (λ (r : CarriedRow Cell). addresses r.origin r.cells) (drop block.from rows) =
    sym (drop-map by block.from all) ∙ (ap (drop block.from) (addresses_are steps read laid s rows lies inside cells from)
    ∙ drop-map (λ (r : CarriedRow Cell). addresses r.origin r.cells) block.from rows) in
    walk read (block.to - block.from) (drop block.from rows) (drop block.from text) (drop block.from all) (read_drop read block.from rows text cells) dropped

map_flat : {X A B : Type 0} (f : A → B) (g : X → List A) (xs : List X) → map f (flat_map g xs) ≡ flat_map (λ x. map f (g x)) xs
map_flat f g [] = refl
map_flat f g (x ∷ xs) = map-append f (g x) (flat_map g xs) ∙ ap (λ l. map f (g x) ++ l) (map_flat f g xs)

-- The kept states of the cells of a block are those at the addresses of their pasts.
block_helds : {State Cell Items : Type 0} (steps : Steps State Cell Items) (read : List ℕ → List Cell) (laid : Layout State)
    (s : Splice) (old : List (ChainView State Cell Items)) (rows : List (CarriedRow Cell)) (source : ℕ) (opening : State) (block : Block)
    → LiesInOrder laid → s.at + s.removed ≤ length laid.text → map cells_in rows ≡ map read (spliced laid.text s) → map origin_in rows ≡ origins read laid s
    → kept_states_over old rows block ≡ map (λ piece. kept_state_at (entries_at old) (address_of piece))
    (pasts_of_chain read (spliced laid.text s) (pasts steps read laid s) (chain_at source opening block))
block_helds {State = State} {Cell = Cell} steps read laid s old rows source opening block lies inside cells from =
    let hold : Option (ℕ × ℕ) → Option (KeptState State) = kept_state_at (entries_at old) in
    let pieces = pasts_of_chain read (spliced laid.text s) (pasts steps read laid s) (chain_at source opening block) in
    sym (map_flat hold (λ (r : CarriedRow Cell). addresses r.origin r.cells) (rows_in rows block))
    ∙ (ap (map hold) (sym (block_addresses steps read laid s rows source opening block lies inside cells from)) ∙ map-over hold (address_of {State = State}) pieces)

-- The steps over a block are the fresh cells of its chain.
pub block_steps : {State Cell Items : Type 0} (steps : Steps State Cell Items) (read : List ℕ → List Cell) (laid : Layout State)
    (s : Splice) (old : List (ChainView State Cell Items)) (rows : List (CarriedRow Cell)) (source : ℕ) (own opening : State) (block : Block)
    → IsResumable steps → LiesInOrder laid → s.at + s.removed ≤ length laid.text → AreKeptStates steps read laid (entries_at old)
    → map cells_in rows ≡ map read (spliced laid.text s) → map origin_in rows ≡ origins read laid s → IsAlike steps own opening
    → steps_taken steps own old rows block ≡ fresh_cells_of steps read (spliced laid.text s) (pasts steps read laid s) (chain_at source opening block)
block_steps steps read laid s old rows source own opening block laws lies inside kept cells from alike =
    let text = spliced laid.text s in
    let chain = chain_at source opening block in
    let same : cells_over rows block ≡ chain_cells read text chain = block_cells read rows text block cells in
    let held = block_helds steps read laid s old rows source opening block lies inside cells from in
    (λ i. steps_over steps own (same i) (held i))
    ∙ steps_are_fresh steps read text (pasts steps read laid s) chain own _ laws alike (kept_states_match steps read laid s chain (entries_at old) lies inside kept)

tunes_steps : {State Cell Items : Type 0} (steps : Steps State Cell Items) (read : List ℕ → List Cell) (laid : Layout State)
    (s : Splice) (old : List (ChainView State Cell Items)) (rows : List (CarriedRow Cell)) (source : ℕ) (own opening : State) (blocks : List Block)
    → IsResumable steps → LiesInOrder laid → s.at + s.removed ≤ length laid.text → AreKeptStates steps read laid (entries_at old)
    → map cells_in rows ≡ map read (spliced laid.text s) → map origin_in rows ≡ origins read laid s → IsAlike steps own opening
    → sum_by (steps_taken steps own old rows) blocks ≡ sum_by (fresh_cells_of steps read (spliced laid.text s) (pasts steps read laid s)) (tune_chains source opening blocks)
tunes_steps steps read laid s old rows source own opening [] laws lies inside kept cells from alike = refl
tunes_steps steps read laid s old rows source own opening (block ∷ blocks) laws lies inside kept cells from alike =
    let fresh = fresh_cells_of steps read (spliced laid.text s) (pasts steps read laid s) in
    sum_by-cons (steps_taken steps own old rows) block blocks
    ∙ ((λ i. block_steps steps read laid s old rows source own opening block laws lies inside kept cells from alike i
    + tunes_steps steps read laid s old rows (source + 1) own opening blocks laws lies inside kept cells from alike i)
    ∙ sym (sum_by-cons fresh (chain_at source opening block) (tune_chains (source + 1) opening blocks)))

-- The steps over the file header and the tunes.
all_steps : {State Cell Items : Type 0} (steps : Steps State Cell Items) (read : List ℕ → List Cell) (laid : Layout State)
    (s : Splice) (old : List (ChainView State Cell Items)) (rows : List (CarriedRow Cell)) (first own opening : State) (header : Option Block) (blocks : List Block)
    → IsResumable steps → LiesInOrder laid → s.at + s.removed ≤ length laid.text → AreKeptStates steps read laid (entries_at old)
    → map cells_in rows ≡ map read (spliced laid.text s) → map origin_in rows ≡ origins read laid s → IsAlike steps own opening
    → header_steps steps first old rows header + sum_by (steps_taken steps own old rows) blocks ≡ sum_by
    (fresh_cells_of steps read (spliced laid.text s) (pasts steps read laid s)) (header_chain first header ++ tune_chains 1 opening blocks)
all_steps steps read laid s old rows first own opening None blocks laws lies inside kept cells from alike =
    let reused_tunes : ℕ = sum_by (steps_taken steps own old rows) blocks in
    let none : 0 + reused_tunes ≡ reused_tunes = omega arith in
    none ∙ tunes_steps steps read laid s old rows 1 own opening blocks laws lies inside kept cells from alike
all_steps steps read laid s old rows first own opening (Some block) blocks laws lies inside kept cells from alike =
    let fresh = fresh_cells_of steps read (spliced laid.text s) (pasts steps read laid s) in
    (λ i. block_steps steps read laid s old rows 0 first first block laws lies inside kept cells from (laws.reflexive first) i
    + tunes_steps steps read laid s old rows 1 own opening blocks laws lies inside kept cells from alike i)
    ∙ sym (sum_by-cons fresh (chain_at 0 first block) (tune_chains 1 opening blocks))

-- what the old chains keep

kept_here : {State Cell Items : Type 0} (steps : Steps State Cell Items) (read : List ℕ → List Cell) (opening : State) (text : Text) (chain : ChainView State Cell Items) (source : ℕ) (block : Block)
    → IsChainOf steps read opening text chain block
    → AllZip (IsAlike steps) chain.entries (states_of steps read text (chain_at source opening block))
kept_here steps read opening text chain source block own =
    subst (AllZip (IsAlike steps) chain.entries) (ap (states_from steps opening) own.cells) own.folds.entries

kept_among : {State Cell Items : Type 0} (steps : Steps State Cell Items) (read : List ℕ → List Cell) (opening : State)
    (text : Text) (source : ℕ) (chains : List (ChainView State Cell Items)) (blocks : List Block) (was : FoldedBlock State) (i : ℕ)
    → AllZip (IsChainOf steps read opening text) chains blocks
    → i < length (tune_chains source opening blocks) → get_or (tune_chains source opening blocks) i was ≡ was
    → (k : ℕ) × (was.source ≡ source + k) × AllZip (IsAlike steps) (entries_at chains k) (states_of steps read text was)
kept_among steps read opening text source [] [] was i all h e = absurd (omega arith)
kept_among steps read opening text source [] (block ∷ blocks) was i all h e = absurd all
kept_among steps read opening text source (chain ∷ chains) [] was i all h e = absurd all
kept_among {State = State} steps read opening text source (chain ∷ chains) (block ∷ blocks) was zero all h e =
    let number : was.source ≡ source + 0 = sym (ap (λ (c : FoldedBlock State). c.source) e) ∙ (let n : source ≡ source + 0 = omega arith in n) in
    (0, number, subst (λ (c : FoldedBlock State). AllZip (IsAlike steps) chain.entries (states_of steps read text c)) e (kept_here steps read opening text chain source block all.0))
kept_among steps read opening text source (chain ∷ chains) (block ∷ blocks) was (suc i) all h e =
    let more = kept_among steps read opening text (source + 1) chains blocks was i all.1 (omega arith) e in
    let number : was.source ≡ source + suc more.0 = more.1 ∙ (let n : source + 1 + more.0 ≡ source + suc more.0 = omega arith in n) in
    (suc more.0, number, more.2)

kept_tune : {State Cell Items : Type 0} (steps : Steps State Cell Items) (read : List ℕ → List Cell) (opening : State) (text : Text)
    (chain : ChainView State Cell Items) (chains : List (ChainView State Cell Items)) (blocks : List Block) (was : FoldedBlock State) (i : ℕ)
    → AllZip (IsChainOf steps read opening text) chains blocks
    → i < length (tune_chains 1 opening blocks) → get_or (tune_chains 1 opening blocks) i was ≡ was
    → AllZip (IsAlike steps) (entries_at (chain ∷ chains) was.source) (states_of steps read text was)
kept_tune steps read opening text chain chains blocks was i all h e =
    let own = kept_among steps read opening text 1 chains blocks was i all h e in
    let number : suc own.0 ≡ was.source = (let n : suc own.0 ≡ 1 + own.0 = omega arith in n) ∙ sym own.1 in
    subst (λ k. AllZip (IsAlike steps) (entries_at (chain ∷ chains) k) (states_of steps read text was)) number own.2

kept_all : {State Cell Items Defaults : Type 0} (steps : Steps State Cell Items) (rules : Rules State Cell Items Defaults)
    (opening : State) (text : Text) (chain : ChainView State Cell Items) (chains : List (ChainView State Cell Items)) (header : Option Block) (blocks : List Block)
    → IsHeaderChainOf steps rules text chain header → AllZip (IsChainOf steps rules.cells opening text) chains blocks
    → (was : FoldedBlock State) → Contains (header_chain rules.header header ++ tune_chains 1 opening blocks) was
    → AllZip (IsAlike steps) (entries_at (chain ∷ chains) was.source) (states_of steps rules.cells text was)
kept_all steps rules opening text chain chains None blocks own all was member =
    kept_tune steps rules.cells opening text chain chains blocks was member.0 all member.1 member.2
kept_all {State = State} steps rules opening text chain chains (Some block) blocks own all was (zero, h, e) =
    let number : 0 ≡ was.source = ap (λ (c : FoldedBlock State). c.source) e in
    subst (λ k. AllZip (IsAlike steps) (entries_at (chain ∷ chains) k) (states_of steps rules.cells text was)) number
    (subst (λ (c : FoldedBlock State). AllZip (IsAlike steps) chain.entries (states_of steps rules.cells text c)) e (kept_here steps rules.cells rules.header text chain 0 block own))
kept_all steps rules opening text chain chains (Some block) blocks own all was (suc i, h, e) =
    kept_tune steps rules.cells opening text chain chains blocks was i all (omega arith) e

-- The chains of a text are kept.
pub are_kept : {State Cell Items Defaults : Type 0} (steps : Steps State Cell Items) (rules : Rules State Cell Items Defaults) (text : Text) (chains : List (ChainView State Cell Items))
    → AreChains steps rules text chains → AreKeptStates steps rules.cells (layout_of steps rules text) (entries_at chains)
are_kept steps rules text [] own = absurd own
are_kept steps rules text (chain ∷ chains) own =
    kept_all steps rules (opening_of steps.next rules text (blocks_in rules text)) text chain chains (header_in (blocks_in rules text)) (tunes_in (blocks_in rules text)) own.0 own.1

-- The steps over the blocks of a new text are its fresh cells.
pub edit_steps : {State Cell Items Defaults : Type 0} (steps : Steps State Cell Items) (rules : Rules State Cell Items Defaults)
    (text : Text) (s : Splice) (old : List (ChainView State Cell Items)) (rows : List (CarriedRow Cell)) (own : State)
    → IsResumable steps → s.at + s.removed ≤ length text → AreChains steps rules text old → AreRead rules (spliced text s) rows
    → map origin_in rows ≡ origins rules.cells (layout_of steps rules text) s
    → IsAlike steps own (opening_of steps.next rules (spliced text s) (blocks_in rules (spliced text s)))
    → header_steps steps rules.header old rows (header_in (blocks_in rules (spliced text s))) + sum_by
    (steps_taken steps own old rows) (tunes_in (blocks_in rules (spliced text s))) ≡ fresh_cells_after steps rules text s
edit_steps steps rules text s old rows own laws inside chains read from alike =
    let new = spliced text s in
    all_steps steps rules.cells (layout_of steps rules text) s old rows rules.header own
    (opening_of steps.next rules new (blocks_in rules new)) (header_in (blocks_in rules new)) (tunes_in (blocks_in rules new))
    laws (chains_lie_in_order steps rules text) inside (are_kept steps rules text old chains) read.cells from alike
    ∙ edits_count steps rules text s inside
