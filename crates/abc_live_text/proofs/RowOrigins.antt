-- The rows after an edit, with their origins.
use Rattle.std.proofs.Common.{◌≡◌, ℕ, zero, suc, ◌+◌, ◌-◌, ◌<◌, ◌≤◌, List, [], ◌∷◌, ◌++◌, map, Option, Some, None, All, length}
use Rattle.std.proofs.Common.{take, drop, slice_get, refl, sym, ◌∙◌, ap, arith, append_assoc, take-append-drop, drop-drop}
use Rattle.std.proofs.Common.{length-append}
use Rattle.std.proofs.lemmas.List.{map-append, take-map}
use Rattle.std.proofs.lemmas.List.Elements.{All-cons, All-nil, All-append}
use Rattle.std.specs.List.{flat_map, AllZip}
use Rattle.abc_book.specs.declared.block.Block.{Block}
use Rattle.abc_fold.specs.Chain.{ChainView}
use Rattle.abc_fold.specs.Steps.{Steps}
use Rattle.abc_lines.specs.Text.{Text}
use Rattle.abc_live_cost.specs.Layout.{header_chain, tune_chains}
use Rattle.abc_live_cost.specs.Origin.{no_origins, origin_at, origins_along, origins_from}
use Rattle.abc_tune_compiler.specs.Book.{blocks_in, header_in, opening_of, tunes_in}
use Rattle.abc_tune_compiler.specs.Rules.{Rules}
use Rattle.abc_live_text.specs.Pieces.{IsCarried, cells_at, cells_in, cells_over, origin_in}
use Rattle.abc_live_text.specs.Chains.{AreChains, IsHeaderChainOf, header_place, places_of}
use Rattle.abc_live_cost.specs.OldItems.{IsChainOf}
use Rattle.abc_live_text.specs.Origin.{BlocksRise, rows_between, rows_along}
use Rattle.abc_live_text.specs.Row.{CarriedRow, at_origin}
use Rattle.abc_live_text.proofs.FreshSteps.{block_cells, map-over, read_drop}
use Rattle.abc_live_text.proofs.WholeRows.{placed_from}

pub split : {A : Type 0} (xs : List A) (at to : ℕ) → at ≤ to → drop at xs ≡ take (to - at) (drop at xs) ++ drop to xs
split xs at to h =
    let here : at + (to - at) ≡ to = omega arith in
    sym (take-append-drop (to - at) (drop at xs)) ∙ ap (λ l. take (to - at) (drop at xs) ++ l) (drop-drop (to - at) at xs ∙ ap (λ n. drop n xs) here)

strip : {Cell : Type 0} → List (CarriedRow Cell) → List (CarriedRow Cell)
strip rows = map (at_origin None) rows

strip_free : {Cell : Type 0} (rows : List (CarriedRow Cell)) → map (at_origin None) (map (at_origin None) rows) ≡ map (at_origin None) rows
strip_free rows = map-over (at_origin None) (at_origin None) rows

strip_along : {Cell : Type 0} (source first : ℕ) (rows : List (CarriedRow Cell)) → map (at_origin None) (rows_along source first rows) ≡ map (at_origin None) rows
strip_along source first [] = refl
strip_along source first (row ∷ rows) = ap (λ l. at_origin None row ∷ l) (strip_along source (first + length row.cells) rows)

pub strip_from : {Cell : Type 0} (rows : List (CarriedRow Cell)) (at source : ℕ) (blocks : List Block)
    → BlocksRise at blocks (length rows) → map (at_origin None) (placed_from rows at source blocks) ≡ map (at_origin None) (drop at rows)
strip_from rows at source [] rise = strip_free (drop at rows)
strip_from rows at source (block ∷ blocks) rise =
    let a = rows_between rows at block.from in
    let b = rows_between rows block.from block.to in
    let rest = placed_from rows block.to (source + 1) blocks in
    map-append (at_origin None) (map (at_origin None) a) (rows_along source 0 b ++ rest)
    ∙ ((λ i. strip_free a i ++ map-append (at_origin None) (rows_along source 0 b) rest i)
    ∙ ((λ i. map (at_origin None) a ++ (strip_along source 0 b i ++ strip_from rows block.to (source + 1) blocks rise.2 i))
    ∙ (ap (λ l. map (at_origin None) a ++ l) (sym (map-append (at_origin None) b (drop block.to rows)) ∙ ap (map (at_origin None)) (sym (split rows block.from block.to rise.1)))
    ∙ (sym (map-append (at_origin None) a (drop block.from rows)) ∙ ap (map (at_origin None)) (sym (split rows at block.from rise.0))))))

pub by_strip : {Cell A : Type 0} (h : CarriedRow Cell → A) (xs ys : List (CarriedRow Cell))
    → map (at_origin None) xs ≡ map (at_origin None) ys → ((l : CarriedRow Cell) → h (at_origin None l) ≡ h l) → map h xs ≡ map h ys
by_strip h xs ys e same = sym (each h xs same) ∙ (sym (map-over h (at_origin None) xs) ∙ (ap (map h) e ∙ (map-over h (at_origin None) ys ∙ each h ys same)))
  where
    each : {Cell A : Type 0} (h : CarriedRow Cell → A) (xs : List (CarriedRow Cell)) → ((l : CarriedRow Cell) → h (at_origin None l) ≡ h l) → map (λ l. h (at_origin None l)) xs ≡ map h xs
    each h [] same = refl
    each h (x ∷ xs) same = λ i. same x i ∷ each h xs same i

get_at : {X : Type 0} (front own others : List X) (k : ℕ) → k < length own → slice_get (front ++ (own ++ others)) (length front + k) ≡ slice_get own k
get_at [] [] others k h = absurd (omega arith)
get_at [] (x ∷ own) others zero h = refl
get_at [] (x ∷ own) others (suc k) h = (let e : 0 + suc k ≡ suc (0 + k) = omega arith in ap (slice_get (x ∷ (own ++ others))) e) ∙ get_at [] own others k (omega arith)
get_at (y ∷ front) own others k h = (let e : length (y ∷ front) + k ≡ suc (length front + k) = omega arith in ap (slice_get (y ∷ (front ++ (own ++ others)))) e) ∙ get_at front own others k h

along_carried : {State Cell Items : Type 0} (tunes : List (ChainView State Cell Items)) (source first : ℕ) (front : List Cell)
    (rows : List (CarriedRow Cell)) → first ≡ length front → cells_at tunes source ≡ front ++ flat_map cells_in rows → All (IsCarried tunes) (rows_along source first rows)
along_carried tunes source first front [] n e = All-nil (IsCarried tunes)
along_carried tunes source first front (row ∷ rows) n e =
    All-cons (IsCarried tunes) (at_origin (origin_at source first) row) (rows_along source (first + length row.cells) rows)
    (λ k h. (λ i. slice_get (e i) (n i + k)) ∙ get_at front row.cells (flat_map cells_in rows) k h)
    (along_carried tunes source (first + length row.cells) (front ++ row.cells) rows
    (ap (λ m. m + length row.cells) n ∙ sym (length-append front row.cells)) (e ∙ sym (append_assoc front row.cells (flat_map cells_in rows))))

free_carried : {State Cell Items : Type 0} (chains : List (ChainView State Cell Items)) (rows : List (CarriedRow Cell)) → All (IsCarried chains) (map (at_origin None) rows)
free_carried chains [] = All-nil (IsCarried chains)
free_carried chains (row ∷ rows) = All-cons (IsCarried chains) (at_origin None row) (map (at_origin None) rows) tt (free_carried chains rows)

abbrev HasCells : {State Cell Items : Type 0} → List (CarriedRow Cell) → ChainView State Cell Items → Block → Type 0
HasCells rows chain block = chain.cells ≡ cells_over rows block

from_carried : {State Cell Items : Type 0} (chains others : List (ChainView State Cell Items)) (rows : List (CarriedRow Cell)) (at source : ℕ) (blocks : List Block)
    → ((k : ℕ) → cells_at chains (source + k) ≡ cells_at others k) → AllZip (HasCells rows) others blocks → All (IsCarried chains) (placed_from rows at source blocks)
from_carried chains [] rows at source [] look all = free_carried chains (drop at rows)
from_carried chains [] rows at source (block ∷ blocks) look all = absurd all
from_carried chains (t ∷ others) rows at source [] look all = absurd all
from_carried chains (t ∷ others) rows at source (block ∷ blocks) look all =
    let zeroth : source ≡ source + 0 = omega arith in
    let own : cells_at chains source ≡ [] ++ flat_map cells_in (rows_between rows block.from block.to) = ap (cells_at chains) zeroth ∙ (look 0 ∙ all.0) in
    All-append (IsCarried chains) (map (at_origin None) (rows_between rows at block.from)) (rows_along source 0 (rows_between rows block.from block.to) ++ placed_from rows block.to
    (source + 1) blocks)
    (free_carried chains (rows_between rows at block.from))
    (All-append (IsCarried chains) (rows_along source 0 (rows_between rows block.from block.to)) (placed_from rows block.to (source + 1) blocks)
    (along_carried chains source 0 [] (rows_between rows block.from block.to) refl own)
    (from_carried chains others rows block.to (source + 1) blocks (λ k. (let e : source + 1 + k ≡ source + suc k = omega arith in ap (cells_at chains) e) ∙ look (suc k)) all.1))

tune_cells : {State Cell Items : Type 0} (steps : Steps State Cell Items) (read : List ℕ → List Cell) (opening : State)
    (text : Text) (rows : List (CarriedRow Cell)) (chains : List (ChainView State Cell Items)) (blocks : List Block)
    → map cells_in rows ≡ map read text → AllZip (IsChainOf steps read opening text) chains blocks → AllZip (HasCells rows) chains blocks
tune_cells steps read opening text rows [] [] e all = tt
tune_cells steps read opening text rows [] (block ∷ blocks) e all = absurd all
tune_cells steps read opening text rows (chain ∷ chains) [] e all = absurd all
tune_cells steps read opening text rows (chain ∷ chains) (block ∷ blocks) e all =
    (all.0.cells ∙ sym (block_cells read rows text block e), tune_cells steps read opening text rows chains blocks e all.1)

header_cells : {State Cell Items Defaults : Type 0} (steps : Steps State Cell Items) (rules : Rules State Cell Items Defaults)
    (text : Text) (rows : List (CarriedRow Cell)) (chain : ChainView State Cell Items) (header : Option Block)
    → map cells_in rows ≡ map rules.cells text → IsHeaderChainOf steps rules text chain header → HasCells rows chain (header_place header)
header_cells {State = State} {Cell = Cell} {Items = Items} steps rules text rows chain None e own = ap (λ (c : ChainView State Cell Items). c.cells) own
header_cells steps rules text rows chain (Some block) e own = own.cells ∙ sym (block_cells rules.cells rows text block e)

pub settled_carried : {State Cell Items Defaults : Type 0} (steps : Steps State Cell Items)
    (rules : Rules State Cell Items Defaults) (text : Text) (rows : List (CarriedRow Cell)) (chains : List (ChainView State Cell Items))
    → map cells_in rows ≡ map rules.cells text → AreChains steps rules text chains → All (IsCarried chains) (placed_from rows 0 0 (places_of (blocks_in rules text)))
settled_carried steps rules text rows [] e own = absurd own
settled_carried steps rules text rows (chain ∷ chains) e own =
    from_carried (chain ∷ chains) (chain ∷ chains) rows 0 0 (places_of (blocks_in rules text)) (λ k. (let n : 0 + k ≡ k = omega arith in ap (cells_at (chain ∷ chains)) n)) (
      header_cells steps rules text rows chain (header_in (blocks_in rules text)) e own.0,
      tune_cells steps rules.cells (opening_of steps.next rules text (blocks_in rules text)) text rows chains (tunes_in (blocks_in rules text)) e own.1,
    )

-- origins

free_origins : {Cell : Type 0} (read : List ℕ → List Cell) (rows : List (CarriedRow Cell)) (text : Text)
    → map cells_in rows ≡ map read text → map origin_in (map (at_origin None) rows) ≡ no_origins text
free_origins read [] [] e = refl
free_origins read [] (bytes ∷ text) e = absurd (cc)
free_origins read (row ∷ rows) [] e = absurd (cc)
free_origins read (row ∷ rows) (bytes ∷ text) e = let others : map cells_in rows ≡ map read text = cc in ap (λ l. None ∷ l) (free_origins read rows text others)

along_origins : {Cell : Type 0} (read : List ℕ → List Cell) (source first : ℕ) (rows : List (CarriedRow Cell)) (text : Text)
    → map cells_in rows ≡ map read text → map origin_in (rows_along source first rows) ≡ origins_along read source first text
along_origins read source first [] [] e = refl
along_origins read source first [] (bytes ∷ text) e = absurd (cc)
along_origins read source first (row ∷ rows) [] e = absurd (cc)
along_origins read source first (row ∷ rows) (bytes ∷ text) e =
    let here : row.cells ≡ read bytes = cc in
    let others : map cells_in rows ≡ map read text = cc in
    ap (λ l. origin_at source first ∷ l) (along_origins read source (first + length row.cells) rows text others ∙ ap (λ n. origins_along read source (first + n) text) (ap length here))

between_read : {Cell : Type 0} (read : List ℕ → List Cell) (rows : List (CarriedRow Cell)) (text : Text) (from to : ℕ)
    → map cells_in rows ≡ map read text → map cells_in (rows_between rows from to) ≡ map read (take (to - from) (drop from text))
between_read read rows text from to e =
    sym (take-map cells_in (to - from) (drop from rows)) ∙ (ap (take (to - from)) (read_drop read from rows text e) ∙ take-map read (to - from) (drop from text))

pub from_origins : {State Cell : Type 0} (read : List ℕ → List Cell) (opening : State) (rows : List (CarriedRow Cell)) (text : Text)
    (at source : ℕ) (blocks : List Block) → map cells_in rows ≡ map read text → map origin_in (placed_from rows at source blocks) ≡ origins_from read text at (tune_chains source opening blocks)
from_origins read opening rows text at source [] e = free_origins read (drop at rows) (drop at text) (read_drop read at rows text e)
from_origins read opening rows text at source (block ∷ blocks) e =
    let a = rows_between rows at block.from in
    let b = rows_between rows block.from block.to in
    let tail = placed_from rows block.to (source + 1) blocks in
    let own : map origin_in (rows_along source 0 b) ≡ origins_along read source 0 (take (block.to - block.from) (drop block.from text)) =
    along_origins read source 0 b (take (block.to - block.from) (drop block.from text)) (between_read read rows text block.from block.to e) in
    let free : map origin_in (map (at_origin None) a) ≡ no_origins (take (block.from - at) (drop at text)) =
    free_origins read a (take (block.from - at) (drop at text)) (between_read read rows text at block.from e) in
    map-append origin_in (map (at_origin None) a) (rows_along source 0 b ++ tail)
    ∙ ((λ i. free i ++ map-append origin_in (rows_along source 0 b) tail i)
    ∙ ap (λ l. no_origins (take (block.from - at) (drop at text)) ++ l) (λ i. own i ++ from_origins read opening rows text block.to (source + 1) blocks e i))

pub all_origins : {State Cell : Type 0} (read : List ℕ → List Cell) (first opening : State) (text : Text) (header : Option Block)
    (blocks : List Block) → origins_from read text 0 (tune_chains 0 opening (header_place header ∷ blocks)) ≡ origins_from read text 0 (header_chain first header ++ tune_chains 1 opening blocks)
all_origins read first opening text None blocks = refl
all_origins read first opening text (Some block) blocks = refl
