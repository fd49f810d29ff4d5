-- Lines with the origins that code gives them.
use Rattle.std.proofs.Common.{◌≡◌, ℕ, zero, suc, ◌+◌, ◌-◌, ◌<◌, ◌≤◌, List, [], ◌∷◌, ◌++◌, map, Some, None, length, take, drop}
use Rattle.std.proofs.Common.{get_or, refl, sym, ◌∙◌, ap, subst, arith, add-one, append_assoc, length-append}
use Rattle.std.proofs.Math.Seq.{drop-cons}
use Rattle.std.proofs.lemmas.List.{map-append, take_more, get_or_default, drop_all, get_or-map}
use Rattle.std.proofs.lemmas.Option.{slice_get_read}
use Rattle.std.specs.List.{flat_map}
use Rattle.abc_book.specs.declared.block.Block.{Block}
use Rattle.abc_fold.proofs.Kept.{one_more}
use Rattle.abc_live_text.specs.Pieces.{cells_in}
use Rattle.abc_live_text.specs.Origin.{BlocksRise, rows_between, cell_count, rows_along, rows_until}
use Rattle.abc_live_text.specs.Row.{CarriedRow, at_origin}
use Rattle.abc_live_text.proofs.LinePieces.{over_next}
use Rattle.abc_live_text.proofs.Spans.{rise_to}

-- One more of a list.
pub map_next : {A B : Type 0} (g : A → B) (xs : List A) (i : ℕ) (x : A) → x ≡ get_or xs i x → i < length xs → map g (take (i + 1) xs) ≡ map g (take i xs) ++ g x ∷ []
map_next g xs i x is inside = ap (map g) (take_more xs i x inside) ∙ (map-append g (take i xs) (get_or xs i x ∷ []) ∙ ap (λ y. map g (take i xs) ++ g y ∷ []) (sym is))

pub part_next : {A : Type 0} (old made xs : List A) (from i : ℕ) (x : A) → made ≡ old ++ take (i - from) (drop from xs) → from ≤ i
    → i < length xs → x ≡ get_or xs i x → made ++ x ∷ [] ≡ old ++ take (i + 1 - from) (drop from xs)
part_next old made xs from i x e order inside is =
    ap (λ l. l ++ x ∷ []) e ∙ (append_assoc old (take (i - from) (drop from xs)) (x ∷ [])
    ∙ ap (λ l. old ++ l) (sym (one_more xs from i x order (slice_get_read xs (length xs) i x refl inside is))))

pub free_next : {Cell : Type 0} (old made rows : List (CarriedRow Cell)) (from i : ℕ) (row : CarriedRow Cell)
    → made ≡ old ++ map (at_origin None) (rows_between rows from i) → from ≤ i → i < length rows → row ≡ get_or rows i row
    → made ++ at_origin None row ∷ [] ≡ old ++ map (at_origin None) (rows_between rows from (i + 1))
free_next old made rows from i row e order inside is =
    ap (λ l. l ++ at_origin None row ∷ []) e ∙ (append_assoc old (map (at_origin None) (rows_between rows from i)) (at_origin None row ∷ [])
    ∙ ap (λ l. old ++ l) (sym (ap (map (at_origin None)) (one_more rows from i row order
    (slice_get_read rows (length rows) i row refl inside is)) ∙ map-append (at_origin None) (rows_between rows from i) (row ∷ []))))

along_next : {Cell : Type 0} (source first : ℕ) (rows : List (CarriedRow Cell)) (row : CarriedRow Cell)
    → rows_along source first (rows ++ row ∷ []) ≡ rows_along source first rows ++ at_origin (Some (record { source = source; first = first + cell_count rows })) row ∷ []
along_next source first [] row = let h : first ≡ first + 0 = omega arith in ap (λ n. at_origin (Some (record { source = source; first = n })) row ∷ []) h
along_next source first (l ∷ rows) row =
    let more = along_next source (first + length l.cells) rows row in
    let h : first + length l.cells + cell_count rows ≡ first + cell_count (l ∷ rows) = omega (arith, length-append l.cells (flat_map cells_in rows)) in
    ap (λ r. at_origin (Some (record { source = source; first = first })) l ∷ r)
    (more ∙ ap (λ n. rows_along source (first + length l.cells) rows ++ at_origin (Some (record { source = source; first = n })) row ∷ []) h)

pub block_next : {Cell : Type 0} (source first : ℕ) (old made rows : List (CarriedRow Cell)) (from i : ℕ) (row : CarriedRow Cell)
    → made ≡ old ++ rows_along source 0 (rows_between rows from i) → first ≡ cell_count (rows_between rows from i) → from ≤ i → i < length rows → row ≡ get_or rows i row
    → made ++ at_origin (Some (record { source = source; first = first })) row ∷ [] ≡ old ++ rows_along source 0 (rows_between rows from (i + 1))
block_next source first old made rows from i row e count order inside is =
    let own = at_origin (Some (record { source = source; first = first })) row in
    let here : first ≡ 0 + cell_count (rows_between rows from i) = omega (arith, count) in
    ap (λ l. l ++ own ∷ []) e ∙ (append_assoc old (rows_along source 0 (rows_between rows from i)) (own ∷ [])
    ∙ ap (λ l. old ++ l) (sym (ap (rows_along source 0) (one_more rows from i row order (slice_get_read rows (length rows) i row refl inside is))
    ∙ (along_next source 0 (rows_between rows from i) row ∙ ap (λ n. rows_along source 0 (rows_between rows from i) ++ at_origin (Some (record { source = source; first = n })) row ∷ []) (sym here)))))

pub count_next : {Cell : Type 0} (rows : List (CarriedRow Cell)) (from i : ℕ) (row : CarriedRow Cell) (first count : ℕ)
    → first ≡ cell_count (rows_between rows from i) → count ≡ length row.cells → from ≤ i → i < length rows → row ≡ get_or rows i row → first + count ≡ cell_count (rows_between rows from (i + 1))
count_next rows from i row first count e c order inside is =
    let more = ap length (over_next cells_in rows from i row order (slice_get_read rows (length rows) i row refl inside is)) in
    omega (arith, e, c, more, length-append (flat_map cells_in (rows_between rows from i)) row.cells)

pub rise_at : (at : ℕ) (blocks : List Block) (i : ℕ) (r : Block) (last : ℕ) → BlocksRise at (drop i blocks) last → i < length blocks → r ≡ get_or blocks i r
    → (at ≤ r.from) × (r.from ≤ r.to) × BlocksRise r.to (drop (i + 1) blocks) last
rise_at at blocks i r last rise inside is =
    subst (λ rest. BlocksRise at rest last) (drop-cons blocks i r inside ∙ (λ j. sym is j ∷ drop (sym (add-one i) j) blocks)) rise

-- The block of a number lies within the first lines.
pub rise_index : (at : ℕ) (blocks : List Block) (i : ℕ) (d : Block) (last : ℕ) → BlocksRise at (drop i blocks) last → i < length blocks
    → ((get_or blocks i d).from ≤ last) × ((get_or blocks i d).to ≤ last)
rise_index at blocks i d last rise inside =
    let own = rise_at at blocks i (get_or blocks i d) last rise inside (get_or_default blocks i d (get_or blocks i d) inside) in
    let end = rise_to (get_or blocks i d).to (drop (i + 1) blocks) last own.2 in
    (omega (arith, own.1, end), end)

-- Lines up to another one.

pub until_next : {Cell : Type 0} (rows whole made made1 made2 : List (CarriedRow Cell)) (blocks : List Block) (at to number i : ℕ) (r : Block)
    → made ++ rows_until rows at to (number + i) (drop i blocks) ≡ whole
    → made1 ≡ made ++ map (at_origin None) (rows_between rows at r.from) → made2 ≡ made1 ++ rows_along (number + i) 0 (rows_between rows r.from r.to)
    → i < length blocks → r ≡ get_or blocks i r
    → made2 ++ rows_until rows r.to to (number + (i + 1)) (drop (i + 1) blocks) ≡ whole
until_next rows whole made made1 made2 blocks at to number i r e free own inside is =
    let a = map (at_origin None) (rows_between rows at r.from) in
    let b = rows_along (number + i) 0 (rows_between rows r.from r.to) in
    let rest = rows_until rows r.to to (number + i + 1) (drop (i + 1) blocks) in
    let next : number + (i + 1) ≡ number + i + 1 = omega arith in
    let cut : drop i blocks ≡ r ∷ drop (i + 1) blocks = drop-cons blocks i r inside ∙ (λ j. sym is j ∷ drop (sym (add-one i) j) blocks) in
    ap (λ n. made2 ++ rows_until rows r.to to n (drop (i + 1) blocks)) next
    ∙ (ap (λ l. l ++ rest) (own ∙ ap (λ l. l ++ b) free)
    ∙ (append_assoc (made ++ a) b rest ∙ (append_assoc made a (b ++ rest)
    ∙ (ap (λ l. made ++ rows_until rows at to (number + i) l) (sym cut) ∙ e))))

pub until_end : {Cell : Type 0} (rows whole made made1 : List (CarriedRow Cell)) (blocks : List Block) (at to i k : ℕ)
    → made ++ rows_until rows at to k (drop i blocks) ≡ whole → made1 ≡ made ++ map (at_origin None) (rows_between rows at to) → length blocks ≤ i → made1 ≡ whole
until_end rows whole made made1 blocks at to i k e last done =
    let none : drop i blocks ≡ [] = drop_all i blocks done in
    last ∙ (ap (λ l. made ++ rows_until rows at to k l) (sym none) ∙ e)

pub map_at : {A B : Type 0} (f : A → B) (xs : List A) (i : ℕ) (x : A) → x ≡ get_or xs i x → i < length xs → f x ≡ get_or (map f xs) i (f x)
map_at f xs i x is inside = ap f is ∙ sym (get_or-map f xs i x (f x) inside)

pub map_more : {A B : Type 0} (g : A → B) (old made : List B) (xs : List A) (i : ℕ) (x : A) → made ≡ old ++ map g (take i xs)
    → x ≡ get_or xs i x → i < length xs → made ++ g x ∷ [] ≡ old ++ map g (take (i + 1) xs)
map_more g old made xs i x e is inside =
    ap (λ l. l ++ g x ∷ []) e ∙ (append_assoc old (map g (take i xs)) (g x ∷ []) ∙ ap (λ l. old ++ l) (sym (map_next g xs i x is inside)))

pub between_next : {A B : Type 0} (g : A → B) (old made : List B) (xs : List A) (from i : ℕ) (x : A)
    → made ≡ old ++ map g (take (i - from) (drop from xs)) → from ≤ i → i < length xs → x ≡ get_or xs i x → made ++ g x ∷ [] ≡ old ++ map g (take (i + 1 - from) (drop from xs))
between_next g old made xs from i x e order inside is =
    ap (λ l. l ++ g x ∷ []) e ∙ (append_assoc old (map g (take (i - from) (drop from xs))) (g x ∷ [])
    ∙ ap (λ l. old ++ l) (sym (ap (map g) (one_more xs from i x order (slice_get_read xs (length xs) i x refl inside is)) ∙ map-append g (take (i - from) (drop from xs)) (x ∷ []))))

pub copy_next : {A : Type 0} (old made xs : List A) (i : ℕ) (x : A) → made ≡ old ++ take i xs → x ≡ get_or xs i x → i < length xs → made ++ x ∷ [] ≡ old ++ take (i + 1) xs
copy_next old made xs i x e is inside =
    ap (λ l. l ++ x ∷ []) e ∙ (append_assoc old (take i xs) (x ∷ []) ∙ ap (λ l. old ++ l) (ap (λ y. take i xs ++ y ∷ []) is ∙ sym (take_more xs i x inside)))

-- What holds of all after a place holds of each there.
pub beyond_at : {A : Type 0} (P : A → Type 0) (xs : List A) (from i : ℕ) (d : A)
    → ((k : ℕ) (e : A) → k < length (drop from xs) → P (get_or (drop from xs) k e)) → from ≤ i → i < length xs → P (get_or xs i d)
beyond_at P [] from i d all order inside = absurd (omega arith)
beyond_at P (x ∷ xs) zero i d all order inside = all i d inside
beyond_at P (x ∷ xs) (suc from) zero d all order inside = absurd (omega arith)
beyond_at P (x ∷ xs) (suc from) (suc i) d all order inside = beyond_at P xs from i d all (omega arith) (omega arith)
