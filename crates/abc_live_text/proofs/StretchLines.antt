-- The lines of a stretch, among those of the text.
use Rattle.std.proofs.Common.{◌≡◌, ℕ, zero, suc, ◌+◌, ◌-◌, ◌≤◌, List, [], ◌∷◌, ◌++◌, map, None, length, take, drop, refl, sym}
use Rattle.std.proofs.Common.{◌∙◌, ap, arith, append_assoc, drop-drop, length-append, length-drop}
use Rattle.std.proofs.lemmas.List.{map-append, length-take-le, length-map}
use Rattle.abc_book.specs.declared.block.Block.{Block}
use Rattle.abc_live_text.specs.Origin.{BlocksRise, rows_between, rows_along, rows_until}
use Rattle.abc_live_text.specs.Row.{CarriedRow, at_origin}
use Rattle.abc_live_text.proofs.RowOrigins.{split}
use Rattle.abc_live_text.proofs.WholeRows.{placed_from}
use Rattle.abc_live_text.proofs.Spans.{rise_to}

take_none : {A : Type 0} (n : ℕ) → (let xs : List A = [] in take n xs ≡ xs)
take_none zero = refl
take_none (suc n) = refl

-- A part of a list in two.
take_both : {A : Type 0} (m n : ℕ) (xs : List A) → take (m + n) xs ≡ take m xs ++ take n (drop m xs)
take_both zero n xs = (let e : 0 + n ≡ n = omega arith in ap (λ m. take m xs) e)
take_both (suc m) zero [] = take_none (suc m + 0)
take_both (suc m) (suc n) [] = take_none (suc m + suc n)
take_both (suc m) n (x ∷ xs) = (let e : suc m + n ≡ suc (m + n) = omega arith in ap (λ k. take k (x ∷ xs)) e) ∙ ap (λ l. x ∷ l) (take_both m n xs)

between_both : {Cell : Type 0} (rows : List (CarriedRow Cell)) (at mid to : ℕ) → at ≤ mid → mid ≤ to → rows_between rows at to ≡ rows_between rows at mid ++ rows_between rows mid to
between_both rows at mid to h k =
    let sum : to - at ≡ (mid - at) + (to - mid) = omega arith in
    let here : at + (mid - at) ≡ mid = omega arith in
    ap (λ n. take n (drop at rows)) sum ∙ (take_both (mid - at) (to - mid) (drop at rows)
    ∙ ap (λ l. take (mid - at) (drop at rows) ++ take (to - mid) l) (drop-drop (mid - at) at rows ∙ ap (λ n. drop n rows) here))

-- Blocks that are none, or begin at a line or after it.
abbrev pub BeginAfter : ℕ → List Block → Type 0
BeginAfter to [] = Unit {0}
BeginAfter to (block ∷ blocks) = to ≤ block.from

-- What is placed on from a line is placed up to another one, and on from that.
pub placed_both : {Cell : Type 0} (rows : List (CarriedRow Cell)) (at to source : ℕ) (xs ys : List Block) → BlocksRise at xs to → BeginAfter to ys
    → placed_from rows at source (xs ++ ys) ≡ rows_until rows at to source xs ++ placed_from rows to (source + length xs) ys
placed_both rows at to source [] [] rise following = ap (map (at_origin None)) (split rows at to rise) ∙ map-append (at_origin None) (rows_between rows at to) (drop to rows)
placed_both rows at to source [] (block ∷ blocks) rise following =
    let rest : ℕ → List _ = λ n. rows_along n 0 (rows_between rows block.from block.to) ++ placed_from rows block.to (n + 1) blocks in
    let same : source ≡ source + 0 = omega arith in
    (λ i. (ap (map (at_origin None)) (between_both rows at to block.from rise following) ∙ map-append (at_origin None) (rows_between rows at to) (rows_between rows to block.from)) i ++ rest (same i))
    ∙ append_assoc (map (at_origin None) (rows_between rows at to)) (map (at_origin None) (rows_between rows to block.from)) (rest (source + 0))
placed_both rows at to source (block ∷ xs) ys rise following =
    let a = map (at_origin None) (rows_between rows at block.from) in
    let b = rows_along source 0 (rows_between rows block.from block.to) in
    let c = rows_until rows block.to to (source + 1) xs in
    let next : source + 1 + length xs ≡ source + suc (length xs) = omega arith in
    let d : ℕ → List _ = λ n. placed_from rows to n ys in
    (λ i. a ++ (b ++ (placed_both rows block.to to (source + 1) xs ys rise.2 following ∙ ap (λ n. c ++ d n) next) i))
    ∙ (ap (λ l. a ++ l) (sym (append_assoc b c (d (source + suc (length xs))))) ∙ sym (append_assoc a (b ++ c) (d (source + suc (length xs)))))

length-along : {Cell : Type 0} (source first : ℕ) (rows : List (CarriedRow Cell)) → length (rows_along source first rows) ≡ length rows
length-along source first [] = refl
length-along source first (row ∷ rows) = ap suc (length-along source (first + length row.cells) rows)

length-rows_between : {Cell : Type 0} (rows : List (CarriedRow Cell)) (at to : ℕ) → at ≤ to → to ≤ length rows → length (rows_between rows at to) ≡ to - at
length-rows_between rows at to h k = length-take-le (to - at) (drop at rows) (let n = length-drop at rows in omega (arith, n))

-- There are as many as lines.
pub length-until : {Cell : Type 0} (rows : List (CarriedRow Cell)) (at to source : ℕ) (blocks : List Block)
    → BlocksRise at blocks to → to ≤ length rows → length (rows_until rows at to source blocks) ≡ to - at
length-until rows at to source [] rise inside = length-map (rows_between rows at to) (at_origin None) ∙ length-rows_between rows at to rise inside
length-until rows at to source (block ∷ blocks) rise inside =
    let order = rise_to block.to blocks to rise.2 in
    let a = map (at_origin None) (rows_between rows at block.from) in
    let b = rows_along source 0 (rows_between rows block.from block.to) in
    let c = rows_until rows block.to to (source + 1) blocks in
    let first : length a ≡ block.from - at = length-map (rows_between rows at block.from) (at_origin None) ∙ length-rows_between rows at block.from rise.0 (omega (arith, rise.1, order)) in
    let second : length b ≡ block.to - block.from = length-along source 0 (rows_between rows block.from block.to) ∙ length-rows_between rows block.from block.to rise.1 (omega (arith, order)) in
    let third : length c ≡ to - block.to = length-until rows block.to to (source + 1) blocks rise.2 inside in
    let sums = length-append a (b ++ c) in
    let more = length-append b c in
    omega (arith, first, second, third, sums, more, order, rise.0, rise.1)
