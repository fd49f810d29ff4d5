-- Tunes that are replaced, one by one.
use Rattle.std.proofs.Common.{◌≡◌, ℕ, suc, ◌+◌, ◌-◌, ◌<◌, ◌≤◌, List, [], ◌∷◌, ◌++◌, All, map, length, take, drop, set}
use Rattle.std.proofs.Common.{get_or, refl, sym, ◌∙◌, ap, subst, arith, add-one, append_assoc, length-append}
use Rattle.std.proofs.Math.Seq.{drop-append_seam, drop-cons, take-append_seam}
use Rattle.std.proofs.lemmas.List.{drop-set-lt, length-take-le, take_more_set, take-append-drop}
use Rattle.abc_book.specs.declared.block.Block.{Block}
use Rattle.abc_lines.specs.ItemRange.{removed_count}
use Rattle.abc_live_text.specs.Pieces.{LiesWithin}
use Rattle.abc_live_text.specs.KeptText.{LiesAfter, block_after}
use Rattle.abc_live_text.specs.declared.stretch.Stretch.{Stretch}

-- The one at a place, and those after it.
cut_at : {X : Type 0} (xs : List X) (i : ℕ) (x : X) → i < length xs → x ≡ get_or xs i x → drop i xs ≡ x ∷ drop (i + 1) xs
cut_at xs i x inside is = drop-cons xs i x inside ∙ (λ j. sym is j ∷ drop (sym (add-one i) j) xs)

-- One more that is moved in its place, and those that are still to be moved.
pub move_more : {X : Type 0} (f : X → X) (xs next : List X) (i : ℕ) (x : X) → next ≡ set xs i (f x) → i < length xs → x ≡ get_or xs i x
    → take (i + 1) next ++ map f (drop (i + 1) next) ≡ take i xs ++ map f (drop i xs)
move_more f xs next i x put inside is =
    let there : take (i + 1) next ≡ take i xs ++ f x ∷ [] = ap (take (i + 1)) put ∙ take_more_set xs i (f x) inside in
    let following : drop (i + 1) next ≡ drop (i + 1) xs = ap (drop (i + 1)) put ∙ drop-set-lt (i + 1) xs i (f x) (omega arith) in
    ap (λ l. l ++ map f (drop (i + 1) next)) there
    ∙ append_assoc (take i xs) (f x ∷ []) (map f (drop (i + 1) next))
    ∙ ap (λ l. take i xs ++ (f x ∷ map f l)) following
    ∙ ap (λ l. take i xs ++ map f l) (sym (cut_at xs i x inside is))

-- A tune after a stretch stays if as many lines came as went.
stays : (stretch : Stretch) (block : Block) → removed_count stretch.lines ≡ stretch.lines.came → LiesAfter stretch block → block.from ≤ block.to → block ≡ block_after stretch block
stays stretch block same beyond order =
    let from : block.from ≡ block.from - removed_count stretch.lines + stretch.lines.came = omega (arith, same, beyond) in
    let to : block.to ≡ block.to - removed_count stretch.lines + stretch.lines.came = omega (arith, same, beyond, order) in
    (λ j. record { kind = block.kind; from = from j; to = to j })

all_stay : (stretch : Stretch) (blocks : List Block) → removed_count stretch.lines ≡ stretch.lines.came → All (LiesAfter stretch) blocks
    → All (λ block. block.from ≤ block.to) blocks → blocks ≡ map (block_after stretch) blocks
all_stay stretch [] same beyond order = refl
all_stay stretch (block ∷ blocks) same beyond order =
    let one = stays stretch block same (beyond 0 block (omega arith)) (order 0 block (omega arith)) in
    let rest = all_stay stretch blocks same (λ i d l. beyond (suc i) d (omega arith)) (λ i d l. order (suc i) d (omega arith)) in
    (λ j. one j ∷ rest j)

-- Tunes stay if as many lines came as went.
pub none_moves : (stretch : Stretch) (tunes : List Block) (most : ℕ) → removed_count stretch.lines ≡ stretch.lines.came
    → All (LiesAfter stretch) (drop stretch.tunes.to tunes) → All (LiesWithin most) (drop stretch.tunes.to tunes)
    → tunes ≡ take stretch.tunes.to tunes ++ map (block_after stretch) (drop stretch.tunes.to tunes)
none_moves stretch tunes most same beyond within =
    sym (take-append-drop stretch.tunes.to tunes)
    ∙ ap (λ l. take stretch.tunes.to tunes ++ l) (all_stay stretch (drop stretch.tunes.to tunes) same beyond (λ i d l. (within i d l).0))

-- What holds of all after a place holds of the one there, and of those after it when another one is put there.
pub one_after : {X : Type 0} (P : X → Type 0) (xs : List X) (i : ℕ) (x : X) → All P (drop i xs) → i < length xs → x ≡ get_or xs i x → P x
one_after P xs i x all inside is =
    let own : All P (x ∷ drop (i + 1) xs) = subst (All P) (cut_at xs i x inside is) all in
    own 0 x (omega arith)

pub rest_after : {X : Type 0} (P : X → Type 0) (xs next : List X) (i : ℕ) (x y : X) → next ≡ set xs i y → All P (drop i xs) → i < length xs → x ≡ get_or xs i x → All P (drop (i + 1) next)
rest_after P xs next i x y put all inside is =
    let own : All P (x ∷ drop (i + 1) xs) = subst (All P) (cut_at xs i x inside is) all in
    subst (All P) (sym (ap (drop (i + 1)) put ∙ drop-set-lt (i + 1) xs i y (omega arith))) (λ k d l. own (suc k) d (omega (arith, l)))

-- Tunes that lie within some lines lie within more.
-- The tunes of the stretch are put, and then those after it are moved.
pub put_and_moved : {X : Type 0} (f : X → X) (old places : List X) (front following : ℕ) → front + length places ≡ following → following ≤ length old
    → take following (take front old ++ (places ++ drop following old)) ++ map f (drop following (take front old ++ (places ++ drop following old)))
    ≡ take front old ++ (places ++ map f (drop following old))
put_and_moved f old places front following count inside =
    let whole = take front old ++ (places ++ drop following old) in
    let parts : whole ≡ (take front old ++ places) ++ drop following old = sym (append_assoc (take front old) places (drop following old)) in
    let long : length (take front old ++ places) ≡ following =
    let a = length-append (take front old) places in let b = length-take-le front old (omega (arith, count, inside)) in omega (arith, a, b, count) in
    let begin : take following whole ≡ take front old ++ places = ap (take following) parts
    ∙ ap (λ n. take n ((take front old ++ places) ++ drop following old)) (sym long) ∙ take-append_seam (take front old ++ places) (drop following old) in
    let end : drop following whole ≡ drop following old = ap (drop following) parts
    ∙ ap (λ n. drop n ((take front old ++ places) ++ drop following old)) (sym long) ∙ drop-append_seam (take front old ++ places) (drop following old) in
    (λ j. begin j ++ map f (end j)) ∙ append_assoc (take front old) places (map f (drop following old))
