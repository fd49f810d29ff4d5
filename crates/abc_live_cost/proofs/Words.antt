-- The other wordings mean the same.
use Rattle.std.proofs.Common.{◌≡◌, ℕ, zero, suc, ◌+◌, ◌-◌, ◌<◌, ◌≤◌, ◌==◌, ◌&&◌, ◌⊎◌, inl, inr, true, false, Bool, List, [], ◌∷◌}
use Rattle.std.proofs.Common.{◌++◌, map, drop, filter, length, slice_get, None, option_map, find, flat_map, refl, sym, ap, ◌∙◌}
use Rattle.std.proofs.Common.{subst, ⊎_elim, arith, append-nil}
use Rattle.std.proofs.lemmas.Bool.{cases_Bool, cases_lt, cases_eq, eq-eqb, ne_eqb, and_left}
use Rattle.std.proofs.lemmas.List.{map-append, length-map, length-take}
use Rattle.std.proofs.lemmas.List.Elements.{filter-append}
use Rattle.abc_lines.specs.Text.{Text}
use Rattle.abc_tune_compiler.specs.Tune.{lines_in}
use Rattle.abc_book.specs.declared.block.Block.{Block}
use Rattle.abc_book.proofs.Rising.{blocks_rise}
use Rattle.abc_book.specs.Laws.{RiseFromTo}
use Rattle.abc_book.specs.declared.block.Block.{Block}
use Rattle.abc_book.specs.declared.block.BlockKind.{BlockKind}
use Rattle.abc_book.specs.declared.block.BlockKind.TheVariants.{FileHeader, Tune, Free}
use Rattle.abc_tune_compiler.specs.Book.{blocks_in, header_in, is_file_header, is_tune, opening_of, tunes_in}
use Rattle.abc_tune_compiler.specs.Placed.{Placed, placed_at, cells_from, items_along}
use Rattle.abc_fold.specs.Steps.{Steps, state_after}
use Rattle.abc_live_cost.specs.Layout.{header_chain, FoldedBlock, tune_chains, chains_of, ChainsRise}
use Rattle.abc_live_cost.specs.Spot.{Spot, spots_in_line, spots_along, spots_of, is_spot_at}
use Rattle.abc_live_cost.specs.Laws.{ChainsLieInOrder, EnteredAreItems, NthOfLine}
use Rattle.abc_live_cost.proofs.Lists.{find_after, find_before}

-- entered states are items

line_items : {State Cell : Type 0} (next : State → Cell → State) (line nth : ℕ) (state : State) (cells : List Cell)
    (others : List (Placed Cell)) → items_along next (λ entered cell. entered) state (map (placed_at line) cells ++ others) ≡ map
    (λ spot. placed_at spot.line spot.entered) (spots_in_line next line nth state cells) ++ items_along next (λ entered cell. entered) (state_after next state cells) others
line_items next line nth state [] others = refl
line_items next line nth state (cell ∷ cells) others = ap (λ l. placed_at line state ∷ l) (line_items next line (nth + 1) (next state cell) cells others)

pub entered_are_items : {State Cell Items : Type 0} → EnteredAreItems State Cell Items
entered_are_items steps read line state [] = refl
entered_are_items {State = State} steps read line state (bytes ∷ lines) =
    let cells = read bytes in
    map-append (λ (spot : Spot State). placed_at spot.line spot.entered) (spots_in_line steps.next line 0 state cells) (spots_along steps read (line + 1) (state_after steps.next state cells) lines)
    ∙ (ap (λ l. map (λ (spot : Spot State). placed_at spot.line spot.entered) (spots_in_line steps.next line 0 state cells) ++ l)
    (entered_are_items steps read (line + 1) (state_after steps.next state cells) lines)
    ∙ sym (line_items steps.next line 0 state cells (cells_from read (line + 1) lines)))

-- the nth of a line

abbrev in_line : {State : Type 0} → ℕ → Spot State → Bool
in_line n spot = spot.line == n

abbrev Alike : {State : Type 0} → ℕ → ℕ → List (Spot State) → Type 0
Alike n k spots = slice_get (map (λ spot. spot.entered) (filter (in_line n) spots)) k ≡ option_map (λ spot. spot.entered) (find (is_spot_at n k) spots)

-- nothing of another line
pub record Nothing {State : Type 0} (n : ℕ) (spots : List (Spot State)) : Type 0 where
  pub kept : filter (in_line n) spots ≡ []
  pub found : (k : ℕ) → find (is_spot_at n k) spots ≡ None

nothing_both : {State : Type 0} (n : ℕ) (xs ys : List (Spot State)) → Nothing n xs → Nothing n ys → Nothing n (xs ++ ys)
nothing_both n xs ys h k = record {
  kept = filter-append (in_line n) xs ys ∙ ((λ i. h.kept i ++ filter (in_line n) ys) ∙ k.kept);
  found = λ j. find_after (is_spot_at n j) xs ys (h.found j) ∙ k.found j;
}

alike_after : {State : Type 0} (n k : ℕ) (xs ys : List (Spot State)) → Nothing n xs → Alike n k ys → Alike n k (xs ++ ys)
alike_after {State = State} n k xs ys h e =
    let a : filter (in_line n) (xs ++ ys) ≡ filter (in_line n) ys = filter-append (in_line n) xs ys ∙ ap (λ l. l ++ filter (in_line n) ys) h.kept in
    ap (λ l. slice_get (map (λ (spot : Spot State). spot.entered) l) k) a ∙ (e ∙ ap (option_map (λ (spot : Spot State). spot.entered)) (sym (find_after (is_spot_at n k) xs ys (h.found k))))

alike_before : {State : Type 0} (n k : ℕ) (xs ys : List (Spot State)) → Alike n k xs → Nothing n ys → Alike n k (xs ++ ys)
alike_before {State = State} n k xs ys e h =
    let a : filter (in_line n) (xs ++ ys) ≡ filter (in_line n) xs = filter-append (in_line n) xs ys ∙ (ap (λ l. filter (in_line n) xs ++ l) h.kept ∙ append-nil (filter (in_line n) xs)) in
    ap (λ l. slice_get (map (λ (spot : Spot State). spot.entered) l) k) a ∙ (e ∙ ap (option_map (λ (spot : Spot State). spot.entered)) (sym (find_before (is_spot_at n k) xs ys (h.found k))))

other_line : {State Cell : Type 0} (next : State → Cell → State) (line nth : ℕ) (state : State) (cells : List Cell) (n : ℕ) → (line ≡ n → ⊥) → Nothing n (spots_in_line next line nth state cells)
other_line next line nth state [] n h = record { kept = refl; found = λ k. refl }
other_line next line nth state (cell ∷ cells) n h =
    let more = other_line next line (nth + 1) (next state cell) cells n h in
    let miss : (line == n) ≡ false = ne_eqb line n h in
    record { kept = simp miss more.kept; found = λ k. let neither : ((line == n) && (nth == k)) ≡ false = and_left (line == n) (nth == k) miss in simp neither (more.found k) }

same_line : {State Cell : Type 0} (next : State → Cell → State) (line nth : ℕ) (state : State) (cells : List Cell) (k : ℕ)
    → slice_get (map (λ spot. spot.entered) (filter (in_line line) (spots_in_line next line nth state cells))) k
    ≡ option_map (λ spot. spot.entered) (find (is_spot_at line (nth + k)) (spots_in_line next line nth state cells))
same_line next line nth state [] k = refl
same_line next line nth state (cell ∷ cells) zero =
    let a : (line == line) ≡ true = eq-eqb line line refl in
    let b : (nth == nth + 0) ≡ true = eq-eqb nth (nth + 0) (omega arith) in
    simp (a, b)
same_line {State = State} next line nth state (cell ∷ cells) (suc k) =
    let a : (line == line) ≡ true = eq-eqb line line refl in
    let b : (nth == nth + suc k) ≡ false = ne_eqb nth (nth + suc k) (λ e. omega arith) in
    let here : nth + suc k ≡ nth + 1 + k = omega arith in
    let more : slice_get (map (λ (spot : Spot State). spot.entered)
    (filter (in_line line) (spots_in_line next line (nth + 1) (next state cell) cells))) k ≡ option_map
    (λ (spot : Spot State). spot.entered) (find (is_spot_at line (nth + suc k)) (spots_in_line next line (nth + 1) (next state cell) cells)) =
    same_line next line (nth + 1) (next state cell) cells k ∙ ap
    (λ m. option_map (λ (spot : Spot State). spot.entered) (find (is_spot_at line m) (spots_in_line next line (nth + 1) (next state cell) cells))) (sym here) in
    simp (a, b) more

outside : {State Cell Items : Type 0} (steps : Steps State Cell Items) (read : List ℕ → List Cell) (line : ℕ) (state : State)
    (lines : Text) (n : ℕ) → (n < line) ⊎ (line + length lines ≤ n) → Nothing n (spots_along steps read line state lines)
outside steps read line state [] n h = record { kept = refl; found = λ k. refl }
outside steps read line state (bytes ∷ lines) n h =
    let cells = read bytes in
    nothing_both n (spots_in_line steps.next line 0 state cells) (spots_along steps read (line + 1) (state_after steps.next state cells) lines)
    (other_line steps.next line 0 state cells n (λ e. ⊎_elim (λ (l : n < line). omega arith) (λ (l : line + length (bytes ∷ lines) ≤ n). omega arith) h))
    (outside steps read (line + 1) (state_after steps.next state cells) lines n
    (⊎_elim (λ (l : n < line). let below : n < line + 1 = omega arith in inl below)
    (λ (l : line + length (bytes ∷ lines) ≤ n). let past : line + 1 + length lines ≤ n = omega arith in inr past) h))

along_alike : {State Cell Items : Type 0} (steps : Steps State Cell Items) (read : List ℕ → List Cell) (line : ℕ) (state : State)
    (lines : Text) (n k : ℕ) → Alike n k (spots_along steps read line state lines)
along_alike steps read line state [] n k = refl
along_alike {State = State} steps read line state (bytes ∷ lines) n k =
    let cells = read bytes in
    let front = spots_in_line steps.next line 0 state cells in
    let others = spots_along steps read (line + 1) (state_after steps.next state cells) lines in
    ⊎_elim
    (λ (e : line ≡ n).
    let zero_add : 0 + k ≡ k = omega arith in
    let own : Alike line k front = same_line steps.next line 0 state cells k ∙ ap (λ m. option_map (λ (spot : Spot State). spot.entered) (find (is_spot_at line m) front)) zero_add in
    alike_before n k front others (subst (λ m. Alike m k front) e own)
    (outside steps read (line + 1) (state_after steps.next state cells) lines n (let below : n < line + 1 = omega arith in inl below)))
    (λ (e : line ≡ n → ⊥). alike_after n k front others (other_line steps.next line 0 state cells n e) (along_alike steps read (line + 1) (state_after steps.next state cells) lines n k))
    (cases_eq line n)

before_chains : {State Cell Items : Type 0} (steps : Steps State Cell Items) (read : List ℕ → List Cell) (text : Text) (first : ℕ)
    (chains : List (FoldedBlock State)) (last n : ℕ) → ChainsRise first chains last → n < first → Nothing n (flat_map (spots_of steps read text) chains)
before_chains steps read text first [] last n h below = record { kept = refl; found = λ k. refl }
before_chains steps read text first (chain ∷ chains) last n h below =
    let a : first ≤ chain.block.from = h.0 in
    let b : chain.block.from ≤ chain.block.to = omega (arith, h.1) in
    let c : n < chain.block.from = omega arith in
    nothing_both n (spots_of steps read text chain) (flat_map (spots_of steps read text) chains)
    (outside steps read chain.block.from chain.opening (lines_in text chain.block) n (inl c))
    (before_chains steps read text chain.block.to chains last n h.2 (omega arith))

chains_alike : {State Cell Items : Type 0} (steps : Steps State Cell Items) (read : List ℕ → List Cell) (text : Text) (first : ℕ)
    (chains : List (FoldedBlock State)) (last n k : ℕ) → ChainsRise first chains last → Alike n k (flat_map (spots_of steps read text) chains)
chains_alike steps read text first [] last n k h = refl
chains_alike steps read text first (chain ∷ chains) last n k h =
    let b : chain.block.from ≤ chain.block.to = omega (arith, h.1) in
    let lines = lines_in text chain.block in
    let short = length-take (chain.block.to - chain.block.from) (drop chain.block.from text) in
    ⊎_elim
    (λ (l : n < chain.block.to). alike_before n k (spots_of steps read text chain) (flat_map (spots_of steps read text) chains)
    (along_alike steps read chain.block.from chain.opening lines n k) (before_chains steps read text chain.block.to chains last n h.2 l))
    (λ (l : chain.block.to ≤ n).
    let past : chain.block.from + length lines ≤ n = omega arith in
    alike_after n k (spots_of steps read text chain) (flat_map (spots_of steps read text) chains)
    (outside steps read chain.block.from chain.opening lines n (inr past)) (chains_alike steps read text chain.block.to chains last n k h.2))
    (cases_lt n chain.block.to)

pub nth_of_line : {State Cell Items : Type 0} → NthOfLine State Cell Items
nth_of_line steps read layout line nth h = chains_alike steps read layout.text 0 (chains_of layout) (length layout.text) line nth h

-- blocks that rise

lower : {State : Type 0} (low first : ℕ) (chains : List (FoldedBlock State)) (last : ℕ) → low ≤ first → ChainsRise first chains last → ChainsRise low chains last
lower low first [] last e h = omega arith
lower low first (chain ∷ chains) last e h = let a : first ≤ chain.block.from = h.0 in (omega arith, h.1, h.2)

tunes_lie : {State : Type 0} (source first : ℕ) (opening : State) (blocks : List Block) (last : ℕ) → RiseFromTo first blocks last → ChainsRise first (tune_chains source opening (tunes_in blocks)) last
tunes_lie source first opening [] last h = h
tunes_lie source first opening (block ∷ blocks) last h =
    let a : first ≤ block.from = h.0 in
    let b : block.from < block.to = h.1 in
    ⊎_elim
    (λ (e : is_tune block.kind ≡ true). simp e (a, b, tunes_lie (source + 1) block.to opening blocks last h.2))
    (λ (e : is_tune block.kind ≡ false). simp e (lower first block.to _ last (omega arith) (tunes_lie source block.to opening blocks last h.2)))
    (cases_Bool (is_tune block.kind))

no_tune : (kind : BlockKind) → is_file_header kind ≡ true → is_tune kind ≡ false
no_tune FileHeader h = refl
no_tune Tune h = absurd (cc)
no_tune Free h = refl

pub blocks_lie : {State : Type 0} (first opening : State) (blocks : List Block) (last : ℕ) → RiseFromTo 0 blocks last
    → ChainsRise 0 (header_chain first (header_in blocks) ++ tune_chains 1 opening (tunes_in blocks)) last
blocks_lie first opening [] last h = h
blocks_lie first opening (block ∷ blocks) last h =
    ⊎_elim
    (λ (e : is_file_header block.kind ≡ true). let other : is_tune block.kind ≡ false = no_tune block.kind e in simp (e, other) (h.0, h.1, tunes_lie 1 block.to opening blocks last h.2))
    (λ (e : is_file_header block.kind ≡ false). simp e (tunes_lie 1 0 opening (block ∷ blocks) last h))
    (cases_Bool (is_file_header block.kind))

pub chains_lie_in_order : {State Cell Items Defaults : Type 0} → ChainsLieInOrder State Cell Items Defaults
chains_lie_in_order steps rules text =
    let blocks = blocks_in rules text in
    blocks_lie rules.header (opening_of steps.next rules text blocks) blocks (length text)
    (subst (λ n. RiseFromTo 0 blocks n) (length-map text rules.class) (blocks_rise (map rules.class text)))
