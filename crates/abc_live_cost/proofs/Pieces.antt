-- A tune is untouched by its pieces exactly if it is by its lines.
use Rattle.std.proofs.Common.{◌≡◌, ℕ, suc, ◌+◌, ◌≤◌, ◌==◌, ◌&&◌, ◌||◌, inl, inr, true, false, Bool, List, [], ◌∷◌, ◌++◌, map}
use Rattle.std.proofs.Common.{drop, length, slice_get, Option, Some, None, option_map, option_and_then, find, flat_map, refl, sym}
use Rattle.std.proofs.Common.{ap, ◌∙◌, subst, ⊎_elim, arith, add-zero, zero-add}
use Rattle.std.specs.List.{list_any}
use Rattle.std.proofs.lemmas.Bool.{cases_Bool, eq-eqb, eqb-true, and_from, and_parts, false_from_ne_true}
use Rattle.std.proofs.lemmas.List.{map-append, length-map}
use Rattle.std.specs.Option.{option_flatten}
use Rattle.abc_lines.specs.Text.{Text, Splice}
use Rattle.abc_tune_compiler.specs.Tune.{lines_in}
use Rattle.abc_book.specs.declared.block.Block.{Block}
use Rattle.abc_fold.specs.Steps.{Steps, state_after}
use Rattle.abc_live_cost.specs.Layout.{Layout, FoldedBlock, header_chain, tune_chains, chains_of, LiesInOrder}
use Rattle.abc_live_cost.specs.Spot.{Spot, spots_in_line, spots_along, spots_of}
use Rattle.abc_live_cost.specs.FreshCells.{old_line, is_line, is_carried_from, are_carried_from}
use Rattle.abc_live_cost.specs.Past.{Past, rows_of, pasts, past_at, first_past, first_row, rest}
use Rattle.abc_live_cost.specs.Pieces.{pasts_beside, pasts_over, pasts_of_chain, is_place, are_places}
use Rattle.abc_live_cost.specs.Laws.{PiecesDecide}
use Rattle.abc_live_cost.proofs.Lists.{row_drop}
use Rattle.abc_live_cost.proofs.AllCells.{Full, as_past, as_spot, is_at, full_line, full_along, full_of, along_spots}
use Rattle.abc_live_cost.proofs.Rows.{rows_hold, carried_rows}
use Rattle.abc_live_cost.proofs.FreshCounts.{first_get, rest_get, rest_row, first_row_at, fresh_of_chain}
use Rattle.abc_live_cost.proofs.CellOrder.{In, Rising, SourcesRise, in_left, in_right, chains_rise, found_in, found_at_line}
use Rattle.abc_live_cost.proofs.CellOrder.{found_at_place, is_of}

-- the pieces are the look-ups of the spots

abbrev pub look : {State : Type 0} → (ℕ → ℕ → Option (Past State)) → Spot State → Option (Past State)
look past spot = past spot.line spot.nth

pieces_line : {State Cell : Type 0} (next : State → Cell → State) (past : ℕ → ℕ → Option (Past State)) (line nth : ℕ)
    (state : State) (cells : List Cell) (row : List (Option (Past State)))
    → ((k : ℕ) → past line (nth + k) ≡ option_flatten (slice_get row k)) → pasts_beside cells row ≡ map (look past) (spots_in_line next line nth state cells)
pieces_line next past line nth state [] row h = refl
pieces_line next past line nth state (cell ∷ cells) row h =
    let here : first_past row ≡ past line nth = sym (ap (λ m. past line m) (omega arith) ∙ (h 0 ∙ first_get row)) in
    let more : pasts_beside cells (rest row) ≡ map (look past) (spots_in_line next line (nth + 1) (next state cell) cells) =
    pieces_line next past line (nth + 1) (next state cell) cells (rest row) (λ k. ap (λ m. past line m) (omega arith) ∙ (h (suc k) ∙ ap option_flatten (sym (rest_get row k)))) in
    λ i. here i ∷ more i

pieces_along : {State Cell Items : Type 0} (steps : Steps State Cell Items) (read : List ℕ → List Cell)
    (past : ℕ → ℕ → Option (Past State)) (line : ℕ) (state : State) (lines : Text) (rows : List (List (Option (Past State))))
    → ((i k : ℕ) → past (line + i) k ≡ past_at rows i k) → pasts_over read lines rows ≡ map (look past) (spots_along steps read line state lines)
pieces_along steps read past line state [] rows h = refl
pieces_along steps read past line state (bytes ∷ lines) rows h =
    let cells = read bytes in
    let here : pasts_beside cells (first_row rows) ≡ map (look past) (spots_in_line steps.next line 0 state cells) =
    pieces_line steps.next past line 0 state cells (first_row rows)
    (λ k. ap (λ m. past m (0 + k)) (omega arith) ∙ (ap (λ m. past (line + 0) m) (zero-add k) ∙ (h 0 k ∙ ap (λ row. option_flatten (slice_get row k)) (first_row_at rows)))) in
    let more : pasts_over read lines (rest rows) ≡ map (look past) (spots_along steps read (line + 1) (state_after steps.next state cells) lines) =
    pieces_along steps read past (line + 1) (state_after steps.next state cells) lines (rest rows)
    (λ i k. ap (λ m. past m k) (omega arith) ∙ (h (suc i) k ∙ ap (λ row. option_flatten (slice_get row k)) (sym (rest_row rows i)))) in
    (λ i. here i ++ more i)
    ∙ sym (map-append (look past) (spots_in_line steps.next line 0 state cells) (spots_along steps read (line + 1) (state_after steps.next state cells) lines))

pub pasts_of_chain-pieces : {State Cell Items : Type 0} (steps : Steps State Cell Items) (read : List ℕ → List Cell) (text : Text)
    (rows : List (List (Option (Past State)))) (chain : FoldedBlock State) → pasts_of_chain read text rows chain ≡ map (look (past_at rows)) (spots_of steps read text chain)
pasts_of_chain-pieces steps read text rows chain = pieces_along steps read (past_at rows) chain.block.from chain.opening
    (lines_in text chain.block) (drop chain.block.from rows) (λ i k. ap (λ row. option_flatten (slice_get row k)) (sym (row_drop chain.block.from rows i)))

-- cells of one chain, one after another, each in a list

abbrev pub Follow : {State : Type 0} → List (Full State) → ℕ → ℕ → List (Full State) → Type 0
Follow all source place [] = Unit {0}
Follow all source place (w ∷ ws) = ((w.source ≡ source) × (w.place ≡ place) × In w all) × Follow all source (place + 1) ws

-- numbers of chains rise, and the tunes are among the chains

sources_from : {State : Type 0} (source : ℕ) (opening : State) (blocks : List Block) → SourcesRise source (tune_chains source opening blocks)
sources_from source opening [] = tt
sources_from source opening (block ∷ blocks) = (omega arith, sources_from (source + 1) opening blocks)

pub sources_rise : {State : Type 0} (layout : Layout State) → SourcesRise 0 (chains_of layout)
sources_rise layout = by_header layout.header
  where
    low : {State : Type 0} (chains : List (FoldedBlock State)) → SourcesRise 1 chains → SourcesRise 0 chains
    low [] h = tt
    low (chain ∷ chains) h = let a : 1 ≤ chain.source = h.0 in (omega arith, h.1)

    by_header : (header : Option Block) → SourcesRise 0 (header_chain layout.first header ++ tune_chains 1 layout.opening layout.tunes)
    by_header None = low (tune_chains 1 layout.opening layout.tunes) (sources_from 1 layout.opening layout.tunes)
    by_header (Some block) = (omega arith, sources_from 1 layout.opening layout.tunes)

line_follows : {State Cell : Type 0} (all : List (Full State)) (next : State → Cell → State) (line nth source place : ℕ)
    (state : State) (cells : List Cell) (others : List (Full State))
    → ((w : Full State) → In w (full_line next line nth source place state cells) → In w all)
    → Follow all source (place + length cells) others → Follow all source place (full_line next line nth source place state cells ++ others)
line_follows all next line nth source place state [] others h k = subst (λ n. Follow all source n others) (add-zero place) k
line_follows all next line nth source place state (cell ∷ cells) others h k =
    let n : place + length (cell ∷ cells) ≡ place + 1 + length cells = omega arith in
    ((refl, refl, h _ (inl refl)), line_follows all next line (nth + 1) source (place + 1) (next state cell) cells others (λ w m. h w (inr m)) (subst (λ n. Follow all source n others) n k))

pub along_follows : {State Cell Items : Type 0} (all : List (Full State)) (steps : Steps State Cell Items)
    (read : List ℕ → List Cell) (line source place : ℕ) (state : State) (lines : Text)
    → ((w : Full State) → In w (full_along steps read line source place state lines) → In w all) → Follow all source place (full_along steps read line source place state lines)
along_follows all steps read line source place state [] h = tt
along_follows all steps read line source place state (bytes ∷ lines) h =
    let cells = read bytes in
    let front = full_line steps.next line 0 source place state cells in
    let others = full_along steps read (line + 1) source (place + length cells) (state_after steps.next state cells) lines in
    line_follows all steps.next line 0 source place state cells others (λ w m. h w (in_left w front others m))
    (along_follows all steps read (line + 1) source (place + length cells) (state_after steps.next state cells) lines (λ w m. h w (in_right w front others m)))

pub in_flat : {A B : Type 0} (g : A → List B) (x : A) (xs : List A) (w : B) → In x xs → In w (g x) → In w (flat_map g xs)
in_flat g x [] w h k = absurd h
in_flat g x (y ∷ ys) w h k = ⊎_elim
    (λ (e : y ≡ x). in_left w (g y) (flat_map g ys) (subst (λ z. In w (g z)) (sym e) k))
    (λ (m : In x ys). in_right w (g y) (flat_map g ys) (in_flat g x ys w m k))
    h

pub chain_follows : {State Cell Items : Type 0} (steps : Steps State Cell Items) (read : List ℕ → List Cell) (text : Text)
    (chains : List (FoldedBlock State)) (was : FoldedBlock State) → In was chains → Follow (flat_map (full_of steps read text) chains) was.source 0 (full_of steps read text was)
chain_follows steps read text chains was h =
    along_follows (flat_map (full_of steps read text) chains) steps read was.block.from was.source 0 was.opening (lines_in text was.block) (λ w m. in_flat (full_of steps read text) was chains w h m)

-- one piece

same_tests : (a b : Bool) → (a ≡ true → b ≡ true) → (b ≡ true → a ≡ true) → a ≡ b
same_tests a b h k = ⊎_elim (λ (e : a ≡ true). e ∙ sym (h e)) (λ (e : a ≡ false). e ∙ sym (false_from_ne_true b (λ m. cc (k m)))) (cases_Bool a)

place_some : {State : Type 0} (source place : ℕ) (o : Option (Full State)) → is_place source place (option_map as_past o) ≡ true
    → (x : Full State) × (o ≡ Some x) × (x.source ≡ source) × (x.place ≡ place)
place_some source place None h = absurd (cc)
place_some source place (Some x) h = let both = and_parts (x.source == source) (x.place == place) h in (x, refl, eqb-true x.source source both.0, eqb-true x.place place both.1)

pub is_place-one : {State : Type 0} (all : List (Full State)) (w : Full State) (m k : ℕ) → Rising all → In w all
    → is_place w.source w.place (option_map as_past (find (is_at m k) all)) ≡ ((m == w.line) && (k == w.nth))
is_place-one all w m k h i = same_tests _ _
    (λ e.
    let some = place_some w.source w.place (find (is_at m k) all) e in
    let x = some.0 in
    let there = found_in (is_at m k) x all some.1 in
    let both = and_parts (x.line == m) (x.nth == k) there.1 in
    let mine : find (is_of x.source x.place) all ≡ Some x = found_at_place x all h there.0 in
    let its : find (is_of w.source w.place) all ≡ Some w = found_at_place w all h i in
    let join : find (is_of x.source x.place) all ≡ find (is_of w.source w.place) all = λ j. find (is_of (some.2 j) (some.3 j)) all in
    let one : x ≡ w = cc in
    and_from (m == w.line) (k == w.nth)
    (eq-eqb m w.line (sym (eqb-true x.line m both.0) ∙ ap (λ y. y.line) one))
    (eq-eqb k w.nth (sym (eqb-true x.nth k both.1) ∙ ap (λ y. y.nth) one)))
    (λ e.
    let both = and_parts (m == w.line) (k == w.nth) e in
    let a : m ≡ w.line = eqb-true m w.line both.0 in
    let b : k ≡ w.nth = eqb-true k w.nth both.1 in
    let here : find (is_at m k) all ≡ Some w = (λ j. find (is_at (a j) (b j)) all) ∙ found_at_line w all h i in
    ap (λ o. is_place w.source w.place (option_map as_past o)) here ∙ and_from (w.source == w.source) (w.place == w.place) (eq-eqb w.source w.source refl) (eq-eqb w.place w.place refl))

-- all pieces

spot_piece : {State Cell Items : Type 0} (steps : Steps State Cell Items) (read : List ℕ → List Cell) (old : Layout State)
    (s : Splice) (spot : Spot State) (w : Full State) → LiesInOrder old → s.at + s.removed ≤ length old.text
    → In w (flat_map (full_of steps read old.text) (chains_of old)) → is_place w.source w.place (look (past_at (pasts steps read old s)) spot) ≡ is_carried_from s spot (as_spot w)
spot_piece {State = State} steps read old s spot w h inside i =
    let all = flat_map (full_of steps read old.text) (chains_of old) in
    let rises = chains_rise steps read old.text 0 0 (chains_of old) (length old.text) h (sources_rise old) in
    let by : (o : Option ℕ) → is_place w.source w.place (option_and_then (λ m. past_at (rows_of steps read old) m spot.nth) o) ≡ (is_line w.line o && (spot.nth == w.nth)) =
    λ o. elim o as (λ o. is_place w.source w.place (option_and_then (λ m. past_at (rows_of steps read old) m spot.nth) o) ≡ (is_line w.line o && (spot.nth == w.nth))) [
      | None ↦ refl
      | Some m ↦ ap (is_place w.source w.place) (sym (rows_hold steps read old m spot.nth h)) ∙ is_place-one all w m spot.nth rises i
    ] in
    ap (is_place w.source w.place) (carried_rows steps read old s spot.line spot.nth h inside) ∙ by (old_line s spot.line)

pub are_places-all : {State Cell Items : Type 0} (steps : Steps State Cell Items) (read : List ℕ → List Cell) (old : Layout State)
    (s : Splice) (source place : ℕ) (spots : List (Spot State)) (ws : List (Full State)) → LiesInOrder old
    → s.at + s.removed ≤ length old.text → Follow (flat_map (full_of steps read old.text) (chains_of old)) source place ws
    → are_places source place (length ws) (map (look (past_at (pasts steps read old s))) spots) ≡ are_carried_from s spots (map as_spot ws)
are_places-all steps read old s source place [] [] h inside k = refl
are_places-all steps read old s source place [] (w ∷ ws) h inside k = refl
are_places-all steps read old s source place (spot ∷ spots) [] h inside k = refl
are_places-all steps read old s source place (spot ∷ spots) (w ∷ ws) h inside k =
    let here : is_place source place (look (past_at (pasts steps read old s)) spot) ≡ is_carried_from s spot (as_spot w) =
    (λ i. is_place (sym k.0.0 i) (sym k.0.1 i) (look (past_at (pasts steps read old s)) spot)) ∙ spot_piece steps read old s spot w h inside k.0.2 in
    let more = are_places-all steps read old s source (place + 1) spots ws h inside k.1 in
    λ i. here i && more i

pub are_places-tune : {State Cell Items : Type 0} (steps : Steps State Cell Items) (read : List ℕ → List Cell) (old : Layout State)
    (s : Splice) (text : Text) (chain was : FoldedBlock State) → LiesInOrder old → s.at + s.removed ≤ length old.text
    → In was (chains_of old) → are_places was.source 0 (length (spots_of steps read old.text was))
    (pasts_of_chain read text (pasts steps read old s) chain) ≡ are_carried_from s (spots_of steps read text chain) (spots_of steps read old.text was)
are_places-tune steps read old s text chain was h inside i =
    let ws = full_of steps read old.text was in
    let spots = along_spots steps read was.block.from was.source 0 was.opening (lines_in old.text was.block) in
    let count : length (spots_of steps read old.text was) ≡ length ws = ap length (sym spots) ∙ length-map ws as_spot in
    (λ j. are_places was.source 0 (count j) (pasts_of_chain-pieces steps read text (pasts steps read old s) chain j))
    ∙ (are_places-all steps read old s was.source 0 (spots_of steps read text chain) ws h inside (chain_follows steps read old.text (chains_of old) was i)
    ∙ ap (are_carried_from s (spots_of steps read text chain)) spots)

any_alike : {A : Type 0} (p q : A → Bool) (xs : List A) → ((x : A) → In x xs → p x ≡ q x) → list_any p xs ≡ list_any q xs
any_alike p q [] h = refl
any_alike p q (x ∷ xs) h = let here = h x (inl refl) in let more = any_alike p q xs (λ y m. h y (inr m)) in λ i. here i || more i

pub pieces_decide : {State Cell Items : Type 0} → PiecesDecide State Cell Items
pieces_decide steps read old s text chain h inside =
    let count = fresh_of_chain steps read old s text chain h inside in
    let tunes = tune_chains 1 old.opening old.tunes in
    let any = any_alike
    (λ tune. are_places tune.source 0 (length (spots_of steps read old.text tune)) (pasts_of_chain read text (pasts steps read old s) chain))
    (λ tune. are_carried_from s (spots_of steps read text chain) (spots_of steps read old.text tune))
    tunes
    (λ was m. are_places-tune steps read old s text chain was h inside (in_right was (header_chain old.first old.header) tunes m)) in
    λ i. (count i == 0) && any i
