-- Origins agree with pasts, and old chains hold the states of pasts.
use Rattle.std.proofs.Common.{◌≡◌, ℕ, zero, suc, ◌+◌, ◌-◌, ◌≤◌, min, List, [], ◌∷◌, ◌++◌, map, take, drop, length, slice_get}
use Rattle.std.proofs.Common.{Option, Some, None, option_map, option_and_then, flat_map, refl, sym, ap, ◌∙◌, arith, append_assoc}
use Rattle.std.proofs.Common.{take-append-drop, drop-drop}
use Rattle.std.proofs.lemmas.List.{map-append, length-map, length-take, length-append, take-map, drop-map}
use Rattle.std.proofs.lemmas.Option.{slice_get-map}
use Rattle.abc_lines.specs.Text.{Text, spliced}
use Rattle.abc_tune_compiler.specs.Tune.{lines_in}
use Rattle.abc_fold.specs.Steps.{Steps, states_from, state_after}
use Rattle.abc_live_cost.specs.Layout.{FoldedBlock, chains_of, ChainsRise}
use Rattle.abc_live_cost.specs.Spot.{Spot, spots_in_line, spots_along, spots_of}
use Rattle.abc_live_cost.specs.FreshCells.{old_line}
use Rattle.abc_live_cost.specs.Past.{Past, past_of, pasts_in_line, no_pasts, pasts_along, lines_between, rows_from, rows_of}
use Rattle.abc_live_cost.specs.Past.{row_at, past_at}
use Rattle.abc_live_cost.specs.Origin.{Origin, no_origins, origins_along, origins_from, origins_of, origins, addresses_from}
use Rattle.abc_live_cost.specs.Origin.{addresses, addresses_beside, address_of}
use Rattle.abc_live_cost.specs.KeptState.{cells_of, states_of}
use Rattle.abc_live_cost.specs.Laws.{OriginsAgree, PastsHaveStates}
use Rattle.abc_live_cost.proofs.Rows.{carried_rows}
use Rattle.abc_live_cost.proofs.SameCells.{cell_at, cells_of_chain, carried_line}
use Rattle.abc_live_cost.proofs.Steps.{Named, named}

-- origins agree with pasts

abbrev addressed : {State : Type 0} → List (List (Option (Past State))) → List (List (Option (ℕ × ℕ)))
addressed rows = map (λ row. map address_of row) rows

in_line : {State Cell : Type 0} (next : State → Cell → State) (source place : ℕ) (state : State) (cells : List Cell)
    → map address_of (pasts_in_line next source place state cells) ≡ addresses_from source place cells
in_line next source place state [] = refl
in_line next source place state (cell ∷ cells) = ap (λ l. Some (source, place) ∷ l) (in_line next source (place + 1) (next state cell) cells)

along : {State Cell Items : Type 0} (steps : Steps State Cell Items) (read : List ℕ → List Cell) (source place : ℕ) (state : State)
    (lines : Text) → addressed (pasts_along steps read (past_of source place state) lines) ≡ addresses_beside read (origins_along read source place lines) lines
along steps read source place state [] = refl
along steps read source place state (bytes ∷ lines) = λ i. in_line steps.next source place state (read bytes) i
    ∷ along steps read source (place + length (read bytes)) (state_after steps.next state (read bytes)) lines i

none_here : (State : Type 0) {Cell : Type 0} (cells : List Cell) → map (address_of {State = State}) (map (λ _. None) cells) ≡ map (λ _. None) cells
none_here State [] = refl
none_here State (cell ∷ cells) = ap (λ l. None ∷ l) (none_here State cells)

none_along : {State Cell Items : Type 0} (steps : Steps State Cell Items) (read : List ℕ → List Cell) (lines : Text)
    → addressed (map (no_pasts steps read) lines) ≡ addresses_beside read (no_origins lines) lines
none_along steps read [] = refl
none_along {State = State} steps read (bytes ∷ lines) = λ i. none_here State (read bytes) i ∷ none_along steps read lines i

beside_both : {State Cell Items : Type 0} (steps : Steps State Cell Items) (read : List ℕ → List Cell)
    (os ps : List (Option Origin)) (xs ys : Text) → length os ≡ length xs → addresses_beside read (os ++ ps) (xs ++ ys) ≡ addresses_beside read os xs ++ addresses_beside read ps ys
beside_both steps read [] ps [] ys e = refl
beside_both steps read [] ps (x ∷ xs) ys e = absurd (omega arith)
beside_both steps read (o ∷ os) ps [] ys e = absurd (omega arith)
beside_both steps read (o ∷ os) ps (x ∷ xs) ys e = ap (λ l. addresses o (read x) ∷ l) (beside_both steps read os ps xs ys (omega arith))

beside_take : {State Cell Items : Type 0} (steps : Steps State Cell Items) (read : List ℕ → List Cell) (n : ℕ)
    (os : List (Option Origin)) (xs : Text) → addresses_beside read (take n os) (take n xs) ≡ take n (addresses_beside read os xs)
beside_take steps read zero os xs = refl
beside_take steps read (suc n) [] xs = refl
beside_take steps read (suc n) (o ∷ os) [] = refl
beside_take steps read (suc n) (o ∷ os) (x ∷ xs) = ap (λ l. addresses o (read x) ∷ l) (beside_take steps read n os xs)

beside_drop : {State Cell Items : Type 0} (steps : Steps State Cell Items) (read : List ℕ → List Cell) (n : ℕ)
    (os : List (Option Origin)) (xs : Text) → addresses_beside read (drop n os) (drop n xs) ≡ drop n (addresses_beside read os xs)
beside_drop steps read zero os xs = refl
beside_drop steps read (suc n) [] xs = refl
beside_drop steps read (suc n) (o ∷ os) [] = beside_none (drop n os)
  where
    beside_none : (ps : List (Option Origin)) → addresses_beside read ps [] ≡ []
    beside_none [] = refl
    beside_none (p ∷ ps) = refl
beside_drop steps read (suc n) (o ∷ os) (x ∷ xs) = beside_drop steps read n os xs

length-origins_along : {State Cell Items : Type 0} (steps : Steps State Cell Items) (read : List ℕ → List Cell) (source place : ℕ)
    (lines : Text) → length (origins_along read source place lines) ≡ length lines
length-origins_along steps read source place [] = refl
length-origins_along steps read source place (bytes ∷ lines) = ap suc (length-origins_along steps read source (place + length (read bytes)) lines)

-- the lines from one on, cut at another
split : (text : Text) (at to : ℕ) → at ≤ to → drop at text ≡ lines_between text at to ++ drop to text
split text at to h =
    let here : at + (to - at) ≡ to = omega arith in
    sym (take-append-drop (to - at) (drop at text)) ∙ ap (λ l. lines_between text at to ++ l) (drop-drop (to - at) at text ∙ ap (λ n. drop n text) here)

rows_are : {State Cell Items : Type 0} (steps : Steps State Cell Items) (read : List ℕ → List Cell) (text : Text) (at : ℕ)
    (chains : List (FoldedBlock State)) → ChainsRise at chains (length text) → addressed (rows_from steps read text at chains) ≡ addresses_beside read (origins_from read text at chains) (drop at text)
rows_are steps read text at [] h = none_along steps read (drop at text)
rows_are {State = State} steps read text at (chain ∷ chains) h =
    let gap = lines_between text at chain.block.from in
    let lines = lines_in text chain.block in
    let own = pasts_along steps read (past_of chain.source 0 chain.opening) lines in
    let others = rows_from steps read text chain.block.to chains in
    let by : List (Option (Past State)) → List (Option (ℕ × ℕ)) = λ row. map address_of row in
    let cut : drop at text ≡ gap ++ (lines ++ drop chain.block.to text) = split text at chain.block.from h.0 ∙ ap (λ l. gap ++ l) (split text chain.block.from chain.block.to (omega (arith, h.1))) in
    map-append by (map (no_pasts steps read) gap) (own ++ others)
    ∙ ((λ i. none_along steps read gap i ++ map-append by own others i)
    ∙ (ap (λ l. addresses_beside read (no_origins gap) gap ++ l) ((λ i. along steps read chain.source 0 chain.opening lines i ++ rows_are steps read text chain.block.to chains h.2 i)
    ∙ sym (beside_both steps read (origins_along read chain.source 0 lines) (origins_from read text chain.block.to chains) lines
    (drop chain.block.to text) (length-origins_along steps read chain.source 0 lines)))
    ∙ (sym (beside_both steps read (no_origins gap) (origins_along read chain.source 0 lines
    ++ origins_from read text chain.block.to chains) gap (lines ++ drop chain.block.to text) (length-map gap (λ _. None)))
    ∙ ap (addresses_beside read (origins_from read text at (chain ∷ chains))) (sym cut))))

length-origins : {State Cell Items : Type 0} (steps : Steps State Cell Items) (read : List ℕ → List Cell) (text : Text) (at : ℕ)
    (chains : List (FoldedBlock State)) → ChainsRise at chains (length text) → length (origins_from read text at chains) ≡ length (drop at text)
length-origins steps read text at [] h = length-map (drop at text) (λ _. None)
length-origins steps read text at (chain ∷ chains) h =
    let gap = lines_between text at chain.block.from in
    let lines = lines_in text chain.block in
    let cut : drop at text ≡ gap ++ (lines ++ drop chain.block.to text) = split text at chain.block.from h.0 ∙ ap (λ l. gap ++ l) (split text chain.block.from chain.block.to (omega (arith, h.1))) in
    let a : length (no_origins gap) ≡ length gap = length-map gap (λ _. None) in
    let b : length (origins_along read chain.source 0 lines) ≡ length lines = length-origins_along steps read chain.source 0 lines in
    let c : length (origins_from read text chain.block.to chains) ≡ length (drop chain.block.to text) = length-origins steps read text chain.block.to chains h.2 in
    length-append (no_origins gap) (origins_along read chain.source 0 lines ++ origins_from read text chain.block.to chains)
    ∙ ((λ i. a i + length-append (origins_along read chain.source 0 lines) (origins_from read text chain.block.to chains) i)
    ∙ ((λ i. length gap + (b i + c i))
    ∙ (sym (length-append gap (lines ++ drop chain.block.to text) ∙ ap (λ n. length gap + n) (length-append lines (drop chain.block.to text)))
    ∙ ap length (sym cut))))

pub origins_agree : {State Cell Items : Type 0} → OriginsAgree State Cell Items
unfolding spliced
origins_agree {State = State} steps read old s h inside =
    let rows = rows_of steps read old in
    let all = origins_of read old in
    let by : List (Option (Past State)) → List (Option (ℕ × ℕ)) = λ row. map address_of row in
    let whole : addressed rows ≡ addresses_beside read all old.text = rows_are steps read old.text 0 (chains_of old) h in
    let count : length all ≡ length old.text = length-origins steps read old.text 0 (chains_of old) h in
    let front : addressed (take s.at rows) ≡ addresses_beside read (take s.at all) (take s.at old.text) =
    sym (take-map by s.at rows) ∙ (ap (take s.at) whole ∙ sym (beside_take steps read s.at all old.text)) in
    let tail : addressed (drop (s.at + s.removed) rows) ≡ addresses_beside read (drop (s.at + s.removed) all)
    (drop (s.at + s.removed) old.text) = sym (drop-map by (s.at + s.removed) rows) ∙ (ap (drop (s.at + s.removed)) whole ∙ sym (beside_drop steps read (s.at + s.removed) all old.text)) in
    let a : length (take s.at all) ≡ length (take s.at old.text) = length-take s.at all ∙ (ap (λ n. min s.at n) count ∙ sym (length-take s.at old.text)) in
    map-append by (take s.at rows) (map (no_pasts steps read) s.lines ++ drop (s.at + s.removed) rows)
    ∙ ((λ i. front i ++ map-append by (map (no_pasts steps read) s.lines) (drop (s.at + s.removed) rows) i)
    ∙ (ap (λ l. addresses_beside read (take s.at all) (take s.at old.text) ++ l) ((λ i. none_along steps read s.lines i ++ tail i)
    ∙ sym (beside_both steps read (no_origins s.lines) (drop (s.at + s.removed) all) s.lines (drop (s.at + s.removed) old.text) (length-map s.lines (λ _. None))))
    ∙ (sym (beside_both steps read (take s.at all) (no_origins s.lines ++ drop (s.at + s.removed) all) (take s.at old.text) (s.lines ++ drop (s.at + s.removed) old.text) a)
    ∙ ap (addresses_beside read (origins read old s)) (sym (append_assoc (take s.at old.text) s.lines (drop (s.at + s.removed) old.text))))))

-- old chains hold the states

abbrev entered_over : {State Cell : Type 0} → (State → Cell → State) → State → List Cell → List State
entered_over next state [] = []
entered_over next state (cell ∷ cells) = state ∷ entered_over next (next state cell) cells

states_line : {State Cell : Type 0} (next : State → Cell → State) (line nth : ℕ) (state : State) (cells others : List Cell)
    → map (λ spot. spot.entered) (spots_in_line next line nth state cells) ++ entered_over next (state_after next state cells) others ≡ entered_over next state (cells ++ others)
states_line next line nth state [] others = refl
states_line next line nth state (cell ∷ cells) others = ap (λ l. state ∷ l) (states_line next line (nth + 1) (next state cell) cells others)

states_lines : {State Cell Items : Type 0} (steps : Steps State Cell Items) (read : List ℕ → List Cell) (line : ℕ) (state : State)
    (lines : Text) → map (λ spot. spot.entered) (spots_along steps read line state lines) ≡ entered_over steps.next state (flat_map read lines)
states_lines steps read line state [] = refl
states_lines {State = State} steps read line state (bytes ∷ lines) =
    let cells = read bytes in
    map-append (λ (spot : Spot State). spot.entered) (spots_in_line steps.next line 0 state cells) (spots_along steps read (line + 1) (state_after steps.next state cells) lines)
    ∙ (ap (λ l. map (λ (spot : Spot State). spot.entered) (spots_in_line steps.next line 0 state cells) ++ l) (states_lines steps read (line + 1) (state_after steps.next state cells) lines)
    ∙ states_line steps.next line 0 state cells (flat_map read lines))

at_cell : {State Cell Items : Type 0} (steps : Steps State Cell Items) (state : State) (cells : List Cell) (i : ℕ) (e : State) (c : Cell)
    → slice_get (entered_over steps.next state cells) i ≡ Some e → slice_get cells i ≡ Some c
    → (slice_get (states_from steps state cells) i ≡ Some e) × (slice_get (states_from steps state cells) (i + 1) ≡ Some (steps.next e c))
at_cell steps state [] i e c h k = absurd (cc)
at_cell steps state (cell ∷ []) zero e c h k = let a : state ≡ e = cc in let b : cell ≡ c = cc in (h, λ i. Some (steps.next (a i) (b i)))
at_cell steps state (cell ∷ (other ∷ cells)) zero e c h k = let a : state ≡ e = cc in let b : cell ≡ c = cc in (h, λ i. Some (steps.next (a i) (b i)))
at_cell steps state (cell ∷ cells) (suc i) e c h k =
    let more = at_cell steps (steps.next state cell) cells i e c h k in
    let here : suc i + 1 ≡ suc (i + 1) = omega arith in
    (more.0, ap (slice_get (states_from steps state (cell ∷ cells))) here ∙ more.1)

some_some : {A : Type 0} (o : Option A) (a : A) → option_map (λ x. Some x) o ≡ Some (Some a) → o ≡ Some a
some_some None a h = absurd (cc)
some_some (Some x) a h = cc

pub some_through : {A : Type 0} (g : ℕ → Option A) (o : Option ℕ) (a : A) → option_and_then g o ≡ Some a → (m : ℕ) × (o ≡ Some m) × (g m ≡ Some a)
some_through g None a h = absurd (cc)
some_through g (Some m) a h = (m, refl, h)

-- of a cell that is named, whose line has the same bytes
held_by : {State Cell Items : Type 0} (steps : Steps State Cell Items) (read : List ℕ → List Cell) (text : Text) (bytes : List ℕ)
    (m nth : ℕ) (past : Past State) (was : FoldedBlock State) (cell : Cell) → Named steps read text m nth past was → bytes ≡ row_at text m
    → slice_get (read bytes) nth ≡ Some cell → (slice_get (states_of steps read text was) past.place ≡ Some past.entered)
    × (slice_get (states_of steps read text was) (past.place + 1) ≡ Some (steps.next past.entered cell))
held_by {State = State} {Cell = Cell} steps read text bytes m nth past was cell name row c =
    let spots = spots_of steps read text was in
    let cells = cells_of read text was in
    let entered : slice_get (entered_over steps.next was.opening cells) past.place ≡ Some past.entered =
    ap (λ l. slice_get l past.place) (sym (states_lines steps read was.block.from was.opening (lines_in text was.block)))
    ∙ (slice_get-map (λ (spot : Spot State). spot.entered) spots past.place
    ∙ (ap (option_map (λ (spot : Spot State). spot.entered)) name.spot ∙ ap (λ y. Some y) name.entered)) in
    let own : slice_get (read (row_at text name.one.line)) name.one.nth ≡ Some cell =
    (λ i. slice_get (read (row_at text (name.line i))) (name.nth i)) ∙ (ap (λ b. slice_get (read b) nth) (sym row) ∙ c) in
    let got : option_map (λ (x : Cell). Some x) (slice_get cells past.place) ≡ Some (Some cell) =
    sym (slice_get-map (λ (x : Cell). Some x) cells past.place)
    ∙ (ap (λ l. slice_get l past.place) (sym (cells_of_chain steps read text was))
    ∙ (slice_get-map (cell_at steps read text) spots past.place
    ∙ (ap (option_map (cell_at steps read text)) name.spot ∙ ap (λ y. Some y) own))) in
    at_cell steps was.opening cells past.place past.entered cell entered (some_some (slice_get cells past.place) cell got)

pub pasts_held : {State Cell Items : Type 0} → PastsHaveStates State Cell Items
pasts_held steps read old s line nth past was cell h inside member source e c =
    let by = some_through (λ m. past_at (rows_of steps read old) m nth) (old_line s line) past (sym (carried_rows steps read old s line nth h inside) ∙ e) in
    held_by steps read old.text (row_at (spliced old.text s) line) by.0 nth past was cell
    (named steps read old by.0 nth past was h member source by.2)
    (carried_line old.text s line by.0 inside by.1) c
