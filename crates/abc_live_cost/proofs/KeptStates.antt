-- The states at addresses are those of pasts.
use Rattle.std.proofs.Common.{◌≡◌, ℕ, zero, suc, ◌+◌, ◌≤◌, IsTrue, List, [], ◌∷◌, map, length, slice_get, Contains, Option, Some}
use Rattle.std.proofs.Common.{None, refl, sym, ap, ◌∙◌, subst, ⊎_elim, arith}
use Rattle.std.specs.List.{AllZip}
use Rattle.abc_live_cost.proofs.Rows.{carried_rows}
use Rattle.abc_live_cost.proofs.CellOrder.{In}
use Rattle.abc_live_cost.proofs.Pieces.{look, pasts_of_chain-pieces}
use Rattle.abc_live_cost.proofs.Steps.{found_past, source_is}
use Rattle.abc_lines.specs.Text.{Text, Splice, spliced}
use Rattle.abc_fold.specs.Steps.{Steps, IsAlike}
use Rattle.abc_live_cost.specs.Layout.{Layout, FoldedBlock, chains_of, LiesInOrder}
use Rattle.abc_live_cost.specs.Spot.{Spot, spots_of}
use Rattle.abc_live_cost.specs.FreshCells.{old_line}
use Rattle.abc_live_cost.specs.Past.{Past, rows_of, pasts, past_at}
use Rattle.abc_live_cost.specs.Origin.{address_of}
use Rattle.abc_live_cost.specs.KeptState.{cells_of, states_of, KeptState, MatchesPast, MatchPasts, both_kept, kept_state_at}
use Rattle.abc_live_cost.specs.KeptState.{AreKeptStates}
use Rattle.abc_live_cost.specs.EditLaws.{KeptStatesMatch}
use Rattle.abc_live_cost.proofs.SameCells.{cell_at, cells_of_chain}
use Rattle.abc_live_cost.proofs.Origins.{pasts_held, some_through}

contains_from_in : {A : Type 0} (x : A) (xs : List A) → In x xs → Contains xs x
contains_from_in x [] h = absurd h
contains_from_in x (y ∷ ys) h = ⊎_elim (λ (e : y ≡ x). (0, omega arith, e)) (λ (m : In x ys). let more = contains_from_in x ys m in (suc more.0, omega (arith, more.1), more.2)) h

-- a past is of some old chain
chain_of_past : {State Cell Items : Type 0} (steps : Steps State Cell Items) (read : List ℕ → List Cell) (old : Layout State)
    (line nth : ℕ) (past : Past State) → LiesInOrder old → past_at (rows_of steps read old) line nth ≡ Some past → (was : FoldedBlock State) × Contains (chains_of old) was × (was.source ≡ past.source)
chain_of_past steps read old line nth past h e =
    let found = found_past steps read old line nth past h e in
    (found.chain, contains_from_in found.chain (chains_of old) found.among, sym (source_is steps read old.text found.chain found.cell found.inside) ∙ ap (λ p. p.source) found.is)

zip_get : {A B : Type 0} (R : A → B → Type 0) (xs : List A) (ys : List B) (i : ℕ) (b : B) → AllZip R xs ys → slice_get ys i ≡ Some b → (a : A) × (slice_get xs i ≡ Some a) × R a b
zip_get R [] [] i b h e = absurd (cc)
zip_get R [] (y ∷ ys) i b h e = absurd h
zip_get R (x ∷ xs) [] i b h e = absurd h
zip_get R (x ∷ xs) (y ∷ ys) zero b h e = let same : y ≡ b = cc in (x, refl, subst (R x) same h.0)
zip_get R (x ∷ xs) (y ∷ ys) (suc i) b h e = zip_get R xs ys i b h.1 e

state_matches : {State Cell Items : Type 0} (steps : Steps State Cell Items) (cell : Cell) (kept : ℕ → List State) (past : Past State)
    (a b : State) → slice_get (kept past.source) past.place ≡ Some a → slice_get (kept past.source) (past.place + 1) ≡ Some b
    → IsTrue (steps.alike a past.entered) → IsTrue (steps.alike b (steps.next past.entered cell)) → MatchesPast steps cell (kept_state_at kept (address_of (Some past))) (Some past)
state_matches steps cell kept past a b e k h m =
    let both : both_kept (slice_get (kept past.source) past.place) (slice_get (kept past.source) (past.place + 1)) ≡ both_kept (Some a) (Some b) = λ i. both_kept (e i) (k i) in
    subst (λ held. MatchesPast steps cell held (Some past)) (sym both) (h, m)

-- of the kept states of its chain
cell_matches : {State Cell Items : Type 0} (steps : Steps State Cell Items) (read : List ℕ → List Cell) (old : Layout State)
    (kept : ℕ → List State) (was : FoldedBlock State) (past : Past State) (cell : Cell) → was.source ≡ past.source
    → AllZip (IsAlike steps) (kept was.source) (states_of steps read old.text was)
    → (slice_get (states_of steps read old.text was) past.place ≡ Some past.entered) ×
    (slice_get (states_of steps read old.text was) (past.place + 1) ≡ Some (steps.next past.entered cell)) → MatchesPast steps cell (kept_state_at kept (address_of (Some past))) (Some past)
cell_matches steps read old kept was past cell e alike states =
    let whole = states_of steps read old.text was in
    let here = zip_get (IsAlike steps) (kept was.source) whole past.place past.entered alike states.0 in
    let next = zip_get (IsAlike steps) (kept was.source) whole (past.place + 1) (steps.next past.entered cell) alike states.1 in
    state_matches steps cell kept past here.0 next.0 (ap (λ n. slice_get (kept n) past.place) (sym e) ∙ here.1) (ap (λ n. slice_get (kept n) (past.place + 1)) (sym e) ∙ next.1) here.2 next.2

spot_matches : {State Cell Items : Type 0} (steps : Steps State Cell Items) (read : List ℕ → List Cell) (old : Layout State)
    (s : Splice) (kept : ℕ → List State) (spot : Spot State) (cell : Cell) (piece : Option (Past State)) → LiesInOrder old
    → s.at + s.removed ≤ length old.text → AreKeptStates steps read old kept
    → cell_at steps read (spliced old.text s) spot ≡ Some cell → look (past_at (pasts steps read old s)) spot ≡ piece → MatchesPast steps cell (kept_state_at kept (address_of piece)) piece
spot_matches steps read old s kept spot cell None h inside k c e = tt
spot_matches steps read old s kept spot cell (Some past) h inside k c e =
    let by = some_through (λ m. past_at (rows_of steps read old) m spot.nth) (old_line s spot.line) past (sym (carried_rows steps read old s spot.line spot.nth h inside) ∙ e) in
    let own = chain_of_past steps read old by.0 spot.nth past h by.2 in
    cell_matches steps read old kept own.0 past cell own.2 (k own.0 own.1)
    (pasts_held steps read old s spot.line spot.nth past own.0 cell h inside own.1 own.2 e c)

match_along : {State Cell Items : Type 0} (steps : Steps State Cell Items) (read : List ℕ → List Cell) (text : Text)
    (past : ℕ → ℕ → Option (Past State)) (hold : Option (Past State) → Option (KeptState State)) (spots : List (Spot State))
    (cells : List Cell) → map (cell_at steps read text) spots ≡ map (λ cell. Some cell) cells
    → ((spot : Spot State) (cell : Cell) → cell_at steps read text spot ≡ Some cell
    → MatchesPast steps cell (hold (look past spot)) (look past spot)) → MatchPasts steps cells (map hold (map (look past) spots)) (map (look past) spots)
match_along steps read text past hold spots [] e each = tt
match_along steps read text past hold [] (cell ∷ cells) e each = absurd (cc)
match_along steps read text past hold (spot ∷ spots) (cell ∷ cells) e each =
    let here : cell_at steps read text spot ≡ Some cell = cc in
    let more : map (cell_at steps read text) spots ≡ map (λ c. Some c) cells = cc in
    (each spot cell here, match_along steps read text past hold spots cells more each)

pub kept_states_match : {State Cell Items : Type 0} → KeptStatesMatch State Cell Items
kept_states_match {State = State} steps read old s chain kept h inside k =
    let text = spliced old.text s in
    let hold : Option (Past State) → Option (KeptState State) = λ piece. kept_state_at kept (address_of piece) in
    let flat = match_along steps read text (past_at (pasts steps read old s)) hold (spots_of steps read text chain) (cells_of read text chain) (cells_of_chain steps read text chain)
    (λ spot cell c. spot_matches steps read old s kept spot cell (look (past_at (pasts steps read old s)) spot) h inside k c refl) in
    subst (λ pieces. MatchPasts steps (cells_of read text chain) (map hold pieces) pieces) (sym (pasts_of_chain-pieces steps read text (pasts steps read old s) chain)) flat
