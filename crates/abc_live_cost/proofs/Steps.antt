-- Steps are fresh cells, pasts name cells, and untouched tunes give old items.
use Rattle.std.proofs.Common.{◌≡◌, ℕ, zero, suc, ◌+◌, ◌<◌, ◌≤◌, ◌==◌, ◌⊎◌, not, inl, inr, true, false, cond, IsTrue, List, []}
use Rattle.std.proofs.Common.{◌∷◌, ◌++◌, map, drop, length, slice_get, slice_index_or, Option, Some, None, Contains, option_map}
use Rattle.std.proofs.Common.{option_and_then, find, flat_map, count_by, refl, sym, ap, ◌∙◌, subst, ⊎_elim, arith, zero-add}
use Rattle.std.proofs.Common.{add_assoc}
use Rattle.std.specs.List.{list_any}
use Rattle.std.proofs.lemmas.Bool.{cases_Bool, eqb-true, and_parts, not-false, false_from_ne_true}
use Rattle.std.proofs.lemmas.List.Folds.{Any-from_list_any}
use Rattle.std.proofs.lemmas.List.Sums.{sum_by-cons}
use Rattle.std.proofs.lemmas.Option.{slice_get-map}
use Rattle.abc_lines.specs.Text.{Text, Splice, spliced}
use Rattle.abc_tune_compiler.specs.Tune.{lines_in}
use Rattle.abc_fold.specs.Steps.{Steps, IsResumable, state_after}
use Rattle.abc_live_cost.specs.Layout.{Layout, FoldedBlock, header_chain, tune_chains, chains_of, LiesInOrder}
use Rattle.abc_live_cost.specs.Spot.{Spot, spot_at, spots_in_line, spots_along, spots_of, entry_at}
use Rattle.abc_live_cost.specs.FreshCells.{old_line, cell_at, entry_before, is_fresh_after, is_fresh, is_line, is_carried_from}
use Rattle.abc_live_cost.specs.FreshCells.{are_carried_from}
use Rattle.abc_live_cost.specs.Past.{Past, rows_of, past_at, entry_of_past, first_past, first_row, rest, fresh_cells_in_line}
use Rattle.abc_live_cost.specs.Past.{fresh_cells_along}
use Rattle.abc_live_cost.specs.Pieces.{pasts_beside, pasts_over, pasts_of_chain}
use Rattle.abc_live_cost.specs.KeptState.{cells_of, KeptState, entry_of, following, steps_over, MatchesPast, MatchPasts}
use Rattle.abc_live_cost.specs.Laws.{PastsNameCells}
use Rattle.abc_live_cost.specs.EditLaws.{UntouchedItems, StepsAreFresh}
use Rattle.abc_live_cost.proofs.AllCells.{Full, as_past, as_spot, is_at, full_of, along_spots}
use Rattle.abc_live_cost.proofs.Rows.{rows_hold, entered_is}
use Rattle.abc_live_cost.proofs.CellOrder.{In, InLines, SourcesRise, each_in, in_right, chains_rise, along_each, found_in}
use Rattle.abc_live_cost.proofs.CellOrder.{found_at_line}
use Rattle.abc_live_cost.proofs.Pieces.{Follow, sources_rise, along_follows, in_flat}
use Rattle.abc_live_cost.proofs.SameCells.{given_over, items_given, same_items, carried_cells, cells_of_chain, is_carried_line}

-- the fresh cells of lines are those of all their cells, the pieces beside them

-- the fresh cells of two runs are those of both
fresh_both : {State Cell Items : Type 0} (steps : Steps State Cell Items) (state : State) (front others : List Cell)
    (row : List (Option (Past State))) (pieces : List (Option (Past State)))
    → fresh_cells_in_line steps state (front ++ others) (pasts_beside front row ++ pieces)
    ≡ fresh_cells_in_line steps state front row + fresh_cells_in_line steps (state_after steps.next state front) others pieces
fresh_both steps state [] others row pieces = sym (zero-add _)
fresh_both steps state (cell ∷ front) others row pieces =
    let here = cond (is_fresh_after steps.alike state (entry_of_past (first_past row))) 1 0 in
    ap (λ n. here + n) (fresh_both steps (steps.next state cell) front others (rest row) pieces)
    ∙ sym (add_assoc here (fresh_cells_in_line steps (steps.next state cell) front (rest row)) (fresh_cells_in_line steps (state_after steps.next (steps.next state cell) front) others pieces))

fresh_flat : {State Cell Items : Type 0} (steps : Steps State Cell Items) (read : List ℕ → List Cell) (state : State) (lines : Text)
    (rows : List (List (Option (Past State)))) → fresh_cells_along steps read state lines rows ≡ fresh_cells_in_line steps state (flat_map read lines) (pasts_over read lines rows)
fresh_flat steps read state [] rows = refl
fresh_flat steps read state (bytes ∷ lines) rows =
    let cells = read bytes in
    ap (λ n. fresh_cells_in_line steps state cells (first_row rows) + n) (fresh_flat steps read (state_after steps.next state cells) lines (rest rows))
    ∙ sym (fresh_both steps state cells (flat_map read lines) (first_row rows) (pasts_over read lines (rest rows)))

pub alike-same : {State Cell Items : Type 0} (steps : Steps State Cell Items) (a b c d : State) → IsResumable steps
    → IsTrue (steps.alike a b) → IsTrue (steps.alike c d) → steps.alike a c ≡ steps.alike b d
alike-same steps a b c d one h k = ⊎_elim
    (λ (e : steps.alike a c ≡ true). e ∙ sym (one.transitive b c d (one.transitive b a c (one.symmetric a b h) e) k))
    (λ (e : steps.alike a c ≡ false). e ∙ sym (false_from_ne_true (steps.alike b d)
    (λ m. let back : steps.alike a c ≡ true = one.transitive a d c (one.transitive a b d h m) (one.symmetric c d k) in cc)))
    (cases_Bool (steps.alike a c))

-- one cell, by cases on its kept states
one_step : {State Cell Items : Type 0} (steps : Steps State Cell Items) (a b : State) (cell : Cell) (cells : List Cell)
    (kept_states : List (Option (KeptState State))) (pieces : List (Option (Past State))) → IsResumable steps
    → IsTrue (steps.alike a b) → ((c d : State) → IsTrue (steps.alike c d)
    → steps_over steps c cells kept_states ≡ fresh_cells_in_line steps d cells pieces)
    → (held : Option (KeptState State)) (past : Option (Past State)) → MatchesPast steps cell held past
    → cond (is_fresh_after steps.alike a (entry_of held)) (1 + steps_over steps (steps.next a cell) cells kept_states)
    (steps_over steps (following a held) cells kept_states) ≡ cond (is_fresh_after steps.alike b (entry_of_past past)) 1 0 + fresh_cells_in_line steps (steps.next b cell) cells pieces
one_step steps a b cell cells kept_states pieces one h go None None m = ap (λ n. 1 + n) (go (steps.next a cell) (steps.next b cell) (one.alike_states a b cell h))
one_step steps a b cell cells kept_states pieces one h go None (Some past) m = absurd m
one_step steps a b cell cells kept_states pieces one h go (Some held) None m = absurd m
one_step steps a b cell cells kept_states pieces one h go (Some held) (Some past) m =
    let tests : steps.alike held.entry a ≡ steps.alike past.entered b = alike-same steps held.entry past.entered a b one m.0 h in
    ⊎_elim
    (λ (e : steps.alike past.entered b ≡ true).
    let first : steps.alike held.entry a ≡ true = tests ∙ e in
    let after : IsTrue (steps.alike held.after (steps.next b cell)) = one.transitive held.after (steps.next past.entered cell) (steps.next b cell) m.1 (one.alike_states past.entered b cell e) in
    simp (e, first) (go held.after (steps.next b cell) after ∙ sym (zero-add _)))
    (λ (e : steps.alike past.entered b ≡ false).
    let first : steps.alike held.entry a ≡ false = tests ∙ e in
    simp (e, first) (ap (λ n. 1 + n) (go (steps.next a cell) (steps.next b cell) (one.alike_states a b cell h))))
    (cases_Bool (steps.alike past.entered b))

steps_along : {State Cell Items : Type 0} (steps : Steps State Cell Items) (a b : State) (cells : List Cell)
    (kept_states : List (Option (KeptState State))) (pieces : List (Option (Past State))) → IsResumable steps
    → IsTrue (steps.alike a b) → MatchPasts steps cells kept_states pieces → steps_over steps a cells kept_states ≡ fresh_cells_in_line steps b cells pieces
steps_along steps a b [] kept_states pieces one h k = refl
steps_along steps a b (cell ∷ cells) kept_states pieces one h k =
    one_step steps a b cell cells (rest kept_states) (rest pieces) one h
    (λ c d e. steps_along steps c d cells (rest kept_states) (rest pieces) one e k.1) (first_past kept_states) (first_past pieces) k.0

pub steps_are_fresh : {State Cell Items : Type 0} → StepsAreFresh State Cell Items
steps_are_fresh steps read text rows chain state kept_states one h k =
    steps_along steps state chain.opening (cells_of read text chain) kept_states (pasts_of_chain read text rows chain) one h k
    ∙ sym (fresh_flat steps read chain.opening (lines_in text chain.block) (drop chain.block.from rows))

-- pasts name cells

pub in_from_contains : {A : Type 0} (x : A) (xs : List A) (k : ℕ) → k < length xs → slice_index_or xs k x ≡ x → In x xs
in_from_contains x [] k h e = absurd (omega arith)
in_from_contains x (y ∷ ys) zero h e = inl e
in_from_contains x (y ∷ ys) (suc k) h e = inr (in_from_contains x ys k (omega arith) e)

pub some_past : {State : Type 0} (o : Option (Full State)) (past : Past State) → option_map as_past o ≡ Some past → (x : Full State) × (o ≡ Some x) × (as_past x ≡ past)
some_past None past h = absurd (cc)
some_past (Some x) past h = (x, refl, cc)

pub from_flat : {A B : Type 0} (g : A → List B) (xs : List A) (w : B) → In w (flat_map g xs) → (x : A) × In x xs × In w (g x)
from_flat g [] w h = absurd h
from_flat {B = B} g (x ∷ xs) w h = ⊎_elim (λ (m : In w (g x)). (x, inl refl, m))
    (λ (m : In w (flat_map g xs)). let more = from_flat g xs w m in (more.0, inr more.1, more.2)) (either (g x) (flat_map g xs) h)
  where
    either : (ys zs : List B) → In w (ys ++ zs) → In w ys ⊎ In w zs
    either [] zs h = inr h
    either (y ∷ ys) zs h = ⊎_elim (λ (e : y ≡ w). inl (inl e)) (λ (m : In w (ys ++ zs)). ⊎_elim (λ (l : In w ys). inl (inr l)) (λ (r : In w zs). inr r) (either ys zs m)) h

source_low : {State : Type 0} (source : ℕ) (chains : List (FoldedBlock State)) (x : FoldedBlock State) → SourcesRise source chains → In x chains → source ≤ x.source
source_low source [] x h k = absurd k
source_low source (chain ∷ chains) x h k =
    let a : source ≤ chain.source = h.0 in
    ⊎_elim (λ (e : chain ≡ x). let same : chain.source ≡ x.source = ap (λ y. y.source) e in omega arith)
    (λ (m : In x chains). let more : chain.source + 1 ≤ x.source = source_low (chain.source + 1) chains x h.1 m in omega arith) k

one_source : {State : Type 0} (source : ℕ) (chains : List (FoldedBlock State)) (x y : FoldedBlock State) → SourcesRise source chains → In x chains → In y chains → x.source ≡ y.source → x ≡ y
one_source source [] x y h i j e = absurd i
one_source source (chain ∷ chains) x y h i j e = ⊎_elim
    (λ (a : chain ≡ x). ⊎_elim
    (λ (b : chain ≡ y). sym a ∙ b)
    (λ (b : In y chains). let more : chain.source + 1 ≤ y.source = source_low (chain.source + 1) chains y h.1 b in let same : chain.source ≡ x.source = ap (λ z. z.source) a in absurd (omega arith)) j)
    (λ (a : In x chains). ⊎_elim
    (λ (b : chain ≡ y). let more : chain.source + 1 ≤ x.source = source_low (chain.source + 1) chains x h.1 a in let same : chain.source ≡ y.source = ap (λ z. z.source) b in absurd (omega arith))
    (λ (b : In y chains). one_source (chain.source + 1) chains x y h.1 a b e) j)
    i

place_low : {State : Type 0} (all : List (Full State)) (source place : ℕ) (ws : List (Full State)) (x : Full State) → Follow all source place ws → In x ws → place ≤ x.place
place_low all source place [] x h k = absurd k
place_low all source place (w ∷ ws) x h k =
    let here : w.place ≡ place = h.0.1 in
    ⊎_elim (λ (e : w ≡ x). let same : w.place ≡ x.place = ap (λ y. y.place) e in omega arith)
    (λ (m : In x ws). let more : place + 1 ≤ x.place = place_low all source (place + 1) ws x h.1 m in omega arith) k

at_place : {State : Type 0} (all : List (Full State)) (source place : ℕ) (ws : List (Full State)) (x : Full State) (i : ℕ)
    → Follow all source place ws → In x ws → x.place ≡ place + i → slice_get ws i ≡ Some x
at_place all source place [] x i h k e = absurd k
at_place all source place (w ∷ ws) x zero h k e =
    ⊎_elim (λ (a : w ≡ x). ap (λ y. Some y) a)
    (λ (m : In x ws). let more : place + 1 ≤ x.place = place_low all source (place + 1) ws x h.1 m in absurd (omega arith)) k
at_place all source place (w ∷ ws) x (suc i) h k e =
    let here : w.place ≡ place = h.0.1 in
    ⊎_elim (λ (a : w ≡ x). let same : w.place ≡ x.place = ap (λ y. y.place) a in absurd (omega arith))
    (λ (m : In x ws). at_place all source (place + 1) ws x i h.1 m (omega arith)) k

-- the cell that a past names
pub record Named {State Cell Items : Type 0} (steps : Steps State Cell Items) (read : List ℕ → List Cell) (text : Text) (n k : ℕ) (past : Past State) (was : FoldedBlock State) : Type 0 where
  pub one : Full State
  pub spot : slice_get (spots_of steps read text was) past.place ≡ Some (as_spot one)
  pub line : one.line ≡ n
  pub nth : one.nth ≡ k
  pub entered : one.entered ≡ past.entered

-- a cell has the number of its chain
pub source_is : {State Cell Items : Type 0} (steps : Steps State Cell Items) (read : List ℕ → List Cell) (text : Text)
    (chain : FoldedBlock State) (x : Full State) → In x (full_of steps read text chain) → x.source ≡ chain.source
source_is steps read text chain x h =
    (each_in (InLines chain.block.from (chain.block.from + length (lines_in text chain.block)) chain.source 0) x
    (full_of steps read text chain) (along_each steps read chain.block.from chain.source 0 chain.opening (lines_in text chain.block)) h).source_is

named_by : {State Cell Items : Type 0} (steps : Steps State Cell Items) (read : List ℕ → List Cell) (old : Layout State)
    (line nth : ℕ) (past : Past State) (was chain : FoldedBlock State) (x : Full State) → Contains (chains_of old) was
    → was.source ≡ past.source → as_past x ≡ past → is_at line nth x ≡ true → In chain (chains_of old) → In x (full_of steps read old.text chain) → Named steps read old.text line nth past was
named_by {State = State} steps read old line nth past was chain x member source e is_there own inside =
    let both = and_parts (x.line == line) (x.nth == nth) is_there in
    let a : chain.source ≡ was.source = sym (source_is steps read old.text chain x inside) ∙ (ap (λ p. p.source) e ∙ sym source) in
    let same : chain ≡ was = one_source 0 (chains_of old) chain was (sources_rise old) own (in_from_contains was (chains_of old) member.0 member.1 member.2) a in
    let cells = full_of steps read old.text was in
    let in_was : In x cells = subst (λ c. In x (full_of steps read old.text c)) same inside in
    let place : x.place ≡ past.place = ap (λ p. p.place) e in
    let got : slice_get cells past.place ≡ Some x = at_place cells was.source 0 cells x past.place
    (along_follows cells steps read was.block.from was.source 0 was.opening (lines_in old.text was.block) (λ w m. m)) in_was (place ∙ sym (zero-add past.place)) in
    let spots = along_spots steps read was.block.from was.source 0 was.opening (lines_in old.text was.block) in
    record {
      one = x;
      spot = ap (λ l. slice_get l past.place) (sym spots) ∙ (slice_get-map as_spot cells past.place ∙ ap (option_map as_spot) got);
      line = eqb-true x.line line both.0;
      nth = eqb-true x.nth nth both.1;
      entered = ap (λ p. p.entered) e;
    }

-- the cell of a past, and its chain
pub record Found {State Cell Items : Type 0} (steps : Steps State Cell Items) (read : List ℕ → List Cell) (old : Layout State) (line nth : ℕ) (past : Past State) : Type 0 where
  pub cell : Full State
  pub chain : FoldedBlock State
  pub is : as_past cell ≡ past
  pub is_there : is_at line nth cell ≡ true
  pub among : In chain (chains_of old)
  pub inside : In cell (full_of steps read old.text chain)

pub found_past : {State Cell Items : Type 0} (steps : Steps State Cell Items) (read : List ℕ → List Cell) (old : Layout State)
    (line nth : ℕ) (past : Past State) → LiesInOrder old → past_at (rows_of steps read old) line nth ≡ Some past → Found steps read old line nth past
found_past steps read old line nth past h e =
    let all = flat_map (full_of steps read old.text) (chains_of old) in
    let some = some_past (find (is_at line nth) all) past (rows_hold steps read old line nth h ∙ e) in
    let is_there = found_in (is_at line nth) some.0 all some.1 in
    let own = from_flat (full_of steps read old.text) (chains_of old) some.0 is_there.0 in
    record { cell = some.0; chain = own.0; is = some.2; is_there = is_there.1; among = own.1; inside = own.2 }

pub named : {State Cell Items : Type 0} (steps : Steps State Cell Items) (read : List ℕ → List Cell) (old : Layout State)
    (line nth : ℕ) (past : Past State) (was : FoldedBlock State) → LiesInOrder old → Contains (chains_of old) was
    → was.source ≡ past.source → past_at (rows_of steps read old) line nth ≡ Some past → Named steps read old.text line nth past was
named steps read old line nth past was h member source e =
    let found = found_past steps read old line nth past h e in
    named_by steps read old line nth past was found.chain found.cell member source found.is found.is_there found.among found.inside

pub pasts_name_cells : {State Cell Items : Type 0} → PastsNameCells State Cell Items
pasts_name_cells {State = State} steps read old line nth past was h member source e =
    let name = named steps read old line nth past was h member source e in
    ap (option_map (λ (spot : Spot State). spot.entered)) name.spot ∙ ap (λ y. Some y) name.entered

-- untouched tunes give old items

spot_found : {State Cell Items : Type 0} (steps : Steps State Cell Items) (read : List ℕ → List Cell) (old : Layout State)
    (w : Full State) → LiesInOrder old → In w (flat_map (full_of steps read old.text) (chains_of old)) → entry_at steps read old w.line w.nth ≡ Some w.entered
spot_found steps read old w h k =
    let all = flat_map (full_of steps read old.text) (chains_of old) in
    let rises = chains_rise steps read old.text 0 0 (chains_of old) (length old.text) h (sources_rise old) in
    sym (entered_is steps read old w.line w.nth h) ∙ (ap entry_of_past (sym (rows_hold steps read old w.line w.nth h)) ∙ ap (λ o. entry_of_past (option_map as_past o)) (found_at_line w all rises k))

first_in_line : {State Cell : Type 0} (next : State → Cell → State) (line nth : ℕ) (state : State) (cells : List Cell)
    (others : List (Spot State)) (spot : Spot State) (following : List (Spot State))
    → ((one : Spot State) (more : List (Spot State)) → others ≡ one ∷ more → one.entered ≡ state_after next state cells)
    → spots_in_line next line nth state cells ++ others ≡ spot ∷ following → spot.entered ≡ state
first_in_line next line nth state [] others spot following h e = h spot following e
first_in_line next line nth state (cell ∷ cells) others spot following h e = let one : spot_at line nth state ≡ spot = cc in sym (ap (λ y. y.entered) one)

first_entered : {State Cell Items : Type 0} (steps : Steps State Cell Items) (read : List ℕ → List Cell) (line : ℕ) (state : State)
    (lines : Text) (spot : Spot State) (following : List (Spot State)) → spots_along steps read line state lines ≡ spot ∷ following → spot.entered ≡ state
first_entered steps read line state [] spot following e = absurd (cc)
first_entered steps read line state (bytes ∷ lines) spot following e =
    first_in_line steps.next line 0 state (read bytes) (spots_along steps read (line + 1) (state_after steps.next state (read bytes)) lines) spot following
    (λ one more k. first_entered steps read (line + 1) (state_after steps.next state (read bytes)) lines one more k) e

no_cells : {A B : Type 0} (p : A → Option B) (spots : List A) (cells : List B) → map p spots ≡ map (λ b. Some b) cells → spots ≡ [] → cells ≡ []
no_cells p spots [] h e = refl
no_cells p [] (cell ∷ cells) h e = absurd (cc)
no_cells p (spot ∷ spots) (cell ∷ cells) h e = absurd (cc)

-- the openings are the same if the first cell is not fresh
same_openings : {State Cell Items : Type 0} (steps : Steps State Cell Items) (read : List ℕ → List Cell) (old : Layout State)
    (s : Splice) (was : FoldedBlock State) (opening : State) (spot : Spot State) (spots : List (Spot State)) → LiesInOrder old
    → In was (chains_of old) → spot.entered ≡ opening → are_carried_from s (spot ∷ spots) (spots_of steps read old.text was) ≡ true
    → count_by (is_fresh steps read old s) (spot ∷ spots) ≡ 0 → IsTrue (steps.alike was.opening opening)
same_openings {State = State} steps read old s was opening spot spots h i first carry none =
    by_full (full_of steps read old.text was) (along_spots steps read was.block.from was.source 0 was.opening
    (lines_in old.text was.block)) (λ w m. in_flat (full_of steps read old.text) was (chains_of old) w i m)
  where
    by_full : (ws : List (Full State)) → map as_spot ws ≡ spots_of steps read old.text was
        → ((w : Full State) → In w ws → In w (flat_map (full_of steps read old.text) (chains_of old))) → IsTrue (steps.alike was.opening opening)
    by_full [] e k = let no : are_carried_from s (spot ∷ spots) [] ≡ true = ap (are_carried_from s (spot ∷ spots)) e ∙ carry in absurd (cc)
    by_full (w ∷ ws) e k =
        let all : are_carried_from s (spot ∷ spots) (as_spot w ∷ map as_spot ws) ≡ true = ap (are_carried_from s (spot ∷ spots)) e ∙ carry in
        let one = and_parts (is_line w.line (old_line s spot.line)) (spot.nth == w.nth) (and_parts (is_carried_from s spot (as_spot w)) (are_carried_from s spots (map as_spot ws)) all).0 in
        let line : old_line s spot.line ≡ Some w.line = is_carried_line (old_line s spot.line) w.line one.0 in
        let nth : spot.nth ≡ w.nth = eqb-true spot.nth w.nth one.1 in
        let state : w.entered ≡ was.opening = first_entered steps read was.block.from was.opening (lines_in old.text was.block) (as_spot w) (map as_spot ws) (sym e) in
        let before : entry_before steps read old s (cell_at spot.line spot.nth) ≡ Some was.opening =
        (λ i. option_and_then (λ m. entry_at steps read old m (nth i)) (line i)) ∙ (spot_found steps read old w h (k w (inl refl)) ∙ ap (λ y. Some y) state) in
        let count = sum_by-cons (λ (x : Spot State). cond (is_fresh steps read old s x) 1 0) spot spots in
        let not_fresh : is_fresh steps read old s spot ≡ false = ⊎_elim
        (λ (t : is_fresh steps read old s spot ≡ true). let c : cond {A = ℕ} (is_fresh steps read old s spot) 1 0 ≡ 1 = ap (λ b. cond b 1 0) t in absurd (omega arith))
        (λ (t : is_fresh steps read old s spot ≡ false). t) (cases_Bool (is_fresh steps read old s spot)) in
        let test : not (steps.alike was.opening spot.entered) ≡ false = ap (is_fresh_after steps.alike spot.entered) (sym before) ∙ not_fresh in
        ap (steps.alike was.opening) (sym first) ∙ not-false (steps.alike was.opening spot.entered) test

pub untouched_items : {State Cell Items : Type 0} → UntouchedItems State Cell Items
untouched_items {State = State} {Cell = Cell} {Items = Items} steps read old s chain h inside one e =
    let text = spliced old.text s in
    let both = and_parts (count_by (is_fresh steps read old s) (spots_of steps read text chain) == 0)
    (list_any (λ tune. are_carried_from s (spots_of steps read text chain) (spots_of steps read old.text tune)) (tune_chains 1 old.opening old.tunes)) e in
    let any = Any-from_list_any (λ tune. are_carried_from s (spots_of steps read text chain) (spots_of steps read old.text tune)) (tune_chains 1 old.opening old.tunes) both.1 in
    let was = any.1 in
    let member : In was (chains_of old) = in_right was (header_chain old.first old.header) (tune_chains 1 old.opening old.tunes)
    (in_from_contains was (tune_chains 1 old.opening old.tunes) any.0 any.2 any.3) in
    let cells : cells_of read text chain ≡ cells_of read old.text was = carried_cells steps read old.text s chain was inside any.4 in
    let none : count_by (is_fresh steps read old s) (spots_of steps read text chain) ≡ 0 = eqb-true _ 0 both.0 in (
      any.0,
      was,
      any.2,
      any.3,
      items_given steps read text chain ∙ (by_spots (spots_of steps read text chain) refl was member cells none any.4 ∙ sym (items_given steps read old.text was)),
    )
  where
    by_spots : (spots : List (Spot State)) → spots_of steps read (spliced old.text s) chain ≡ spots → (was : FoldedBlock State)
        → In was (chains_of old) → cells_of read (spliced old.text s) chain ≡ cells_of read old.text was
        → count_by (is_fresh steps read old s) (spots_of steps read (spliced old.text s) chain) ≡ 0
        → are_carried_from s (spots_of steps read (spliced old.text s) chain) (spots_of steps read old.text was) ≡ true
        → given_over steps chain.opening (cells_of read (spliced old.text s) chain) ≡ given_over steps was.opening (cells_of read old.text was)
    by_spots [] k was member cells none carry =
        let empty : cells_of read (spliced old.text s) chain ≡ [] = no_cells _ (spots_of steps read (spliced old.text s) chain)
        (cells_of read (spliced old.text s) chain) (cells_of_chain steps read (spliced old.text s) chain) k in
        ap (given_over steps chain.opening) empty ∙ ap (given_over steps was.opening) (sym empty ∙ cells)
    by_spots (spot ∷ spots) k was member cells none carry =
        let first : spot.entered ≡ chain.opening = first_entered steps read chain.block.from chain.opening (lines_in (spliced old.text s) chain.block) spot spots k in
        let same = same_openings steps read old s was chain.opening spot spots h member first
        (ap (λ l. are_carried_from s l (spots_of steps read old.text was)) (sym k) ∙ carry) (ap (count_by (is_fresh steps read old s)) (sym k) ∙ none) in
        ap (given_over steps chain.opening) cells ∙ sym (same_items steps was.opening chain.opening (cells_of read old.text was) one same)
