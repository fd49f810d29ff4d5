-- The rows of a text, and of a spliced one, have what the definitions have.
use Rattle.std.proofs.Common.{◌≡◌, ℕ, zero, suc, ◌+◌, ◌-◌, ◌<◌, ◌≤◌, true, false, List, [], ◌∷◌, ◌++◌, map, take, drop, length}
use Rattle.std.proofs.Common.{slice_get, nat_lt, Option, Some, None, option_map, option_and_then, find, flat_map, refl, sym, ap}
use Rattle.std.proofs.Common.{◌∙◌, ⊎_elim, arith, length-append, zero-add}
use Rattle.std.proofs.lemmas.Bool.{cases_lt, lt-ltb, le-ltb}
use Rattle.std.proofs.lemmas.List.{length-take, length-drop, length-map}
use Rattle.std.specs.Option.{option_flatten}
use Rattle.abc_lines.specs.Text.{Text, Splice}
use Rattle.abc_tune_compiler.specs.Tune.{lines_in}
use Rattle.abc_fold.specs.Steps.{Steps, state_after}
use Rattle.abc_live_cost.specs.Layout.{Layout, FoldedBlock, chains_of, ChainsRise, LiesInOrder}
use Rattle.abc_live_cost.specs.Spot.{Spot, is_spot_at, entry_at}
use Rattle.abc_live_cost.specs.FreshCells.{old_line}
use Rattle.abc_live_cost.specs.Past.{Past, past_of, no_pasts, pasts_along, lines_between, rows_from, rows_of, pasts}
use Rattle.abc_live_cost.specs.Past.{row_at, past_at, entry_of_past}
use Rattle.abc_live_cost.specs.Laws.{RowsAgree}
use Rattle.abc_live_cost.proofs.Lists.{find-map, find_after, find_before, row_before, row_after, row_take, row_drop}
use Rattle.abc_live_cost.proofs.AllCells.{Full, full_of, as_past, as_spot, is_at, all_spots, before_lines, after_lines, in_lines}

none_in_line : {A C : Type 0} (cells : List C) (k : ℕ) → option_flatten (slice_get (map (λ (_ : C). let none : Option A = None in none) cells) k) ≡ None
none_in_line [] k = refl
none_in_line (cell ∷ cells) zero = refl
none_in_line {A = A} (cell ∷ cells) (suc k) = none_in_line {A = A} cells k

pub none_in_rows : {State Cell Items : Type 0} (steps : Steps State Cell Items) (read : List ℕ → List Cell) (lines : Text) (i k : ℕ) → past_at (map (no_pasts steps read) lines) i k ≡ None
none_in_rows steps read [] i k = refl
none_in_rows {State = State} steps read (bytes ∷ lines) zero k = none_in_line {A = Past State} (read bytes) k
none_in_rows steps read (bytes ∷ lines) (suc i) k = none_in_rows steps read lines i k

pub length-along : {State Cell Items : Type 0} (steps : Steps State Cell Items) (read : List ℕ → List Cell) (source place : ℕ)
    (state : State) (lines : Text) → length (pasts_along steps read (past_of source place state) lines) ≡ length lines
length-along steps read source place state [] = refl
length-along steps read source place state (bytes ∷ lines) = ap suc (length-along steps read source (place + length (read bytes)) (state_after steps.next state (read bytes)) lines)

pub length-between : (text : Text) (from to : ℕ) → from ≤ to → to ≤ length text → length (lines_between text from to) ≡ to - from
length-between text from to h k = length-take (to - from) (drop from text) ∙ omega (arith, length-drop from text)

pub rise_end : {State : Type 0} (first : ℕ) (chains : List (FoldedBlock State)) (last : ℕ) → ChainsRise first chains last → first ≤ last
rise_end first [] last h = h
rise_end first (chain ∷ chains) last h = let more = rise_end chain.block.to chains last h.2 in omega (arith, h.0, h.1, more)

pub length-rows : {State Cell Items : Type 0} (steps : Steps State Cell Items) (read : List ℕ → List Cell) (text : Text) (at : ℕ)
    (chains : List (FoldedBlock State)) → ChainsRise at chains (length text) → length (rows_from steps read text at chains) ≡ length text - at
length-rows steps read text at [] h = length-map (drop at text) (no_pasts steps read) ∙ length-drop at text
length-rows steps read text at (chain ∷ chains) h =
    let end : chain.block.to ≤ length text = rise_end chain.block.to chains (length text) h.2 in
    let first : at ≤ chain.block.from = h.0 in
    let second : chain.block.from ≤ chain.block.to = omega (arith, h.1) in
    let gap = lines_between text at chain.block.from in
    let lines = lines_in text chain.block in
    let a : length (map (no_pasts steps read) gap) ≡ chain.block.from - at = length-map gap (no_pasts steps read) ∙ length-between text at chain.block.from first (omega arith) in
    let b : length (pasts_along steps read (past_of chain.source 0 chain.opening) lines) ≡ chain.block.to - chain.block.from =
    length-along steps read chain.source 0 chain.opening lines ∙ length-between text chain.block.from chain.block.to second end in
    let c : length (rows_from steps read text chain.block.to chains) ≡ length text - chain.block.to = length-rows steps read text chain.block.to chains h.2 in
    length-append (map (no_pasts steps read) gap) (pasts_along steps read (past_of chain.source 0 chain.opening) lines ++ rows_from steps read text chain.block.to chains)
    ∙ (ap (λ n. length (map (no_pasts steps read) gap) + n) (length-append (pasts_along steps read (past_of chain.source 0 chain.opening) lines) (rows_from steps read text chain.block.to chains))
    ∙ omega (arith, a, b, c))

pub before_chains : {State Cell Items : Type 0} (steps : Steps State Cell Items) (read : List ℕ → List Cell) (text : Text)
    (first : ℕ) (chains : List (FoldedBlock State)) (last : ℕ) (n k : ℕ) → ChainsRise first chains last → n < first → find (is_at n k) (flat_map (full_of steps read text) chains) ≡ None
before_chains steps read text first [] last n k h below = refl
before_chains steps read text first (chain ∷ chains) last n k h below =
    let a : first ≤ chain.block.from = h.0 in
    let b : chain.block.from ≤ chain.block.to = omega (arith, h.1) in
    find_after (is_at n k) (full_of steps read text chain) (flat_map (full_of steps read text) chains)
    (before_lines steps read chain.block.from chain.source 0 chain.opening (lines_in text chain.block) n k (omega arith))
    ∙ before_chains steps read text chain.block.to chains last n k h.2 (omega arith)

-- the rows from a line on, looked up at any line from there

pub in_chains : {State Cell Items : Type 0} (steps : Steps State Cell Items) (read : List ℕ → List Cell) (text : Text) (at : ℕ)
    (chains : List (FoldedBlock State)) (i k : ℕ) → ChainsRise at chains (length text)
    → option_map as_past (find (is_at (at + i) k) (flat_map (full_of steps read text) chains)) ≡ past_at (rows_from steps read text at chains) i k
in_chains steps read text at [] i k h = sym (none_in_rows steps read (drop at text) i k)
in_chains {State = State} steps read text at (chain ∷ chains) i k h =
    let first : at ≤ chain.block.from = h.0 in
    let second : chain.block.from ≤ chain.block.to = omega (arith, h.1) in
    let end : chain.block.to ≤ length text = rise_end chain.block.to chains (length text) h.2 in
    let gap = map (no_pasts steps read) (lines_between text at chain.block.from) in
    let lines = lines_in text chain.block in
    let own = pasts_along steps read (past_of chain.source 0 chain.opening) lines in
    let others = rows_from steps read text chain.block.to chains in
    let a : length gap ≡ chain.block.from - at = length-map (lines_between text at chain.block.from) (no_pasts steps read) ∙ length-between text at chain.block.from first (omega arith) in
    let b' : length lines ≡ chain.block.to - chain.block.from = length-between text chain.block.from chain.block.to second end in
    let b : length own ≡ chain.block.to - chain.block.from = length-along steps read chain.source 0 chain.opening lines ∙ b' in
    let flat = flat_map (full_of steps read text) chains in
    ⊎_elim
    (λ (l : at + i < chain.block.from).
    let e : find (is_at (at + i) k) (full_of steps read text chain ++ flat) ≡ None =
    find_after (is_at (at + i) k) (full_of steps read text chain) flat (before_lines steps read chain.block.from chain.source 0 chain.opening lines (at + i) k l)
    ∙ before_chains steps read text chain.block.to chains (length text) (at + i) k h.2 (omega arith) in
    ap (option_map as_past) e
    ∙ sym (ap (λ row. option_flatten (slice_get row k)) (row_before gap (own ++ others) i (omega arith)) ∙ none_in_rows steps read (lines_between text at chain.block.from) i k))
    (λ (l : chain.block.from ≤ at + i).
    let j = at + i - chain.block.from in
    let here : chain.block.from + j ≡ at + i = omega arith in
    let there : length gap + j ≡ i = omega arith in
    ⊎_elim
    (λ (m : at + i < chain.block.to).
    ap (option_map as_past) (find_before (is_at (at + i) k) (full_of steps read text chain) flat (before_chains steps read text chain.block.to chains (length text) (at + i) k h.2 m))
    ∙ (ap (λ n. option_map as_past (find (is_at n k) (full_of steps read text chain))) (sym here)
    ∙ (in_lines steps read chain.block.from chain.source 0 chain.opening lines j k
    ∙ sym (ap (λ row. option_flatten (slice_get row k)) (ap (row_at (gap ++ (own ++ others))) (sym there) ∙ (row_after gap (own ++ others) j ∙ row_before own others j (omega arith)))))))
    (λ (m : chain.block.to ≤ at + i).
    let q = at + i - chain.block.to in
    let further : chain.block.to + q ≡ at + i = omega arith in
    let following : length own + q ≡ j = omega arith in
    ap (option_map as_past) (find_after (is_at (at + i) k) (full_of steps read text chain) flat (after_lines steps read chain.block.from chain.source 0 chain.opening lines (at + i) k (omega arith)))
    ∙ (ap (λ n. option_map as_past (find (is_at n k) flat)) (sym further)
    ∙ (in_chains steps read text chain.block.to chains q k h.2
    ∙ sym (ap (λ row. option_flatten (slice_get row k)) (ap (row_at (gap ++ (own ++ others))) (sym there)
    ∙ (row_after gap (own ++ others) j ∙ (ap (row_at (own ++ others)) (sym following) ∙ row_after own others q)))))))
    (cases_lt (at + i) chain.block.to))
    (cases_lt (at + i) chain.block.from)

-- the definitions and the rows of the old text agree

pub rows_hold : {State Cell Items : Type 0} (steps : Steps State Cell Items) (read : List ℕ → List Cell) (old : Layout State)
    (m k : ℕ) → LiesInOrder old → option_map as_past (find (is_at m k) (flat_map (full_of steps read old.text) (chains_of old))) ≡ past_at (rows_of steps read old) m k
rows_hold steps read old m k h =
    let here : 0 + m ≡ m = zero-add m in
    ap (λ n. option_map as_past (find (is_at n k) (flat_map (full_of steps read old.text) (chains_of old)))) (sym here) ∙ in_chains steps read old.text 0 (chains_of old) m k h

states_of : {State : Type 0} (o : Option (Full State)) → option_map (λ spot. spot.entered) (option_map as_spot o) ≡ entry_of_past (option_map as_past o)
states_of None = refl
states_of (Some one) = refl

pub entered_is : {State Cell Items : Type 0} (steps : Steps State Cell Items) (read : List ℕ → List Cell) (old : Layout State)
    (m k : ℕ) → LiesInOrder old → entry_of_past (past_at (rows_of steps read old) m k) ≡ entry_at steps read old m k
entered_is {State = State} steps read old m k h =
    let flat = flat_map (full_of steps read old.text) (chains_of old) in
    ap entry_of_past (sym (rows_hold steps read old m k h))
    ∙ (sym (states_of (find (is_at m k) flat))
    ∙ (ap (option_map (λ spot. spot.entered)) (sym (find-map (is_spot_at m k) as_spot flat))
    ∙ ap (λ l. option_map (λ (spot : Spot State). spot.entered) (find (is_spot_at m k) l)) (all_spots steps read old.text (chains_of old))))

-- a row of the new text is the one of the line that it is carried from
pub carried_rows : {State Cell Items : Type 0} (steps : Steps State Cell Items) (read : List ℕ → List Cell) (old : Layout State)
    (s : Splice) (line k : ℕ) → LiesInOrder old → s.at + s.removed ≤ length old.text
    → past_at (pasts steps read old s) line k ≡ option_and_then (λ m. past_at (rows_of steps read old) m k) (old_line s line)
carried_rows steps read old s line k h inside =
    let rows = rows_of steps read old in
    let front = take s.at rows in
    let fresh = map (no_pasts steps read) s.lines in
    let tail = drop (s.at + s.removed) rows in
    let all : length rows ≡ length old.text - 0 = length-rows steps read old.text 0 (chains_of old) h in
    let a : length front ≡ s.at = length-take s.at rows ∙ omega arith in
    let b : length fresh ≡ length s.lines = length-map s.lines (no_pasts steps read) in
    ⊎_elim
    (λ (l : line < s.at).
    let yes : nat_lt line s.at ≡ true = lt-ltb line s.at l in
    simp yes (ap (λ row. option_flatten (slice_get row k)) (row_before front (fresh ++ tail) line (omega arith) ∙ row_take s.at rows line l)))
    (λ (l : s.at ≤ line).
    let no : nat_lt line s.at ≡ false = le-ltb line s.at l in
    let j = line - s.at in
    let there : length front + j ≡ line = omega arith in
    let step : row_at (front ++ (fresh ++ tail)) line ≡ row_at (fresh ++ tail) j = ap (row_at (front ++ (fresh ++ tail))) (sym there) ∙ row_after front (fresh ++ tail) j in
    ⊎_elim
    (λ (m : line < s.at + length s.lines).
    let yes : nat_lt line (s.at + length s.lines) ≡ true = lt-ltb line (s.at + length s.lines) m in
    simp (no, yes) (ap (λ row. option_flatten (slice_get row k)) (step ∙ row_before fresh tail j (omega arith)) ∙ none_in_rows steps read s.lines j k))
    (λ (m : s.at + length s.lines ≤ line).
    let no' : nat_lt line (s.at + length s.lines) ≡ false = le-ltb line (s.at + length s.lines) m in
    let q = j - length s.lines in
    let following : length fresh + q ≡ j = omega arith in
    let was : s.at + s.removed + q ≡ line - length s.lines + s.removed = omega arith in
    simp (no, no') (ap (λ row. option_flatten (slice_get row k))
    (step ∙ (ap (row_at (fresh ++ tail)) (sym following) ∙ (row_after fresh tail q ∙ (row_drop (s.at + s.removed) rows q ∙ ap (row_at rows) was))))))
    (cases_lt line (s.at + length s.lines)))
    (cases_lt line s.at)

pub rows_agree : {State Cell Items : Type 0} → RowsAgree State Cell Items
rows_agree steps read old s line nth h inside = ap entry_of_past (carried_rows steps read old s line nth h inside) ∙ through (old_line s line)
  where
    through : (o : Option ℕ) → entry_of_past (option_and_then (λ m. past_at (rows_of steps read old) m nth) o) ≡ option_and_then (λ m. entry_at steps read old m nth) o
    through None = refl
    through (Some m) = entered_is steps read old m nth h
