-- Each cell of a text with its line and with its place in its chain: the flat list that both forms are of.
use Rattle.std.proofs.Common.{◌≡◌, ℕ, zero, suc, ◌+◌, ◌<◌, ◌≤◌, ◌==◌, ◌&&◌, true, false, Bool, List, [], ◌∷◌, ◌++◌, map, length}
use Rattle.std.proofs.Common.{slice_get, None, option_map, find, flat_map, refl, sym, ap, ◌∙◌, arith, zero-add, add-zero}
use Rattle.std.proofs.lemmas.Bool.{eq-eqb, ne_eqb, and_left, and_right}
use Rattle.std.proofs.lemmas.List.{map-append}
use Rattle.std.specs.Option.{option_flatten}
use Rattle.abc_lines.specs.Text.{Text}
use Rattle.abc_tune_compiler.specs.Tune.{lines_in}
use Rattle.abc_fold.specs.Steps.{Steps, state_after}
use Rattle.abc_live_cost.specs.Layout.{FoldedBlock}
use Rattle.abc_live_cost.specs.Spot.{Spot, spot_at, spots_in_line, spots_along, spots_of}
use Rattle.abc_live_cost.specs.Past.{Past, past_of, pasts_in_line, pasts_along, past_at}
use Rattle.abc_live_cost.proofs.Lists.{find_after, find_before}

pub record Full (State : Type 0) : Type 0 where
  pub line : ℕ
  pub nth : ℕ
  pub source : ℕ
  pub place : ℕ
  pub entered : State

abbrev pub full_at : {State : Type 0} → ℕ → ℕ → ℕ → ℕ → State → Full State
full_at line nth source place entered = record { line = line; nth = nth; source = source; place = place; entered = entered }

abbrev pub as_spot : {State : Type 0} → Full State → Spot State
as_spot one = spot_at one.line one.nth one.entered

abbrev pub as_past : {State : Type 0} → Full State → Past State
as_past one = past_of one.source one.place one.entered

abbrev pub full_line : {State Cell : Type 0} → (State → Cell → State) → ℕ → ℕ → ℕ → ℕ → State → List Cell → List (Full State)
full_line next line nth source place state [] = []
full_line next line nth source place state (cell ∷ cells) = full_at line nth source place state ∷ full_line next line (nth + 1) source (place + 1) (next state cell) cells

abbrev pub full_along : {State Cell Items : Type 0} → Steps State Cell Items → (List ℕ → List Cell) → ℕ → ℕ → ℕ → State → Text → List (Full State)
full_along steps read line source place state [] = []
full_along steps read line source place state (bytes ∷ lines) =
    full_line steps.next line 0 source place state (read bytes)
    ++ full_along steps read (line + 1) source (place + length (read bytes)) (state_after steps.next state (read bytes)) lines

abbrev pub full_of : {State Cell Items : Type 0} → Steps State Cell Items → (List ℕ → List Cell) → Text → FoldedBlock State → List (Full State)
full_of steps read text chain = full_along steps read chain.block.from chain.source 0 chain.opening (lines_in text chain.block)

abbrev pub is_at : {State : Type 0} → ℕ → ℕ → Full State → Bool
is_at line nth one = (one.line == line) && (one.nth == nth)

-- spots are full ones seen from the text

pub line_spots : {State Cell : Type 0} (next : State → Cell → State) (line nth source place : ℕ) (state : State) (cells : List Cell)
    → map as_spot (full_line next line nth source place state cells) ≡ spots_in_line next line nth state cells
line_spots next line nth source place state [] = refl
line_spots next line nth source place state (cell ∷ cells) = ap (λ l. spot_at line nth state ∷ l) (line_spots next line (nth + 1) source (place + 1) (next state cell) cells)

pub along_spots : {State Cell Items : Type 0} (steps : Steps State Cell Items) (read : List ℕ → List Cell) (line source place : ℕ)
    (state : State) (lines : Text) → map as_spot (full_along steps read line source place state lines) ≡ spots_along steps read line state lines
along_spots steps read line source place state [] = refl
along_spots steps read line source place state (bytes ∷ lines) =
    map-append as_spot (full_line steps.next line 0 source place state (read bytes))
    (full_along steps read (line + 1) source (place + length (read bytes)) (state_after steps.next state (read bytes)) lines)
    ∙ (λ i. line_spots steps.next line 0 source place state (read bytes) i
    ++ along_spots steps read (line + 1) source (place + length (read bytes)) (state_after steps.next state (read bytes)) lines i)

pub all_spots : {State Cell Items : Type 0} (steps : Steps State Cell Items) (read : List ℕ → List Cell) (text : Text)
    (chains : List (FoldedBlock State)) → map as_spot (flat_map (full_of steps read text) chains) ≡ flat_map (spots_of steps read text) chains
all_spots steps read text [] = refl
all_spots steps read text (chain ∷ chains) =
    map-append as_spot (full_of steps read text chain) (flat_map (full_of steps read text) chains)
    ∙ (λ i. along_spots steps read chain.block.from chain.source 0 chain.opening (lines_in text chain.block) i ++ all_spots steps read text chains i)

-- what is looked up in a line

pub other_line : {State Cell : Type 0} (next : State → Cell → State) (line nth source place : ℕ) (state : State) (cells : List Cell)
    (n k : ℕ) → (line ≡ n → ⊥) → find (is_at n k) (full_line next line nth source place state cells) ≡ None
other_line next line nth source place state [] n k h = refl
other_line next line nth source place state (cell ∷ cells) n k h =
    let no : ((line == n) && (nth == k)) ≡ false = and_left (line == n) (nth == k) (ne_eqb line n h) in
    simp no (other_line next line (nth + 1) source (place + 1) (next state cell) cells n k h)

pub in_line : {State Cell : Type 0} (next : State → Cell → State) (line nth source place : ℕ) (state : State) (cells : List Cell)
    (k : ℕ) → option_map as_past (find (is_at line (nth + k)) (full_line next line nth source place state cells)) ≡ option_flatten (slice_get (pasts_in_line next source place state cells) k)
in_line next line nth source place state [] k = refl
in_line next line nth source place state (cell ∷ cells) zero =
    let a : (line == line) ≡ true = eq-eqb line line refl in
    let b : (nth == nth + 0) ≡ true = eq-eqb nth (nth + 0) (omega arith) in
    simp (a, b)
in_line next line nth source place state (cell ∷ cells) (suc k) =
    let no : ((line == line) && (nth == nth + suc k)) ≡ false = and_right (line == line) (nth == nth + suc k) (ne_eqb nth (nth + suc k) (λ e. omega arith)) in
    let here : nth + suc k ≡ nth + 1 + k = omega arith in
    simp no (ap (λ m. option_map as_past (find (is_at line m)
    (full_line next line (nth + 1) source (place + 1) (next state cell) cells))) here ∙ in_line next line (nth + 1) source (place + 1) (next state cell) cells k)

-- what is looked up along lines

pub before_lines : {State Cell Items : Type 0} (steps : Steps State Cell Items) (read : List ℕ → List Cell) (line source place : ℕ)
    (state : State) (lines : Text) (n k : ℕ) → n < line → find (is_at n k) (full_along steps read line source place state lines) ≡ None
before_lines steps read line source place state [] n k h = refl
before_lines steps read line source place state (bytes ∷ lines) n k h =
    find_after (is_at n k) _ _ (other_line steps.next line 0 source place state (read bytes) n k (λ e. omega arith))
    ∙ before_lines steps read (line + 1) source (place + length (read bytes)) (state_after steps.next state (read bytes)) lines n k (omega arith)

pub after_lines : {State Cell Items : Type 0} (steps : Steps State Cell Items) (read : List ℕ → List Cell) (line source place : ℕ)
    (state : State) (lines : Text) (n k : ℕ) → line + length lines ≤ n → find (is_at n k) (full_along steps read line source place state lines) ≡ None
after_lines steps read line source place state [] n k h = refl
after_lines steps read line source place state (bytes ∷ lines) n k h =
    find_after (is_at n k) _ _ (other_line steps.next line 0 source place state (read bytes) n k (λ e. omega arith))
    ∙ after_lines steps read (line + 1) source (place + length (read bytes)) (state_after steps.next state (read bytes)) lines n k (omega arith)

pub in_lines : {State Cell Items : Type 0} (steps : Steps State Cell Items) (read : List ℕ → List Cell) (line source place : ℕ)
    (state : State) (lines : Text) (i k : ℕ) → option_map as_past
    (find (is_at (line + i) k) (full_along steps read line source place state lines)) ≡ past_at (pasts_along steps read (past_of source place state) lines) i k
in_lines steps read line source place state [] i k = refl
in_lines steps read line source place state (bytes ∷ lines) zero k =
    let here : line + 0 ≡ line = add-zero line in
    let there : 0 + k ≡ k = zero-add k in
    rw here (
    ap (option_map as_past) (find_before (is_at line k) (full_line steps.next line 0 source place state (read bytes)) _
    (before_lines steps read (line + 1) source (place + length (read bytes)) (state_after steps.next state (read bytes)) lines line k (omega arith)))
    ∙ ap (λ m. option_map as_past (find (is_at line m) (full_line steps.next line 0 source place state (read bytes)))) (sym there)
    ∙ in_line steps.next line 0 source place state (read bytes) k)
in_lines steps read line source place state (bytes ∷ lines) (suc i) k =
    let here : line + suc i ≡ line + 1 + i = omega arith in
    rw here (
    ap (option_map as_past) (find_after (is_at (line + 1 + i) k) (full_line steps.next line 0 source place state (read bytes)) _
    (other_line steps.next line 0 source place state (read bytes) (line + 1 + i) k (λ e. omega arith)))
    ∙ in_lines steps read (line + 1) source (place + length (read bytes)) (state_after steps.next state (read bytes)) lines i k)
