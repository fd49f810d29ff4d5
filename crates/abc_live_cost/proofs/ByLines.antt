-- The lines of the cells of chains determine the cells.
use Rattle.std.proofs.Common.{◌≡◌, ℕ, ◌+◌, ◌-◌, ◌<◌, ◌≤◌, ◌==◌, ◌⊎◌, inl, inr, true, false, List, [], ◌∷◌, ◌++◌, length, nat_lt}
use Rattle.std.proofs.Common.{Option, Some, refl, sym, ap, ◌∙◌, subst, ⊎_elim, arith}
use Rattle.std.proofs.lemmas.Bool.{cases_Bool, cases_lt, lt-ltb, le-ltb, eq-eqb}
use Rattle.abc_lines.specs.Text.{Text, Splice}
use Rattle.abc_tune_compiler.specs.Tune.{lines_in}
use Rattle.abc_fold.specs.Steps.{Steps, state_after}
use Rattle.abc_live_cost.specs.Spot.{Spot, spots_in_line, spots_along, spots_of}
use Rattle.abc_live_cost.specs.FreshCells.{old_line, is_line, are_carried_from}
use Rattle.abc_live_cost.specs.Pieces.{have_lines_of}
use Rattle.abc_live_cost.specs.Laws.{LinesSuffice}
use Rattle.abc_live_cost.proofs.SameCells.{is_carried_line}

-- after the nth cell of a line comes the next of the line, or the first of a later one
abbrev Goes_on : {State : Type 0} → ℕ → ℕ → List (Spot State) → Type 0
Goes_on line nth [] = Unit {0}
Goes_on line nth (spot ∷ spots) = (((spot.line ≡ line) × (spot.nth ≡ nth)) ⊎ ((line < spot.line) × (spot.nth ≡ 0))) × Goes_on spot.line (spot.nth + 1) spots

abbrev Later : {State : Type 0} → ℕ → List (Spot State) → Type 0
Later line [] = Unit {0}
Later line (spot ∷ spots) = (line < spot.line) × (spot.nth ≡ 0) × Goes_on spot.line (spot.nth + 1) spots

from_later : {State : Type 0} (line nth : ℕ) (spots : List (Spot State)) → Later line spots → Goes_on line nth spots
from_later line nth [] h = tt
from_later line nth (spot ∷ spots) h = (inr (h.0, h.1), h.2)

line_goes_on : {State Cell : Type 0} (next : State → Cell → State) (line nth : ℕ) (state : State) (cells : List Cell)
    (others : List (Spot State)) → Later line others → Goes_on line nth (spots_in_line next line nth state cells ++ others)
line_goes_on next line nth state [] others h = from_later line nth others h
line_goes_on next line nth state (cell ∷ cells) others h = (inl (refl, refl), line_goes_on next line (nth + 1) (next state cell) cells others h)

line_later : {State Cell : Type 0} (next : State → Cell → State) (low line : ℕ) (state : State) (cells : List Cell)
    (others : List (Spot State)) → low < line → Later line others → Later low others → Later low (spots_in_line next line 0 state cells ++ others)
line_later next low line state [] others l h k = k
line_later next low line state (cell ∷ cells) others l h k = (l, refl, line_goes_on next line (0 + 1) (next state cell) cells others h)

along_later : {State Cell Items : Type 0} (steps : Steps State Cell Items) (read : List ℕ → List Cell) (low line : ℕ)
    (state : State) (lines : Text) → low < line → Later low (spots_along steps read line state lines)
along_later steps read low line state [] l = tt
along_later steps read low line state (bytes ∷ lines) l =
    line_later steps.next low line state (read bytes) (spots_along steps read (line + 1) (state_after steps.next state (read bytes)) lines) l
    (along_later steps read line (line + 1) (state_after steps.next state (read bytes)) lines (omega arith))
    (along_later steps read low (line + 1) (state_after steps.next state (read bytes)) lines (omega arith))

-- a line is carried from no line twice
pub carried_once : (s : Splice) (a b m : ℕ) → old_line s a ≡ Some m → old_line s b ≡ Some m → a < b → ⊥
carried_once s a b m h k l =
    ⊎_elim
    (λ (p : a < s.at).
    let yes_a : nat_lt a s.at ≡ true = lt-ltb a s.at p in
    let m_a : a ≡ m = cc (simp yes_a at h) in
    ⊎_elim
    (λ (q : b < s.at). let yes_b : nat_lt b s.at ≡ true = lt-ltb b s.at q in let m_b : b ≡ m = cc (simp yes_b at k) in omega arith)
    (λ (q : s.at ≤ b). following b q k (λ e r. omega arith))
    (cases_lt b s.at))
    (λ (p : s.at ≤ a). following a p h (λ e r. following b (let far : s.at ≤ b = omega arith in far) k (λ e' r'. omega arith)))
    (cases_lt a s.at)
  where
    following : (n : ℕ) → s.at ≤ n → old_line s n ≡ Some m → (n - length s.lines + s.removed ≡ m → s.at + length s.lines ≤ n → ⊥) → ⊥
    following n p h use' =
        let no : nat_lt n s.at ≡ false = le-ltb n s.at p in
        ⊎_elim
        (λ (q : n < s.at + length s.lines). let in_new : nat_lt n (s.at + length s.lines) ≡ true = lt-ltb n (s.at + length s.lines) q in absurd (cc (simp (no, in_new) at h)))
        (λ (q : s.at + length s.lines ≤ n). let past : nat_lt n (s.at + length s.lines)
        ≡ false = le-ltb n (s.at + length s.lines) q in let e : n - length s.lines + s.removed ≡ m = cc (simp (no, past) at h) in use' e q)
        (cases_lt n (s.at + length s.lines))

some_line : (o : Option ℕ) (a b : ℕ) → o ≡ Some a → o ≡ Some b → a ≡ b
some_line o a b h k = cc

-- the place in the line follows
same_nth : {State : Type 0} (s : Splice) (line nth was_line : ℕ) (spot was : Spot State) → old_line s line ≡ Some was_line
    → old_line s spot.line ≡ Some was.line → ((spot.line ≡ line) × (spot.nth ≡ nth)) ⊎ ((line < spot.line) × (spot.nth ≡ 0))
    → ((was.line ≡ was_line) × (was.nth ≡ nth)) ⊎ ((was_line < was.line) × (was.nth ≡ 0)) → spot.nth ≡ was.nth
same_nth s line nth was_line spot was h k a b = ⊎_elim
    (λ (p : (spot.line ≡ line) × (spot.nth ≡ nth)). ⊎_elim
    (λ (q : (was.line ≡ was_line) × (was.nth ≡ nth)). p.1 ∙ sym q.1)
    (λ (q : (was_line < was.line) × (was.nth ≡ 0)).
    let one : was_line ≡ was.line = some_line (old_line s spot.line) was_line was.line (ap (old_line s) p.0 ∙ h) k in
    let less : was_line < was.line = q.0 in absurd (omega arith))
    b)
    (λ (p : (line < spot.line) × (spot.nth ≡ 0)). ⊎_elim
    (λ (q : (was.line ≡ was_line) × (was.nth ≡ nth)). absurd (carried_once s line spot.line was_line h (k ∙ ap (λ n. Some n) q.0) p.0))
    (λ (q : (was_line < was.line) × (was.nth ≡ 0)). p.1 ∙ sym q.1)
    b)
    a

by_lines : {State : Type 0} (s : Splice) (line nth was_line : ℕ) (spots old_spots : List (Spot State))
    → old_line s line ≡ Some was_line → Goes_on line nth spots → Goes_on was_line nth old_spots → have_lines_of s spots old_spots ≡ are_carried_from s spots old_spots
by_lines s line nth was_line [] [] e h k = refl
by_lines s line nth was_line [] (was ∷ old_spots) e h k = refl
by_lines s line nth was_line (spot ∷ spots) [] e h k = refl
by_lines s line nth was_line (spot ∷ spots) (was ∷ old_spots) e h k = ⊎_elim
    (λ (m : is_line was.line (old_line s spot.line) ≡ true).
    let here : old_line s spot.line ≡ Some was.line = is_carried_line (old_line s spot.line) was.line m in
    let nths : spot.nth ≡ was.nth = same_nth s line nth was_line spot was e here h.0 k.0 in
    let test : (spot.nth == was.nth) ≡ true = eq-eqb spot.nth was.nth nths in
    let more : have_lines_of s spots old_spots ≡ are_carried_from s spots old_spots = by_lines s spot.line
    (spot.nth + 1) was.line spots old_spots here h.1 (subst (λ n. Goes_on was.line n old_spots) (ap (λ n. n + 1) (sym nths)) k.1) in
    simp (m, test) more)
    (λ (m : is_line was.line (old_line s spot.line) ≡ false). simp m)
    (cases_Bool (is_line was.line (old_line s spot.line)))

-- a chain begins with the first cell of a line
abbrev Begins : {State : Type 0} → List (Spot State) → Type 0
Begins [] = Unit {0}
Begins (spot ∷ spots) = (spot.nth ≡ 0) × Goes_on spot.line (spot.nth + 1) spots

line_begins : {State Cell : Type 0} (next : State → Cell → State) (line : ℕ) (state : State) (cells : List Cell)
    (others : List (Spot State)) → Later line others → Begins others → Begins (spots_in_line next line 0 state cells ++ others)
line_begins next line state [] others h k = k
line_begins next line state (cell ∷ cells) others h k = (refl, line_goes_on next line (0 + 1) (next state cell) cells others h)

along_begins : {State Cell Items : Type 0} (steps : Steps State Cell Items) (read : List ℕ → List Cell) (line : ℕ) (state : State) (lines : Text) → Begins (spots_along steps read line state lines)
along_begins steps read line state [] = tt
along_begins steps read line state (bytes ∷ lines) =
    line_begins steps.next line state (read bytes) (spots_along steps read (line + 1) (state_after steps.next state (read bytes)) lines)
    (along_later steps read line (line + 1) (state_after steps.next state (read bytes)) lines (omega arith))
    (along_begins steps read (line + 1) (state_after steps.next state (read bytes)) lines)

from_start : {State : Type 0} (s : Splice) (spots old_spots : List (Spot State)) → Begins spots → Begins old_spots → have_lines_of s spots old_spots ≡ are_carried_from s spots old_spots
from_start s [] [] h k = refl
from_start s [] (was ∷ old_spots) h k = refl
from_start s (spot ∷ spots) [] h k = refl
from_start s (spot ∷ spots) (was ∷ old_spots) h k = ⊎_elim
    (λ (m : is_line was.line (old_line s spot.line) ≡ true). by_lines s spot.line 0 was.line (spot ∷ spots) (was ∷ old_spots)
    (is_carried_line (old_line s spot.line) was.line m) (inl (refl, h.0), h.1) (inl (refl, k.0), k.1))
    (λ (m : is_line was.line (old_line s spot.line) ≡ false). simp m)
    (cases_Bool (is_line was.line (old_line s spot.line)))

pub lines_suffice : {State Cell Items : Type 0} → LinesSuffice State Cell Items
lines_suffice steps read old text s chain was =
    from_start s (spots_of steps read text chain) (spots_of steps read old was)
    (along_begins steps read chain.block.from chain.opening (lines_in text chain.block))
    (along_begins steps read was.block.from was.opening (lines_in old was.block))
