-- Cells follow one another in their lines and in their chains, so that each is found at its line and at its place alone.
use Rattle.std.proofs.Common.{◌≡◌, ℕ, ◌+◌, ◌-◌, ◌<◌, ◌≤◌, ◌==◌, ◌&&◌, ◌⊎◌, inl, inr, true, false, Bool, List, [], ◌∷◌, ◌++◌, drop}
use Rattle.std.proofs.Common.{length, Some, find, flat_map, refl, sym, ap, ◌∙◌, subst, ⊎_elim, arith}
use Rattle.std.proofs.lemmas.Bool.{cases_Bool, eq-eqb, ne_eqb, and_from, and_left, and_right}
use Rattle.std.proofs.lemmas.List.{length-take}
use Rattle.abc_lines.specs.Text.{Text}
use Rattle.abc_tune_compiler.specs.Tune.{lines_in}
use Rattle.abc_fold.specs.Steps.{Steps, state_after}
use Rattle.abc_live_cost.specs.Layout.{FoldedBlock, ChainsRise}
use Rattle.abc_live_cost.proofs.AllCells.{Full, full_at, full_line, full_along, full_of, is_at}

-- each of a list
abbrev pub Each : {A : Type 0} → (A → Type 0) → List A → Type 0
Each P [] = Unit {0}
Each P (x ∷ xs) = P x × Each P xs

-- one of a list
abbrev pub In : {A : Type 0} → A → List A → Type 0
In w [] = ⊥
In w (x ∷ xs) = (x ≡ w) ⊎ In w xs

pub each_append : {A : Type 0} (P : A → Type 0) (xs ys : List A) → Each P xs → Each P ys → Each P (xs ++ ys)
each_append P [] ys h k = k
each_append P (x ∷ xs) ys h k = (h.0, each_append P xs ys h.1 k)

pub each_weaker : {A : Type 0} (P Q : A → Type 0) (xs : List A) → ((x : A) → P x → Q x) → Each P xs → Each Q xs
each_weaker P Q [] g h = tt
each_weaker P Q (x ∷ xs) g h = (g x h.0, each_weaker P Q xs g h.1)

pub each_in : {A : Type 0} (P : A → Type 0) (w : A) (xs : List A) → Each P xs → In w xs → P w
each_in P w [] h k = absurd k
each_in P w (x ∷ xs) h k = ⊎_elim (λ (e : x ≡ w). subst P e h.0) (λ (m : In w xs). each_in P w xs h.1 m) k

pub in_left : {A : Type 0} (w : A) (xs ys : List A) → In w xs → In w (xs ++ ys)
in_left w [] ys h = absurd h
in_left w (x ∷ xs) ys h = ⊎_elim (λ (e : x ≡ w). inl e) (λ (m : In w xs). inr (in_left w xs ys m)) h

pub in_right : {A : Type 0} (w : A) (xs ys : List A) → In w ys → In w (xs ++ ys)
in_right w [] ys h = h
in_right w (x ∷ xs) ys h = inr (in_right w xs ys h)

-- one cell is before another, in the text and in the chains
pub record Before {State : Type 0} (x y : Full State) : Type 0 where
  pub lines : (x.line < y.line) ⊎ ((x.line ≡ y.line) × (x.nth < y.nth))
  pub chains : (x.source < y.source) ⊎ ((x.source ≡ y.source) × (x.place < y.place))

abbrev pub Rising : {State : Type 0} → List (Full State) → Type 0
Rising [] = Unit {0}
Rising (x ∷ xs) = Each (Before x) xs × Rising xs

pub rising_append : {State : Type 0} (P Q : Full State → Type 0) (xs ys : List (Full State)) → Rising xs → Rising ys → Each P xs
    → Each Q ys → ((x y : Full State) → P x → Q y → Before x y) → Rising (xs ++ ys)
rising_append P Q [] ys h k p q g = k
rising_append P Q (x ∷ xs) ys h k p q g =
    (each_append (Before x) xs ys h.0 (each_weaker Q (Before x) ys (λ y r. g x y p.0 r) q), rising_append P Q xs ys h.1 k p.1 q g)

-- the places of the cells of a line, of lines and of chains

pub record InLine {State : Type 0} (line nth source place end : ℕ) (x : Full State) : Type 0 where
  pub line_is : x.line ≡ line
  pub nth_from : nth ≤ x.nth
  pub source_is : x.source ≡ source
  pub from : place ≤ x.place
  pub below : x.place < end

pub record InLines {State : Type 0} (first last source place : ℕ) (x : Full State) : Type 0 where
  pub line_from : first ≤ x.line
  pub line_to : x.line < last
  pub source_is : x.source ≡ source
  pub from : place ≤ x.place

pub record InChains {State : Type 0} (first source : ℕ) (x : Full State) : Type 0 where
  pub line_from : first ≤ x.line
  pub source_from : source ≤ x.source

pub line_each : {State Cell : Type 0} (next : State → Cell → State) (line nth source place : ℕ) (state : State) (cells : List Cell)
    → Each (InLine line nth source place (place + length cells)) (full_line next line nth source place state cells)
line_each next line nth source place state [] = tt
line_each next line nth source place state (cell ∷ cells) = (
  record { line_is = refl; nth_from = omega arith; source_is = refl; from = omega arith; below = omega arith },
  each_weaker (InLine line (nth + 1) source (place + 1) (place + 1 + length cells))
      (InLine line nth source place (place + length (cell ∷ cells))) (full_line next line (nth + 1) source (place + 1) (next state cell) cells)
      (λ x h. record { line_is = h.line_is; nth_from = omega (arith, h.nth_from); source_is = h.source_is; from = omega (arith, h.from); below = omega (arith, h.below) })
      (line_each next line (nth + 1) source (place + 1) (next state cell) cells),
)

pub line_rises : {State Cell : Type 0} (next : State → Cell → State) (line nth source place : ℕ) (state : State) (cells : List Cell) → Rising (full_line next line nth source place state cells)
line_rises next line nth source place state [] = tt
line_rises next line nth source place state (cell ∷ cells) = (
  each_weaker (InLine line (nth + 1) source (place + 1) (place + 1 + length cells)) (Before (full_at line nth source place state))
      (full_line next line (nth + 1) source (place + 1) (next state cell) cells)
      (λ x h. record { lines = inr (sym h.line_is, omega (arith, h.nth_from)); chains = inr (sym h.source_is, omega (arith, h.from)) })
      (line_each next line (nth + 1) source (place + 1) (next state cell) cells),
  line_rises next line (nth + 1) source (place + 1) (next state cell) cells,
)

pub along_each : {State Cell Items : Type 0} (steps : Steps State Cell Items) (read : List ℕ → List Cell) (line source place : ℕ)
    (state : State) (lines : Text) → Each (InLines line (line + length lines) source place) (full_along steps read line source place state lines)
along_each steps read line source place state [] = tt
along_each steps read line source place state (bytes ∷ lines) =
    let cells = read bytes in
    let end = line + length (bytes ∷ lines) in
    each_append (InLines line end source place) (full_line steps.next line 0 source place state cells)
    (full_along steps read (line + 1) source (place + length cells) (state_after steps.next state cells) lines)
    (each_weaker (InLine line 0 source place (place + length cells)) (InLines line end source place) (full_line steps.next line 0 source place state cells)
    (λ x h. record { line_from = omega (arith, h.line_is); line_to = omega (arith, h.line_is); source_is = h.source_is; from = h.from })
    (line_each steps.next line 0 source place state cells))
    (each_weaker (InLines (line + 1) (line + 1 + length lines) source (place + length cells)) (InLines line end source place)
    (full_along steps read (line + 1) source (place + length cells) (state_after steps.next state cells) lines)
    (λ x h. record { line_from = omega (arith, h.line_from); line_to = omega (arith, h.line_to); source_is = h.source_is; from = omega (arith, h.from) })
    (along_each steps read (line + 1) source (place + length cells) (state_after steps.next state cells) lines))

pub along_rises : {State Cell Items : Type 0} (steps : Steps State Cell Items) (read : List ℕ → List Cell) (line source place : ℕ)
    (state : State) (lines : Text) → Rising (full_along steps read line source place state lines)
along_rises steps read line source place state [] = tt
along_rises steps read line source place state (bytes ∷ lines) =
    let cells = read bytes in
    rising_append (InLine line 0 source place (place + length cells)) (InLines (line + 1) (line + 1 + length lines) source (place + length cells))
    (full_line steps.next line 0 source place state cells) (full_along steps read (line + 1) source (place + length cells) (state_after steps.next state cells) lines)
    (line_rises steps.next line 0 source place state cells)
    (along_rises steps read (line + 1) source (place + length cells) (state_after steps.next state cells) lines)
    (line_each steps.next line 0 source place state cells)
    (along_each steps read (line + 1) source (place + length cells) (state_after steps.next state cells) lines)
    (λ x y h k. record { lines = inl (omega (arith, h.line_is, k.line_from)); chains = inr (h.source_is ∙ sym k.source_is, omega (arith, h.below, k.from)) })

abbrev pub SourcesRise : {State : Type 0} → ℕ → List (FoldedBlock State) → Type 0
SourcesRise source [] = Unit {0}
SourcesRise source (chain ∷ chains) = (source ≤ chain.source) × SourcesRise (chain.source + 1) chains

pub chains_each : {State Cell Items : Type 0} (steps : Steps State Cell Items) (read : List ℕ → List Cell) (text : Text)
    (first source : ℕ) (chains : List (FoldedBlock State)) (last : ℕ) → ChainsRise first chains last → SourcesRise source chains
    → Each (InChains first source) (flat_map (full_of steps read text) chains)
chains_each steps read text first source [] last h k = tt
chains_each steps read text first source (chain ∷ chains) last h k =
    let a : first ≤ chain.block.from = h.0 in
    let b : chain.block.from ≤ chain.block.to = omega (arith, h.1) in
    let c : source ≤ chain.source = k.0 in
    let lines = lines_in text chain.block in
    each_append (InChains first source) (full_of steps read text chain) (flat_map (full_of steps read text) chains)
    (each_weaker (InLines chain.block.from (chain.block.from + length lines) chain.source 0) (InChains first source) (full_of steps read text chain)
    (λ x m. record { line_from = omega (arith, m.line_from); source_from = omega (arith, m.source_is) })
    (along_each steps read chain.block.from chain.source 0 chain.opening lines))
    (each_weaker (InChains chain.block.to (chain.source + 1)) (InChains first source) (flat_map (full_of steps read text) chains)
    (λ x m. record { line_from = omega (arith, m.line_from); source_from = omega (arith, m.source_from) })
    (chains_each steps read text chain.block.to (chain.source + 1) chains last h.2 k.1))

pub chains_rise : {State Cell Items : Type 0} (steps : Steps State Cell Items) (read : List ℕ → List Cell) (text : Text)
    (first source : ℕ) (chains : List (FoldedBlock State)) (last : ℕ) → ChainsRise first chains last → SourcesRise source chains → Rising (flat_map (full_of steps read text) chains)
chains_rise steps read text first source [] last h k = tt
chains_rise steps read text first source (chain ∷ chains) last h k =
    let b : chain.block.from ≤ chain.block.to = omega (arith, h.1) in
    let lines = lines_in text chain.block in
    let short = length-take (chain.block.to - chain.block.from) (drop chain.block.from text) in
    rising_append (InLines chain.block.from (chain.block.from + length lines) chain.source 0) (InChains chain.block.to (chain.source + 1))
    (full_of steps read text chain) (flat_map (full_of steps read text) chains)
    (along_rises steps read chain.block.from chain.source 0 chain.opening lines)
    (chains_rise steps read text chain.block.to (chain.source + 1) chains last h.2 k.1)
    (along_each steps read chain.block.from chain.source 0 chain.opening lines)
    (chains_each steps read text chain.block.to (chain.source + 1) chains last h.2 k.1)
    (λ x y m n. record { lines = inl (omega (arith, m.line_to, n.line_from)); chains = inl (omega (arith, m.source_is, n.source_from)) })

-- one that a test knows from all before it is found by it

pub found : {State : Type 0} (test : Full State → Bool) (w : Full State) (xs : List (Full State)) → Rising xs → In w xs
    → test w ≡ true → ((x : Full State) → Before x w → test x ≡ false) → find test xs ≡ Some w
found test w [] h k hit miss = absurd k
found test w (x ∷ xs) h k hit miss = ⊎_elim
    (λ (e : x ≡ w). let here : test x ≡ true = ap test e ∙ hit in simp here (ap (λ y. Some y) e))
    (λ (m : In w xs). let here : test x ≡ false = miss x (each_in (Before x) w xs h.0 m) in simp here (found test w xs h.1 m hit miss))
    k

pub found_in : {A : Type 0} (test : A → Bool) (x : A) (xs : List A) → find test xs ≡ Some x → In x xs × (test x ≡ true)
found_in test x [] h = absurd (cc)
found_in test x (y ∷ ys) h = ⊎_elim
    (λ (e : test y ≡ true). let same : y ≡ x = cc (simp e at h) in (inl same, ap test (sym same) ∙ e))
    (λ (e : test y ≡ false). let more = found_in test x ys (simp e at h) in (inr more.0, more.1))
    (cases_Bool (test y))

abbrev pub is_of : {State : Type 0} → ℕ → ℕ → Full State → Bool
is_of source place one = (one.source == source) && (one.place == place)

-- a cell is found by two numbers, a place and a place in it, that rise from each earlier cell to it
found_by : {State : Type 0} (a b : Full State → ℕ) (w : Full State) (xs : List (Full State)) → Rising xs → In w xs
    → ((x : Full State) → Before x w → (a x < a w) ⊎ ((a x ≡ a w) × (b x < b w))) → find (λ x. (a x == a w) && (b x == b w)) xs ≡ Some w
found_by {State = State} a b w xs h k rises = found (λ (x : Full State). (a x == a w) && (b x == b w)) w xs h k
    (and_from (a w == a w) (b w == b w) (eq-eqb (a w) (a w) refl) (eq-eqb (b w) (b w) refl))
    (λ x earlier. ⊎_elim
    (λ (l : a x < a w). and_left (a x == a w) (b x == b w) (ne_eqb (a x) (a w) (λ e. omega arith)))
    (λ (l : (a x ≡ a w) × (b x < b w)). let m = l.1 in and_right (a x == a w) (b x == b w) (ne_eqb (b x) (b w) (λ e. omega arith)))
    (rises x earlier))

pub found_at_line : {State : Type 0} (w : Full State) (xs : List (Full State)) → Rising xs → In w xs → find (is_at w.line w.nth) xs ≡ Some w
found_at_line {State = State} w xs h k = found_by (λ (x : Full State). x.line) (λ (x : Full State). x.nth) w xs h k (λ x earlier. earlier.lines)

pub found_at_place : {State : Type 0} (w : Full State) (xs : List (Full State)) → Rising xs → In w xs → find (is_of w.source w.place) xs ≡ Some w
found_at_place {State = State} w xs h k = found_by (λ (x : Full State). x.source) (λ (x : Full State). x.place) w xs h k (λ x earlier. earlier.chains)
