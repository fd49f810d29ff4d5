-- Folds by definition, and when one can be resumed from a stored state.
use Rattle.std.specs.Prelude.{◌≡◌, Bool, true, List, [], ◌∷◌, refl}
use Rattle.std.specs.List.{AllZip}

-- The definition of a fold: the state after a cell and the items that the cell gives, if it is entered in a state;
-- and which states are equivalent. Not in ABC 2.1.
pub record Steps (State Cell Items : Type 0) : Type 0 where
  pub next : State → Cell → State
  pub gives : State → Cell → Items
  pub alike : State → State → Bool

-- Two states are equivalent: nothing after them depends on which it is. Not in ABC 2.1.
abbrev pub IsAlike : {State Cell Items : Type 0} → Steps State Cell Items → State → State → Type 0
IsAlike steps a b = steps.alike a b ≡ true

-- Equivalent states may replace each other: from them equal cells give equal items and equivalent states
-- again. Not in ABC 2.1.
pub record IsResumable {State Cell Items : Type 0} (steps : Steps State Cell Items) : Type 0 where
  pub reflexive : (a : State) → IsAlike steps a a
  pub symmetric : (a b : State) → IsAlike steps a b → IsAlike steps b a
  pub transitive : (a b c : State) → IsAlike steps a b → IsAlike steps b c → IsAlike steps a c
  pub equal_items : (a b : State) (cell : Cell) → IsAlike steps a b → steps.gives a cell ≡ steps.gives b cell
  pub alike_states : (a b : State) (cell : Cell) → IsAlike steps a b → IsAlike steps (steps.next a cell) (steps.next b cell)

-- The state after cells, by the steps of a fold. Not in ABC 2.1.
abbrev pub state_after : {State Cell : Type 0} → (State → Cell → State) → State → List Cell → State
state_after next state [] = state
state_after next state (cell ∷ cells) = state_after next (next state cell) cells

-- The states of a fold over cells, from the one in which the first is entered to the one in which the last is left. Not
-- in ABC 2.1.
abbrev pub states_from : {State Cell Items : Type 0} → Steps State Cell Items → State → List Cell → List State
states_from steps state [] = state ∷ []
states_from steps state (cell ∷ cells) = state ∷ states_from steps (steps.next state cell) cells

-- The items of a fold over cells, cell by cell. Not in ABC 2.1.
abbrev pub items_from : {State Cell Items : Type 0} → Steps State Cell Items → State → List Cell → List Items
items_from steps state [] = []
items_from steps state (cell ∷ cells) = steps.gives state cell ∷ items_from steps (steps.next state cell) cells

-- States are equivalent, place by place. Not in ABC 2.1.
abbrev pub AreAlike : {State Cell Items : Type 0} → Steps State Cell Items → List State → List State → Type 0
AreAlike steps some others = AllZip (IsAlike steps) some others

-- A fold whose states are equivalent only if they are equal is resumable.
pub resumable_where_equal : {State Cell Items : Type 0} (steps : Steps State Cell Items)
    → ((a b : State) → IsAlike steps a b → a ≡ b) → ((a : State) → IsAlike steps a a) → IsResumable steps
resumable_where_equal steps equal itself = record {
  reflexive = itself;
  symmetric = λ a b alike. rw (equal a b alike) (itself b);
  transitive = λ a b c ab bc. rw (equal a b ab) bc;
  equal_items = λ a b cell alike. rw (equal a b alike) refl;
  alike_states = λ a b cell alike. rw (equal a b alike) (itself (steps.next b cell));
}
