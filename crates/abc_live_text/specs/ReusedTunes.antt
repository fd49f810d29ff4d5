-- Which tunes of an edited text have the items of old ones. Not in ABC 2.1.
use Rattle.std.specs.Prelude.{◌&&◌, ◌+◌, ◌==◌, ◌∷◌, ◌≡◌, Bool, IsSome, List, None, Option, Some, [], false, if◌then◌else◌, length}
use Rattle.std.specs.Prelude.{drop, slice_get, suc, true, ℕ}
use Rattle.std.specs.Option.{option_map}
use Rattle.abc_fold.specs.Chain.{ChainView}
use Rattle.abc_fold.specs.Steps.{IsAlike, Steps}
use Rattle.abc_live_cost.specs.OldItems.{HasItemsOf}
use Rattle.abc_live_cost.specs.Origin.{Origin}
use Rattle.abc_live_text.specs.Blocks.{tunes_among}
use Rattle.abc_live_text.specs.Row.{CarriedRow}
use Rattle.std.specs.List.{AllZip}
use Rattle.abc_book.specs.declared.block.Block.{Block}
use Rattle.abc_live_text.specs.Pieces.{IsChain, rows_in}

abbrev pub is_origin : ℕ → ℕ → Option Origin → Bool
is_origin source place None = false
is_origin source place (Some origin) = (origin.source == source) && (origin.first == place)

-- Whether the old chain of a number holds the cells of a line from a place on; it holds those of a line without cells
-- everywhere.
abbrev pub continues : {Cell : Type 0} → ℕ → ℕ → CarriedRow Cell → Bool
continues source place row = if length row.cells == 0 then true else is_origin source place row.origin

-- Whether the cells of lines are those of the old chain `source`, from `place` to its end at `count`.
abbrev pub is_along : {Cell : Type 0} → ℕ → ℕ → ℕ → List (CarriedRow Cell) → Bool
is_along source count place [] = place == count
is_along source count place (row ∷ rows) = continues source place row && is_along source count (place + length row.cells) rows

-- The old chain that holds the first of some lines.
abbrev pub first_source : {Cell : Type 0} → List (CarriedRow Cell) → Option ℕ
first_source [] = None
first_source (row ∷ rows) = option_map (λ origin. origin.source) row.origin

-- Whether there are two states, and they are equivalent.
abbrev pub are_alike_both : {State : Type 0} → (State → State → Bool) → Option State → Option State → Bool
are_alike_both alike None other = false
are_alike_both alike (Some state) None = false
are_alike_both alike (Some state) (Some other) = alike state other

-- The cells of lines are those of an old tune, from its first to its last, and it began in an equivalent state.
pub record GoesAlong {State Cell Items : Type 0} (steps : Steps State Cell Items) (old : List (ChainView State Cell Items))
    (opening : State) (rows : List (CarriedRow Cell)) : Type 0 where
  pub number : ℕ
  pub was : ChainView State Cell Items
  pub there : slice_get old (suc number) ≡ Some was
  pub source : first_source rows ≡ Some (suc number)
  pub along : is_along (suc number) (length was.cells) 0 rows ≡ true
  pub begun : State
  pub entry : slice_get was.entries 0 ≡ Some begun
  pub alike : IsAlike steps begun opening

-- Each of these tunes that goes along an old one is known to have the items of one.
abbrev pub KnowsAlong : {State Cell Items : Type 0} → Steps State Cell Items → List (ChainView State Cell Items) → State
    → List (CarriedRow Cell) → List Block → List (Option ℕ) → Type 0
KnowsAlong steps old opening rows tunes reused_tunes =
    AllZip (λ tune one. GoesAlong steps old opening (rows_in rows tune) → IsSome one) tunes reused_tunes

-- The same of tunes with these chains, if the chains begin in this state.
abbrev pub KnowsIfBegun : {State Cell Items : Type 0} → Steps State Cell Items → List (ChainView State Cell Items) → State
    → List (CarriedRow Cell) → List (ChainView State Cell Items) → List Block → List (Option ℕ) → Type 0
KnowsIfBegun steps old begun rows new_chains tunes reused_tunes = AllZip (IsChain steps begun rows) new_chains tunes
    → KnowsAlong steps old begun rows tunes reused_tunes

-- The tunes among rows, folded again from this state: their chains, and the old tunes that have their items.
pub record AreRefolded {State Cell Items : Type 0} (steps : Steps State Cell Items) (old : List (ChainView State Cell Items))
    (opening : State) (rows : List (CarriedRow Cell)) (tunes : List Block) (new_chains : List (ChainView State Cell Items))
    (reused_tunes : List (Option ℕ)) : Type 0 where
  pub tunes_are : tunes ≡ tunes_among rows
  pub chains_are : AllZip (IsChain steps opening rows) new_chains tunes
  pub items : AllZip (HasItemsOf (drop 1 old)) new_chains reused_tunes
  pub along : (begun : State) → KnowsIfBegun steps old begun rows new_chains tunes reused_tunes
