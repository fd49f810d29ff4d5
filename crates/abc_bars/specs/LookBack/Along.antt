-- The places that cells lead to, from the beginning of a file header or a tune, and the items and faults of the cells there.
-- The steps of a fold on the same cells are compared with them.
use Rattle.std.specs.Prelude.{◌≡◌, List, [], ◌∷◌, map, Option, Some, None}
use Rattle.abc_scan.specs.declared.spanned.Spanned.{Spanned}
use Rattle.abc_scan.specs.declared.token.TokenKind.{TokenKind}
use Rattle.abc_bars_header.specs.declared.defaults.Defaults.{Defaults}
use Rattle.std.specs.Option.{option_map}
use Rattle.abc_bars_body.specs.Entry.{opening_after}
use Rattle.abc_bars_body.specs.declared.entry.Entry.{Entry}
use Rattle.abc_bars_body.specs.declared.entry.Entry.TheVariants as entries
use Rattle.abc_bars_header.specs.Defaults.{no_defaults}
use Rattle.abc_bars_header.specs.HeaderLine.{HeaderLine}
use Rattle.abc_bars_body.specs.Step.{line_in}
use Rattle.abc_bars.specs.LookBack.Defaults.{defaults_at}
use Rattle.abc_bars.specs.LookBack.Place.{Place, InFileHeader, InHeader, result_at, place_following, view}
use Rattle.abc_fold.specs.Steps.{Steps, state_after}
use Rattle.abc_bars_items.specs.Item.{Items}

-- The tokens of a cell.
abbrev pub CellTokens : Type 0
CellTokens = List (Spanned TokenKind)

-- These lines, and before them the one that a cell is, if it is one and not music.
abbrev pub with_line : Option HeaderLine → List HeaderLine → List HeaderLine
with_line None before = before
with_line (Some line) before = line ∷ before

-- The lines of a header among cells, newest first, before those that are before them.
abbrev pub lines_after : List CellTokens → List HeaderLine → List HeaderLine
lines_after [] before = before
lines_after (cell ∷ cells) before = lines_after cells (with_line (line_in cell) before)

-- The beginning of a file header: nothing is before it.
abbrev pub file_header_beginning : Place
file_header_beginning = InFileHeader []

-- The values that the cells of a file header set, if there is one.
abbrev pub values_of_header : Option (List CellTokens) → Defaults
values_of_header None = no_defaults
values_of_header (Some cells) = defaults_at no_defaults (lines_after cells [])

-- The beginning of a tune, by the cells of the file header, if there is one.
abbrev pub tune_beginning : Option (List CellTokens) → Place
tune_beginning header = InHeader (values_of_header header) []

-- The place after cells.
abbrev pub place_after : Place → List CellTokens → Place
place_after place [] = place
place_after place (cell ∷ cells) = place_after (place_following place cell) cells

-- The place of each cell.
abbrev pub places_along : Place → List CellTokens → List Place
places_along place [] = []
places_along place (cell ∷ cells) = place ∷ places_along (place_following place cell) cells

-- What looking back finds at the place of each cell.
abbrev pub views_along : Place → List CellTokens → List Entry
views_along place cells = map view (places_along place cells)

-- What each cell gives at its place.
abbrev pub results_along : Place → List CellTokens → List Items
results_along place [] = []
results_along place (cell ∷ cells) = result_at place cell ∷ results_along (place_following place cell) cells

-- The state in which each cell is entered.
abbrev pub states_along : {State Cell : Type 0} → (State → Cell → State) → State → List Cell → List State
states_along next state [] = []
states_along next state (cell ∷ cells) = state ∷ states_along next (next state cell) cells

-- The state in which a tune begins after the cells of a file header, if there is one, by the steps of a fold.
abbrev pub tune_state : Steps Entry CellTokens Items → Option (List CellTokens) → Entry
tune_state steps header = opening_after (option_map (state_after steps.next (entries.FileHeader no_defaults)) header)

-- What each cell gives in the state in which it is entered.
abbrev pub items_along : {State Cell Items : Type 0} → (State → Cell → State) → (State → Cell → Items) → State → List Cell
    → List Items
items_along next gives state [] = []
items_along next gives state (cell ∷ cells) = gives state cell ∷ items_along next gives (next state cell) cells

-- From this state at this place on, the steps of a fold along any cells are the look back. Each cell is entered in
-- the view of its place, and gives the items and faults of the look back there. The state after the cells is the
-- view of the place after them.
pub record IsLookBack (steps : Steps Entry CellTokens Items) (state : Entry) (place : Place) : Type 0 where
  pub entered : (cells : List CellTokens) → states_along steps.next state cells ≡ views_along place cells
  pub given : (cells : List CellTokens) → items_along steps.next steps.gives state cells ≡ results_along place cells
  pub following : (cells : List CellTokens) → state_after steps.next state cells ≡ view (place_after place cells)
