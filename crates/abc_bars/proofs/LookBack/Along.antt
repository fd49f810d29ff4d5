-- The steps along cells are the look back.
use Rattle.std.proofs.Common.{◌≡◌, List, [], ◌∷◌, Option, Some, None, refl, sym, subst, ap, ◌∙◌}
use Rattle.abc_fold.specs.Steps.{state_after}
use Rattle.abc_bars_body.specs.declared.entry.Entry.{Entry}
use Rattle.abc_bars_body.specs.declared.entry.Entry.TheVariants as entries
use Rattle.abc_bars_header.specs.Defaults.{no_defaults}
use Rattle.abc_bars_body.specs.Entry.{opening_after}
use Rattle.abc_bars_header.specs.HeaderLine.{HeaderLine}
use Rattle.abc_bars_body.specs.SameEntry.{bar_steps}
use Rattle.abc_bars_body.specs.Step.{line_in, entry_step}
use Rattle.abc_bars.specs.LookBack.Along.{CellTokens, IsLookBack, file_header_beginning, results_along, items_along, lines_after, place_after, states_along, tune_beginning, views_along}
use Rattle.abc_bars.specs.LookBack.Along.{with_line}
use Rattle.abc_bars.specs.LookBack.Place.{Place, InFileHeader, after_file_header, place_following, view}
use Rattle.abc_bars.proofs.LookBack.Places.{stepped_back}
use Rattle.abc_bars_items.specs.Item.{Items}
use Rattle.std.specs.Option.{option_map}

-- The state after a cell.
abbrev to : Entry → CellTokens → Entry
to entry cell = (entry_step entry cell).0

-- What a cell gives.
abbrev giving : Entry → CellTokens → Items
giving entry cell = (entry_step entry cell).1

to-view : (place : Place) (cell : CellTokens) → to (view place) cell ≡ view (place_following place cell)
to-view place cell = ap (λ (made : Entry × Items). made.0) (stepped_back place cell)

entered-along : (place : Place) (cells : List CellTokens) → states_along to (view place) cells ≡ views_along place cells
entered-along place [] = refl
entered-along place (cell ∷ cells) =
    ap (λ (rest : List Entry). view place ∷ rest)
    (ap (λ (state : Entry). states_along to state cells) (to-view place cell) ∙ entered-along (place_following place cell) cells)

items-given : (place : Place) (cells : List CellTokens) → items_along to giving (view place) cells ≡ results_along place cells
items-given place [] = refl
items-given place (cell ∷ cells) = λ i.
    ap (λ (made : Entry × Items). made.1) (stepped_back place cell) i
    ∷ (ap (λ (state : Entry). items_along to giving state cells) (to-view place cell) ∙ items-given (place_following place cell) cells) i

following-cells : (place : Place) (cells : List CellTokens) → state_after to (view place) cells ≡ view (place_after place cells)
following-cells place [] = refl
following-cells place (cell ∷ cells) =
    ap (λ (state : Entry). state_after to state cells) (to-view place cell) ∙ following-cells (place_following place cell) cells

-- From the view of any place on, the steps are the look back.
pub from_view : (place : Place) → IsLookBack bar_steps (view place) place
from_view place = record { entered = entered-along place; given = items-given place; following = following-cells place }

-- From the same views the same cells give the same, and the views after them are the same.
pub same_given : (here there : Place) (cells : List CellTokens) → view here ≡ view there → results_along here cells ≡ results_along there cells
same_given here there cells same =
    sym (items-given here cells) ∙ ap (λ (entry : Entry). items_along to giving entry cells) same ∙ items-given there cells

pub same_after : (here there : Place) (cells : List CellTokens) → view here ≡ view there → view (place_after here cells) ≡ view (place_after there cells)
same_after here there cells same =
    sym (following-cells here cells) ∙ ap (λ (entry : Entry). state_after to entry cells) same ∙ following-cells there cells

-- The place after the cells of a file header: its lines are before it.
line-following : (before : List HeaderLine) (line : Option HeaderLine) → after_file_header before line ≡ InFileHeader (with_line line before)
line-following before None = refl
line-following before (Some line) = refl

lines-along : (before : List HeaderLine) (cells : List CellTokens) → place_after (InFileHeader before) cells ≡ InFileHeader (lines_after cells before)
lines-along before [] = refl
lines-along before (cell ∷ cells) =
    ap (λ (place : Place). place_after place cells) (line-following before (line_in cell))
    ∙ lines-along (with_line (line_in cell) before) cells

-- The opening of a tune is the view at its beginning.
opened : (header : Option (List CellTokens))
    → opening_after (option_map (state_after to (entries.FileHeader no_defaults)) header) ≡ view (tune_beginning header)
opened None = refl
opened (Some cells) =
    ap (λ (state : Entry). opening_after (Some state))
    (following-cells file_header_beginning cells ∙ ap view (lines-along [] cells))

pub file_header_looked_back : IsLookBack bar_steps (entries.FileHeader no_defaults) file_header_beginning
file_header_looked_back = from_view file_header_beginning

pub tune_looked_back : (header : Option (List CellTokens))
    → IsLookBack bar_steps (opening_after (option_map (state_after to (entries.FileHeader no_defaults)) header)) (tune_beginning header)
tune_looked_back header =
    subst (λ (state : Entry). IsLookBack bar_steps state (tune_beginning header)) (sym (opened header)) (from_view (tune_beginning header))
