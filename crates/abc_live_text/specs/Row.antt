-- The rows of a text: the class and the cells of each line. Not in ABC 2.1.
use Rattle.std.specs.Prelude.{◌≡◌, ℕ, ◌≤◌, List, Option, None}
use Rattle.abc_fold.specs.Work.{Counters, raised}
use Rattle.abc_live_cost.specs.Origin.{Origin}
use Rattle.abc_scan.specs.declared.line_class.LineClass.{LineClass}
use Rattle.abc_tune_compiler.specs.Rules.{Rules}

-- The class and the cells of a line.
pub record Row (Cell : Type 0) : Type 0 where
  pub class : LineClass
  pub cells : List Cell

-- The class and the cells of a line, and its origin: the chain that holds the cells, and the place of the first, if one does.
pub record CarriedRow (Cell : Type 0) : Type 0 where
  pub class : LineClass
  pub cells : List Cell
  pub origin : Option Origin

-- A line that has been read.
abbrev pub new_row : {State Cell Items Defaults : Type 0} → Rules State Cell Items Defaults → List ℕ → Row Cell
new_row rules line = record { class = rules.class line; cells = rules.cells line }

-- A line whose cells no chain holds.
abbrev pub carried_row : {Cell : Type 0} → Row Cell → CarriedRow Cell
carried_row row = record { class = row.class; cells = row.cells; origin = None }

abbrev pub row_class : {Cell : Type 0} → Row Cell → LineClass
row_class row = row.class

abbrev pub row_cells : {Cell : Type 0} → Row Cell → List Cell
row_cells row = row.cells

-- The same line with another origin.
abbrev pub at_origin : {Cell : Type 0} → Option Origin → CarriedRow Cell → CarriedRow Cell
at_origin origin row = record { class = row.class; cells = row.cells; origin = origin }

-- The lines scanned have risen by k at most, and the other two counters have not.
pub record IsScannedUpTo (k : ℕ) (before after : Counters) : Type 0 where
  pub folded : after.folded ≡ before.folded
  pub built : after.built ≡ before.built
  pub least : before.scanned ≤ after.scanned
  pub most : after.scanned ≤ raised before.scanned k
