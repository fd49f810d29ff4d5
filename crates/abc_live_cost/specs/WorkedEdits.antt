-- Edits of small texts, worked by hand: how many cells are fresh and how many tunes are touched. A field is a cell, and so
-- is a directive. A line of music has a cell before each bar line and one after the last. The state is what the last M:
-- set, or `0`. Not in ABC 2.1.
use Rattle.std.specs.Prelude.{◌≡◌, ℕ, ◌==◌, if◌then◌else◌, List, [], ◌∷◌, codes, slice_index, None, unwrap_or}
use Rattle.std.specs.List.{slice_split}
use Rattle.abc_lines.specs.Text.{Splice, Text}
use Rattle.abc_scan.specs.Class.{class_of}
use Rattle.abc_scan.specs.declared.line_class.LineClass.{LineClass}
use Rattle.abc_scan.specs.declared.line_class.LineClass.TheVariants.{Blank, Comment, Field, Directive, Music}
use Rattle.abc_tune_compiler.specs.Rules.{Rules}
use Rattle.abc_live_cost.specs.FreshCells.{fresh_cells_after, touched_tunes_after}
use Rattle.abc_fold.specs.Steps.{Steps}

-- The byte `0`.
abbrev pub no_meter : ℕ
no_meter = 48

-- The state after a cell: the first byte that an M: has after its colon.
abbrev pub toy_next : ℕ → List ℕ → ℕ
toy_next state cell = if slice_index cell 0 == 77 then slice_index cell 2 else state

abbrev pub toy_steps : Steps ℕ (List ℕ) ℕ
toy_steps = record { next = toy_next; gives = λ state cell. state; alike = λ a b. a == b }

-- The cells of a line of this class.
abbrev pub toy_cells : LineClass → List ℕ → List (List ℕ)
toy_cells Blank line = []
toy_cells Comment line = []
toy_cells (Field letter) line = line ∷ []
toy_cells Directive line = line ∷ []
toy_cells Music line = slice_split (λ byte. byte == 124) line

abbrev pub toy_rules : Rules ℕ (List ℕ) ℕ ℕ
toy_rules = record {
  class = class_of;
  cells = λ line. toy_cells (class_of line) line;
  header = no_meter;
  tune = λ following. unwrap_or following no_meter;
  defaults = λ state. state;
  number = λ item. None;
  title = λ item. None;
  faults = λ item. [];
  bytes = λ items. None;
  build_faults = λ items. [];
}

-- After the first `at` lines, `removed` lines go and these come.
abbrev pub splice : ℕ → ℕ → Text → Splice
splice at removed lines = record { at = at; removed = removed; lines = lines }

-- A splice of a text makes `fresh` cells fresh and touches `touched` tunes.
abbrev pub Costs : Text → Splice → ℕ → ℕ → Type 0
Costs text s fresh touched = (fresh_cells_after toy_steps toy_rules text s ≡ fresh)
    × (touched_tunes_after toy_steps toy_rules text s ≡ touched)

-- A tune of three cells and one of four.
abbrev pub short_tune : Text
short_tune = codes "X:1" ∷ codes "K:C" ∷ codes "C" ∷ []

abbrev pub long_tune : Text
long_tune = codes "X:1" ∷ codes "K:C" ∷ codes "C" ∷ codes "D" ∷ []

-- A meter for all tunes, and a tune.
abbrev pub with_header : Text
with_header = codes "M:2" ∷ short_tune

pub record WorkedEdits : Type 0 where
  -- no line goes and none comes
  pub nothing : Costs short_tune (splice 1 0 []) 0 0
  -- a line comes, in the middle and at the end
  pub line_put : Costs short_tune (splice 2 0 (codes "D" ∷ [])) 1 1
  pub line_added : Costs short_tune (splice 3 0 (codes "D" ∷ [])) 1 1
  -- a line is replaced by an equal one
  pub equal_line : Costs long_tune (splice 2 1 (codes "C" ∷ [])) 1 1
  -- a comment comes, a blank line comes after the tune: no cell is another
  pub comment_put : Costs long_tune (splice 2 0 (codes "% c" ∷ [])) 0 0
  pub blank_added : Costs long_tune (splice 4 0 ([] ∷ [])) 0 0
  -- the last line goes: none is fresh, yet the tune is shorter
  pub cut_short : Costs long_tune (splice 3 1 []) 0 1
  -- a blank line cuts a tune short; the line after it is free text
  pub blank_put : Costs long_tune (splice 3 0 ([] ∷ [])) 0 1
  -- a tune is cut in two: an X: line comes, and both are touched
  pub cut_in_two : Costs short_tune (splice 1 0 (codes "X:2" ∷ [])) 1 2
  -- two tunes become one, of which each cell was in one or the other
  pub joined : Costs (codes "X:1" ∷ codes "K:C" ∷ codes "X:2" ∷ codes "D" ∷ []) (splice 1 2 []) 0 1
  -- the first of two equal tunes goes: the other is untouched
  pub first_goes : Costs (codes "X:1" ∷ codes "K:C" ∷ codes "X:1" ∷ codes "K:C" ∷ []) (splice 0 2 []) 0 0
  -- the file header sets another meter: its cell is new, and each of the tune is entered in another state
  pub other_meter : Costs with_header (splice 0 1 (codes "M:3" ∷ [])) 4 1
  -- its meter is set after a cell that was there: the tune begins as before
  pub header_longer : Costs with_header (splice 1 0 (codes "T:x" ∷ [])) 1 0
  -- another meter is before one that stays: that one is entered in another state, and the tune as before
  pub meter_before : Costs (codes "M:2" ∷ codes "M:3" ∷ [] ∷ short_tune) (splice 0 1 (codes "M:4" ∷ [])) 2 0
  -- it reaches as far as the next meter, which is inside a line
  pub inside_a_line : Costs (codes "M:2" ∷ codes "X:1" ∷ codes "K:C" ∷ codes "C|M:3|D" ∷ []) (splice 0 1 (codes "M:4" ∷ [])) 5 1
  -- the file header becomes free text: each cell of the tune is entered in another state
  pub header_goes : Costs with_header (splice 0 0 ([] ∷ codes "C" ∷ [] ∷ [])) 3 1
  -- the file header becomes a tune: its cell was there
  pub header_to_tune : Costs (codes "M:2" ∷ []) (splice 0 0 (codes "X:1" ∷ [])) 1 1
