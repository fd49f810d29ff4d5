-- What a cell gives in the body in which it is read.
use Rattle.std.proofs.Common.{◌≡◌, ◌==◌, true, List, [], ◌∷◌, length, arith, refl, ap, ◌∙◌}
use Rattle.std.specs.Prelude.{Option, Some, None}
use Rattle.std.proofs.lemmas.Bool.{eqb-true}
use Rattle.std.proofs.lemmas.Option.{same_Some}
use Rattle.abc_bars_body.specs.declared.body.Body.{Body}
use Rattle.abc_bars_body.specs.declared.entry.Entry.{Entry}
use Rattle.abc_bars_body.specs.declared.entry.Entry.TheVariants as entries
use Rattle.abc_bars_body.specs.Step.{body_step, entry_step, header_step, line_in}
use Rattle.abc_bars_items.specs.Item.{Items}
use Rattle.abc_bars_header.specs.declared.header.Header.{Header}
use Rattle.abc_bars_header.specs.Header.{opening_header}
use Rattle.abc_bars_header.specs.HeaderLine.{HeaderLine}
use Rattle.abc_scan.specs.declared.spanned.Spanned.{Spanned}
use Rattle.abc_scan.specs.declared.token.TokenKind.{TokenKind}
use Rattle.abc_marks_cells.specs.declared.written_mark.PlacedMark.{PlacedMark}
use Rattle.abc_marks_cells.proofs.Walks.{none_without}
use Rattle.abc_marks_fold.specs.CellMarks.{body_after, body_given, body_here, cell_given, cell_marks, marks_by, plain_given}

after_here : (header : Header) (cell : List (Spanned TokenKind)) (line : Option HeaderLine) (body : Body)
    → body_after header line ≡ Some body → header_step header cell line ≡ body_step body cell
after_here header cell None body here = ap (λ b. body_step b cell) (same_Some _ _ here)
after_here header cell (Some line) body here = absurd cc

-- A cell that is read in a body gives there what the written reading gives.
pub step_here : (entry : Entry) (cell : List (Spanned TokenKind)) (body : Body) → body_here entry cell ≡ Some body
    → entry_step entry cell ≡ body_step body cell
unfolding entry_step
step_here (entries.FileHeader defaults) cell body here = absurd cc
step_here (entries.Opening defaults) cell body here = after_here (opening_header defaults) cell (line_in cell) body here
step_here (entries.Header header) cell body here = after_here header cell (line_in cell) body here
step_here (entries.Body own) cell body here = ap (λ b. body_step b cell) (same_Some own body here)

-- Its marks are those in that body.
pub given_here : (entry : Entry) (cell : List (Spanned TokenKind)) (written : List PlacedMark) (body : Body)
    → body_here entry cell ≡ Some body → cell_given entry cell written ≡ body_given body cell written
given_here entry cell written body here =
    ap (λ (step : Entry × Items). record { base = step.1; marks = cell_marks entry cell written }) (step_here entry cell body here)
    ∙ ap (λ b. record { base = (body_step body cell).1; marks = marks_by b cell written }) here

-- A cell that is read in no body has none.
pub given_nowhere : (entry : Entry) (cell : List (Spanned TokenKind)) (written : List PlacedMark)
    → body_here entry cell ≡ None → cell_given entry cell written ≡ plain_given entry cell
given_nowhere entry cell written here =
    ap (λ b. record { base = (entry_step entry cell).1; marks = marks_by b cell written }) here

none_by : (body : Option Body) (cell : List (Spanned TokenKind)) → marks_by body cell [] ≡ []
none_by None cell = refl
none_by (Some body) cell = none_without body cell

-- A cell that spells no marks has none.
pub given_unmarked : (entry : Entry) (cell : List (Spanned TokenKind)) (written : List PlacedMark) → (length written == 0) ≡ true
    → cell_given entry cell written ≡ plain_given entry cell
given_unmarked entry cell [] none =
    ap (λ marks. record { base = (entry_step entry cell).1; marks = marks }) (none_by (body_here entry cell) cell)
given_unmarked entry cell (mark ∷ marks) none =
    let zero : length (mark ∷ marks) ≡ 0 = eqb-true (length (mark ∷ marks)) 0 none in
    absurd (omega (arith, zero))
