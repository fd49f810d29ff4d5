-- A walk over a cell gives the items and the state that the written reading gives, and without written marks it gives none.
use Rattle.std.proofs.Common.{◌≡◌, Bool, true, false, List, [], ◌∷◌, if◌then◌else◌, refl, ap, ◌∙◌}
use Rattle.abc_bars_body.specs.declared.body.Body.{Body}
use Rattle.abc_bars_body.specs.declared.cell.CellResult.{CellResult}
use Rattle.abc_bars_body.specs.Cell.{cell_result_from, empty_cell_result, with_token}
use Rattle.abc_scan.specs.declared.spanned.Spanned.{Spanned}
use Rattle.abc_scan.specs.declared.token.TokenKind.{TokenKind}
use Rattle.abc_marks_cells.specs.Laws.{NoneWithout}
use Rattle.abc_marks_cells.specs.CellWalk.{first_written, is_time_token, later_written, marks_at_end, marks_of, walked, walked_token}
use Rattle.abc_marks_cells.specs.declared.cell_walk.CellWalk.{CellWalk}
use Rattle.abc_marks_cells.specs.declared.written_mark.PlacedMark.{PlacedMark}

pub same_given : (walk : CellWalk) (cell : List (Spanned TokenKind)) (written : List PlacedMark)
    → (walked walk cell written).given ≡ cell_result_from walk.given cell
same_given walk [] written = refl
same_given walk (token ∷ ahead) written =
    same_given (walked_token walk token ahead (first_written token written)) ahead (later_written token written)

same_both : {A : Type 0} (x : A) (test : Bool) → (if test then x else x) ≡ x
same_both x true = refl
same_both x false = refl

-- A walk without marks.
abbrev unmarked : CellResult → CellWalk
unmarked given = record { given = given; waiting = []; marks = [] }

none_from : (given : CellResult) (cell : List (Spanned TokenKind)) → marks_at_end (walked (unmarked given) cell []) ≡ []
none_from given [] = refl
none_from given (token ∷ ahead) =
    ap (λ walk. marks_at_end (walked walk ahead []))
    (λ i. record {
      given = with_token given token ahead;
      waiting = same_both [] (is_time_token token.kind) i;
      marks = same_both [] (is_time_token token.kind) i;
    })
    ∙ none_from (with_token given token ahead) ahead

pub none_without : (body : Body) (cell : List (Spanned TokenKind)) → marks_of body cell [] ≡ []
none_without body cell = none_from (empty_cell_result body) cell

pub none_without_marks : NoneWithout
none_without_marks body cell = none_without body cell
