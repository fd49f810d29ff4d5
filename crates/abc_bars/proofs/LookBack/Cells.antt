-- What the cells of a body give, and the state after them.
use Rattle.std.proofs.Common.{◌≡◌, List, [], ◌∷◌, refl, sym, ap, ◌∙◌}
use Rattle.abc_fields.specs.declared.key.Key.{Key}
use Rattle.abc_scan.specs.declared.spanned.Spanned.{Spanned}
use Rattle.abc_scan.specs.declared.token.TokenKind.{TokenKind}
use Rattle.abc_bars_header.specs.HeaderLine.{HeaderLine}
use Rattle.abc_bars_body.specs.declared.body.Body.{Body}
use Rattle.abc_bars_body.specs.declared.cell.CellResult.{CellResult}
use Rattle.abc_bars_header.specs.declared.defaults.Defaults.{Defaults}
use Rattle.abc_bars_body.specs.Cell.{cell_result, cell_result_from, empty_cell_result, tie_ahead, with_token}
use Rattle.abc_bars.specs.LookBack.BodyState.{body_at}
use Rattle.abc_bars.specs.LookBack.Cells.{after_tokens, look_back}
use Rattle.abc_bars.specs.LookBack.Element.{Element}
use Rattle.abc_bars.specs.LookBack.Place.{opening_at}
use Rattle.abc_bars.proofs.LookBack.BodyState.{body_at_cons}
use Rattle.abc_bars.proofs.LookBack.Tokens.{with_kind_body}

module _ (values : Defaults) (fields : List HeaderLine) (key : Key) where
  abbrev opening : Body
  opening = opening_at values fields key

  -- What looking back finds after a token holds after it.
  token-following : (before : List Element) (given : CellResult) (token : Spanned TokenKind) (ahead : List (Spanned TokenKind))
      → body_at opening (record { kind = token.kind; tied = tie_ahead ahead } ∷ before)
      ≡ (with_token (record given { body = body_at opening before }) token ahead).body
  token-following before given token ahead =
      body_at_cons values fields key before (record { kind = token.kind; tied = tie_ahead ahead })
      ∙ sym (with_kind_body given (body_at opening before) token ahead)

  -- The items of a cell, if looking back finds the state at each of its tokens.
  cells-following : (before : List Element) (given : CellResult) (cell : List (Spanned TokenKind))
      → cell_result_from (record given { body = body_at opening before }) cell ≡ look_back opening before given cell
  cells-following before given [] = refl
  cells-following before given (token ∷ ahead) =
      let next : CellResult = with_token (record given { body = body_at opening before }) token ahead in
      ap (λ (body : Body). cell_result_from (record next { body = body }) ahead) (sym (token-following before given token ahead))
      ∙ cells-following (record { kind = token.kind; tied = tie_ahead ahead } ∷ before) next ahead

  body-following : (before : List Element) (given : CellResult) (cell : List (Spanned TokenKind))
      → (look_back opening before given cell).body ≡ body_at opening (after_tokens cell before)
  body-following before given [] = refl
  body-following before given (token ∷ ahead) =
      body-following (record { kind = token.kind; tied = tie_ahead ahead } ∷ before) (with_token (record given { body = body_at opening before }) token ahead) ahead

  -- The state after a cell is what looking back finds there.
  pub after_cell : (before : List Element) (cell : List (Spanned TokenKind))
      → (cell_result (body_at opening before) cell).body ≡ body_at opening (after_tokens cell before)
  after_cell before cell =
      ap (λ (given : CellResult). given.body) (cells-following before (empty_cell_result opening) cell) ∙ body-following before (empty_cell_result opening) cell

  -- A cell gives what its tokens give, if looking back finds the state at each.
  pub given_by_cell : (before : List Element) (cell : List (Spanned TokenKind))
      → (cell_result (body_at opening before) cell).items ≡ (look_back opening before (empty_cell_result opening) cell).items
  given_by_cell before cell = ap (λ (given : CellResult). given.items) (cells-following before (empty_cell_result opening) cell)
