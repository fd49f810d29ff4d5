-- What the cells of a body give, by looking back at each of their tokens.
use Rattle.std.specs.Prelude.{List, [], ◌∷◌}
use Rattle.abc_scan.specs.declared.spanned.Spanned.{Spanned}
use Rattle.abc_scan.specs.declared.token.TokenKind.{TokenKind}
use Rattle.abc_bars_body.specs.declared.body.Body.{Body}
use Rattle.abc_bars_body.specs.declared.cell.CellResult.{CellResult}
use Rattle.abc_bars_body.specs.Cell.{tie_ahead, with_token}
use Rattle.abc_bars.specs.LookBack.BodyState.{body_at}
use Rattle.abc_bars.specs.LookBack.Element.{Element}

-- A token of a cell as an element, by what comes after it in the cell.
abbrev pub element_of : Spanned TokenKind → List (Spanned TokenKind) → Element
element_of token ahead = record { kind = token.kind; tied = tie_ahead ahead }

-- What is before a place after tokens of a cell.
abbrev pub after_tokens : List (Spanned TokenKind) → List Element → List Element
after_tokens [] before = before
after_tokens (token ∷ ahead) before = after_tokens ahead (element_of token ahead ∷ before)

-- The items of a cell's tokens, each from the state that looking back finds at its own place.
abbrev pub look_back : Body → List Element → CellResult → List (Spanned TokenKind) → CellResult
look_back opening before given [] = record given { body = body_at opening before }
look_back opening before given (token ∷ ahead) =
    look_back opening (element_of token ahead ∷ before)
    (with_token (record given { body = body_at opening before }) token ahead) ahead
