-- The cells of a line. Not in ABC 2.1.
use Rattle.std.specs.Prelude.{◌≡◌, ℕ, suc, ◌-◌, Bool, false, true, List, [], ◌∷◌, ◌++◌, length, take, flat_map, if◌then◌else◌, All}
use Rattle.abc_scan.specs.declared.spanned.Spanned.{Spanned}
use Rattle.abc_scan.specs.declared.token.TokenKind.{TokenKind}
use Rattle.abc_scan.specs.Token.{is_bar}

-- Whether a token is a bar line.
abbrev pub ends_cell : Spanned TokenKind → Bool
ends_cell token = is_bar token.kind

-- A cell has a last token, and no bar line before that.
pub record IsCell (cell : List (Spanned TokenKind)) : Type 0 where
  pub front : List (Spanned TokenKind)
  pub last : Spanned TokenKind
  pub spelling : cell ≡ front ++ last ∷ []
  pub no_bar_inside : All (λ t. ends_cell t ≡ false) front

-- A cell ends with a bar line.
pub record EndsWithBar (cell : List (Spanned TokenKind)) : Type 0 where
  pub front : List (Spanned TokenKind)
  pub bar : Spanned TokenKind
  pub spelling : cell ≡ front ++ bar ∷ []
  pub is_bar_line : ends_cell bar ≡ true

-- The cells one after another.
abbrev pub join_cells : List (List (Spanned TokenKind)) → List (Spanned TokenKind)
join_cells cells = flat_map (λ cell. cell) cells

-- All cells but the last.
abbrev pub but_last : List (List (Spanned TokenKind)) → List (List (Spanned TokenKind))
but_last cells = take (length cells - 1) cells

-- The cells are these tokens, cut exactly after each bar line.
pub record AreCells (tokens : List (Spanned TokenKind)) (cells : List (List (Spanned TokenKind))) : Type 0 where
  pub whole : join_cells cells ≡ tokens
  pub each : All IsCell cells
  pub closed : All EndsWithBar (but_last cells)

-- A token before the tokens of the first cell so far.
abbrev pub put_first : Spanned TokenKind → List (List (Spanned TokenKind)) → List (List (Spanned TokenKind))
put_first token [] = (token ∷ []) ∷ []
put_first token (cell ∷ cells) = (token ∷ cell) ∷ cells

-- The cells of a line: each runs up to and with a bar line, or to the line's end.
abbrev pub cells_of : List (Spanned TokenKind) → List (List (Spanned TokenKind))
cells_of [] = []
cells_of (t ∷ ts) = if ends_cell t then (t ∷ []) ∷ cells_of ts else put_first t (cells_of ts)

-- The number of tokens in the first cell of a line.
abbrev pub first_size : List (Spanned TokenKind) → ℕ
first_size [] = 0
first_size (t ∷ ts) = if ends_cell t then 1 else suc (first_size ts)
