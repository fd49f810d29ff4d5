-- The bytes of tokens.
use Rattle.std.specs.Prelude.{ℕ, ◌||◌, nat_lt, ◌-◌, if◌then◌else◌, List, [], ◌∷◌, length, take, slice_range}
use Rattle.abc_scan.specs.declared.spanned.Spanned.{Spanned}
use Rattle.abc_scan.specs.declared.token.TokenKind.{TokenKind}

-- The bytes of a token of a line; none if the token is of another line.
abbrev pub text_of : List ℕ → Spanned TokenKind → List ℕ
text_of line token =
    if nat_lt token.to token.from || nat_lt (length line) token.to then [] else slice_range line token.from token.to

-- The bytes between the first and the last one.
abbrev pub inside_of : List ℕ → List ℕ
inside_of [] = []
inside_of (first ∷ rest) = take (length rest - 1) rest
