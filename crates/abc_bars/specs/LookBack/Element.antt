-- What is in a tune before a place.
use Rattle.std.specs.Prelude.{Bool, Option, Some, None}
use Rattle.abc_scan.specs.declared.field.Field.{Field}
use Rattle.abc_scan.specs.declared.token.TokenKind.{TokenKind}
use Rattle.abc_scan.specs.declared.token.TokenKind.TheVariants as kinds

-- A token of a tune, a field line among them, and whether a tie directly follows it in its cell.
pub record Element : Type 0 where
  pub kind : TokenKind
  pub tied : Bool

-- The field that a token is, on a line of its own or inside one.
abbrev pub field_of : TokenKind → Option Field
field_of (kinds.InlineField field) = Some field
field_of (kinds.Field field) = Some field
field_of _ = None
