-- A cell of which no token is read as another one is read as it is.
use Rattle.std.proofs.Common.{◌≡◌, ℕ, false, List, [], ◌∷◌, refl, ap, ◌∙◌}
use Rattle.std.proofs.lemmas.Bool.{or_parts}
use Rattle.std.specs.List.{list_any}
use Rattle.abc_scan.specs.declared.field.Field.{Field}
use Rattle.abc_scan.specs.declared.spanned.Spanned.{Spanned}
use Rattle.abc_scan.specs.declared.token.TokenKind.{TokenKind}
use Rattle.abc_scan.specs.declared.token.TokenKind.TheVariants as kinds
use Rattle.abc_marks_cells.specs.Hearing.{heard_field, heard_kind, heard_token, heard_tokens, is_heard_otherwise, is_kind_heard_otherwise, is_pipe_key_field}

field_kept : (field : Field) → is_pipe_key_field field ≡ false → heard_field field ≡ field
field_kept field none = rw none refl

kind_kept : (line : List ℕ) (token : Spanned TokenKind) (kind : TokenKind) → is_kind_heard_otherwise line token kind ≡ false
    → heard_kind line token kind ≡ kind
kind_kept line token kinds.BadByte none = rw none refl
kind_kept line token (kinds.Field field) none = ap kinds.Field (field_kept field none)
kind_kept line token (kinds.InlineField field) none = ap kinds.InlineField (field_kept field none)
kind_kept line token (kinds.Note note) none = refl
kind_kept line token (kinds.Rest written) none = refl
kind_kept line token (kinds.BarRest bars) none = refl
kind_kept line token (kinds.Chord chord) none = refl
kind_kept line token (kinds.Bar bar) none = refl
kind_kept line token (kinds.Ending passes) none = refl
kind_kept line token (kinds.Tuplet tuplet) none = refl
kind_kept line token (kinds.Broken broken) none = refl
kind_kept line token kinds.Tie none = refl
kind_kept line token kinds.Blank none = refl
kind_kept line token (kinds.Dynamic dynamic) none = refl
kind_kept line token kinds.NoEffect none = refl
kind_kept line token (kinds.Directive directive) none = refl
kind_kept line token kinds.Unclosed none = refl

token_kept : (line : List ℕ) (token : Spanned TokenKind) → is_heard_otherwise line token ≡ false → heard_token line token ≡ token
token_kept line token none = ap (λ kind. record token { kind = kind }) (kind_kept line token token.kind none)

pub none_otherwise : (line : List ℕ) (cell : List (Spanned TokenKind)) → list_any (is_heard_otherwise line) cell ≡ false
    → heard_tokens line cell ≡ cell
none_otherwise line [] none = refl
none_otherwise line (token ∷ tokens) none =
    let each = or_parts (is_heard_otherwise line token) (list_any (is_heard_otherwise line) tokens) none in
    ap (λ t. t ∷ heard_tokens line tokens) (token_kept line token each.0) ∙ ap (λ l. token ∷ l) (none_otherwise line tokens each.1)
