-- The tokens from which the items of a performed cell come.
use Rattle.std.specs.Prelude.{ℕ, Bool, false, ◌&&◌, ◌==◌, if◌then◌else◌, List, map, codes}
use Rattle.abc_scan.specs.declared.field.Field.{Field}
use Rattle.abc_scan.specs.declared.spanned.Spanned.{Spanned}
use Rattle.abc_scan.specs.declared.token.TokenKind.{TokenKind}
use Rattle.abc_scan.specs.declared.token.TokenKind.TheVariants as kinds
use Rattle.abc_scan.specs.Note.{begins_with_byte}
use Rattle.abc_marks_readers.specs.PipeKey.{is_pipe_key}
use Rattle.abc_marks_cells.specs.TokenText.{text_of}

-- Whether a token that the written reading does not know begins an overlay. ABC 2.1 section 7.4.
abbrev pub is_overlay : List ℕ → Spanned TokenKind → Bool
is_overlay line token = begins_with_byte 38 (text_of line token)

-- Whether a field is a key of bagpipe music. ABC 2.1 section 3.1.14.
abbrev pub is_pipe_key_field : Field → Bool
is_pipe_key_field field = (field.letter == 75) && is_pipe_key field.value

-- The field that is read instead of a field: bagpipes have the key D.
abbrev pub heard_field : Field → Field
heard_field field = if is_pipe_key_field field then record { letter = 75; value = codes "D" } else field

-- The kind that is read instead of one, of a token of a line. An overlay is no fault.
abbrev pub heard_kind : List ℕ → Spanned TokenKind → TokenKind → TokenKind
heard_kind line token kinds.BadByte = if is_overlay line token then kinds.NoEffect else kinds.BadByte
heard_kind line token (kinds.Field field) = kinds.Field (heard_field field)
heard_kind line token (kinds.InlineField field) = kinds.InlineField (heard_field field)
heard_kind line token kind = kind

-- The token that is read instead of a token of a line.
abbrev pub heard_token : List ℕ → Spanned TokenKind → Spanned TokenKind
heard_token line token = record token { kind = heard_kind line token token.kind }

-- The tokens that are read instead of those of a cell of a line.
abbrev pub heard_tokens : List ℕ → List (Spanned TokenKind) → List (Spanned TokenKind)
heard_tokens line cell = map (heard_token line) cell

-- Whether a kind of token of a line is read as another one.
abbrev pub is_kind_heard_otherwise : List ℕ → Spanned TokenKind → TokenKind → Bool
is_kind_heard_otherwise line token kinds.BadByte = is_overlay line token
is_kind_heard_otherwise line token (kinds.Field field) = is_pipe_key_field field
is_kind_heard_otherwise line token (kinds.InlineField field) = is_pipe_key_field field
is_kind_heard_otherwise line token kind = false

-- Whether a token of a line is read as another one.
abbrev pub is_heard_otherwise : List ℕ → Spanned TokenKind → Bool
is_heard_otherwise line token = is_kind_heard_otherwise line token token.kind
