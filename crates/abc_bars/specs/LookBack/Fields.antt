-- What some fields say, on a line of their own or inside one. ABC 2.1 section 3.
use Rattle.std.specs.Prelude.{◌≡◌, ◌≤◌, ℕ, List, ◌∷◌, slice_range}
use Rattle.abc_fields.specs.declared.voice.Voice.{Voice}
use Rattle.abc_fields.specs.Spelling.Voice.{IsVoice}
use Rattle.abc_bars_header.specs.declared.field_kind.FieldKind.TheVariants as fields
use Rattle.abc_bars_header.specs.FieldKind.{kind_of}
use Rattle.abc_scan.specs.declared.field.Field.{Field}
use Rattle.abc_scan.specs.declared.token.TokenKind.{TokenKind}
use Rattle.abc_scan.specs.declared.token.TokenKind.TheVariants as kinds

-- A token is a field of which this holds.
abbrev pub IsField : (Field → Type 0) → TokenKind → Type 0
IsField Holds (kinds.Field field) = Holds field
IsField Holds (kinds.InlineField field) = Holds field
IsField Holds _ = ⊥

-- A field is an accepted V: of the voice of this name. ABC 2.1 section 7.1.
pub record NamesVoice (name : List ℕ) (field : Field) : Type 0 where
  pub kind : kind_of field.letter ≡ fields.Voice
  pub voice : Voice
  pub value : IsVoice field.value voice
  pub spelled : name ≡ slice_range field.value voice.from voice.to

-- A token is an accepted V: of the voice of this name.
abbrev pub IsVoiceField : List ℕ → TokenKind → Type 0
IsVoiceField name kind = IsField (NamesVoice name) kind

-- A field is an accepted P: of a body: its value begins with a capital letter. ABC 2.1 section 3.1.9; that the rest is ignored
-- is not in ABC 2.1.
pub record BeginsPart (field : Field) : Type 0 where
  pub kind : kind_of field.letter ≡ fields.Parts
  pub letter : ℕ
  pub rest : List ℕ
  pub spelled : field.value ≡ letter ∷ rest
  pub least : 65 ≤ letter
  pub most : letter ≤ 90

-- A field is a K:, accepted or not. ABC 2.1 section 3.1.14.
abbrev pub SetsKey : Field → Type 0
SetsKey field = kind_of field.letter ≡ fields.Key
