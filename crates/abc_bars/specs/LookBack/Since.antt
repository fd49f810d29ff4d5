-- The notes of a voice since its last bar line, K: or accepted P:. ABC 2.1 section 4.2; that a P: ends accidentals, and a refused
-- K: too, is not in ABC 2.1.
use Rattle.std.specs.Prelude.{◌≡◌, ◌⊎◌, Bool, List, [], ◌∷◌, ◌++◌, All, flat_map}
use Rattle.abc_scan.specs.declared.field.Field.{Field}
use Rattle.abc_scan.specs.declared.note.Note.{Note}
use Rattle.abc_scan.specs.declared.token.TokenKind.{TokenKind}
use Rattle.abc_scan.specs.declared.token.TokenKind.TheVariants as kinds
use Rattle.abc_bars.specs.LookBack.Element.{Element}
use Rattle.abc_bars.specs.LookBack.Fields.{BeginsPart, SetsKey}
use Rattle.abc_bars.specs.LookBack.Voice.{counted_notes}

-- A field after which earlier accidentals no longer hold: a K:, or an accepted P:.
abbrev pub FieldEndsAccidentals : Field → Type 0
FieldEndsAccidentals field = SetsKey field ⊎ BeginsPart field

-- A token after which earlier accidentals no longer hold: a bar line, or such a field.
abbrev pub EndsAccidentals : TokenKind → Type 0
EndsAccidentals (kinds.Bar bar) = Unit {0}
EndsAccidentals (kinds.Field field) = FieldEndsAccidentals field
EndsAccidentals (kinds.InlineField field) = FieldEndsAccidentals field
EndsAccidentals _ = ⊥

-- Of the tokens before a place, newest first, the one after these ends accidentals.
pub record IsEnded (before since : List Element) : Type 0 where
  pub token : Element
  pub earlier : List Element
  pub split : before ≡ since ++ token ∷ earlier
  pub ends : EndsAccidentals token.kind

-- The tokens since the last one that ends accidentals, newest first: all, if none does.
pub record IsSince (before since : List Element) : Type 0 where
  pub none : All (λ token. ¬ EndsAccidentals token.kind) since
  pub whole : (before ≡ since) ⊎ IsEnded before since

-- Notes from the last to the first.
abbrev pub newest_first : List (Note × Bool) → List Note
newest_first [] = []
newest_first (note ∷ later) = newest_first later ++ note.0 ∷ []

-- The notes of a token, newest first: of a chord its first sixteen. The limit is not in ABC 2.1.
abbrev pub notes_in : TokenKind → List Note
notes_in (kinds.Note note) = note ∷ []
notes_in (kinds.Chord chord) = newest_first (counted_notes chord)
notes_in _ = []

-- The notes of tokens, newest first.
abbrev pub notes_of_tokens : List Element → List Note
notes_of_tokens tokens = flat_map (λ token. notes_in token.kind) tokens
