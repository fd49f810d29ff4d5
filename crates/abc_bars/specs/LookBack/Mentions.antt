-- How the tokens of a body mention voices, one by one. ABC 2.1 section 7; when the voice without a name is mentioned, and that
-- there are fifteen voices, is not in ABC 2.1.
use Rattle.std.specs.Prelude.{◌≡◌, ◌⊎◌, ◌<◌, ◌≤◌, ℕ, ⊤, List, [], ◌∷◌, ◌++◌, length}
use Rattle.std.specs.List.{Contains}
use Rattle.abc_fields.specs.declared.key.Key.{Key}
use Rattle.abc_scan.specs.declared.token.TokenKind.{TokenKind}
use Rattle.abc_scan.specs.declared.token.TokenKind.TheVariants as kinds
use Rattle.abc_bars_header.specs.HeaderLine.{HeaderLine}
use Rattle.abc_bars_header.specs.declared.defaults.Defaults.{Defaults}
use Rattle.abc_bars_notes.specs.ChordNotes.{notes_of}
use Rattle.abc_bars.specs.LookBack.Element.{Element}
use Rattle.abc_bars.specs.LookBack.Fields.{IsVoiceField}
use Rattle.abc_bars.specs.LookBack.BodyState.{body_at, voice_list_of}
use Rattle.abc_bars.specs.LookBack.Place.{opening_at}

-- A token mentions the voice that it belongs to: a note, a rest, a rest of bars, or a chord that has a note.
-- `mentions` computes this. Not in ABC 2.1.
abbrev pub MentionsVoice : TokenKind → Type 0
MentionsVoice (kinds.Note note) = ⊤
MentionsVoice (kinds.Rest length) = ⊤
MentionsVoice (kinds.BarRest bars) = ⊤
MentionsVoice (kinds.Chord chord) = ¬ (notes_of chord ≡ [])
MentionsVoice _ = ⊥

-- The names of the voices that are mentioned before and after one token.
-- An accepted V: adds the name of its voice at the end, if it is a new one and there is room.
-- A token that mentions its voice before any voice is mentioned adds the voice without a name, which then comes first.
-- No other token adds a name.
pub record Mentions (old : List (List ℕ)) (kind : TokenKind) (new : List (List ℕ)) : Type 0 where
  pub named_new : (name : List ℕ) → IsVoiceField name kind → ¬ Contains old name → length old < 15 → new ≡ old ++ name ∷ []
  pub named_again : (name : List ℕ) → IsVoiceField name kind → Contains old name ⊎ (15 ≤ length old) → new ≡ old
  pub unnamed : MentionsVoice kind → old ≡ [] → new ≡ [] ∷ []
  pub known : MentionsVoice kind → ¬ (old ≡ []) → new ≡ old
  pub other : ((name : List ℕ) → ¬ IsVoiceField name kind) → ¬ MentionsVoice kind → new ≡ old

-- The names of the voices that are mentioned at a place of a body.
abbrev pub mentioned_at : Defaults → List HeaderLine → Key → List Element → List (List ℕ)
mentioned_at values lines key before = (voice_list_of (body_at (opening_at values lines key) before)).names

-- Each token does so, at any place.
abbrev pub TokensMention : Type 0
TokensMention =
    (values : Defaults) (lines : List HeaderLine) (key : Key) (before : List Element) (element : Element)
    → Mentions (mentioned_at values lines key before) element.kind (mentioned_at values lines key (element ∷ before))
