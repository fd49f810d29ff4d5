-- Where a token is in a cell of a tune's body, and which of the items of the cell it gives.
use Rattle.std.specs.Prelude.{◌≡◌, ℕ, ◌+◌, List, [], ◌∷◌, ◌++◌, length}
use Rattle.abc_fields.specs.declared.key.Key.{Key}
use Rattle.abc_scan.specs.declared.spanned.Spanned.{Spanned}
use Rattle.abc_scan.specs.declared.token.TokenKind.{TokenKind}
use Rattle.abc_bars_header.specs.HeaderLine.{HeaderLine}
use Rattle.abc_bars_header.specs.declared.defaults.Defaults.{Defaults}
use Rattle.abc_bars_items.specs.declared.item.Item.{Item}
use Rattle.abc_bars_voice.specs.declared.voice_state.VoiceState.{VoiceState}
use Rattle.abc_bars.specs.LookBack.ByName.{naming_at, opening_of, tokens_of}
use Rattle.abc_bars.specs.LookBack.Cells.{after_tokens}
use Rattle.abc_bars.specs.LookBack.Element.{Element}
use Rattle.abc_bars.specs.LookBack.Place.{result_in_body, opening_at}

-- The place of a token of a voice: the state of the voice when the body began, and the tokens of the voice before it,
-- newest first.
pub record VoicePlace : Type 0 where
  pub opening : VoiceState
  pub before : List Element

-- The place of a token of the current voice, by all that is before it in the body.
abbrev pub voice_place_of : Defaults → List HeaderLine → Key → List Element → VoicePlace
voice_place_of values fields key before =
    let opening = opening_at values fields key in
    let name = (naming_at opening before).current in
    record { opening = opening_of opening name; before = tokens_of opening name before }

-- A place in a cell of a tune's body.
pub record CellPlace : Type 0 where
  -- The values of the file header, the lines of the header, and the key that ended it.
  pub values : Defaults
  pub fields : List HeaderLine
  pub key : Key
  -- The elements before the cell, newest first.
  pub before : List Element
  -- The tokens of the cell before the place.
  pub front : List (Spanned TokenKind)
  -- The span on its line of the token at the place.
  pub from : ℕ
  pub to : ℕ
  -- The tokens of the cell after the place.
  pub ahead : List (Spanned TokenKind)

-- All that is before a place in the body, newest first.
abbrev pub before_place : CellPlace → List Element
before_place place = after_tokens place.front place.before

-- A token of the current voice is at a place.
abbrev pub voice_place_at : CellPlace → VoicePlace
voice_place_at place = voice_place_of place.values place.fields place.key (before_place place)

-- The tokens in front of a place, a token of this kind there, and these tokens ahead of it.
abbrev pub cell_of : CellPlace → TokenKind → List (Spanned TokenKind) → List (Spanned TokenKind)
cell_of place kind ahead = place.front ++ record { kind = kind; from = place.from; to = place.to } ∷ ahead

-- The cell in which a token of this kind is at a place.
abbrev pub cell_with : CellPlace → TokenKind → List (Spanned TokenKind)
cell_with place kind = cell_of place kind place.ahead

-- The items of these tokens if they are the cell of a place.
abbrev pub items_of : CellPlace → List (Spanned TokenKind) → List Item
items_of place cell = (result_in_body place.values place.fields place.key place.before cell).items

-- The one item that a token of this kind gives at a place. Among those of its cell it is after exactly as many as the
-- tokens in front of it give without it, and with it they give one more. No tokens give none.
pub record IsItemOf (place : CellPlace) (kind : TokenKind) (item : Item) : Type 0 where
  pub others : List Item
  pub more : List Item
  pub split : items_of place (cell_with place kind) ≡ others ++ item ∷ more
  pub following : length others ≡ length (items_of place place.front)
  pub one : length (items_of place (cell_of place kind [])) ≡ length (items_of place place.front) + 1
  pub none : items_of place [] ≡ []

-- Of the item that a token of this kind gives at a place this holds.
abbrev pub GivesItem : CellPlace → TokenKind → (Item → Type 0) → Type 0
GivesItem place kind Holds = (item : Item) × IsItemOf place kind item × Holds item
