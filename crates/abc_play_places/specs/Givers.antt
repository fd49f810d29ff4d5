-- The token of a cell that gives each of its items. Not in ABC 2.1.
use Rattle.std.specs.Prelude.{ℕ, ◌+◌, ◌-◌, suc, min, Bool, true, false, if◌then◌else◌, List, [], ◌∷◌, ◌++◌, drop, length, replicate, Option, Some, None}
use Rattle.abc_bars_body.specs.declared.body.Body.{Body}
use Rattle.abc_bars_body.specs.declared.cell.CellResult.{CellResult}
use Rattle.abc_bars_body.specs.Cell.{empty_cell_result, with_token}
use Rattle.abc_bars_items.specs.declared.item.Item.{Item}
use Rattle.abc_bars_items.specs.declared.item.Item.TheVariants as items
use Rattle.abc_bars_notes.specs.TokenRole.{has_note}
use Rattle.abc_scan.specs.declared.spanned.Spanned.{Spanned}
use Rattle.abc_scan.specs.declared.token.TokenKind.{TokenKind}
use Rattle.abc_scan.specs.declared.token.TokenKind.TheVariants as kinds

-- A note, a chord, a rest, a bar rest or a bar line.
abbrev pub has_place : Item → Bool
has_place (items.Tone tones length) = true
has_place (items.Rest length bar) = true
has_place (items.Bar line) = true
has_place _ = false

-- A token that gives such an item: a chord does if it has a note.
abbrev pub gives_place : TokenKind → Bool
gives_place (kinds.Note note) = true
gives_place (kinds.Rest length) = true
gives_place (kinds.BarRest bars) = true
gives_place (kinds.Bar line) = true
gives_place (kinds.Chord chord) = has_note chord.parts
gives_place _ = false

-- How many items a token adds.
abbrev pub added : CellResult → Spanned TokenKind → List (Spanned TokenKind) → ℕ
added given token ahead = length (with_token given token ahead).items.items - length given.items.items

-- The index of the token in whose step each item is added, of tokens whose first has the index `at`.
abbrev pub givers_from : CellResult → ℕ → List (Spanned TokenKind) → List ℕ
givers_from given at [] = []
givers_from given at (token ∷ ahead) = replicate (added given token ahead) at ++ givers_from (with_token given token ahead) (at + 1) ahead

-- The same for the tokens of a cell.
abbrev pub givers : Body → List (Spanned TokenKind) → List ℕ
givers body cell = givers_from (empty_cell_result body) 0 cell

-- The giver of each item that has a place.
abbrev pub placed : List Item → List ℕ → List (Option ℕ)
placed [] own = []
placed (item ∷ others) [] = None ∷ placed others []
placed (item ∷ others) (giver ∷ own) = (if has_place item then Some giver else None) ∷ placed others own

-- How many tokens are before the first that gives an item with a place.
abbrev pub first_giver : List (Spanned TokenKind) → ℕ
first_giver [] = 0
first_giver (token ∷ cell) = if gives_place token.kind then 0 else suc (first_giver cell)

-- The index of the first such token from an index on.
abbrev pub giver_at : List (Spanned TokenKind) → ℕ → ℕ
giver_at cell next = min next (length cell) + first_giver (drop (min next (length cell)) cell)

-- The giver of each item that has a place, one after another from an index on.
abbrev pub matched : List (Spanned TokenKind) → ℕ → List Item → List (Option ℕ)
matched cell next [] = []
matched cell next (item ∷ others) =
    if has_place item then Some (giver_at cell next) ∷ matched cell (giver_at cell next + 1) others
    else None ∷ matched cell next others
