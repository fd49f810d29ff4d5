-- Where the items of a tune are in its text. Not in ABC 2.1.
use Rattle.std.specs.Prelude.{ℕ, ◌+◌, List, [], ◌∷◌, ◌++◌, map, filter_map, slice_get, Option, Some, None, option_and_then, unwrap_or}
use Rattle.std.specs.Borrow.{Bor}
use Rattle.std.specs.Option.{option_map}
use Rattle.abc_bars_items.specs.Column.{column_of}
use Rattle.abc_bars_items.specs.Item.{Items}
use Rattle.abc_bars_items.specs.declared.item.Item.{Item}
use Rattle.abc_live_text.specs.Row.{Row}
use Rattle.abc_scan.specs.declared.chord_part.ChordPartKind.{ChordPartKind}
use Rattle.abc_scan.specs.declared.spanned.Spanned.{Spanned}
use Rattle.abc_scan.specs.declared.token.TokenKind.{TokenKind}
use Rattle.abc_scan.specs.declared.token.TokenKind.TheVariants as kinds
use Rattle.abc_play_places.specs.Givers.{matched}
use Rattle.abc_play_places.specs.ToneGivers.{tone_parts}
use Rattle.abc_tune_compiler.specs.Placed.{Placed, placed_at}
use Rattle.abc_play.specs.declared.cells.LineCell.{LineCell}
use Rattle.abc_play.specs.declared.place.Place.{Place}

-- A cell with its line, as definitions have it.
abbrev pub placed_cell : LineCell → Placed (List (Spanned TokenKind))
placed_cell one = placed_at one.line one.cell.now

-- The cells of the row of a line, with the line's number, if there is one.
abbrev pub row_places : ℕ → Option (Row (List (Spanned TokenKind))) → List (Placed (List (Spanned TokenKind)))
row_places line None = []
row_places line (Some row) = map (placed_at line) row.cells

-- The place of a token in its line. Columns count from 1, and the second is that after the last byte.
abbrev pub token_place : ℕ → Spanned TokenKind → Place
token_place line token = record { line = line; from = column_of token.from; to = column_of token.to }

-- The place of a part of the chord that begins at this byte of its line.
abbrev pub part_place : ℕ → ℕ → Spanned ChordPartKind → Place
part_place line at part = record { line = line; from = column_of (at + part.from); to = column_of (at + part.to) }

-- The place of the part at an index, if there is one.
abbrev pub part_place_at : ℕ → ℕ → List (Spanned ChordPartKind) → ℕ → Option Place
part_place_at line at parts index = option_map (part_place line at) (slice_get parts index)

-- The places of the tones of a chord: its first sixteen notes.
abbrev pub chord_places : ℕ → ℕ → List (Spanned ChordPartKind) → List Place
chord_places line at parts = filter_map (part_place_at line at parts) (tone_parts 0 0 parts)

-- The places of what a token gives: of a chord those of its tones, else its own.
abbrev pub kind_places : ℕ → Spanned TokenKind → TokenKind → List Place
kind_places line token (kinds.Chord chord) = chord_places line token.from chord.parts
kind_places line token _ = token_place line token ∷ []

abbrev pub token_places : ℕ → Spanned TokenKind → List Place
token_places line token = kind_places line token token.kind

-- The same of a token that may be missing.
abbrev pub some_places : ℕ → Option (Spanned TokenKind) → List Place
some_places line None = []
some_places line (Some token) = token_places line token

-- The places of an item by the token of its cell that gives it.
abbrev pub giver_places : ℕ → List (Spanned TokenKind) → Option ℕ → List Place
giver_places line cell None = []
giver_places line cell (Some giver) = some_places line (slice_get cell giver)

-- The places of the items of a cell. The tokens that give an item with a place do so in order.
abbrev pub cell_places : ℕ → List (Spanned TokenKind) → List Item → List (List Place)
cell_places line cell given = map (giver_places line cell) (matched cell 0 given)

-- The places of the items that a cell gives, if it gives some.
abbrev pub given_places : Placed (List (Spanned TokenKind)) → Option (Bor Items) → List (List Place)
given_places cell None = []
given_places cell (Some one) = cell_places cell.line cell.here one.now.items

-- The places of the items of a tune, from its cells and what they give.
abbrev pub tune_places : List (Placed (List (Spanned TokenKind))) → List Items → List (List Place)
tune_places [] given = []
tune_places (cell ∷ cells) [] = []
tune_places (cell ∷ cells) (one ∷ given) = cell_places cell.line cell.here one.items ++ tune_places cells given

-- The place of what is nowhere in the text. No entry has it.
abbrev pub no_place : Place
no_place = record { line = 0; from = 0; to = 0 }

-- The place of a tone of an item; the first also of a rest or a bar line.
abbrev pub place_at : List (List Place) → ℕ → ℕ → Place
place_at places item tone = unwrap_or (option_and_then (λ own. slice_get own tone) (slice_get places item)) no_place
