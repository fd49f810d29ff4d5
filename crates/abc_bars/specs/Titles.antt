-- The titles that the items of a tune say. ABC 2.1 section 3.1.2.
use Rattle.std.specs.Prelude.{◌≡◌, ℕ, List, [], ◌∷◌, Option, Some, None, filter_map}
use Rattle.abc_bars_header.specs.FieldKind.{kind_of}
use Rattle.abc_bars_body.specs.Mentioned.{items_of_cells}
use Rattle.abc_bars_header.specs.HeaderLine.{HeaderLine, FieldLine, DirectiveLine}
use Rattle.abc_bars_body.specs.Step.{line_in}
use Rattle.abc_bars_header.specs.declared.defaults.Defaults.{Defaults}
use Rattle.abc_bars_header.specs.declared.field_kind.FieldKind.{FieldKind}
use Rattle.abc_bars_header.specs.declared.field_kind.FieldKind.TheVariants as fields
use Rattle.abc_bars_items.specs.declared.item.Item.{Item}
use Rattle.abc_bars_items.specs.declared.item.Item.TheVariants as items
use Rattle.abc_scan.specs.declared.spanned.Spanned.{Spanned}
use Rattle.abc_scan.specs.declared.token.TokenKind.{TokenKind}

-- The title that an item says, if it says one.
abbrev pub title_said : Item → Option (List ℕ)
title_said (items.Title text) = Some text
title_said _ = None

-- The titles that items say, in order.
abbrev pub titles_said : List Item → List (List ℕ)
titles_said tune = filter_map title_said tune

-- What the T: lines of a header say from a field of this kind on, of what those after it say: a K: ends the header.
abbrev pub titles_from : FieldKind → List ℕ → List (List ℕ) → List (List ℕ)
titles_from fields.Title value following = value ∷ following
titles_from fields.Key value following = []
titles_from _ value following = following

-- The same from this line on, or from music, which ends a header as well. A directive does not.
abbrev pub titles_by : Option HeaderLine → List (List ℕ) → List (List ℕ)
titles_by None following = []
titles_by (Some (FieldLine field)) following = titles_from (kind_of field.letter) field.value following
titles_by (Some (DirectiveLine directive)) following = following

-- The values of the T: lines of a tune's header, in order.
abbrev pub titles_of_header : List (List (Spanned TokenKind)) → List (List ℕ)
titles_of_header [] = []
titles_of_header (cell ∷ cells) = titles_by (line_in cell) (titles_of_header cells)

-- What a tune says for its titles is what the T: lines of its header say.
abbrev pub SaysTitlesOfHeader : Type 0
SaysTitlesOfHeader = (opening : Defaults) (cells : List (List (Spanned TokenKind)))
    → titles_said (items_of_cells opening cells) ≡ titles_of_header cells
