-- Which items have the mark of a header, and which that of a body. A V: of a header declares a voice; one of a body makes it
-- current. A value that a header sets holds from the tune's beginning on. ABC 2.1 sections 3.1 and 7.1.
use Rattle.std.specs.Prelude.{◌≡◌, Bool, false, not, List, [], filter, Some}
use Rattle.abc_fields.specs.declared.key.Key.{Key}
use Rattle.abc_bars_header.specs.HeaderLine.{HeaderLine}
use Rattle.abc_bars_header.specs.declared.defaults.Defaults.{Defaults}
use Rattle.abc_bars_items.specs.declared.item.Item.{Item}
use Rattle.abc_bars_items.specs.declared.item.Item.TheVariants as items
use Rattle.abc_scan.specs.declared.spanned.Spanned.{Spanned}
use Rattle.abc_scan.specs.declared.token.TokenKind.{TokenKind}
use Rattle.abc_bars.specs.LookBack.Element.{Element}
use Rattle.abc_bars.specs.LookBack.Place.{result_in_body, result_in_header}

-- Whether an item says that a header gives it.
abbrev pub is_of_header : Item → Bool
is_of_header (items.Tempo opening micros out) = opening
is_of_header (items.Meter opening meter) = opening
is_of_header (items.Key opening key) = opening
is_of_header (items.Voice opening name) = opening
is_of_header (items.Program opening number) = opening
is_of_header _ = false

-- Whether an item says that a body gives it.
abbrev pub is_of_body : Item → Bool
is_of_body (items.Tempo opening micros out) = not opening
is_of_body (items.Meter opening meter) = not opening
is_of_body (items.Key opening key) = not opening
is_of_body (items.Voice opening name) = not opening
is_of_body (items.Program opening number) = not opening
is_of_body _ = false

-- No item of a cell of a body says that a header gives it.
abbrev pub BodiesSaySo : Type 0
BodiesSaySo =
    (values : Defaults) (fields : List HeaderLine) (key : Key) (before : List Element) (cell : List (Spanned TokenKind))
    → filter is_of_header (result_in_body values fields key before cell).items ≡ []

-- No item of a line of a header says that a body gives it.
abbrev pub HeadersSaySo : Type 0
HeadersSaySo =
    (values : Defaults) (before : List HeaderLine) (cell : List (Spanned TokenKind)) (line : HeaderLine)
    → filter is_of_body (result_in_header values before cell (Some line)).items ≡ []
