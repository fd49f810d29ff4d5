-- The order of parts of a field P: in a header. ABC 2.1 section 3.1.9.
use Rattle.std.specs.Prelude.{ℕ, ◌+◌, ◌-◌, Bool, true, false, not, ◌&&◌, ◌||◌, ◌==◌, nat_lt, if◌then◌else◌, List, filter, fold}
use Rattle.std.specs.Prelude.{Option, Some, None, Result, Ok, Err}
use Rattle.std.specs.Char.{is_ascii_digit, is_ascii_uppercase}
use Rattle.abc_text.specs.Blank.{is_blank}
use Rattle.abc_fields.specs.declared.fault_code.FaultCode.{FaultCode}
use Rattle.abc_fields.specs.declared.fault_code.FaultCode.TheVariants.{BadOrder}
use Rattle.abc_fields.specs.declared.parts.LastItem.{LastItem}
use Rattle.abc_fields.specs.declared.parts.LastItem.TheVariants.{Nothing, Item}
use Rattle.abc_fields.specs.declared.parts.OrderState.{OrderState}
use Rattle.abc_fields.specs.declared.parts.TheConstants.{DEEPEST_GROUP, LONGEST_COUNT}
use Rattle.abc_text.specs.Byte.{open_parenthesis, close_parenthesis, dot, digit_zero}

-- A dot or a blank, which is ignored anywhere in an order, also inside a count.
abbrev pub is_ignored : ℕ → Bool
is_ignored b = (b == dot) || is_blank b

-- The bytes of an order that are read.
abbrev pub order_bytes : List ℕ → List ℕ
order_bytes value = filter (λ b. not (is_ignored b)) value

-- Whether an item ends after this: it has no count, or a count that is not 0.
abbrev pub ends_item : LastItem → Bool
ends_item Nothing = false
ends_item (Item digits positive) = (digits == 0) || positive

-- Whether an item may begin after this.
abbrev pub begins_item : LastItem → Bool
begins_item Nothing = true
begins_item (Item digits positive) = ends_item (Item digits positive)

-- The same item with one more digit of its count.
abbrev pub with_digit : LastItem → ℕ → Option LastItem
with_digit Nothing digit = None
with_digit (Item digits positive) digit =
    if nat_lt digits LONGEST_COUNT then Some (Item (digits + 1) (positive || not (digit == digit_zero))) else None

-- The place at this depth after this item.
abbrev pub place_at : ℕ → LastItem → OrderState
place_at depth before = record { depth = depth; before = before }

-- The place after a digit.
abbrev pub following_digit : ℕ → Option LastItem → Option OrderState
following_digit depth None = None
following_digit depth (Some before) = Some (place_at depth before)

-- The place after a byte that may come at this place. The byte is a letter or the beginning of a group if an item may
-- begin; the end of a group if its last item may end; or a digit of a count.
unfoldable pub next : OrderState → ℕ → Option OrderState
next place b =
    if is_ascii_uppercase b then (if begins_item place.before then Some (place_at place.depth (Item 0 false)) else None)
    else (if b == open_parenthesis
    then (if begins_item place.before && nat_lt place.depth DEEPEST_GROUP then Some (place_at (place.depth + 1) Nothing) else None)
    else (if b == close_parenthesis
    then (if ends_item place.before && nat_lt 0 place.depth then Some (place_at (place.depth - 1) (Item 0 false)) else None)
    else (if is_ascii_digit b then following_digit place.depth (with_digit place.before b) else None)))

-- The same for an optional place.
abbrev pub next_of : Option OrderState → ℕ → Option OrderState
next_of None b = None
next_of (Some place) b = next place b

-- Whether an order may end at a place.
abbrev pub is_whole : OrderState → Bool
is_whole place = (place.depth == 0) && ends_item place.before

-- The place after a text, if an order may begin with it.
abbrev pub place_following : List ℕ → Option OrderState
place_following text = fold next_of (Some (place_at 0 Nothing)) (order_bytes text)

-- The same for an optional place.
abbrev pub ends_order : Option OrderState → Bool
ends_order None = false
ends_order (Some place) = is_whole place

-- Whether a text is an order.
abbrev pub is_order : List ℕ → Bool
is_order text = ends_order (place_following text)

-- The result of reading an order of parts.
abbrev pub parts_of : List ℕ → Result (Unit {0}) FaultCode
parts_of value = if is_order value then Ok tt else Err BadOrder
