-- The letters of the parts that an order plays. ABC 2.1 section 3.1.9.
use Rattle.std.specs.Prelude.{ℕ, Bool, ◌+◌, ◌-◌, ◌*◌, ◌==◌, ◌||◌, if◌then◌else◌, List, [], ◌∷◌, ◌++◌, fold, take, replicate, Option}
use Rattle.std.specs.Prelude.{Some, None}
use Rattle.std.specs.List.{concat}
use Rattle.std.specs.Char.{is_ascii_digit, is_ascii_uppercase}
use Rattle.abc_fields.specs.Parts.{order_bytes}
use Rattle.abc_text.specs.Byte.{open_parenthesis, close_parenthesis, digit_zero}

-- The play of the front of an order. For each open group, the innermost first: the letters before it in the group
-- around it. In the innermost group: the letters before its last item, the letters of that item, once, and its count so
-- far.
pub record OrderLetters : Type 0 where
  pub around : List (List ℕ)
  pub before : List ℕ
  pub item : List ℕ
  pub count : Option ℕ

-- The play of an empty front.
abbrev pub nothing_played : OrderLetters
nothing_played = record { around = []; before = []; item = []; count = None }

-- An item without a count is played once.
abbrev pub count_or_once : Option ℕ → ℕ
count_or_once None = 1
count_or_once (Some n) = n

-- The letters that the innermost group plays so far.
abbrev pub letters_so_far : OrderLetters → List ℕ
letters_so_far played = played.before ++ concat (replicate (count_or_once played.count) played.item)

-- A new item in a group, after these letters.
abbrev pub with_item : List (List ℕ) → List ℕ → List ℕ → OrderLetters
with_item around before item = record { around = around; before = before; item = item; count = None }

-- A group that ends is an item of the group around it.
abbrev pub close_group : List (List ℕ) → List ℕ → OrderLetters
close_group [] item = with_item [] [] item
close_group (before ∷ around) item = with_item around before item

-- A count with one more digit.
abbrev pub count_on : Option ℕ → ℕ → ℕ
count_on None digit = digit - digit_zero
count_on (Some n) digit = n * 10 + (digit - digit_zero)

-- The play with one more byte: a letter, a parenthesis or a digit.
unfoldable pub play_on : OrderLetters → ℕ → OrderLetters
play_on played b =
    if is_ascii_uppercase b then with_item played.around (letters_so_far played) (b ∷ [])
    else (if b == open_parenthesis then with_item (letters_so_far played ∷ played.around) [] []
    else (if b == close_parenthesis then close_group played.around (letters_so_far played)
    else record played { count = Some (count_on played.count b) }))

-- The letters of the parts that an order plays. For any other text the value has no meaning.
abbrev pub letters_of : List ℕ → List ℕ
letters_of value = letters_so_far (fold play_on nothing_played (order_bytes value))

-- A byte with a meaning in an order: a letter, a parenthesis or a digit.
abbrev pub is_order_byte : ℕ → Bool
is_order_byte b = is_ascii_uppercase b || (b == open_parenthesis) || (b == close_parenthesis) || is_ascii_digit b

-- The play with one more byte of a text: a byte without a meaning changes nothing.
unfoldable pub read_on : OrderLetters → ℕ → OrderLetters
read_on played b = if is_order_byte b then play_on played b else played

-- The play of the front of a text up to this byte.
abbrev pub front_of : List ℕ → ℕ → OrderLetters
front_of text i = fold read_on nothing_played (take i text)
