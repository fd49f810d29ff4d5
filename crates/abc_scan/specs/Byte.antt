-- Bytes by name: those of music lines beside the ones that other texts have too.
use Rattle.std.specs.Prelude.{ℕ}
pub use Rattle.abc_text.specs.Byte.{space, quote, open_parenthesis, plus_sign, minus_sign, slash, equals_sign, caret, underscore}

abbrev pub exclamation : ℕ
exclamation = 33

abbrev pub percent : ℕ
percent = 37

abbrev pub apostrophe : ℕ
apostrophe = 39

abbrev pub comma : ℕ
comma = 44

abbrev pub colon : ℕ
colon = 58

abbrev pub less_sign : ℕ
less_sign = 60

abbrev pub greater_sign : ℕ
greater_sign = 62

abbrev pub opening_bracket : ℕ
opening_bracket = 91

abbrev pub backslash : ℕ
backslash = 92

abbrev pub closing_bracket : ℕ
closing_bracket = 93

abbrev pub small_y : ℕ
small_y = 121

abbrev pub opening_brace : ℕ
opening_brace = 123

abbrev pub bar_stroke : ℕ
bar_stroke = 124

abbrev pub closing_brace : ℕ
closing_brace = 125
