-- Bar lines. ABC 2.1 section 4.8.
use Rattle.std.specs.Prelude.{ℕ, ◌≡◌, ◌≤◌, ◌<◌, ◌+◌, ◌-◌, ◌⊎◌, ◌==◌, ◌&&◌, ◌||◌, nat_lt, not, Bool, true, if◌then◌else◌, List, []}
use Rattle.std.specs.Prelude.{◌∷◌, ◌++◌, length, take, drop, replicate, codes, flat_map, Option, Some, None}
use Rattle.std.specs.List.{prefix_len}
use Rattle.std.specs.Str.{bytes_eq}
use Rattle.abc_scan.specs.declared.bar_line.BarLine.{BarLine}
use Rattle.abc_scan.specs.Byte.{space, opening_bracket, closing_bracket, colon, bar_stroke}
use Rattle.abc_scan.specs.Note.{begins_with_byte}

-- Strokes side by side: a `[` or none, one stroke and any more, a `]` or none.
pub record Strokes : Type 0 where
  pub opened : Bool
  pub more : ℕ
  pub closed : Bool

-- The spelling of strokes.
abbrev pub strokes_text : Strokes → List ℕ
strokes_text s =
    (if s.opened then opening_bracket ∷ [] else [])
    ++ (bar_stroke ∷ replicate s.more bar_stroke ++ (if s.closed then closing_bracket ∷ [] else []))

-- The middle of a bar line, between its colons.
abbrev pub middle_text : List Strokes → List ℕ
middle_text groups = flat_map strokes_text groups

-- Whether a middle is not a single `|`. Not in ABC 2.1.
abbrev pub is_double : List ℕ → Bool
is_double middle = not (bytes_eq middle (codes "|"))

-- Any colons, which close, one or more groups of strokes, and any colons, which open. ABC 2.1 section 4.8.
pub record HasStrokes (text : List ℕ) (bar : BarLine) : Type 0 where
  pub groups : List Strokes
  pub some : 0 < length groups
  pub spelling : text ≡ replicate bar.closes colon ++ (middle_text groups ++ replicate bar.opens colon)
  pub double_is : bar.double ≡ is_double (middle_text groups)

-- Two or more colons alone: each is a close and an open repeat, but for one. Not in ABC 2.1.
pub record HasColons (text : List ℕ) (bar : BarLine) : Type 0 where
  pub count : ℕ
  pub several : 2 ≤ count
  pub spelling : text ≡ replicate count colon
  pub closes_is : bar.closes ≡ count - 1
  pub opens_is : bar.opens ≡ count - 1
  pub double_is : bar.double ≡ true

-- A bar line, with the colons before and after its strokes.
abbrev pub IsBar : List ℕ → BarLine → Type 0
IsBar text bar = HasStrokes text bar ⊎ HasColons text bar

-- The number of colons at the front of a text.
abbrev pub colons : List ℕ → ℕ
colons text = prefix_len (λ b. b == colon) text

-- Whether a byte between its neighbours belongs to a middle: a stroke, a `[` before one, a `]` after one.
abbrev pub goes_on : ℕ → ℕ → List ℕ → Bool
goes_on before b rest =
    (b == bar_stroke) || ((b == opening_bracket) && begins_with_byte bar_stroke rest)
    || ((b == closing_bracket) && (before == bar_stroke))

-- The number of bytes of a middle at the front of a text after this byte.
abbrev pub middle_from : ℕ → List ℕ → ℕ
middle_from before [] = 0
middle_from before (b ∷ bs) = if goes_on before b bs then 1 + middle_from b bs else 0

-- The number of bytes of a middle at the front of a text. It follows nothing, which counts as a space.
abbrev pub middle_size : List ℕ → ℕ
middle_size text = middle_from space text

-- Colons alone: a single one is no bar line.
abbrev pub bar_of_colons : ℕ → Option (BarLine × ℕ)
bar_of_colons count =
    if nat_lt count 2 then None else Some (record { closes = count - 1; opens = count - 1; double = true }, count)

-- The bar line of colons, a middle of `middle` bytes and the text after it, and its size in bytes.
abbrev pub with_middle : ℕ → ℕ → List ℕ → BarLine × ℕ
with_middle closes middle following = (
  record { closes = closes; opens = colons (drop middle following); double = is_double (take middle following) },
  closes + middle + colons (drop middle following),
)

-- The bar line of colons and the text after them.
abbrev pub bar_after : ℕ → List ℕ → Option (BarLine × ℕ)
bar_after closes following =
    if middle_size following == 0 then bar_of_colons closes else Some (with_middle closes (middle_size following) following)

-- The longest bar line at the front of a text, and its size in bytes.
unfoldable pub bar_at : List ℕ → Option (BarLine × ℕ)
bar_at text = bar_after (colons text) (drop (colons text) text)
