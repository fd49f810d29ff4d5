-- Blanks, and a text without those at its ends.
use Rattle.std.specs.Prelude.{ℕ, ◌-◌, Bool, ◌||◌, ◌==◌, List, length, take, drop}
use Rattle.std.specs.List.{prefix_len, suffix_len, AllPass}
use Rattle.abc_text.specs.Byte.{space, tab}

-- A blank is a space or a tab.
abbrev pub is_blank : ℕ → Bool
is_blank b = (b == space) || (b == tab)

-- Blanks, or nothing.
abbrev pub AreBlanks : List ℕ → Type 0
AreBlanks text = AllPass is_blank text

-- A text without its leading blanks.
unfoldable pub trim_start : List ℕ → List ℕ
trim_start text = drop (prefix_len is_blank text) text

-- A text without its trailing blanks.
unfoldable pub trim_end : List ℕ → List ℕ
trim_end text = take (length text - suffix_len is_blank text) text

-- A text without the blanks at its ends.
unfoldable pub trim_blanks : List ℕ → List ℕ
trim_blanks text = trim_end (trim_start text)
