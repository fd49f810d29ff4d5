-- A list with a gap, as contracts see it. Not in ABC 2.1.
use Rattle.std.specs.Prelude.{ℕ, ◌+◌, ◌-◌, ◌^◌, List, ◌++◌, take, drop, min}

-- The items, how many of them precede the gap, how many more fit, and how many places items have moved over.
pub record GapListView (T : Type 0) : Type 0 where
  pub items : List T
  pub gap : ℕ
  pub room : ℕ
  pub moved : ℕ

abbrev pub gapped_list : {T : Type 0} → List T → ℕ → ℕ → ℕ → GapListView T
gapped_list items gap room moved = record { items = items; gap = gap; room = room; moved = moved }

-- The distance between two places.
abbrev pub distance : ℕ → ℕ → ℕ
distance from to = (to - from) + (from - to)

-- A tally after `more` more. It stays at its greatest value.
abbrev pub add_to_tally : ℕ → ℕ → ℕ
add_to_tally tally more = min (tally + more) (2 ^ 64 - 1)

-- Items, with others instead of the `removed` items from index `at` on.
abbrev pub replaced_run : {T : Type 0} → List T → ℕ → ℕ → List T → List T
replaced_run items at removed new = take at items ++ new ++ drop (at + removed) items
