-- A splice of a list with a gap that has been prepared. Not in ABC 2.1.
use Rattle.std.specs.Prelude.{◌≡◌, ℕ, ◌+◌, ◌-◌, ◌*◌, ◌<◌, ◌≤◌, if◌then◌else◌, List, [], length, nat_le, Option, Some, None}
use Rattle.abc_lines.specs.GapList.{GapListView, gapped_list, distance, add_to_tally, replaced_run}

-- How many items there are after a splice.
abbrev pub count_after : {T : Type 0} → GapListView T → ℕ → List T → ℕ
count_after list removed new = length list.items - removed + length new

-- How many items a list can have.
abbrev pub capacity : {T : Type 0} → GapListView T → ℕ
capacity list = length list.items + list.room

-- How many it can have once it has to have `count`: as before if that is enough, and otherwise twice `count`.
abbrev pub capacity_for : {T : Type 0} → ℕ → GapListView T → ℕ
capacity_for count list = if nat_le count (capacity list) then capacity list else 2 * count

-- A list after a splice: its items, with others instead of `removed` of them from index `at` on, and the gap after
-- those that have come.
unfoldable pub after_splice : {T : Type 0} → GapListView T → ℕ → ℕ → List T → GapListView T
after_splice list at removed new =
    let count = count_after list removed new in
    gapped_list (replaced_run list.items at removed new) (at + length new) (capacity_for count list - count)
    (add_to_tally list.moved (distance list.gap at))

-- A list before a splice, and the same list after it.
pub record SplicePatchView (T : Type 0) : Type 0 where
  pub on : GapListView T
  pub after : GapListView T

abbrev pub splice_view : {T : Type 0} → GapListView T → ℕ → ℕ → List T → SplicePatchView T
splice_view on at removed new = record { on = on; after = after_splice on at removed new }

-- `count` items fit: in the list's own places, or in those of an empty list that replaces it.
abbrev pub Fits : {T : Type 0} → ℕ → GapListView T → Option (GapListView T) → Type 0
Fits count on None = count ≤ capacity on
Fits count on (Some roomier) = (capacity on < count) × (roomier ≡ gapped_list [] 0 (2 * count) 0)

-- What a prepared splice keeps: the removed items are in the list, and the new ones fit.
pub record IsSplice {T : Type 0} (on : GapListView T) (at removed : ℕ) (new : List T)
    (roomier : Option (GapListView T)) : Type 0 where
  pub inside : at + removed ≤ length on.items
  pub fits : Fits (count_after on removed new) on roomier
