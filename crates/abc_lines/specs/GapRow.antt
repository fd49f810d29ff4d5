-- What a list with a gap holds, and how its places are laid out.
use Rattle.std.specs.Prelude.{◌≡◌, ℕ, ◌+◌, ◌-◌, ◌^◌, ◌<◌, ◌≤◌, if◌then◌else◌, nat_lt, List, ◌++◌, map, length, replicate, Option}
use Rattle.std.specs.Prelude.{Some, None}
use Rattle.std.specs.List.{filter_map}
use Rattle.abc_lines.specs.declared.gap_row.GapRow.{GapRow}

module _ {X : Type 0} where
  -- the items in the places of a row, in their order
  abbrev pub somes : List (Option X) → List X
  somes = filter_map (λ (c : Option X). c)

  abbrev pub items_of : GapRow X → List X
  items_of r = somes r.places.row

  -- items, a gap of `gap` empty places, and items
  abbrev pub laid : List X → ℕ → List X → List (Option X)
  laid front gap back = map Some front ++ (replicate gap None ++ map Some back)

  -- where the item at an index lies
  abbrev pub place_of : GapRow X → ℕ → ℕ
  place_of r index = if nat_lt index r.at then index else index + (r.capacity - r.size)

  -- `front` precedes the gap, and `back` follows it
  pub record IsGapped (r : GapRow X) : Type 0 where
    pub front : List X
    pub back : List X
    pub row : r.places.row ≡ laid front (r.capacity - r.size) back
    pub before : r.at ≡ length front
    pub count : r.size ≡ length front + length back
    pub fits : r.size ≤ r.capacity
    pub small : r.capacity < 2 ^ 63
    pub claimed : (r.claim.start ≡ r.places.start) × (r.claim.count ≡ r.capacity) × (r.claim.from ≡ r.alloc)

  -- `new` holds these items, `at` of them before its gap, and has as many places as `old`
  pub record Becomes (old new : GapRow X) (items : List X) (at size : ℕ) : Type 0 where
    pub gapped : IsGapped new
    pub holds : items_of new ≡ items
    pub edge : new.at ≡ at
    pub many : new.size ≡ size
    pub places : new.capacity ≡ old.capacity
