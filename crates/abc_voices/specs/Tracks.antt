-- Which voices a tune has tracks for, by looking back. ABC 2.1 section 7; that the one without a name comes first is not in ABC
-- 2.1.
use Rattle.std.specs.Prelude.{◌≡◌, ℕ, ◌&&◌, ◌||◌, Bool, if◌then◌else◌, bytes_eq, List, [], ◌∷◌, ◌++◌, filter_map, Option, Some}
use Rattle.std.specs.Prelude.{None, option_and_then}
use Rattle.std.specs.List.{list_any}
use Rattle.std.specs.Option.{is_none}
use Rattle.abc_bars_items.specs.declared.item.Item.{Item}
use Rattle.abc_bars_items.specs.declared.item.Item.TheVariants as items
use Rattle.abc_voices.specs.Layout.{takes_time}
use Rattle.abc_voices.specs.Track.{tracks}
use Rattle.abc_voices.specs.Voices.{first_value, named_by, voice_at_place, with_items_before}

-- The voice that a V: of the header or of the body mentions.
abbrev pub mentioned_by : Item → Option (List ℕ)
mentioned_by (items.Voice opening name) = Some name
mentioned_by _ = None

-- The name that an item mentions and none of these before it does. An empty one is no name.
abbrev pub mentioned_first : List Item × Item → Option (List ℕ)
mentioned_first (past, item) =
    option_and_then (λ name. if bytes_eq name [] || list_any (bytes_eq name)
    (filter_map mentioned_by past) then None else Some name) (mentioned_by item)

-- Whether an item takes time, no V: of the body is before it, and its voice is the one without a name.
abbrev pub plays_unnamed : List Item → List Item × Item → Bool
plays_unnamed tune (past, item) = takes_time item && (is_none (first_value named_by past) && bytes_eq (voice_at_place tune past) [])

-- The names of the voices that a tune mentions, in the order of their first mention.
abbrev pub mentioned_voices : List Item → List (List ℕ)
mentioned_voices tune = filter_map mentioned_first (with_items_before [] tune)

-- The tracks of a tune are those of the voices that it mentions, in this order, after that of the voice without a
-- name, if something plays for that one.
abbrev pub HaveTracksByMention : Type 0
HaveTracksByMention = (tune : List Item)
    → tracks tune ≡ (if list_any (plays_unnamed tune) (with_items_before [] tune) then [] ∷ [] else []) ++ mentioned_voices tune
