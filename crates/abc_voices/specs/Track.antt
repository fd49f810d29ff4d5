-- The voices of a tune, in the order of their first mention.
use Rattle.std.specs.Prelude.{ℕ, Bool, true, false, ◌&&◌, if◌then◌else◌, bytes_eq, List, [], ◌∷◌, ◌++◌, drop}
use Rattle.std.specs.List.{list_any}
use Rattle.abc_bars_items.specs.declared.item.Item.{Item}
use Rattle.abc_bars_items.specs.declared.item.Item.TheVariants as items
use Rattle.abc_voices_sections.specs.Section.{opening_voice}

-- A name after those that are known, unless it is one of them.
abbrev pub with_name : List (List ℕ) → List ℕ → List (List ℕ)
with_name known name = if list_any (bytes_eq name) known then known else known ++ name ∷ []

-- The names that are known after an item: a V: mentions its voice.
abbrev pub names_after : List (List ℕ) → Item → List (List ℕ)
names_after known (items.Voice opening name) = with_name known name
names_after known _ = known

-- The names that are known after a tune, of these before it.
abbrev pub names_from : List (List ℕ) → List Item → List (List ℕ)
names_from known [] = known
names_from known (step ∷ tune) = names_from (names_after known step) tune

-- The voices of a tune, that without a name before those that have one. Not in ABC 2.1.
abbrev pub voice_names : List Item → List (List ℕ)
voice_names tune = names_from ([] ∷ []) tune

-- Whether an item settles that something takes time before the first V: of the body; if not, what follows does.
abbrev pub plays_before : Bool → Item → Bool
plays_before later (items.Tone tones length) = true
plays_before later (items.Rest length bar) = true
plays_before later (items.Voice false name) = false
plays_before later _ = later

-- Whether a note, chord, rest or bar rest is before the first V: of the body.
abbrev pub plays_first : List Item → Bool
plays_first [] = false
plays_first (step ∷ tune) = plays_before (plays_first tune) step

-- Whether the voice without a name has a track: something of it takes time. Not in ABC 2.1.
abbrev pub has_unnamed_track : List Item → Bool
has_unnamed_track tune = bytes_eq (opening_voice tune) [] && plays_first tune

-- The voices that have a track.
abbrev pub tracks : List Item → List (List ℕ)
tracks tune = if has_unnamed_track tune then voice_names tune else drop 1 (voice_names tune)
