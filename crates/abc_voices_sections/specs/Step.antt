-- What an item is to the play of its voice.
use Rattle.std.specs.Prelude.{ℕ, Bool, true, false, List, [], Option, Some, None}
use Rattle.abc_bars_items.specs.declared.item.Item.{Item}
use Rattle.abc_bars_items.specs.declared.item.Item.TheVariants as items
use Rattle.abc_bars_items.specs.declared.item.Tone.{Tone}
use Rattle.abc_repeat.specs.declared.mark.Mark.{Mark}
use Rattle.abc_repeat.specs.declared.mark.Mark.TheVariants as marks

-- A field or a directive that is played with the notes: of tempo, meter, key or program. Not in ABC 2.1.
abbrev pub is_field : Item → Bool
is_field (items.Tempo opening micros out) = true
is_field (items.Meter opening meter) = true
is_field (items.Key opening key) = true
is_field (items.Program opening number) = true
is_field _ = false

-- A bar line or the beginning of an ending is a mark of how its section is played; all else takes its turn.
abbrev pub mark_of : Item → Mark
mark_of (items.Bar line) = marks.Bar line.closes line.opens line.double
mark_of (items.Ending numbers) = marks.Ending numbers
mark_of _ = marks.Play

-- The grains that an item takes: a note, chord, rest or bar rest its length, all else nothing.
abbrev pub length_of : Item → ℕ
length_of (items.Tone tones length) = length.0
length_of (items.Rest length bar) = length.0
length_of _ = 0

-- The tones of a time token. A rest has no tones, and a bar rest is no time token. ABC 2.1 section 4.5.
abbrev pub tones_of : Item → Option (List Tone)
tones_of (items.Tone tones length) = Some tones
tones_of (items.Rest length true) = None
tones_of (items.Rest length false) = Some []
tones_of _ = None

-- A field that sets nothing. A step that no item gives is played as one.
abbrev pub empty_field : Item
empty_field = items.Tempo false None false

-- An item is the item of itself.
abbrev pub itself : Item → Item
itself item = item
