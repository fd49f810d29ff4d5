-- The items of a tune that its fields give.
use Rattle.std.specs.Prelude.{Bool, true, false, not, ◌&&◌, List, filter, is_some}
use Rattle.std.specs.List.{list_all}
use Rattle.abc_bars_items.specs.declared.item.Item.{Item}
use Rattle.abc_bars_items.specs.declared.item.Item.TheVariants as items
use Rattle.abc_voices.specs.Change.{program_of}
use Rattle.abc_voices_sections.specs.Section.{is_step}
use Rattle.abc_voices_sections.specs.Step.{is_field}

-- Whether an item is music: a note, a chord, a rest, a bar line or the beginning of an ending.
abbrev pub is_music : Item → Bool
is_music (items.Tone tones length) = true
is_music (items.Rest length bar) = true
is_music (items.Bar line) = true
is_music (items.Ending numbers) = true
is_music _ = false

-- Whether an item may change the tempo, the meter, the key or the program while a tune is played.
abbrev pub is_change : Item → Bool
is_change item = is_field item && is_step item

-- Whether no item of a tune changes one of these.
abbrev pub is_steady : List Item → Bool
is_steady tune = list_all (λ step. not (is_change step)) tune

-- Whether an item sets a program.
abbrev pub sets_program : Item → Bool
sets_program item = is_some (program_of item)

-- Whether no item of a tune sets a program while it is played.
abbrev pub keeps_programs : List Item → Bool
keeps_programs tune = list_all (λ step. not (sets_program step && is_step step)) tune

-- The items of a tune that are no music.
abbrev pub without_music : List Item → List Item
without_music tune = filter (λ step. not (is_music step)) tune
