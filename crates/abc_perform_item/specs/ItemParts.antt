-- A note, chord or rest with all that the marks before it say. ABC 2.1 sections 4.12 and 4.14.
use Rattle.std.specs.Prelude.{◌+◌, ◌-◌, ◌*◌, ◌^◌, ◌<◌, ◌&&◌, nat_lt, false, if◌then◌else◌, List, [], ◌∷◌, ◌++◌, length, map, Option, Some, None}
use Rattle.abc_time.specs.declared.grains.Grains.{Grains}
use Rattle.abc_bars_items.specs.declared.item.Item.{Item}
use Rattle.abc_bars_items.specs.declared.item.Item.TheVariants as items
use Rattle.abc_bars_items.specs.declared.item.Tone.{Tone}
use Rattle.abc_marks.specs.declared.mark.Mark.{Mark}
use Rattle.abc_perform_note.specs.declared.part.Part.{Part}
use Rattle.abc_perform_item.specs.declared.graces.Grace.{Grace}
use Rattle.abc_perform_item.specs.declared.performed.Performed.{Performed}
use Rattle.abc_perform_item.specs.declared.performed.Place.{Place}
use Rattle.abc_perform_item.specs.declared.performed.Source.TheVariants as sources
use Rattle.abc_perform_item.specs.declared.setting.ItemSetting.{ItemSetting}
use Rattle.abc_perform_item.specs.declared.tone_change.ToneChange.{ToneChange}
use Rattle.abc_perform_item.specs.Decorations.{added_by, divisor_of, has_spread, ornament_after}
use Rattle.abc_perform_item.specs.Fermata.{fermata_factor}
use Rattle.abc_perform_item.specs.GraceItems.{grace_item, grace_time}
use Rattle.abc_perform_item.specs.Graces.{with_marks}
use Rattle.abc_perform_item.specs.Ornamented.{part_items, parts_of_note}
use Rattle.abc_perform_item.specs.SpreadChord.{spread_items}
use Rattle.abc_perform_item.specs.ToneChange.{changed_tone}

-- The marks have indexes in their cell.
pub record HasIndexes (setting : ItemSetting) (marks : List Mark) : Type 0 where
  pub fits : setting.first_mark + length marks < 2 ^ 64

-- A chord, spread if a mark says so.
abbrev pub chord_items : Place → List Mark → ToneChange → List Tone → Grains → List Performed
chord_items place marks change tones left =
    if has_spread marks && nat_lt 1 (length tones) then spread_items place (map (changed_tone change) tones) left
    else record { item = items.Tone (map (changed_tone change) tones) left; source = sources.Item place } ∷ []

-- A note in these parts, or as a chord of one note if it is in none.
abbrev pub note_in_parts : Option (List Part) → Place → List Mark → ToneChange → Tone → Grains → List Performed
note_in_parts (Some parts) place marks change tone left = part_items change tone place parts
note_in_parts None place marks change tone left = chord_items place marks change (tone ∷ []) left

-- A note, in parts if it has an ornament that has an effect.
abbrev pub note_items : Place → List Mark → ToneChange → Tone → Grains → List Performed
note_items place marks change tone left =
    note_in_parts (parts_of_note (ornament_after None marks) change tone.key left.0) place marks change tone left

-- A note or a chord after its grace notes.
abbrev pub sound_items : Place → List Mark → ToneChange → List Tone → Grains → List Performed
sound_items place marks change (tone ∷ []) left = note_items place marks change tone left
sound_items place marks change tones left = chord_items place marks change tones left

-- How long a note, chord or rest is with its fermata.
abbrev pub held_length : ItemSetting → List Mark → Grains → List Tone → Grains
held_length setting marks length tones = record { 0 = fermata_factor setting.holds marks length tones * length.0 }

-- The grace notes before a note, chord or rest.
abbrev pub graces_before : ItemSetting → List Mark → List Grace
graces_before setting marks = with_marks [] setting.item.cell setting.first_mark marks

-- The grace notes as items, before something of this length.
abbrev pub grace_items : ItemSetting → List Mark → Grains → List Performed
grace_items setting marks held =
    map (grace_item setting.transpose (grace_time (graces_before setting marks) held).share) (graces_before setting marks)

-- What grace notes take of something of this length.
abbrev pub time_taken : ItemSetting → List Mark → Grains → Grains
time_taken setting marks held = (grace_time (graces_before setting marks) held).taken

-- What is left of something of this length.
abbrev pub time_left : ItemSetting → List Mark → Grains → Grains
time_left setting marks held = record { 0 = held.0 - (time_taken setting marks held).0 }

-- What changes at each tone of a note or chord.
abbrev pub change_of : ItemSetting → List Mark → Grains → List Tone → ToneChange
change_of setting marks length tones = record {
  transpose = setting.transpose;
  factor = fermata_factor setting.holds marks length tones;
  taken = time_taken setting marks (held_length setting marks length tones);
  added = added_by marks;
  divisor = divisor_of marks;
}

-- A note or chord with its grace notes.
abbrev pub tone_items : ItemSetting → List Mark → List Tone → Grains → List Performed
tone_items setting marks tones length =
    grace_items setting marks (held_length setting marks length tones)
    ++ sound_items setting.item marks (change_of setting marks length tones) tones
    (time_left setting marks (held_length setting marks length tones))

-- A rest with the grace notes before it.
abbrev pub rest_items : ItemSetting → List Mark → Grains → List Performed
rest_items setting marks length =
    grace_items setting marks (held_length setting marks length [])
    ++ record {
      item = items.Rest (time_left setting marks (held_length setting marks length [])) false;
      source = sources.Item setting.item;
    } ∷ []

-- An item as it is performed. Only notes, chords and rests change; a rest of whole bars does not.
abbrev pub performed_items : ItemSetting → List Mark → Item → List Performed
performed_items setting marks (items.Tone tones length) = tone_items setting marks tones length
performed_items setting marks (items.Rest length false) = rest_items setting marks length
performed_items setting marks item = record { item = item; source = sources.Item setting.item } ∷ []
