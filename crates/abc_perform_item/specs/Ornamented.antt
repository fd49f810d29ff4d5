-- Ornamented notes. ABC 2.1 section 4.14.
use Rattle.std.specs.Prelude.{ℕ, ◌-◌, ◌==◌, ◌&&◌, nat_lt, if◌then◌else◌, Bool, List, [], ◌∷◌, length, Option, Some, None}
use Rattle.abc_bars_items.specs.declared.item.Item.TheVariants as items
use Rattle.abc_bars_items.specs.declared.item.Tone.{Tone}
use Rattle.abc_marks.specs.declared.decoration.Ornament.{Ornament}
use Rattle.abc_marks.specs.declared.decoration.Ornament.TheVariants as ornaments
use Rattle.abc_perform_note.specs.declared.part.Part.{Part}
use Rattle.abc_perform_note.specs.Mordents.{mordent_of}
use Rattle.abc_perform_note.specs.Rolls.{roll_of}
use Rattle.abc_perform_note.specs.Slides.{slide_of}
use Rattle.abc_perform_note.specs.Trills.{trill_of}
use Rattle.abc_perform_note.specs.Turns.{turn_of}
use Rattle.abc_perform_item.specs.declared.decorations.OrnamentMark.{OrnamentMark}
use Rattle.abc_perform_item.specs.declared.performed.Performed.{Performed}
use Rattle.abc_perform_item.specs.declared.performed.Place.{Place}
use Rattle.abc_perform_item.specs.declared.performed.Source.TheVariants as sources
use Rattle.abc_perform_item.specs.declared.tone_change.ToneChange.{ToneChange}
use Rattle.abc_perform_item.specs.ToneChange.{changed_key, changed_velocity, short_length, is_tied}

-- An ornament with the keys of its neighbours moved as those of its note are. Not in ABC 2.1.
abbrev pub moved_ornament : ToneChange → OrnamentMark → OrnamentMark
moved_ornament change mark = record { ornament = mark.ornament; up = changed_key change mark.up; down = changed_key change mark.down }

-- The parts of a trill, if MIDI has the key of the upper neighbour.
abbrev pub trill_parts : ℕ → Option ℕ → ℕ → Option (List Part)
trill_parts key (Some up) length = trill_of key up length
trill_parts key None length = None

-- The parts of a mordent, if MIDI has the key of the neighbour.
abbrev pub mordent_parts : ℕ → Option ℕ → ℕ → Option (List Part)
mordent_parts key (Some neighbour) length = Some (mordent_of key neighbour length)
mordent_parts key None length = None

-- The parts of a turn, if MIDI has the keys of both neighbours.
abbrev pub turn_parts : Option ℕ → ℕ → Option ℕ → ℕ → Option (List Part)
turn_parts (Some first) key (Some other) length = Some (turn_of first key other length)
turn_parts _ key _ length = None

-- The parts of a roll, if MIDI has the keys of both neighbours.
abbrev pub roll_parts : ℕ → Option ℕ → Option ℕ → ℕ → Option (List Part)
roll_parts key (Some up) (Some down) length = Some (roll_of key up down length)
roll_parts key _ _ length = None

-- The parts of a slide, if MIDI has the key a semitone below.
abbrev pub slide_parts : ℕ → ℕ → Option (List Part)
slide_parts key length = if nat_lt 0 key then Some (slide_of (key - 1) key length) else None

-- The parts of a note with this ornament.
abbrev pub parts_by : Ornament → Option ℕ → Option ℕ → ℕ → ℕ → Option (List Part)
parts_by ornaments.Trill up down key length = trill_parts key up length
parts_by ornaments.LowerMordent up down key length = mordent_parts key down length
parts_by ornaments.UpperMordent up down key length = mordent_parts key up length
parts_by ornaments.Turn up down key length = turn_parts up key down length
parts_by ornaments.InvertedTurn up down key length = turn_parts down key up length
parts_by ornaments.Roll up down key length = roll_parts key up down length
parts_by ornaments.Slide up down key length = slide_parts key length

-- The parts of a note with an ornament, if MIDI has the keys that it needs and there is time for it.
abbrev pub ornament_parts : OrnamentMark → ℕ → ℕ → Option (List Part)
ornament_parts mark key length = parts_by mark.ornament mark.up mark.down key length

-- The parts of a note of this key after it is moved.
abbrev pub parts_of_key : Option OrnamentMark → ToneChange → Option ℕ → ℕ → Option (List Part)
parts_of_key (Some mark) change (Some key) length = ornament_parts (moved_ornament change mark) key length
parts_of_key _ change _ length = None

-- The parts of a note, if it has an ornament that has an effect. A silent note has none.
abbrev pub parts_of_note : Option OrnamentMark → ToneChange → Option ℕ → ℕ → Option (List Part)
parts_of_note mark change key length = parts_of_key mark change (changed_key change key) length

-- A part of a note as an item. Its sound is as long as itself, unless it is shortened.
abbrev pub part_item : ToneChange → Tone → Place → Bool → Part → Performed
part_item change tone place tied part = record {
  item = items.Tone
      (record {
        length = short_length change part.length;
        key = Some part.key;
        velocity = changed_velocity change tone.velocity;
        tied = is_tied change tied;
      } ∷ [])
      part.length;
  source = sources.Item place;
}

-- The parts of a note as items. The last one has the note's tie, and the others have none.
abbrev pub part_items : ToneChange → Tone → Place → List Part → List Performed
part_items change tone place [] = []
part_items change tone place (part ∷ parts) =
    part_item change tone place ((length parts == 0) && tone.tied) part ∷ part_items change tone place parts
