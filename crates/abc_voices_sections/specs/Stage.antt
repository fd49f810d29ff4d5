-- What the voices of a tune play of a section. Not in ABC 2.1.
use Rattle.std.specs.Borrow.{Bor}
use Rattle.std.specs.Prelude.{ℕ, List, length, map, sum_by}
use Rattle.abc_bars_items.specs.declared.item.Item.{Item}
use Rattle.abc_repeat.specs.declared.fault.RepeatFault.{RepeatFault}
use Rattle.abc_repeat.specs.declared.fault.RepeatFault.TheVariants as whys
use Rattle.abc_voices_sections.specs.declared.section.Section.{Section}
use Rattle.abc_voices_sections.specs.declared.stage.VoicePart.{VoicePart}
use Rattle.abc_voices_sections.specs.declared.stage.Stage.{Stage}
use Rattle.abc_voices_sections.specs.declared.stage.StageError.{StageError}
use Rattle.abc_voices_sections.specs.declared.stage.StageError.TheVariants as faults
use Rattle.abc_voices_sections.specs.Items.{items_of}
use Rattle.abc_voices_sections.specs.PlayedSection.{steps_in, time_in, section_time}
use Rattle.abc_voices_sections.specs.Step.{itself}

-- A section as the definitions see it: the current voice at its beginning, and its steps.
abbrev pub steps_at : {A : Type 0} → Section A → List ℕ × List A
steps_at section = (section.voice.now, section.items.now)

-- What a voice plays of a section, and how long that takes.
abbrev pub part_in : {A : Type 0} → (A → Item) → List ℕ × List A → List ℕ → VoicePart A
part_in item_of section voice = record {
  steps = steps_in item_of section voice;
  length = record { 0 = time_in item_of section voice };
}

-- What each voice plays of a section, and how long the section is.
abbrev pub stage_in : {A : Type 0} → (A → Item) → List (List ℕ) → List ℕ × List A → Stage A
stage_in item_of voices section = record {
  parts = map (part_in item_of section) voices;
  longest = record { 0 = section_time item_of voices section };
}

-- How many steps a part has, and the parts of a stage together.
abbrev pub part_size : {A : Type 0} → VoicePart A → ℕ
part_size own = length own.steps

abbrev pub stage_size : {A : Type 0} → Stage A → ℕ
stage_size stage = sum_by part_size stage.parts

-- Why a stage is refused, by why a play is.
abbrev pub stage_error : RepeatFault → StageError
stage_error whys.TooLong = faults.TooMany
stage_error whys.OutOfMemory = faults.OutOfMemory

-- The same of items alone.
abbrev pub part_of : List ℕ × List Item → List ℕ → VoicePart Item
part_of section voice = part_in itself section voice

abbrev pub stage_of : List (List ℕ) → List ℕ × List Item → Stage Item
stage_of voices section = stage_in itself voices section

-- A part and a stage as the items alone see them.
abbrev pub part_as : {A : Type 0} → (A → Item) → VoicePart A → VoicePart Item
part_as item_of part = record { steps = map item_of part.steps; length = part.length }

abbrev pub stage_as : {A : Type 0} → (A → Item) → Stage A → Stage Item
stage_as item_of stage = record { parts = map (part_as item_of) stage.parts; longest = stage.longest }

-- The same of items that are borrowed, and a section of such items.
abbrev pub part_items : VoicePart (Bor Item) → VoicePart Item
part_items part = part_as (λ step. step.now) part

abbrev pub stage_items : Stage (Bor Item) → Stage Item
stage_items stage = stage_as (λ step. step.now) stage

abbrev pub content : Section (Bor Item) → List ℕ × List Item
content section = (section.voice.now, items_of section.items.now)
