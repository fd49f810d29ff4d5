-- How long performed items take. Not in ABC 2.1.
use Rattle.std.specs.Prelude.{◌≡◌, ℕ, ◌*◌, ◌≤◌, IfSome, List, Option, length, map, sum_by, ℤ}
use Rattle.abc_time.specs.declared.grains.Grains.{Grains}
use Rattle.abc_bars_items.specs.declared.item.Item.{Item}
use Rattle.abc_bars_items.specs.declared.item.Item.TheVariants as items
use Rattle.abc_bars_items.specs.declared.item.Tone.{Tone}
use Rattle.abc_perform_note.specs.declared.grace.GraceShare.{GraceShare}
use Rattle.abc_perform_note.specs.Grace.{taken_time}
use Rattle.abc_perform_item.specs.declared.decorations.OrnamentMark.{OrnamentMark}
use Rattle.abc_perform_item.specs.declared.graces.Grace.{Grace}
use Rattle.abc_perform_item.specs.declared.performed.Performed.{Performed}
use Rattle.abc_perform_item.specs.declared.performed.Place.{Place}
use Rattle.abc_perform_item.specs.declared.tone_change.ToneChange.{ToneChange}
use Rattle.abc_perform_item.specs.GraceItems.{grace_item, grace_time, wants_of}
use Rattle.abc_perform_item.specs.Ornamented.{part_items, parts_of_note}
use Rattle.abc_perform_item.specs.SpreadChord.{step_items}

-- The grains that an item takes: a note, chord or rest its length, all else nothing.
abbrev pub time_of : Item → ℕ
time_of (items.Tone tones length) = length.0
time_of (items.Rest length bar) = length.0
time_of _ = 0

-- The grains that performed items take one after another.
abbrev pub time_of_all : List Performed → ℕ
time_of_all performed = sum_by (λ one. time_of one.item) performed

-- Grace notes take at most half of what is after them.
abbrev pub GracesTakeHalf : Type 0
GracesTakeHalf = (graces : List Grace) (held : Grains) → 2 * (grace_time graces held).taken.0 ≤ held.0

-- Grace notes take their shares.
abbrev pub GraceItemsTakeShares : Type 0
GraceItemsTakeShares = (transpose : ℤ) (share : GraceShare) (graces : List Grace)
    → time_of_all (map (grace_item transpose share) graces) ≡ taken_time share (wants_of graces)

-- The parts of a note take as long as it.
abbrev pub PartsTakeTime : Type 0
PartsTakeTime = (mark : Option OrnamentMark) (change : ToneChange) (tone : Tone) (place : Place) (long : ℕ)
    → IfSome (parts_of_note mark change tone.key long) (λ parts. time_of_all (part_items change tone place parts) ≡ long)

-- The steps of a spread chord take as many times one.
abbrev pub StepsTakeTime : Type 0
StepsTakeTime = (place : Place) (step : Grains) (tones : List Tone) (index : ℕ) (front : List Tone)
    → time_of_all (step_items place step tones index front) ≡ length front * step.0
