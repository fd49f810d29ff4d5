-- The accompaniment of a stretch. ABC 2.1 section 4.18; the patterns are those of abc2midi.
use Rattle.std.specs.Prelude.{ℕ, ◌*◌, ◌/◌, ◌==◌, ◌&&◌, nat_lt, Bool, false, if◌then◌else◌, Option, Some, None, List, [], ◌∷◌, ◌++◌}
use Rattle.abc_time.specs.Grains.{grains_of_a_whole_note}
use Rattle.abc_bars_items.specs.declared.item.Item.{Item}
use Rattle.abc_bars_items.specs.declared.item.Item.TheVariants as items
use Rattle.abc_fields.specs.declared.meter.Meter.{Meter}
use Rattle.abc_fields.specs.declared.meter.Meter.TheVariants.{Free, Of}
use Rattle.abc_marks.specs.declared.directive.Step.{Step}
use Rattle.abc_perform_chords.specs.PatternSteps.{spans_from, total_count}
use Rattle.abc_perform_chords.specs.declared.pattern_steps.StepSpan.{StepSpan}
use Rattle.abc_perform_item.specs.declared.performed.Performed.{Performed}
use Rattle.abc_perform_item.specs.declared.performed.Source.TheVariants as sources
use Rattle.abc_perform_patterns.specs.MeterPattern.{default_pattern}
use Rattle.abc_perform_patterns.specs.Stretch.{stretch_steps}
use Rattle.abc_perform_harmony.specs.StretchItems.{stretch_items}
use Rattle.abc_perform_harmony.specs.declared.harmony_mark.Part.{Part}
use Rattle.abc_perform_accompaniment.specs.declared.stretch.StretchBegin.{StretchBegin}
use Rattle.abc_perform_accompaniment.specs.declared.stretch.StretchState.{StretchState}

-- How much of a stretch the pattern fills: a bar of the meter, or all of it in free meter.
abbrev pub bar_of : Meter → ℕ → ℕ
bar_of Free length = length
bar_of (Of num den) length = num * grains_of_a_whole_note / den

-- Whether a stretch is a pickup: shorter than a bar, where `first` says that a pickup may be.
abbrev pub pickup_in : Bool → Meter → ℕ → Bool
pickup_in first meter length = first && nat_lt length (bar_of meter length)

-- The steps of a pattern along a stretch.
abbrev pub steps_along : Bool → Meter → ℕ → List Step → List StepSpan
steps_along first meter length pattern =
    stretch_steps (pickup_in first meter length) (bar_of meter length) length
    (spans_from (bar_of meter length) (total_count pattern) 0 pattern)

-- The pattern that holds: that of a directive, unless the meter is free, or else the meter's own one.
abbrev pub pattern_in : Meter → Option (List Step) → List Step
pattern_in Free written = default_pattern Free
pattern_in (Of num den) None = default_pattern (Of num den)
pattern_in (Of num den) (Some pattern) = pattern

-- The steps along a stretch, by what holds at its beginning.
abbrev pub steps_from : Bool → StretchBegin → ℕ → List StepSpan
steps_from first begin length = steps_along first begin.meter length (pattern_in begin.meter begin.pattern)

-- The steps of a stretch that begins so: none if it has no length.
abbrev pub steps_if_any : Bool → Option StretchBegin → ℕ → List StepSpan
steps_if_any first None length = []
steps_if_any first (Some begin) length = if nat_lt 0 length then steps_from first begin length else []

abbrev pub steps_in : StretchState → List StepSpan
steps_in state = steps_if_any state.first state.begin state.length.0

-- Whether a stretch is a pickup.
abbrev pub pickup_if_any : Bool → Option StretchBegin → ℕ → Bool
pickup_if_any first None length = false
pickup_if_any first (Some begin) length = nat_lt 0 length && pickup_in first begin.meter length

abbrev pub is_pickup : StretchState → Bool
is_pickup state = pickup_if_any state.first state.begin state.length.0

-- An item that nothing in the text gives.
abbrev pub made_item : Item → Performed
made_item item = record { item = item; source = sources.Nothing }

-- A rest without length for a stretch that has a note, chord or rest but no length, so that the voices repeat together. Not in ABC
-- 2.1.
abbrev pub rest_if_any : Option StretchBegin → ℕ → List Performed
rest_if_any None length = []
rest_if_any (Some begin) length = if length == 0 then made_item (items.Rest (record { 0 = 0 }) false) ∷ [] else []

abbrev pub empty_rest : StretchState → List Performed
empty_rest state = rest_if_any state.begin state.length.0

-- What a voice of the accompaniment plays in a stretch.
abbrev pub items_of_stretch : Part → StretchState → List Performed
items_of_stretch part state =
    empty_rest state ++ stretch_items part (is_pickup state) state.setting.harmony state.marks (steps_in state)
