-- What each voice of a tune plays, when, and where it is in the tune. Not in ABC 2.1.
use Rattle.std.specs.Borrow.{Bor}
use Rattle.std.specs.Prelude.{ℕ, Bool, false, if◌then◌else◌, bytes_eq, List, [], ◌∷◌, None, filter_map, slice_get, sum_by}
use Rattle.std.specs.List.{list_any}
use Rattle.abc_bars_items.specs.declared.item.Item.{Item}
use Rattle.abc_bars_items.specs.declared.item.Item.TheVariants as items
use Rattle.abc_repeat.specs.Order.{sections_of}
use Rattle.abc_voices.specs.Opening.{order_after, after_all}
use Rattle.abc_voices.specs.Ties.{TimeToken, with_token}
use Rattle.abc_voices.specs.Track.{tracks, voice_names}
use Rattle.abc_voices.specs.Turns.{first_place}
use Rattle.abc_voices_sections.specs.Items.{items_of}
use Rattle.abc_voices_sections.specs.Section.{letters, opening_voice}
use Rattle.abc_voices_sections.specs.Step.{tones_of}
use Rattle.abc_play_sections.specs.declared.step.PlayStep.{PlayStep}
use Rattle.abc_play_sections.specs.Step.{as_item}
use Rattle.abc_play_tune.specs.Stage.{size_in}
use Rattle.abc_play_tune.specs.Steps.{steps_from, sections_from}
use Rattle.abc_play_tune.specs.Timed.{timed_in}
use Rattle.abc_play_tune.specs.declared.timed.TimedStep.{TimedStep}

-- The sections of a tune, by steps.
abbrev pub step_sections : List (Bor Item) → List (List ℕ × List PlayStep)
step_sections tune = sections_from (opening_voice (items_of tune)) [] (opening_voice (items_of tune)) (steps_from 0 tune)

-- The sections of a tune in the order of their play.
abbrev pub played_sections : List (Bor Item) → List (List ℕ × List PlayStep)
played_sections tune =
    filter_map (slice_get (step_sections tune)) (sections_of (after_all order_after None (items_of tune)) (letters (items_of tune)))

-- What a voice of a tune plays, from its beginning to its end.
abbrev pub play_of_voice : List (Bor Item) → List ℕ → List TimedStep
play_of_voice tune voice = timed_in (voice_names (items_of tune)) voice 0 (played_sections tune)

-- The time tokens among timed steps.
abbrev pub tokens_among : List TimedStep → List TimeToken
tokens_among [] = []
tokens_among (timed ∷ others) = with_token timed.at.0 (tones_of (as_item timed.step)) (tokens_among others)

-- Whether an item is a V: of the body without a name. No text has one.
abbrev pub is_nameless : Item → Bool
is_nameless (items.Voice false name) = bytes_eq name []
is_nameless _ = false

-- The voices whose steps count: those that have a track. With a nameless V: of the body all voices count, since the one
-- without a name may then take time without a track.
abbrev pub counted_voices : List Item → List (List ℕ)
counted_voices tune = if list_any is_nameless tune then voice_names tune else tracks tune

-- The place of the first voice that counts.
abbrev pub counted_place : List Item → ℕ
counted_place tune = if list_any is_nameless tune then 0 else first_place tune

-- How many steps of a tune are played, over all voices that count.
abbrev pub steps_played : List (Bor Item) → ℕ
steps_played tune = sum_by (λ section. sum_by (size_in section) (counted_voices (items_of tune))) (played_sections tune)
