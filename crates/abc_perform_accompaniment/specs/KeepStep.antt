-- The accompaniment keeps step.
use Rattle.std.specs.Prelude.{◌≡◌, All, List, [], ◌∷◌, map, ℕ}
use Rattle.abc_bars_items.specs.declared.item.Item.{Item}
use Rattle.abc_bars_items.specs.declared.item.Item.TheVariants as items
use Rattle.abc_perform_item.specs.declared.performed.Performed.{Performed}
use Rattle.abc_perform_item.specs.Time.{time_of}
use Rattle.abc_perform_layers.specs.KeepStep.{with_more, written_times}
use Rattle.abc_perform_harmony.specs.declared.harmony_mark.Part.{Part}
use Rattle.abc_perform_accompaniment.specs.declared.voice_setting.VoiceSetting.{VoiceSetting}
use Rattle.abc_perform_accompaniment.specs.declared.voice_step.VoiceStep.{VoiceStep}
use Rattle.abc_perform_accompaniment.specs.declared.voice_step.VoiceStep.TheVariants as steps
use Rattle.abc_perform_accompaniment.specs.Section.{section_items}
use Rattle.abc_perform_accompaniment.specs.VoiceSetting.{IsVoiceSetting}
use Rattle.abc_perform_accompaniment.specs.VoiceStep.{IsVoiceStep, role_of}

-- How long performed items are in each stretch, when the first of them is an item.
abbrev pub times_with : Item → List ℕ → List ℕ
times_with (items.Bar line) times = 0 ∷ times
times_with (items.Ending passes) times = 0 ∷ times
times_with item times = with_more (time_of item) times

-- How long performed items are in each stretch, which a bar line or ending mark ends.
abbrev pub played_times : List Performed → List ℕ
played_times [] = 0 ∷ []
played_times (one ∷ rest) = times_with one.item (played_times rest)

-- In every stretch a voice of the accompaniment is as long as the first layer of the voice that it accompanies.
abbrev pub AccompanimentKeepsStep : Type 0
AccompanimentKeepsStep = (part : Part) (setting : VoiceSetting) (voice : List VoiceStep) → IsVoiceSetting setting → All IsVoiceStep voice
    → played_times (section_items part setting voice) ≡ written_times 0 0 (map role_of voice)

-- An item, if it is a bar line or ending mark, before others.
abbrev pub bounds_with : Item → List Item → List Item
bounds_with (items.Bar line) bounds = items.Bar line ∷ bounds
bounds_with (items.Ending passes) bounds = items.Ending passes ∷ bounds
bounds_with item bounds = bounds

-- The bar lines and ending marks of performed items.
abbrev pub played_bounds : List Performed → List Item
played_bounds [] = []
played_bounds (one ∷ rest) = bounds_with one.item (played_bounds rest)

-- The bar lines and ending marks of a voice.
abbrev pub written_bounds : List VoiceStep → List Item
written_bounds [] = []
written_bounds (steps.Bar line ∷ rest) = items.Bar line ∷ written_bounds rest
written_bounds (steps.Ending passes ∷ rest) = items.Ending passes ∷ written_bounds rest
written_bounds (_ ∷ rest) = written_bounds rest

-- The bar lines and ending marks of a voice of the accompaniment are those of the voice that it accompanies.
abbrev pub AccompanimentKeepsBounds : Type 0
AccompanimentKeepsBounds = (part : Part) (setting : VoiceSetting) (voice : List VoiceStep)
    → played_bounds (section_items part setting voice) ≡ written_bounds voice
