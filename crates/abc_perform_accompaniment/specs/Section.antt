-- The accompaniment of a section. ABC 2.1 section 4.18.
use Rattle.std.specs.Prelude.{◌==◌, ◌&&◌, Bool, true, false, List, [], ◌∷◌, ◌++◌}
use Rattle.abc_bars_items.specs.declared.item.Item.TheVariants as items
use Rattle.abc_perform_item.specs.declared.performed.Performed.{Performed}
use Rattle.abc_perform_harmony.specs.declared.harmony_mark.Part.{Part}
use Rattle.abc_perform_accompaniment.specs.declared.stretch.StretchState.{StretchState}
use Rattle.abc_perform_accompaniment.specs.declared.voice_setting.VoiceSetting.{VoiceSetting}
use Rattle.abc_perform_accompaniment.specs.declared.voice_step.VoiceStep.{VoiceStep}
use Rattle.abc_perform_accompaniment.specs.declared.voice_step.VoiceStep.TheVariants as steps
use Rattle.abc_perform_accompaniment.specs.Stretch.{closing, next_stretch, opens_pickup, section_opening, step_fits, with_step}
use Rattle.abc_perform_accompaniment.specs.StretchItems.{items_of_stretch, made_item}

-- What a voice of the accompaniment plays at a step: at a bar line or ending the stretch before it, and then the same mark.
abbrev pub items_at : Part → StretchState → VoiceStep → List Performed
items_at part state (steps.Bar line) = items_of_stretch part state ++ made_item (items.Bar line) ∷ []
items_at part state (steps.Ending passes) = items_of_stretch part state ++ made_item (items.Ending passes) ∷ []
items_at part state _ = []

-- The state after a step. After an ending mark no stretch is a pickup.
abbrev pub state_after : StretchState → VoiceStep → StretchState
state_after state (steps.Bar line) = next_stretch state (opens_pickup line (state.first && (state.length.0 == 0)))
state_after state (steps.Ending passes) = next_stretch state false
state_after state step = with_step state step

-- What a voice of the accompaniment plays from a place of a section on.
abbrev pub items_from : Part → StretchState → List VoiceStep → List Performed
items_from part state [] = items_of_stretch part state
items_from part state (step ∷ rest) = items_at part state step ++ items_from part (state_after state step) rest

-- What a voice of the accompaniment plays in a section before which a setting holds.
abbrev pub section_items : Part → VoiceSetting → List VoiceStep → List Performed
section_items part setting voice = items_from part (section_opening setting) voice

-- The state at the end of a section.
abbrev pub last_state : StretchState → List VoiceStep → StretchState
last_state state [] = state
last_state state (step ∷ rest) = last_state (state_after state step) rest

-- What holds after a section.
abbrev pub setting_after : VoiceSetting → List VoiceStep → VoiceSetting
setting_after setting voice = closing (last_state (section_opening setting) voice)

-- Whether the first layer is not too long in any stretch from a place of a section on.
abbrev pub rest_fits : StretchState → List VoiceStep → Bool
rest_fits state [] = true
rest_fits state (step ∷ rest) = step_fits state step && rest_fits (state_after state step) rest
