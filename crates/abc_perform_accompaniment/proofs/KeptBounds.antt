-- The bar lines and endings of the accompaniment are those of the voice.
use Rattle.std.proofs.Common.{◌≡◌, List, [], ◌∷◌, ◌++◌, ◌∙◌, ap, append_assoc, append-nil}
use Rattle.abc_bars_items.specs.declared.item.Item.TheVariants as items
use Rattle.abc_perform_harmony.specs.declared.harmony_mark.Part.{Part}
use Rattle.abc_perform_accompaniment.specs.declared.stretch.StretchState.{StretchState}
use Rattle.abc_perform_accompaniment.specs.declared.voice_step.VoiceStep.{VoiceStep}
use Rattle.abc_perform_accompaniment.specs.declared.voice_step.VoiceStep.TheVariants as steps
use Rattle.abc_perform_accompaniment.specs.KeepStep.{AccompanimentKeepsBounds, played_bounds, written_bounds}
use Rattle.abc_perform_accompaniment.specs.Section.{items_from, state_after}
use Rattle.abc_perform_accompaniment.specs.Stretch.{section_opening}
use Rattle.abc_perform_accompaniment.specs.StretchItems.{items_of_stretch, made_item}
use Rattle.abc_perform_accompaniment.proofs.Plain.{plain_bounds, plain_stretch}

-- From each place on the bounds are those of the voice.
bounds_from : (part : Part) (state : StretchState) (voice : List VoiceStep)
    → played_bounds (items_from part state voice) ≡ written_bounds voice
bounds_from part state [] =
    let same : items_of_stretch part state ++ [] ≡ items_of_stretch part state = append-nil (items_of_stretch part state) in
    rw same at (plain_bounds (items_of_stretch part state) [] (plain_stretch part state))
bounds_from part state (steps.Bar line ∷ rest) =
    let after = items_from part (state_after state (steps.Bar line)) rest in
    rw append_assoc (plain_bounds (items_of_stretch part state) (made_item (items.Bar line) ∷ after) (plain_stretch part state)
    ∙ ap (λ bounds. items.Bar line ∷ bounds) (bounds_from part (state_after state (steps.Bar line)) rest))
bounds_from part state (steps.Ending passes ∷ rest) =
    let after = items_from part (state_after state (steps.Ending passes)) rest in
    rw append_assoc (plain_bounds (items_of_stretch part state) (made_item (items.Ending passes) ∷ after) (plain_stretch part state)
    ∙ ap (λ bounds. items.Ending passes ∷ bounds) (bounds_from part (state_after state (steps.Ending passes)) rest))
bounds_from part state (step ∷ rest) = bounds_from part (state_after state step) rest

pub keeps_bounds : AccompanimentKeepsBounds
keeps_bounds part setting voice = bounds_from part (section_opening setting) voice
