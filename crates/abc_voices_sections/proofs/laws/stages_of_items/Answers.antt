use Rattle.abc_voices_sections.proofs.StagesAsItems.{stage_as-stage_in}
use Rattle.abc_voices_sections.proofs.laws.stages_of_items.Goals as goal

pub returns : goal.returns
returns g c = stage_as-stage_in g.T.AsItem.item_of
