use Rattle.std.proofs.Common.{List, ap, ◌∙◌}
use Rattle.std.specs.Borrow.{Bor}
use Rattle.std.specs.List.{list_any}
use Rattle.abc_bars_items.specs.declared.item.Item.{Item}
use Rattle.abc_voices_sections.specs.Stage.{part_items}
use Rattle.abc_voices_sections.specs.declared.stage.VoicePart.{VoicePart}
use Rattle.abc_voices.specs.Turns.{parts_differ}
use Rattle.abc_voices.proofs.Borrowed.{uneven-items}
use Rattle.abc_voices.proofs.uneven_stages.is_stage_uneven.Goals as goal

pub returns : goal.returns
returns c =
    let uneven = λ (parts : List (VoicePart (Bor Item))). list_any (λ a. list_any (λ b. parts_differ (part_items a) (part_items b)) parts) parts in
    c.are_uneven.ensures ∙ ap uneven c.as_slice.ensures ∙ uneven-items c.args.stage.now
