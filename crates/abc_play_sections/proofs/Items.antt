-- What a voice plays of a section, without the bar lines that are passed.
use Rattle.std.proofs.Common.{◌≡◌, List, map, sym, ap, ◌∙◌}
use Rattle.abc_repeat.specs.Runs.{items_played}
use Rattle.abc_voices_sections.proofs.AsItems.{map-steps_in}
use Rattle.abc_play_sections.specs.declared.step.PlayStep.{PlayStep}
use Rattle.abc_play_sections.specs.Laws.{PlaysItems}
use Rattle.abc_play_sections.specs.Order.{in_order}
use Rattle.abc_play_sections.specs.Play.{expanded, part_from}
use Rattle.abc_play_sections.specs.Step.{as_item, without_bar_lines}
use Rattle.abc_play_sections.proofs.OneByOne.{runs_of, items_played-expanded}
use Rattle.abc_play_sections.proofs.Parts.{without_bar_lines-played}
use Rattle.abc_play_sections.proofs.Settled.{order_settled}
use Rattle.abc_play_sections.proofs.Without.{without_bar_lines-part, without_bar_lines-in_order}

expanded_without : (own : List PlayStep) → without_bar_lines (expanded (in_order own)) ≡ expanded (in_order (without_bar_lines own))
expanded_without own =
    ap without_bar_lines (sym (items_played-expanded (in_order own)))
    ∙ without_bar_lines-played (in_order own) (order_settled own)
    ∙ ap (λ steps. items_played (runs_of steps)) (without_bar_lines-in_order own)
    ∙ items_played-expanded (in_order (without_bar_lines own))

pub plays_items : PlaysItems
plays_items opening voice steps =
    ap (map as_item) (expanded_without (part_from voice opening steps))
    ∙ ap (λ own. map as_item (expanded (in_order own))) (without_bar_lines-part voice opening steps)
    ∙ map-steps_in as_item opening voice (without_bar_lines steps)
