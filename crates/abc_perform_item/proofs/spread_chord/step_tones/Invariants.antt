use Rattle.std.proofs.Common.{◌≡◌, ◌++◌, drop, map, All}
use Rattle.abc_bars_items.specs.Item.{IsTone}
use Rattle.abc_perform_item.specs.SpreadChord.{step_tone}
use Rattle.abc_perform_item.proofs.spread_chord.step_tones.Given as goal

abbrev pub invariant-loop-tone : goal.invariant-loop-tone
invariant-loop-tone l =
    (l.made ++ map (step_tone l.step) (drop l.tone-index l.tones) ≡ map (step_tone l.step) l.tones) × All IsTone l.made
