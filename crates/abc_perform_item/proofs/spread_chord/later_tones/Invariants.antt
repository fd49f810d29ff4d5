use Rattle.std.proofs.Common.{◌≡◌, ◌++◌, drop, map, All}
use Rattle.abc_bars_items.specs.Item.{IsTone}
use Rattle.abc_perform_item.specs.SpreadChord.{later_tone}
use Rattle.abc_perform_item.proofs.spread_chord.later_tones.Given as goal

abbrev pub invariant-loop-tone : goal.invariant-loop-tone
invariant-loop-tone l =
    (l.made ++ map (later_tone l.steps) (drop l.tone-index l.tones) ≡ map (later_tone l.steps) l.tones) × All IsTone l.made
