use Rattle.std.proofs.Common.{◌≡◌, ◌++◌, drop, map, All}
use Rattle.abc_bars_items.specs.Item.{IsTone}
use Rattle.abc_perform_item.specs.ToneChange.{changed_tone}
use Rattle.abc_perform_item.proofs.tone_change.ToneChange.tones.Given as goal

abbrev pub invariant-loop-tone : goal.invariant-loop-tone
invariant-loop-tone l =
    (l.changed ++ map (changed_tone l.self) (drop l.tone-index l.tones) ≡ map (changed_tone l.self) l.tones)
    × All IsTone l.changed
