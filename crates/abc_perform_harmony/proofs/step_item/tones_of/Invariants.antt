use Rattle.std.proofs.Common.{◌≡◌, ◌++◌, drop, map, All}
use Rattle.abc_bars_items.specs.Item.{IsTone}
use Rattle.abc_perform_harmony.specs.StepItem.{tone_of}
use Rattle.abc_perform_harmony.proofs.step_item.tones_of.Given as goal

abbrev pub invariant-loop-key : goal.invariant-loop-key
invariant-loop-key l =
    (l.tones ++ map (tone_of l.velocity l.length) (drop l.key-index l.keys) ≡ map (tone_of l.velocity l.length) l.keys)
    × All IsTone l.tones
