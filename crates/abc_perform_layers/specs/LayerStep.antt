-- The steps of a layer's voice.
use Rattle.std.specs.Prelude.{◌≤◌}
use Rattle.abc_time.specs.Grains.{grains_of_the_longest_length}
use Rattle.abc_perform_layers.specs.declared.layer_step.LayerStep.{LayerStep}
use Rattle.abc_perform_layers.specs.declared.layer_step.LayerStep.TheVariants as steps

-- A step is no longer than a note may be: 1,024 whole notes. Not in ABC 2.1.
abbrev pub IsLayerStep : LayerStep → Type 0
IsLayerStep (steps.Written index length) = length.0 ≤ grains_of_the_longest_length
IsLayerStep (steps.Fill length) = length.0 ≤ grains_of_the_longest_length
IsLayerStep _ = Unit {0}
