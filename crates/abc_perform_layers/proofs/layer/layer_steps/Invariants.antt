use Rattle.std.proofs.Common.{◌≡◌, ◌++◌, ◌≤◌, drop, true, All}
use Rattle.abc_perform_layers.specs.Layer.{layer_from, layer_steps}
use Rattle.abc_perform_layers.specs.LayerState.{IsState}
use Rattle.abc_perform_layers.specs.LayerStep.{IsLayerStep}
use Rattle.abc_perform_layers.specs.Limit.{fits_from}
use Rattle.abc_perform_layers.proofs.layer.layer_steps.Given as goal

abbrev pub invariant-loop-index : goal.invariant-loop-index
invariant-loop-index l =
    (l.steps ++ layer_from l.layer l.index l.state (drop l.index l.roles) ≡ layer_steps l.layer l.roles)
    × (fits_from l.state.current.time.0 (drop l.index l.roles) ≡ true)
    × (l.state.at ≤ l.index)
    × IsState l.state
    × All IsLayerStep l.steps
