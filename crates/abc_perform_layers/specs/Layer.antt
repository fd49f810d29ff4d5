-- The voice of a layer. ABC 2.1 section 7.4.
use Rattle.std.specs.Prelude.{ℕ, ◌+◌, List, [], ◌∷◌, ◌++◌}
use Rattle.abc_perform_layers.specs.declared.layer_state.LayerState.{LayerState}
use Rattle.abc_perform_layers.specs.declared.layer_step.LayerStep.{LayerStep}
use Rattle.abc_perform_layers.specs.declared.role.Role.{Role}
use Rattle.abc_perform_layers.specs.LayerState.{emitted, fill, opening, state_after}

-- What the voice of a layer plays from a step on, which has an index.
abbrev pub layer_from : ℕ → ℕ → LayerState → List Role → List LayerStep
layer_from layer index state [] = fill state
layer_from layer index state (role ∷ rest) =
    emitted layer index state role ++ layer_from layer (index + 1) (state_after layer state role) rest

-- What the voice of a layer plays in a section.
abbrev pub layer_steps : ℕ → List Role → List LayerStep
layer_steps layer voice = layer_from layer 0 opening voice
