-- The layers of a voice keep step. ABC 2.1 section 7.4.
use Rattle.std.specs.Prelude.{◌≡◌, ℕ, ◌+◌, ◌≤◌, ◌==◌, max, if◌then◌else◌, List, [], ◌∷◌}
use Rattle.abc_perform_layers.specs.declared.layer_step.LayerStep.{LayerStep}
use Rattle.abc_perform_layers.specs.declared.layer_step.LayerStep.TheVariants as steps
use Rattle.abc_perform_layers.specs.declared.role.Role.{Role}
use Rattle.abc_perform_layers.specs.declared.role.Role.TheVariants as roles
use Rattle.abc_perform_layers.specs.Layer.{layer_steps}

-- The first of some numbers is larger by a number.
abbrev pub with_more : ℕ → List ℕ → List ℕ
with_more more [] = []
with_more more (first ∷ others) = (more + first) ∷ others

-- How long a layer is in each stretch as it is written. `at` is the layer of the first step.
abbrev pub written_times : ℕ → ℕ → List Role → List ℕ
written_times layer at [] = 0 ∷ []
written_times layer at (roles.Time length ∷ rest) =
    if at == layer then with_more length.0 (written_times layer at rest) else written_times layer at rest
written_times layer at (roles.Bound ∷ rest) = 0 ∷ written_times layer 0 rest
written_times layer at (roles.Overlay ∷ rest) = written_times layer (at + 1) rest
written_times layer at (roles.Program ∷ rest) = written_times layer at rest
written_times layer at (roles.Other ∷ rest) = written_times layer at rest

-- How long the voice of a layer is in each stretch.
abbrev pub played_times : List LayerStep → List ℕ
played_times [] = 0 ∷ []
played_times (steps.Written index length ∷ rest) = with_more length.0 (played_times rest)
played_times (steps.Fill length ∷ rest) = with_more length.0 (played_times rest)
played_times (steps.Bound index ∷ rest) = 0 ∷ played_times rest
played_times (steps.Program index ∷ rest) = played_times rest

-- The larger of two numbers each.
abbrev pub larger_each : List ℕ → List ℕ → List ℕ
larger_each [] others = []
larger_each (first ∷ rest) [] = []
larger_each (first ∷ rest) (other ∷ others) = max first other ∷ larger_each rest others

-- In every stretch a layer is as long as the first one, or as what is written of it if that is longer.
abbrev pub LayersKeepStep : Type 0
LayersKeepStep = (layer : ℕ) (voice : List Role) → 1 ≤ layer
    → played_times (layer_steps layer voice) ≡ larger_each (written_times 0 0 voice) (written_times layer 0 voice)

-- The indexes of bar lines and ending marks as they are written.
abbrev pub written_bounds : ℕ → List Role → List ℕ
written_bounds index [] = []
written_bounds index (roles.Bound ∷ rest) = index ∷ written_bounds (index + 1) rest
written_bounds index (_ ∷ rest) = written_bounds (index + 1) rest

-- The indexes of the bar lines and ending marks of a layer's voice.
abbrev pub played_bounds : List LayerStep → List ℕ
played_bounds [] = []
played_bounds (steps.Bound index ∷ rest) = index ∷ played_bounds rest
played_bounds (_ ∷ rest) = played_bounds rest

-- The bar lines and ending marks of a layer are those of the voice.
abbrev pub LayersKeepBounds : Type 0
LayersKeepBounds = (layer : ℕ) (voice : List Role) → played_bounds (layer_steps layer voice) ≡ written_bounds 0 voice
