-- How far a stretch has come, for one of its layers. ABC 2.1 section 7.4.
use Rattle.std.specs.Prelude.{ℕ, ◌+◌, ◌-◌, ◌^◌, ◌<◌, ◌≤◌, ◌==◌, ◌&&◌, not, nat_lt, false, true, if◌then◌else◌, List, [], ◌∷◌, ◌++◌}
use Rattle.abc_time.specs.declared.grains.Grains.{Grains}
use Rattle.abc_time.specs.Grains.{grains_of_the_longest_length}
use Rattle.abc_perform_layers.specs.declared.layer_state.LayerState.{LayerState}
use Rattle.abc_perform_layers.specs.declared.layer_state.LayerTime.{LayerTime}
use Rattle.abc_perform_layers.specs.declared.layer_step.LayerStep.{LayerStep}
use Rattle.abc_perform_layers.specs.declared.layer_step.LayerStep.TheVariants as steps
use Rattle.abc_perform_layers.specs.declared.role.Role.{Role}
use Rattle.abc_perform_layers.specs.declared.role.Role.TheVariants as roles
use Rattle.abc_perform_layers.specs.Limit.{time_after}

-- The layers of a stretch are not too long.
pub record IsState (state : LayerState) : Type 0 where
  pub current : state.current.time.0 ≤ grains_of_the_longest_length
  pub base : state.base.time.0 ≤ grains_of_the_longest_length
  pub own : state.own.time.0 ≤ grains_of_the_longest_length

-- A step after which the layers of a stretch are not too long, and are not too many.
pub record HasRoom (state : LayerState) (role : Role) : Type 0 where
  pub time : time_after state.current.time.0 role ≤ grains_of_the_longest_length
  pub count : state.at + 1 < 2 ^ 64

-- A layer without a note, chord or rest.
abbrev pub no_time : LayerTime
no_time = record { time = record { 0 = 0 }; some = false }

-- The beginning of a stretch.
abbrev pub opening : LayerState
opening = record { at = 0; current = no_time; base = no_time; own = no_time }

-- After an overlay mark the next layer begins.
abbrev pub next_layer : LayerState → LayerState
next_layer state = record state { at = state.at + 1; current = no_time }

-- A note, chord or rest makes its layer longer.
abbrev pub longer : LayerTime → Grains → LayerTime
longer current length = record { time = record { 0 = current.time.0 + length.0 }; some = true }

-- The state after a note, chord or rest.
abbrev pub with_time : ℕ → LayerState → Grains → LayerState
with_time layer state length = record state {
  current = longer state.current length;
  base = if state.at == 0 then longer state.current length else state.base;
  own = if state.at == layer then longer state.current length else state.own;
}

-- The state after a step.
abbrev pub state_after : ℕ → LayerState → Role → LayerState
state_after layer state (roles.Time length) = with_time layer state length
state_after layer state roles.Bound = opening
state_after layer state roles.Overlay = next_layer state
state_after layer state roles.Program = state
state_after layer state roles.Other = state

-- A rest for what a layer lacks to the length of the first one. A layer without notes has one beside a first layer with some, so
-- that the voices repeat together. Not in ABC 2.1.
abbrev pub fill : LayerState → List LayerStep
fill state =
    if nat_lt state.own.time.0 state.base.time.0 then steps.Fill (record { 0 = state.base.time.0 - state.own.time.0 }) ∷ []
    else (if state.base.some && not state.own.some then steps.Fill (record { 0 = 0 }) ∷ [] else [])

-- What the voice of a layer has at a step.
abbrev pub emitted : ℕ → ℕ → LayerState → Role → List LayerStep
emitted layer index state (roles.Time length) = if state.at == layer then steps.Written index length ∷ [] else []
emitted layer index state roles.Bound = fill state ++ steps.Bound index ∷ []
emitted layer index state roles.Program = steps.Program index ∷ []
emitted layer index state roles.Overlay = []
emitted layer index state roles.Other = []
