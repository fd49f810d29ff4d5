-- The velocities of notes. ABC 2.1 section 4.14.
use Rattle.std.specs.Prelude.{◌≡◌, ◌≤◌, ℕ, Option, Some, None}
use Rattle.abc_scan.specs.declared.dynamic.Dynamic.{Dynamic}
use Rattle.abc_scan.specs.Dynamic.{velocity_of as dynamic_velocity}
use Rattle.abc_bars_items.specs.declared.velocity.TheConstants.{HIGHEST_VELOCITY, USUAL_VELOCITY}

-- A velocity with which a note of MIDI begins (MIDI 1.0): 0 would end it.
pub record IsVelocity (velocity : ℕ) : Type 0 where
  pub least : 1 ≤ velocity
  pub most : velocity ≤ HIGHEST_VELOCITY

-- The velocity of a note after its voice's last dynamic, or without one before it. Not in ABC 2.1.
abbrev pub velocity_of : Option Dynamic → ℕ
velocity_of None = USUAL_VELOCITY
velocity_of (Some dynamic) = dynamic_velocity dynamic

-- A velocity determines the dynamic: no two are as loud, nor is any as loud as notes without one.
abbrev pub VelocitiesDiffer : Type 0
VelocitiesDiffer = (dynamic other : Option Dynamic) → velocity_of dynamic ≡ velocity_of other → dynamic ≡ other
