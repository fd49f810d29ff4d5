-- The longest that a layer of a stretch may be. Not in ABC 2.1.
use Rattle.std.specs.Prelude.{ℕ, ◌+◌, nat_le, ◌&&◌, Bool, true, List, [], ◌∷◌}
use Rattle.abc_time.specs.Grains.{grains_of_the_longest_length}
use Rattle.abc_perform_layers.specs.declared.role.Role.{Role}
use Rattle.abc_perform_layers.specs.declared.role.Role.TheVariants as roles

-- How long a layer is after a step: a new one begins after an overlay mark, a bar line or an ending mark.
abbrev pub time_after : ℕ → Role → ℕ
time_after time (roles.Time length) = time + length.0
time_after time roles.Bound = 0
time_after time roles.Overlay = 0
time_after time roles.Program = time
time_after time roles.Other = time

-- Whether no layer gets longer than 1,024 whole notes from a step on, at which the current one has some length.
abbrev pub fits_from : ℕ → List Role → Bool
fits_from time [] = true
fits_from time (role ∷ rest) = nat_le (time_after time role) grains_of_the_longest_length && fits_from (time_after time role) rest
