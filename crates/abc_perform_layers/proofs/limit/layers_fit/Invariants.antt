use Rattle.std.proofs.Common.{◌≡◌, ◌≤◌, drop}
use Rattle.abc_time.specs.Grains.{grains_of_the_longest_length}
use Rattle.abc_perform_layers.specs.Limit.{fits_from}
use Rattle.abc_perform_layers.proofs.limit.layers_fit.Given as goal

abbrev pub invariant-loop-role : goal.invariant-loop-role
invariant-loop-role l =
    (fits_from l.time.0 (drop l.role-index l.roles) ≡ fits_from 0 l.roles) × (l.time.0 ≤ grains_of_the_longest_length)
