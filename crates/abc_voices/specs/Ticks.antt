-- The last change of one sort at a tick counts. Not in ABC 2.1.
use Rattle.std.specs.Prelude.{ℕ, ◌==◌, ◌||◌, Bool, false, if◌then◌else◌, List, [], ◌∷◌, ◌++◌}
use Rattle.abc_time.specs.declared.grains.Grains.{Grains}
use Rattle.abc_time.specs.Grains.{tick_at}

-- Whether one of some changes is on a tick.
abbrev pub has_tick : {A : Type 0} → ℕ → List (Grains × A) → Bool
has_tick tick [] = false
has_tick tick (change ∷ changes) = (tick_at change.0.0 == tick) || has_tick tick changes

-- The changes on whose tick no later one is; the last one first.
abbrev pub last_of_each_tick : {A : Type 0} → List (Grains × A) → List (Grains × A)
last_of_each_tick [] = []
last_of_each_tick (change ∷ later) =
    if has_tick (tick_at change.0.0) later then last_of_each_tick later else last_of_each_tick later ++ change ∷ []
