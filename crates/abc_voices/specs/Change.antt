-- The changes of tempo, meter, key and program that are played, at their moments.
use Rattle.std.specs.Prelude.{ℕ, ℤ, ◌+◌, Bool, List, [], ◌∷◌, Option, Some, None}
use Rattle.std.specs.List.{cons_option}
use Rattle.abc_bars_items.specs.declared.item.Item.{Item}
use Rattle.abc_bars_items.specs.declared.item.Item.TheVariants as items
use Rattle.abc_fields.specs.declared.meter.Meter.{Meter}
use Rattle.abc_time.specs.declared.grains.Grains.{Grains}
use Rattle.abc_voices_sections.specs.Step.{length_of}

-- The tempo, meter and key that a field sets, if it sets one.
abbrev pub tempo_of : Item → Option ℕ
tempo_of (items.Tempo opening micros out) = micros
tempo_of _ = None

abbrev pub meter_of : Item → Option Meter
meter_of (items.Meter opening meter) = meter
meter_of _ = None

abbrev pub key_of : Item → Option (ℤ × Bool)
key_of (items.Key opening key) = key
key_of _ = None

-- The program that a directive sets, if it sets one.
abbrev pub program_of : Item → Option ℕ
program_of (items.Program opening number) = number
program_of _ = None

-- A value at a moment, if there is one.
abbrev pub at_moment : {V : Type 0} → ℕ → Option V → Option (Grains × V)
at_moment at None = None
at_moment at (Some value) = Some (record { 0 = at }, value)

-- What is set by steps that are played one after another from a moment on.
abbrev pub set_from : {V : Type 0} → (Item → Option V) → ℕ → List Item → List (Grains × V)
set_from value_of at [] = []
set_from value_of at (step ∷ steps) =
    cons_option (at_moment at (value_of step)) (set_from value_of (at + length_of step) steps)

-- What is set, after what holds at the beginning, if something does.
abbrev pub after_opening : {V : Type 0} → Option V → List (Grains × V) → List (Grains × V)
after_opening opening sets = cons_option (at_moment 0 opening) sets
