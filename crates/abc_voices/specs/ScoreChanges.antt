-- The changes of a score: of tempo, meter and key, and of the programs of voices. Not in ABC 2.1.
use Rattle.std.specs.Prelude.{ℕ, ℤ, Bool, List, ◌++◌, Option, Some, None, map, filter_map}
use Rattle.abc_fields.specs.declared.meter.Meter.{Meter}
use Rattle.abc_fields.specs.declared.meter.Meter.TheVariants as meters
use Rattle.abc_time.specs.declared.grains.Grains.{Grains}
use Rattle.abc_voices_score.specs.declared.score.Change.{Change}
use Rattle.abc_voices_score.specs.declared.score.ChangeKind.TheVariants as kinds
use Rattle.abc_voices_score.specs.declared.score.ProgramChange.{ProgramChange}
use Rattle.abc_voices.specs.Ticks.{last_of_each_tick}

-- A tempo at a moment.
abbrev pub tempo_change : Grains × ℕ → Change
tempo_change (at, micros) = record { at = at; what = kinds.Tempo micros }

-- A meter at a moment. Free meter is no change: a file has no event for it.
abbrev pub meter_at : Grains → Meter → Option Change
meter_at at meters.Free = None
meter_at at (meters.Of num den) = Some (record { at = at; what = kinds.Meter num den })

abbrev pub meter_change : Grains × Meter → Option Change
meter_change (at, meter) = meter_at at meter

-- A key at a moment.
abbrev pub key_change : Grains × (ℤ × Bool) → Change
key_change (at, key) = record { at = at; what = kinds.Key key.0 key.1 }

-- The tempos, meters and keys of the score.
abbrev pub changes_in_force : List (Grains × ℕ) → List (Grains × Meter) → List (Grains × (ℤ × Bool)) → List Change
changes_in_force tempos meters keys =
    map tempo_change (last_of_each_tick tempos) ++ filter_map meter_change (last_of_each_tick meters)
    ++ map key_change (last_of_each_tick keys)

-- A program at a moment.
abbrev pub program_change : Grains × ℕ → ProgramChange
program_change (at, number) = record { at = at; number = number }

-- The programs of the score.
abbrev pub programs_in_force : List (Grains × ℕ) → List ProgramChange
programs_in_force programs = map program_change (last_of_each_tick programs)
