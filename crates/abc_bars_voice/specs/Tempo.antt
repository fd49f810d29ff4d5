-- Tempos as microseconds of a quarter note.
use Rattle.std.specs.Prelude.{ℕ, Option, None}
use Rattle.abc_fields.specs.declared.tempo.Tempo.{Tempo}
use Rattle.abc_fields.specs.declared.tempo.Tempo.TheVariants.{Unset, Units, Beat}
use Rattle.abc_time.specs.Tempo.{quarter_micros_of}
use Rattle.abc_time.specs.declared.ratio.Ratio.{Ratio}

-- The microseconds of a quarter note, if a tempo is set and they are in range (ABC 2.1 section 3.1.8). That a number
-- alone counts unit notes is not in ABC 2.1.
abbrev pub micros_by : Ratio → Tempo → Option ℕ
micros_by unit Unset = None
micros_by unit (Units n) = quarter_micros_of unit n
micros_by unit (Beat beat n) = quarter_micros_of beat n
