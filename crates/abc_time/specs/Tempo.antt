-- The microseconds of a quarter note.
use Rattle.std.specs.Prelude.{ℕ, ◌+◌, ◌*◌, ◌/◌, ◌<◌, ◌≤◌, ◌&&◌, nat_le, if◌then◌else◌, Option, Some, None}
use Rattle.abc_time.specs.declared.ratio.Ratio.{Ratio}

-- The microseconds of a quarter note, if a minute has `per_minute` beats, each of 4 * num / den quarter notes (ABC 2.1
-- section 3.1.8). The rounding is not in ABC 2.1.
unfoldable pub quarter_of : Ratio → ℕ → ℕ
quarter_of beat per_minute = 60000000 * beat.den / (4 * beat.num * per_minute)

-- A number that a tempo event can hold in its three bytes (SMF 1.0), and not 0.
pub record FitsInTempoEvent (micros : ℕ) : Type 0 where
  pub least : 1 ≤ micros
  pub most : micros ≤ 16777215

-- The microseconds, if a tempo event can hold them. Not in ABC 2.1.
abbrev pub in_tempo_event : ℕ → Option ℕ
in_tempo_event micros = if nat_le 1 micros && nat_le micros 16777215 then Some micros else None

-- The microseconds of a quarter note, rounded down, if a tempo event can hold them. Not in ABC 2.1.
abbrev pub quarter_micros_of : Ratio → ℕ → Option ℕ
quarter_micros_of beat per_minute = in_tempo_event (quarter_of beat per_minute)

-- A minute has 4 * num * per_minute / den quarter notes. With `micros` microseconds each they fit in it,
-- and with one more they do not. Not in ABC 2.1.
pub record IsQuarter (beat : Ratio) (per_minute micros : ℕ) : Type 0 where
  pub fits : FitsInTempoEvent micros
  pub not_longer : micros * (4 * beat.num * per_minute) ≤ 60000000 * beat.den
  pub longest : 60000000 * beat.den < (micros + 1) * (4 * beat.num * per_minute)
