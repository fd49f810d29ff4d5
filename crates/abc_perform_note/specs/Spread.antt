-- Spread chords. ABC 2.1 section 4.14.
use Rattle.std.specs.Prelude.{ℕ, ◌/◌, ◌-◌, min}
use Rattle.abc_perform_note.specs.declared.spread.TheConstants.{SIXTY_FOURTH}

-- How long each step before the last tone of a chord is: a 64th of a whole note, but all steps at most half of the chord.
-- Not in ABC 2.1.
abbrev pub spread_step : ℕ → ℕ → ℕ
spread_step length tones = min SIXTY_FOURTH.0 (length / 2 / (tones - 1))
