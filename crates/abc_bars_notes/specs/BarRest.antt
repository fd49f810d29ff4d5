-- Rests of whole bars. ABC 2.1 section 4.5.
use Rattle.std.specs.Prelude.{◌≡◌, ◌≤◌, ℕ, ◌*◌, ◌/◌, true, [], ◌∷◌, Option, Some, None, option_and_then}
use Rattle.std.specs.Result.{result_ok}
use Rattle.abc_fields.specs.declared.fault_code.FaultCode.{FaultCode}
use Rattle.abc_fields.specs.declared.fault_code.FaultCode.TheVariants.{BadLength, FreeBarRest}
use Rattle.abc_fields.specs.declared.meter.Meter.{Meter}
use Rattle.abc_fields.specs.declared.meter.Meter.TheVariants.{Free, Of}
use Rattle.abc_time.specs.declared.grains.Grains.{Grains}
use Rattle.abc_time.specs.Grains.{grains_of_a_whole_note, grains_of_the_longest_length}
use Rattle.abc_time.specs.Length.{length_of}
use Rattle.abc_bars_items.specs.declared.item.Item.{Item}
use Rattle.abc_bars_items.specs.declared.item.Item.TheVariants.{Rest}
use Rattle.abc_bars_notes.specs.Lengths.{ratio_of}

-- The length of one bar.
unfoldable pub bar_grains : ℕ → ℕ → Grains
bar_grains num den = record { 0 = grains_of_a_whole_note / den * num }

-- The length of several bars, if there is one bar at least and they are not above 1,024 whole notes
-- together. Not in ABC 2.1.
abbrev pub bars_of : ℕ → ℕ → ℕ → Option Grains
bars_of num den n =
    option_and_then (λ factor. result_ok (length_of (record { num = num; den = den }) (factor ∷ []))) (ratio_of n 1)

-- `bars` bars, at least one, are exactly `g` grains, and at most 1,024 whole notes.
pub record AreBars (num den n g : ℕ) : Type 0 where
  pub some : 1 ≤ n
  pub exact : g * den ≡ grains_of_a_whole_note * (num * n)
  pub short : g ≤ grains_of_the_longest_length

-- A length and no fault, or one bar and a fault.
abbrev pub or_one_bar : ℕ → ℕ → Option Grains → Grains × Option FaultCode
or_one_bar num den None = (bar_grains num den, Some BadLength)
or_one_bar num den (Some length) = (length, None)

-- The length of a rest of bars, one bar if no number is written, and its fault. In free meter it
-- takes no time, whatever the number is, which is not in ABC 2.1.
abbrev pub bar_rest_length : Meter → Option ℕ → Grains × Option FaultCode
bar_rest_length Free bars = (record { 0 = 0 }, Some FreeBarRest)
bar_rest_length (Of num den) None = (bar_grains num den, None)
bar_rest_length (Of num den) (Some n) = or_one_bar num den (bars_of num den n)

-- What a rest of bars gives, and its fault.
abbrev pub bar_rest_of : Meter → Option ℕ → Item × Option FaultCode
bar_rest_of meter bars = (Rest (bar_rest_length meter bars).0 true, (bar_rest_length meter bars).1)
