-- The values that a file header sets for all tunes, and a tune's header for its own. ABC 2.1 sections 3.1 and 11.
use Rattle.std.specs.Prelude.{ℕ, List, Option, Some, None, unwrap_or, Result, Ok, Err}
use Rattle.abc_fields.specs.declared.fault_code.FaultCode.{FaultCode}
use Rattle.abc_fields.specs.declared.fault_code.FaultCode.TheVariants.{BadProgram}
use Rattle.abc_fields.specs.declared.meter.Meter.{Meter}
use Rattle.abc_fields.specs.declared.meter.Meter.TheVariants.{Free}
use Rattle.abc_fields.specs.declared.tempo.Tempo.{Tempo}
use Rattle.abc_fields.specs.declared.tempo.Tempo.TheVariants.{Unset, Units, Beat}
use Rattle.abc_fields.specs.Meter.{meter_of}
use Rattle.abc_fields.specs.Tempo.{tempo_of}
use Rattle.abc_fields.specs.Unit.{unit_of}
use Rattle.abc_time.specs.declared.ratio.Ratio.{Ratio}
use Rattle.abc_bars_items.specs.Program.{program_of}
use Rattle.abc_bars_voice.specs.UnitLength.{unit_by}
use Rattle.abc_scan.specs.declared.directive.Directive.{Directive}
use Rattle.abc_scan.specs.declared.directive.Directive.TheVariants as directives
use Rattle.abc_scan.specs.declared.directive.Reach.TheVariants.{Pitch}
use Rattle.abc_bars_header.specs.declared.defaults.Defaults.{Defaults}
use Rattle.abc_bars_header.specs.declared.defaults.SettingResult.{SettingResult}
use Rattle.abc_bars_header.specs.declared.field_kind.FieldKind.{FieldKind}
use Rattle.abc_bars_header.specs.declared.field_kind.FieldKind.TheVariants as kinds

-- No values, as at the beginning of a file header. That accidentals reach all octaves then is not in ABC 2.1.
abbrev pub no_defaults : Defaults
no_defaults = record { meter = None; unit = None; tempo = None; program = None; reach = Pitch }

-- The values after a field that is accepted, or those before it and its fault.
abbrev pub set_or_refused : {V : Type 0} → Defaults → (V → Defaults) → Result V FaultCode → SettingResult
set_or_refused defaults set (Ok value) = record { defaults = set value; fault = None }
set_or_refused defaults set (Err fault) = record { defaults = defaults; fault = Some fault }

-- The values after an M:.
abbrev pub set_meter : Defaults → List ℕ → SettingResult
set_meter defaults value = set_or_refused defaults (λ meter. record defaults { meter = Some meter }) (meter_of value)

-- The values after an L:.
abbrev pub set_unit : Defaults → List ℕ → SettingResult
set_unit defaults value = set_or_refused defaults (λ unit. record defaults { unit = Some unit }) (unit_of value)

-- The tempo after an accepted Q:. One that is empty or a text alone counts as none. Not in ABC 2.1.
abbrev pub tempo_or : Option Tempo → Tempo → Option Tempo
tempo_or before Unset = before
tempo_or before (Units n) = Some (Units n)
tempo_or before (Beat beat n) = Some (Beat beat n)

-- The values after a Q:.
abbrev pub set_tempo : Defaults → List ℕ → SettingResult
set_tempo defaults value =
    set_or_refused defaults (λ tempo. record defaults { tempo = tempo_or defaults.tempo tempo }) (tempo_of value)

-- The values after a field with this value, of which only M:, L: and Q: set any.
abbrev pub setting_result : Defaults → FieldKind → List ℕ → SettingResult
setting_result defaults kinds.Meter value = set_meter defaults value
setting_result defaults kinds.UnitLength value = set_unit defaults value
setting_result defaults kinds.Tempo value = set_tempo defaults value
setting_result defaults _ value = record { defaults = defaults; fault = None }

-- The values after a directive with this program, if it is one that MIDI has, or those before it and its fault.
abbrev pub set_program : Defaults → Option ℕ → SettingResult
set_program defaults (Some program) = record { defaults = record defaults { program = Some program }; fault = None }
set_program defaults None = record { defaults = defaults; fault = Some BadProgram }

-- The values after a directive.
abbrev pub directive_result : Defaults → Directive → SettingResult
directive_result defaults (directives.Program written) = set_program defaults (program_of written)
directive_result defaults (directives.Reach reach) = record { defaults = record defaults { reach = reach }; fault = None }

-- The meter after a header with these values: free meter without an M:.
abbrev pub meter_in : Defaults → Meter
meter_in defaults = unwrap_or defaults.meter Free

-- The unit note length after a header with these values: without an L: that of the meter.
abbrev pub unit_in : Defaults → Ratio
unit_in defaults = unwrap_or defaults.unit (unit_by (meter_in defaults))
