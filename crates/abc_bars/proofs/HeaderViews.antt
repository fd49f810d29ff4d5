-- The values after one more line are those that the line gives from the ones before it.
use Rattle.std.proofs.Common.{◌≡◌, ℕ, List, ◌∷◌, Option, Some, None, Result, Ok, Err, refl}
use Rattle.std.specs.Option.{option_or}
use Rattle.std.specs.Result.{result_ok}
use Rattle.abc_fields.specs.declared.fault_code.FaultCode.{FaultCode}
use Rattle.abc_fields.specs.declared.meter.Meter.{Meter}
use Rattle.abc_fields.specs.declared.tempo.Tempo.{Tempo}
use Rattle.abc_fields.specs.declared.tempo.Tempo.TheVariants.{Unset, Units, Beat}
use Rattle.abc_fields.specs.Meter.{meter_of}
use Rattle.abc_fields.specs.Tempo.{tempo_of}
use Rattle.abc_fields.specs.Unit.{unit_of}
use Rattle.abc_bars_items.specs.Program.{program_of}
use Rattle.abc_scan.specs.declared.directive.Directive.TheVariants as directives
use Rattle.abc_time.specs.declared.ratio.Ratio.{Ratio}
use Rattle.abc_bars_header.specs.Defaults.{set_program, set_or_refused, tempo_or, setting_result}
use Rattle.abc_bars_header.specs.FieldKind.{kind_of}
use Rattle.abc_bars_header.specs.FileHeader.{line_result}
use Rattle.abc_bars_header.specs.HeaderLine.{HeaderLine, FieldLine, DirectiveLine}
use Rattle.abc_bars.specs.LookBack.Defaults.{if_set, meter_said, unit_said, tempo_said, defaults_at}
use Rattle.abc_bars_header.specs.declared.defaults.Defaults.{Defaults}
use Rattle.abc_bars_header.specs.declared.field_kind.FieldKind.{FieldKind}
use Rattle.abc_bars_header.specs.declared.field_kind.FieldKind.TheVariants as kinds

-- The values before a field, with what it says of each.
abbrev pub said : Defaults → FieldKind → List ℕ → Defaults
said defaults kind value = record {
  meter = option_or (meter_said kind value) defaults.meter;
  unit = option_or (unit_said kind value) defaults.unit;
  tempo = option_or (tempo_said kind value) defaults.tempo;
  program = defaults.program;
  reach = defaults.reach;
}

-- A reading of M: sets what it says.
meter_read : (defaults : Defaults) (reading : Result Meter FaultCode) →
    record defaults { meter = option_or (result_ok reading) defaults.meter }
    ≡ (set_or_refused defaults (λ meter. record defaults { meter = Some meter }) reading).defaults
meter_read defaults (Ok meter) = refl
meter_read defaults (Err fault) = refl

-- A reading of L: sets what it says.
unit_read : (defaults : Defaults) (reading : Result Ratio FaultCode) →
    record defaults { unit = option_or (result_ok reading) defaults.unit }
    ≡ (set_or_refused defaults (λ unit. record defaults { unit = Some unit }) reading).defaults
unit_read defaults (Ok unit) = refl
unit_read defaults (Err fault) = refl

-- A reading of Q: sets what it says, if it says something.
tempo_read : (defaults : Defaults) (reading : Result Tempo FaultCode) →
    record defaults { tempo = option_or (if_set (result_ok reading)) defaults.tempo }
    ≡ (set_or_refused defaults (λ tempo. record defaults { tempo = tempo_or defaults.tempo tempo }) reading).defaults
tempo_read defaults (Ok Unset) = refl
tempo_read defaults (Ok (Units n)) = refl
tempo_read defaults (Ok (Beat beat n)) = refl
tempo_read defaults (Err fault) = refl

-- A field of each kind sets what it says.
pub setting_said : (defaults : Defaults) (kind : FieldKind) (value : List ℕ) →
    said defaults kind value ≡ (setting_result defaults kind value).defaults
setting_said defaults kinds.Meter value = meter_read defaults (meter_of value)
setting_said defaults kinds.UnitLength value = unit_read defaults (unit_of value)
setting_said defaults kinds.Tempo value = tempo_read defaults (tempo_of value)
setting_said defaults _ value = refl

-- A directive of a program sets it, if MIDI has it.
program_read : (defaults : Defaults) (program : Option ℕ) →
    record defaults { program = option_or program defaults.program } ≡ (set_program defaults program).defaults
program_read defaults (Some program) = refl
program_read defaults None = refl

-- The values after one more line are those that it gives from the ones before it.
pub defaults_after : (opening : Defaults) (before : List HeaderLine) (line : HeaderLine) →
    defaults_at opening (line ∷ before) ≡ (line_result (defaults_at opening before) line).defaults
defaults_after opening before (FieldLine field) = setting_said (defaults_at opening before) (kind_of field.letter) field.value
defaults_after opening before (DirectiveLine (directives.Program written)) = program_read (defaults_at opening before) (program_of written)
defaults_after opening before (DirectiveLine (directives.Reach reach)) = refl
