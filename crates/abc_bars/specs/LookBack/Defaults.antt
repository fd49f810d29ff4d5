-- What the lines before a place of a file header or of a tune's header set, the newest first. ABC 2.1 sections
-- 3.1 and 11.
use Rattle.std.specs.Prelude.{ℕ, List, [], ◌∷◌, Option, Some, None, unwrap_or}
use Rattle.std.specs.Option.{option_or}
use Rattle.std.specs.Result.{result_ok}
use Rattle.abc_fields.specs.declared.meter.Meter.{Meter}
use Rattle.abc_fields.specs.declared.tempo.Tempo.{Tempo}
use Rattle.abc_fields.specs.declared.tempo.Tempo.TheVariants.{Unset, Units, Beat}
use Rattle.abc_fields.specs.Meter.{meter_of}
use Rattle.abc_fields.specs.Tempo.{tempo_of}
use Rattle.abc_fields.specs.Unit.{unit_of}
use Rattle.abc_bars_items.specs.Program.{program_of}
use Rattle.abc_scan.specs.declared.directive.Directive.{Directive}
use Rattle.abc_scan.specs.declared.directive.Directive.TheVariants as directives
use Rattle.abc_scan.specs.declared.directive.Reach.{Reach}
use Rattle.abc_time.specs.declared.ratio.Ratio.{Ratio}
use Rattle.abc_bars_header.specs.FieldKind.{kind_of}
use Rattle.abc_bars_header.specs.HeaderLine.{HeaderLine, FieldLine, DirectiveLine}
use Rattle.abc_bars_header.specs.declared.defaults.Defaults.{Defaults}
use Rattle.abc_bars_header.specs.declared.field_kind.FieldKind.{FieldKind}
use Rattle.abc_bars_header.specs.declared.field_kind.FieldKind.TheVariants as kinds

-- The meter that a field of this kind sets, if it does and is accepted.
abbrev pub meter_said : FieldKind → List ℕ → Option Meter
meter_said kinds.Meter value = result_ok (meter_of value)
meter_said _ value = None

-- The unit note length that a field of this kind sets, if it does and is accepted.
abbrev pub unit_said : FieldKind → List ℕ → Option Ratio
unit_said kinds.UnitLength value = result_ok (unit_of value)
unit_said _ value = None

-- A Q: that is empty or a text alone counts as none. Not in ABC 2.1.
abbrev pub if_set : Option Tempo → Option Tempo
if_set None = None
if_set (Some Unset) = None
if_set (Some (Units n)) = Some (Units n)
if_set (Some (Beat beat n)) = Some (Beat beat n)

-- The tempo that a field of this kind sets, if it does and is accepted.
abbrev pub tempo_said : FieldKind → List ℕ → Option Tempo
tempo_said kinds.Tempo value = if_set (result_ok (tempo_of value))
tempo_said _ value = None

-- What a line says, by what its field is about and the field's value. A directive is no field.
abbrev pub said_by_line : {A : Type 0} → (FieldKind → List ℕ → Option A) → HeaderLine → Option A
said_by_line says (FieldLine field) = says (kind_of field.letter) field.value
said_by_line says (DirectiveLine directive) = None

-- The program that a directive sets, if it does and MIDI has it.
abbrev pub program_said : Directive → Option ℕ
program_said (directives.Program written) = program_of written
program_said (directives.Reach reach) = None

-- How far accidentals reach by a directive, if it says so.
abbrev pub reach_said : Directive → Option Reach
reach_said (directives.Program written) = None
reach_said (directives.Reach reach) = Some reach

-- What a line says that is a directive.
abbrev pub said_by_directive : {A : Type 0} → (Directive → Option A) → HeaderLine → Option A
said_by_directive says (FieldLine field) = None
said_by_directive says (DirectiveLine directive) = says directive

-- The answer of the newest line that has one, else `opening`.
abbrev pub last_set : {A : Type 0} → (HeaderLine → Option A) → Option A → List HeaderLine → Option A
last_set says opening [] = opening
last_set says opening (line ∷ before) = option_or (says line) (last_set says opening before)

-- How far accidentals reach by the last directive before a place that says so, else as the lines open.
abbrev pub last_reach : Reach → List HeaderLine → Reach
last_reach opening [] = opening
last_reach opening (line ∷ before) = unwrap_or (said_by_directive reach_said line) (last_reach opening before)

-- The values at a place, by the lines before it and their opening values. They are the last accepted meter, unit note
-- length, tempo and program, and the last reach.
abbrev pub defaults_at : Defaults → List HeaderLine → Defaults
defaults_at opening before = record {
  meter = last_set (said_by_line meter_said) opening.meter before;
  unit = last_set (said_by_line unit_said) opening.unit before;
  tempo = last_set (said_by_line tempo_said) opening.tempo before;
  program = last_set (said_by_directive program_said) opening.program before;
  reach = last_reach opening.reach before;
}
