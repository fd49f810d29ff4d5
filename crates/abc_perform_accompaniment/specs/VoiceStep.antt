-- What a step of a voice is to its accompaniment. ABC 2.1 section 4.18; the directives are those of abc2midi.
use Rattle.std.specs.Prelude.{Bool, true, false, Option, Some, None}
use Rattle.abc_bars_items.specs.Item.{IsWithinLongest}
use Rattle.abc_bars_items.specs.declared.item.Item.{Item}
use Rattle.abc_bars_items.specs.declared.item.Item.TheVariants as items
use Rattle.abc_fields.specs.Meter.{IsMeterInRange}
use Rattle.abc_fields.specs.declared.meter.Meter.{Meter}
use Rattle.abc_marks.specs.ChordName.{IsChordName}
use Rattle.abc_marks.specs.Directive.{IsPattern}
use Rattle.abc_marks.specs.declared.directive.PlayingDirective.{PlayingDirective}
use Rattle.abc_marks.specs.declared.directive.PlayingDirective.TheVariants as directives
use Rattle.abc_marks.specs.declared.mark.Mark.{Mark}
use Rattle.abc_marks.specs.declared.mark.MarkKind.{MarkKind}
use Rattle.abc_marks.specs.declared.mark.MarkKind.TheVariants as kinds
use Rattle.abc_perform_item.specs.declared.performed.Place.{Place}
use Rattle.abc_perform_layers.specs.declared.role.Role.{Role}
use Rattle.abc_perform_layers.specs.declared.role.Role.TheVariants as roles
use Rattle.abc_perform_harmony.specs.Harmony.{IsHarmonyMark}
use Rattle.abc_perform_harmony.specs.declared.harmony_mark.HarmonyMark.TheVariants as marks
use Rattle.abc_perform_accompaniment.specs.declared.voice_step.VoiceStep.{VoiceStep}
use Rattle.abc_perform_accompaniment.specs.declared.voice_step.VoiceStep.TheVariants as steps

-- What a step can hold.
abbrev pub IsVoiceStep : VoiceStep → Type 0
IsVoiceStep (steps.Time length) = IsWithinLongest length
IsVoiceStep (steps.Meter meter) = IsMeterInRange meter
IsVoiceStep (steps.Pattern pattern) = IsPattern pattern
IsVoiceStep (steps.ChordName name transpose place) = IsChordName name
IsVoiceStep (steps.Harmony mark) = IsHarmonyMark mark
IsVoiceStep _ = Unit {0}

-- What a meter is, if it is accepted.
abbrev pub step_of_meter : Option Meter → VoiceStep
step_of_meter (Some meter) = steps.Meter meter
step_of_meter None = steps.Other

-- What an item of a section is.
abbrev pub step_of_item : Item → VoiceStep
step_of_item (items.Tone tones length) = steps.Time length
step_of_item (items.Rest length bar) = steps.Time length
step_of_item (items.Bar line) = steps.Bar line
step_of_item (items.Ending passes) = steps.Ending passes
step_of_item (items.Meter opening meter) = step_of_meter meter
step_of_item (items.Program opening number) = steps.Program
step_of_item _ = steps.Other

-- What a directive is.
abbrev pub step_of_directive : PlayingDirective → VoiceStep
step_of_directive (directives.Pattern pattern) = steps.Pattern pattern
step_of_directive directives.AccompanimentOn = steps.Harmony marks.On
step_of_directive directives.AccompanimentOff = steps.Harmony marks.Off
step_of_directive (directives.Transpose by) = steps.Transpose by
step_of_directive (directives.ChordVelocity velocity) = steps.Harmony (marks.ChordVelocity velocity)
step_of_directive (directives.BassVelocity velocity) = steps.Harmony (marks.BassVelocity velocity)
step_of_directive (directives.ChordProgram program) = steps.Harmony (marks.ChordProgram program)
step_of_directive (directives.BassProgram program) = steps.Harmony (marks.BassProgram program)

abbrev pub step_of_kind : MarkKind → Place → VoiceStep
step_of_kind (kinds.ChordName name transpose columns) place = steps.ChordName name transpose place
step_of_kind kinds.NoChord place = steps.Harmony marks.NoChord
step_of_kind kinds.Overlay place = steps.Overlay
step_of_kind (kinds.Directive directive) place = step_of_directive directive
step_of_kind _ place = steps.Other

-- What a mark with a place is.
abbrev pub step_of_mark : Mark → Place → VoiceStep
step_of_mark mark place = step_of_kind mark.kind place

-- What a step is to the layers of its voice.
abbrev pub role_of : VoiceStep → Role
role_of (steps.Time length) = roles.Time length
role_of (steps.Bar line) = roles.Bound
role_of (steps.Ending passes) = roles.Bound
role_of steps.Program = roles.Program
role_of steps.Overlay = roles.Overlay
role_of _ = roles.Other

-- Whether an overlay mark is in the stretch after a step, if it is known whether one is before it.
abbrev pub is_layered_after : Bool → VoiceStep → Bool
is_layered_after before steps.Overlay = true
is_layered_after before (steps.Bar line) = false
is_layered_after before (steps.Ending passes) = false
is_layered_after before _ = before
