-- How far a stretch of the accompanied voice has come.
use Rattle.std.specs.Prelude.{ℤ, ◌≡◌, ◌+◌, ◌+ℤ◌, ◌==◌, ◌||◌, nat_le, not, Bool, true, false, if◌then◌else◌, Option, Some, None, IfNone, IfSome, All, [], ◌∷◌, ◌++◌}
use Rattle.std.specs.Int.{w64, saturate_signed}
use Rattle.abc_time.specs.declared.grains.Grains.{Grains}
use Rattle.abc_time.specs.Grains.{grains_of_the_longest_length}
use Rattle.abc_fields.specs.Meter.{IsMeterInRange}
use Rattle.abc_marks.specs.Directive.{IsPattern}
use Rattle.abc_marks.specs.declared.chord_name.ChordName.{ChordName}
use Rattle.abc_scan.specs.declared.bar_line.BarLine.{BarLine}
use Rattle.abc_perform_note.specs.Length.{IsLengthOfANote}
use Rattle.abc_perform_item.specs.declared.performed.Place.{Place}
use Rattle.abc_perform_harmony.specs.Harmony.{IsTimedMark, harmony_after}
use Rattle.abc_perform_harmony.specs.declared.harmony_mark.HarmonyMark.{HarmonyMark}
use Rattle.abc_perform_harmony.specs.declared.harmony_mark.HarmonyMark.TheVariants as marks
use Rattle.abc_perform_harmony.specs.declared.harmony_mark.SoundingChord.{SoundingChord}
use Rattle.abc_perform_accompaniment.specs.declared.stretch.StretchBegin.{StretchBegin}
use Rattle.abc_perform_accompaniment.specs.declared.stretch.StretchState.{StretchState}
use Rattle.abc_perform_accompaniment.specs.declared.voice_setting.VoiceSetting.{VoiceSetting}
use Rattle.abc_perform_accompaniment.specs.declared.voice_step.VoiceStep.{VoiceStep}
use Rattle.abc_perform_accompaniment.specs.declared.voice_step.VoiceStep.TheVariants as steps
use Rattle.abc_perform_accompaniment.specs.VoiceSetting.{IsVoiceSetting}

-- What the beginning of a stretch can hold.
pub record IsBegin (begin : StretchBegin) : Type 0 where
  pub meter : IsMeterInRange begin.meter
  pub pattern : IfSome begin.pattern IsPattern

-- What a stretch can hold.
pub record IsStretch (state : StretchState) : Type 0 where
  pub setting : IsVoiceSetting state.setting
  pub length : IsLengthOfANote state.length.0
  pub begin : IfSome state.begin IsBegin
  pub unbegun : IfNone state.begin (state.length.0 ≡ 0)
  pub marks : All IsTimedMark state.marks

-- Whether the first layer is not too long after a step.
abbrev pub step_fits : StretchState → VoiceStep → Bool
step_fits state (steps.Time length) = state.layered || nat_le (state.length.0 + length.0) grains_of_the_longest_length
step_fits state _ = true

-- The beginning of a section. A short stretch there is a pickup.
abbrev pub section_opening : VoiceSetting → StretchState
section_opening setting = record {
  setting = setting;
  first = true;
  layered = false;
  length = record { 0 = 0 };
  begin = None;
  marks = [];
}

-- What holds at the first note, chord or rest of a stretch.
abbrev pub begun : VoiceSetting → StretchBegin
begun setting = record { meter = setting.meter; pattern = setting.pattern }

-- The beginning that is known, or this one.
abbrev pub begin_or : Option StretchBegin → StretchBegin → StretchBegin
begin_or None here = here
begin_or (Some begin) here = begin

-- A note, chord or rest of the first layer makes it longer.
abbrev pub with_time : StretchState → Grains → StretchState
with_time state length = record state {
  begin = Some (begin_or state.begin (begun state.setting));
  length = record { 0 = state.length.0 + length.0 };
}

-- A mark of the first layer has the moment at which the next note, chord or rest of the layer begins.
abbrev pub with_mark : StretchState → HarmonyMark → StretchState
with_mark state mark = record state { marks = state.marks ++ record { moment = state.length; mark = mark } ∷ [] }

-- The semitones by which a chord is moved: those of a directive and of a property, as far as 64 bits count.
abbrev pub moved_by : ℤ → ℤ → ℤ
moved_by directive property = saturate_signed w64 (property +ℤ directive)

-- A chord name as it sounds.
abbrev pub chord_here : StretchState → ChordName → ℤ → Place → SoundingChord
chord_here state name transpose place = record { name = name; by = moved_by state.setting.transpose transpose; place = place }

-- The state after a step that is neither a bar line nor an ending. After an overlay mark, notes, chord names and directives of the
-- accompaniment have no effect. A meter sets its own pattern.
abbrev pub with_step : StretchState → VoiceStep → StretchState
with_step state (steps.Meter meter) = record state { setting = record state.setting { meter = meter; pattern = None } }
with_step state (steps.Transpose by) = record state { setting = record state.setting { transpose = by } }
with_step state steps.Overlay = record state { layered = true }
with_step state (steps.Time length) = if state.layered then state else with_time state length
with_step state (steps.Pattern pattern) =
    if state.layered then state else record state { setting = record state.setting { pattern = Some pattern } }
with_step state (steps.ChordName name transpose place) =
    if state.layered then state else with_mark state (marks.Chord (chord_here state name transpose place))
with_step state (steps.Harmony mark) = if state.layered then state else with_mark state mark
with_step state _ = state

-- What holds after a stretch.
abbrev pub closing : StretchState → VoiceSetting
closing state = record state.setting { harmony = harmony_after state.setting.harmony state.marks }

-- The beginning of the next stretch.
abbrev pub next_stretch : StretchState → Bool → StretchState
next_stretch state first = record {
  setting = closing state;
  first = first;
  layered = false;
  length = record { 0 = 0 };
  begin = None;
  marks = [];
}

-- Whether a short stretch after a bar line is a pickup: if the line opens or closes a repeat or is double, or if `before` says so.
abbrev pub opens_pickup : BarLine → Bool → Bool
opens_pickup line before = not (line.closes == 0) || not (line.opens == 0) || line.double || before
