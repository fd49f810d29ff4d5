-- What holds for the accompaniment at a place of the accompanied voice.
use Rattle.std.specs.Prelude.{pos, IfSome, None}
use Rattle.abc_fields.specs.Meter.{IsMeterInRange}
use Rattle.abc_fields.specs.declared.meter.Meter.{Meter}
use Rattle.abc_marks.specs.Directive.{IsPattern}
use Rattle.abc_perform_harmony.specs.Harmony.{IsHarmony, opening as no_harmony}
use Rattle.abc_perform_accompaniment.specs.declared.voice_setting.VoiceSetting.{VoiceSetting}

-- What a setting can hold.
pub record IsVoiceSetting (setting : VoiceSetting) : Type 0 where
  pub meter : IsMeterInRange setting.meter
  pub pattern : IfSome setting.pattern IsPattern
  pub harmony : IsHarmony setting.harmony

-- What holds before all directives: the meter's own pattern, no transposition and no chord.
abbrev pub opening : Meter → VoiceSetting
opening meter = record { meter = meter; pattern = None; transpose = pos 0; harmony = no_harmony }
