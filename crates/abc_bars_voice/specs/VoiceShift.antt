-- The shift of a voice's notes. ABC 2.1 sections 4.6 and 7.1.
use Rattle.std.specs.Prelude.{unwrap_or}
use Rattle.abc_fields.specs.declared.shift.Shift.{Shift}
use Rattle.abc_bars_voice.specs.declared.voice_shift.VoiceShift.{VoiceShift}

-- The shift after properties: each part of theirs replaces the one before. Not in ABC 2.1.
abbrev pub with_properties : VoiceShift → Shift → VoiceShift
with_properties shift said = record {
  clef = unwrap_or said.clef shift.clef;
  octave = unwrap_or said.octave shift.octave;
  transpose = unwrap_or said.transpose shift.transpose;
}
