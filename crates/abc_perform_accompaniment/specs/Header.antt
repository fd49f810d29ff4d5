-- What the directives of a header say of the accompaniment. The directives are those of abc2midi.
use Rattle.std.specs.Prelude.{◌≤◌, Bool, if◌then◌else◌, Some, List, [], ◌∷◌, ℕ}
use Rattle.abc_bars_items.specs.declared.program.TheConstants.{HIGHEST_PROGRAM}
use Rattle.abc_fields.specs.declared.meter.Meter.{Meter}
use Rattle.abc_perform_item.specs.declared.performed.Performed.{Performed}
use Rattle.abc_perform_harmony.specs.Harmony.{with_mark}
use Rattle.abc_perform_harmony.specs.ProgramItems.{program_item}
use Rattle.abc_perform_harmony.specs.declared.harmony_mark.HarmonyMark.{HarmonyMark}
use Rattle.abc_perform_harmony.specs.declared.harmony_mark.HarmonyMark.TheVariants as marks
use Rattle.abc_perform_harmony.specs.declared.harmony_mark.Part.{Part}
use Rattle.abc_perform_harmony.specs.declared.harmony_mark.Part.TheVariants as parts
use Rattle.abc_perform_accompaniment.specs.declared.header.HeaderSetting.{HeaderSetting}
use Rattle.abc_perform_accompaniment.specs.declared.voice_step.VoiceStep.{VoiceStep}
use Rattle.abc_perform_accompaniment.specs.declared.voice_step.VoiceStep.TheVariants as steps
use Rattle.abc_perform_accompaniment.specs.VoiceSetting.{IsVoiceSetting, opening}
use Rattle.abc_perform_accompaniment.specs.VoiceStep.{is_layered_after}

-- What a header can say.
pub record IsHeaderSetting (header : HeaderSetting) : Type 0 where
  pub setting : IsVoiceSetting header.setting
  pub chord_program : header.chord_program ≤ HIGHEST_PROGRAM
  pub bass_program : header.bass_program ≤ HIGHEST_PROGRAM

-- What holds before all directives: both voices begin with program 0.
abbrev pub header_opening : Meter → HeaderSetting
header_opening meter = record { setting = opening meter; chord_program = 0; bass_program = 0 }

-- What holds after a directive, except of pattern or transposition. Chord names are none.
abbrev pub with_harmony : HeaderSetting → HarmonyMark → HeaderSetting
with_harmony header (marks.Chord chord) = header
with_harmony header marks.NoChord = header
with_harmony header (marks.ChordProgram program) = record header { chord_program = program }
with_harmony header (marks.BassProgram program) = record header { bass_program = program }
with_harmony header mark = record header { setting = record header.setting { harmony = with_mark header.setting.harmony mark } }

-- What holds after a directive; all other steps have no effect. After an overlay mark only transpositions have one.
abbrev pub with_directive : HeaderSetting → Bool → VoiceStep → HeaderSetting
with_directive header layered (steps.Transpose by) = record header { setting = record header.setting { transpose = by } }
with_directive header layered (steps.Pattern pattern) =
    if layered then header else record header { setting = record header.setting { pattern = Some pattern } }
with_directive header layered (steps.Harmony mark) = if layered then header else with_harmony header mark
with_directive header layered _ = header

-- What holds after the directives of a header, or of a section of a voice without a track.
abbrev pub after_directives : HeaderSetting → Bool → List VoiceStep → HeaderSetting
after_directives header layered [] = header
after_directives header layered (step ∷ rest) =
    after_directives (with_directive header layered step) (is_layered_after layered step) rest

-- The program with which a voice of the accompaniment begins.
abbrev pub program_of_part : Part → HeaderSetting → ℕ
program_of_part parts.Chords header = header.chord_program
program_of_part parts.Bass header = header.bass_program

-- The item with which a voice of the accompaniment begins the opening section.
abbrev pub opening_program : Part → HeaderSetting → Performed
opening_program part header = program_item (program_of_part part header)
