-- What holds of the accompaniment at a moment. ABC 2.1 section 4.18; the directives are those of abc2midi.
use Rattle.std.specs.Prelude.{◌≤◌, true, false, IfSome, Some, None, List, [], ◌∷◌}
use Rattle.abc_bars_items.specs.declared.program.TheConstants.{HIGHEST_PROGRAM}
use Rattle.abc_bars_items.specs.Velocity.{IsVelocity}
use Rattle.abc_marks.specs.ChordName.{IsChordName}
use Rattle.abc_perform_harmony.specs.declared.harmony.Harmony.{Harmony}
use Rattle.abc_perform_harmony.specs.declared.harmony.TheConstants.{CHORD_VELOCITY, BASS_VELOCITY}
use Rattle.abc_perform_harmony.specs.declared.harmony_mark.HarmonyMark.{HarmonyMark}
use Rattle.abc_perform_harmony.specs.declared.harmony_mark.HarmonyMark.TheVariants as marks
use Rattle.abc_perform_harmony.specs.declared.harmony_mark.TimedMark.{TimedMark}

-- The chord and the velocities can be those of notes.
pub record IsHarmony (harmony : Harmony) : Type 0 where
  pub chord : IfSome harmony.chord (λ chord. IsChordName chord.name)
  pub chord_velocity : IsVelocity harmony.chord_velocity
  pub bass_velocity : IsVelocity harmony.bass_velocity

-- What a mark can hold.
abbrev pub IsHarmonyMark : HarmonyMark → Type 0
IsHarmonyMark (marks.Chord chord) = IsChordName chord.name
IsHarmonyMark (marks.ChordVelocity velocity) = IsVelocity velocity
IsHarmonyMark (marks.BassVelocity velocity) = IsVelocity velocity
IsHarmonyMark (marks.ChordProgram program) = program ≤ HIGHEST_PROGRAM
IsHarmonyMark (marks.BassProgram program) = program ≤ HIGHEST_PROGRAM
IsHarmonyMark _ = Unit {0}

-- The same of a mark with its moment.
pub record IsTimedMark (timed : TimedMark) : Type 0 where
  pub mark : IsHarmonyMark timed.mark

-- What holds before all marks: no chord, and the velocities without a directive.
abbrev pub opening : Harmony
opening = record { chord = None; on = true; chord_velocity = CHORD_VELOCITY; bass_velocity = BASS_VELOCITY }

-- The same without a chord.
abbrev pub without_chord : Harmony → Harmony
without_chord harmony = record harmony { chord = None }

-- What holds after a mark.
abbrev pub with_mark : Harmony → HarmonyMark → Harmony
with_mark harmony (marks.Chord chord) = record harmony { chord = Some chord }
with_mark harmony marks.NoChord = record harmony { chord = None }
with_mark harmony marks.On = record harmony { on = true }
with_mark harmony marks.Off = record harmony { on = false }
with_mark harmony (marks.ChordVelocity velocity) = record harmony { chord_velocity = velocity }
with_mark harmony (marks.BassVelocity velocity) = record harmony { bass_velocity = velocity }
with_mark harmony (marks.ChordProgram program) = harmony
with_mark harmony (marks.BassProgram program) = harmony

-- What holds after marks.
abbrev pub harmony_after : Harmony → List TimedMark → Harmony
harmony_after harmony [] = harmony
harmony_after harmony (timed ∷ marks) = harmony_after (with_mark harmony timed.mark) marks
