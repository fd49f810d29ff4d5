use Rattle.std.proofs.Common.{◌≡◌, ◌≤◌, length, take, drop}
use Rattle.abc_time.specs.Grains.{grains_of_the_latest_end}
use Rattle.abc_voices.specs.Turns.{stages_in, notes_along}
use Rattle.abc_voices_sections.specs.Turns.{length_along}
use Rattle.abc_voices.specs.TiedNotes.{notes_in}
use Rattle.abc_voices.proofs.voice.voice_notes.Given as goal

-- the notes of the stages from here on
abbrev pub invariant-loop-left : goal.invariant-loop-left
invariant-loop-left l = record {
  inside : l.left ≤ length l.turns;
  in_time : l.at.0 ≤ grains_of_the_latest_end;
  moment : l.at.0 ≡ length_along (stages_in (take l.left l.turns));
  notes : notes_in l.notes ≡ notes_along l.voice l.at.0 (stages_in (drop l.left l.turns));
}

abbrev pub decreases-loop-left : goal.decreases-loop-left
decreases-loop-left l = l.left
