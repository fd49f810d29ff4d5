use Rattle.std.proofs.Common.{◌≡◌, ◌+◌, ◌-◌, ◌≤◌, length, take, drop}
use Rattle.abc_time.specs.Grains.{grains_of_the_latest_end}
use Rattle.abc_voices_sections.specs.Items.{items_of}
use Rattle.abc_voices.specs.TiedNotes.{notes_from, notes_in}
use Rattle.abc_voices_sections.specs.Play.{duration}
use Rattle.abc_voices.proofs.notes.put_notes.Given as goal

-- the notes of the items from here on
abbrev pub invariant-loop-left : goal.invariant-loop-left
invariant-loop-left l = record {
  inside : l.left ≤ length l.steps;
  in_time : l.at.0 ≤ grains_of_the_latest_end;
  moment : l.at.0 ≡ (l.fn.end.0 - duration (items_of l.steps)) + duration (items_of (take l.left l.steps));
  notes : notes_in l.notes ≡ notes_from l.at.0 (items_of (drop l.left l.steps)) (notes_in l.initial.notes);
}

abbrev pub decreases-loop-left : goal.decreases-loop-left
decreases-loop-left l = l.left
