use Rattle.std.proofs.Common.{◌++◌}
use Rattle.std.specs.Prelude.{All, IsPermutation}
use Rattle.abc_voices_score.specs.Limits.{IsSoundingWithin}
use Rattle.smf_bytes.specs.Voice.{all_ends, all_of}
use Rattle.smf_bytes.proofs.voice.events_of_voice.Given as goal

-- the events so far and those of the notes that are left
abbrev pub invariant-loop-note : goal.invariant-loop-note
invariant-loop-note l = record {
  within : All (IsSoundingWithin l.end) l.note-iterator.iter.rest.now;
  events : IsPermutation (all_of l.programs l.notes) (l.events.items ++ all_ends l.note-iterator.iter.rest.now);
}
