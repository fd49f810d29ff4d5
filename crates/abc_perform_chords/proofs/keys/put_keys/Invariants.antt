use Rattle.std.proofs.Common.{◌≡◌, ◌++◌, drop}
use Rattle.abc_perform_chords.specs.Keys.{note_keys}
use Rattle.abc_perform_chords.proofs.keys.put_keys.Given as goal

abbrev pub invariant-loop-above : goal.invariant-loop-above
invariant-loop-above l =
    l.keys.items ++ note_keys l.key l.by (drop l.above-index l.notes) ≡ l.initial.keys.items ++ note_keys l.key l.by l.notes
