use Rattle.abc_bars_notes.proofs.ChordLoop.{IsBuiltSoFar}
use Rattle.abc_bars_notes.proofs.chords.chord_builder_of.Given as goal

abbrev pub invariant-loop-at : goal.invariant-loop-at
invariant-loop-at l = IsBuiltSoFar l.state l.broken l.chord_context l.parts l.at l.builder
