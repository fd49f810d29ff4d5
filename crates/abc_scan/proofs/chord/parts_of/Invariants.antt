use Rattle.std.proofs.Common.{◌≡◌, ◌++◌, ◌≤◌, ◌+◌, ◌-◌, drop, length, false}
use Rattle.abc_scan.specs.Chord.{part_reader, parts_of}
use Rattle.abc_scan.specs.KnownAbsent.{IsKnownAbsent}
use Rattle.abc_scan.specs.Cutting.{cutting_from}
use Rattle.abc_scan.proofs.chord.parts_of.Given as goal

-- the parts so far, and those of the rest
abbrev pub invariant-loop-at : goal.invariant-loop-at
invariant-loop-at l = record {
  inside : l.at ≤ length l.text;
  known : IsKnownAbsent l.absent (drop l.at l.text);
  cut : l.parts.items ++ cutting_from part_reader false (1 + l.at) 0 (drop l.at l.text) ≡ parts_of l.text;
}

abbrev pub decreases-loop-at : goal.decreases-loop-at
decreases-loop-at l = length l.text - l.at
