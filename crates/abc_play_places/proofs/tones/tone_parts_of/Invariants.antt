use Rattle.std.proofs.Common.{◌≡◌, ◌++◌, drop, length}
use Rattle.abc_play_places.specs.ToneGivers.{tone_parts}
use Rattle.abc_play_places.proofs.tones.tone_parts_of.Given as goal

-- the parts so far, and those of the rest
abbrev pub invariant-loop-at : goal.invariant-loop-at
invariant-loop-at l = l.found.items ++ tone_parts l.at (length l.found.items) (drop l.at l.parts) ≡ tone_parts 0 0 l.parts
