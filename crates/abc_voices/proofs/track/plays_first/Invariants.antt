use Rattle.std.proofs.Common.{◌≡◌, drop}
use Rattle.abc_voices_sections.specs.Items.{items_of}
use Rattle.abc_voices.specs.Track.{plays_first}
use Rattle.abc_voices.proofs.track.plays_first.Given as goal

-- the rest says what the whole does
abbrev pub invariant-loop-item : goal.invariant-loop-item
invariant-loop-item l = plays_first (items_of (drop l.item-index l.tune)) ≡ plays_first (items_of l.tune)
