use Rattle.std.proofs.Common.{◌≡◌, ◌++◌, drop, map}
use Rattle.abc_play.specs.Play.{placed_track}
use Rattle.abc_play.proofs.entry.placed_tracks.Given as goal

-- the tracks so far, and the others
abbrev pub invariant-loop-timed : goal.invariant-loop-timed
invariant-loop-timed l = l.tracks.items ++ map (placed_track l.places) (drop l.timed-index l.voices) ≡ map (placed_track l.places) l.voices
