use Rattle.std.proofs.Common.{◌≡◌, ◌++◌, drop}
use Rattle.abc_time.specs.Grains.{tick_at}
use Rattle.smf_bytes.specs.File.{voice_tracks, file_bytes}
use Rattle.smf_bytes.proofs.file.file_of.Given as goal

abbrev pub invariant-loop-place : goal.invariant-loop-place
invariant-loop-place l =
    l.file.items ++ voice_tracks (tick_at l.score.end.0) l.place (drop l.place l.score.programs) (drop l.place l.score.voices) ≡ file_bytes l.score
