-- The file of a score (SMF 1.0).
use Rattle.std.specs.Prelude.{ℕ, ◌+◌, List, [], ◌∷◌, ◌++◌, length, codes}
use Rattle.byteorder.specs.Endian.{big_bytes}
use Rattle.abc_time.specs.Grains.{tick_at}
use Rattle.abc_voices_score.specs.declared.score.ProgramChange.{ProgramChange}
use Rattle.abc_voices_score.specs.declared.score.Score.{Score}
use Rattle.abc_voices_score.specs.declared.score.Sounding.{Sounding}
use Rattle.smf_bytes.specs.Track.{chunk, track, conductor_events, voice_events, channel_of}

-- The header, a chunk of the type MThd (SMF 1.0): format 1, the count of tracks, 480 ticks to a quarter note. The choice of
-- format and division is not in ABC 2.1.
unfoldable pub header_chunk : ℕ → List ℕ
header_chunk tracks = chunk (codes "MThd") (big_bytes 2 1 ++ big_bytes 2 tracks ++ big_bytes 2 480)

-- A track for each voice, the first of them at the index `place`, with the programs at the same index of their list. Both
-- lists have one length.
abbrev pub voice_tracks : ℕ → ℕ → List (List ProgramChange) → List (List Sounding) → List ℕ
voice_tracks end place (changes ∷ programs) (notes ∷ voices) =
    track end (voice_events (channel_of place) changes notes) ++ voice_tracks end (place + 1) programs voices
voice_tracks end place _ _ = []

-- A file is its chunks one after another: the header, the conductor's track, the voices' tracks. All
-- tracks end with the tune.
unfoldable pub file_bytes : Score → List ℕ
file_bytes score =
    header_chunk (length score.voices + 1)
    ++ track (tick_at score.end.0) (conductor_events score.title score.conductor)
    ++ voice_tracks (tick_at score.end.0) 0 score.programs score.voices
