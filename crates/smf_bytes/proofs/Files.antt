-- The pieces of a file, one after another.
use Rattle.std.proofs.Common.{◌≡◌, ℕ, ◌+◌, length, List, [], ◌++◌, ap, ◌∙◌}
use Rattle.std.specs.Prelude.{codes}
use Rattle.std.proofs.lemmas.List.{append_assoc}
use Rattle.byteorder.specs.Endian.{big_bytes}
use Rattle.abc_time.specs.Grains.{tick_at}
use Rattle.smf_bytes.specs.declared.event.Event.{Event}
use Rattle.abc_voices_score.specs.declared.score.Score.{Score}
use Rattle.smf_bytes.specs.File.{header_chunk, voice_tracks, file_bytes}
use Rattle.smf_bytes.specs.Track.{track, conductor_events}

regroup : (out m p q r s : List ℕ) → ((((out ++ m) ++ p) ++ q) ++ r) ++ s ≡ out ++ ((m ++ p) ++ ((q ++ r) ++ s))
regroup out m p q r s = simp append_assoc

-- the header, written field by field
pub header_put : (out : List ℕ) (tracks : ℕ) → ((((out ++ codes "MThd") ++ big_bytes 4 6) ++ big_bytes 2 1) ++ big_bytes 2 tracks) ++ big_bytes 2 480 ≡ out ++ header_chunk tracks
unfolding header_chunk
header_put out tracks = regroup out (codes "MThd") (big_bytes 4 6) (big_bytes 2 1) (big_bytes 2 tracks) (big_bytes 2 480)

-- the file up to the voices, and the voices
pub opened : (score : Score) (fresh head out : List ℕ) (count tick : ℕ) (events : List Event) → fresh ≡ []
    → count ≡ length score.voices → head ≡ fresh ++ header_chunk (count + 1) → tick ≡ tick_at score.end.0
    → events ≡ conductor_events score.title score.conductor → out ≡ head ++ track tick events → out ++ voice_tracks (tick_at score.end.0) 0 score.programs score.voices ≡ file_bytes score
unfolding file_bytes
opened score fresh head out count tick events e f g h i j =
    let first : head ≡ header_chunk (length score.voices + 1) = g ∙ ap (λ l. l ++ header_chunk (count + 1)) e ∙ ap (λ n. header_chunk (n + 1)) f in
    let second : track tick events ≡ track (tick_at score.end.0) (conductor_events score.title score.conductor) =
    ap (λ t. track t events) h ∙ ap (track (tick_at score.end.0)) i in
    ap (λ l. l ++ voice_tracks (tick_at score.end.0) 0 score.programs score.voices)
    (j ∙ ap (λ l. l ++ track tick events) first ∙ ap (λ l. header_chunk (length score.voices + 1) ++ l) second)
