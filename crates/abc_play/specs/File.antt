-- The play of a number is its file. Not in ABC 2.1.
use Rattle.std.specs.Prelude.{◌≡◌, ℕ, List, map, Option, Some}
use Rattle.abc_play_tune.specs.Sounds.{Lasting, Sound, sounds_of}
use Rattle.abc_time.specs.Grains.{tick_at}
use Rattle.abc_voices_score.specs.declared.score.Score.{Score}
use Rattle.abc_voices_score.specs.declared.score.Sounding.{Sounding}
use Rattle.smf_bytes.specs.File.{file_bytes}
use Rattle.abc_play.specs.declared.entry.PlayedEntry.{PlayedEntry}

-- An entry without its place in the text.
abbrev pub lasting : PlayedEntry → Lasting
lasting entry = record { on = entry.on; off = entry.off; kind = entry.kind }

-- A note of a score in ticks, as its file has it.
abbrev pub in_ticks : Sounding → Sound
in_ticks note = record { on = tick_at note.on.0; off = tick_at note.off.0; key = note.key; velocity = note.velocity }

-- Tracks of entries play this file: it is that of a score, and the notes of each voice are the sounds of the entries of its
-- track, at the same ticks. A note that begins and ends at one tick is not written (`smf_bytes`).
pub record PlaysFile (file : Option (List ℕ)) (tracks : List (List PlayedEntry)) : Type 0 where
  pub score : Score
  pub bytes : file ≡ Some (file_bytes score)
  pub sounds : map (map in_ticks) score.voices ≡ map (λ entries. sounds_of (map lasting entries)) tracks
