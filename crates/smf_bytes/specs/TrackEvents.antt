-- The events of a track before they are written.
use Rattle.std.specs.Prelude.{◌≡◌, ℕ, ◌≤◌, ◌<◌, ◌==◌, ◌&&◌, Bool, List, length, All}
use Rattle.abc_time.specs.Grains.{grains_of_the_latest_end, tick_at}
use Rattle.abc_voices_score.specs.Limits.{AreProgramsWithin, IsVoiceWithin}
use Rattle.smf_bytes.specs.declared.event.Event.{Event}
use Rattle.smf_bytes.specs.declared.track.TrackEvents.{TrackEvents}
use Rattle.smf_bytes.specs.declared.track.TrackEvents.TheVariants.{Conductor, Voice}
use Rattle.smf_bytes.specs.declared.voice_track.VoiceMusic.{VoiceMusic}
use Rattle.smf_bytes.specs.Groups.{are_in_turn}
use Rattle.smf_bytes.specs.Track.{voice_events}

-- The events of the music of a voice, in any order.
abbrev pub music_events : VoiceMusic → List Event
music_events music = voice_events music.channel music.programs.now music.notes.now

-- Whether music has no programs, and its notes begin one after another.
abbrev pub is_plain : VoiceMusic → Bool
is_plain music = (length music.programs.now == 0) && are_in_turn music.notes.now

-- The events of a track, in any order.
abbrev pub events_in : TrackEvents → List Event
events_in (Conductor events) = events.items
events_in (Voice music) = music_events music

-- Music on one of the sixteen channels, within the limits of its tune.
pub record IsMusicWithin (music : VoiceMusic) : Type 0 where
  pub end : music.end.0 ≤ grains_of_the_latest_end
  pub channel : music.channel < 16
  pub programs : AreProgramsWithin music.end music.programs.now
  pub notes : IsVoiceWithin music.end music.notes.now

-- The events of a track that ends at the tick `end`.
abbrev pub AreEventsWithin : ℕ → TrackEvents → Type 0
AreEventsWithin end (Conductor events) = All (λ event. event.tick ≤ end) events.items
AreEventsWithin end (Voice music) = IsMusicWithin music × (end ≡ tick_at music.end.0)
