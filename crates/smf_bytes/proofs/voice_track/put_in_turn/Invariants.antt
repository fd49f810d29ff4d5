use Rattle.std.proofs.Common.{◌≡◌, [], ◌∷◌, ◌++◌, length}
use Rattle.abc_time.specs.Grains.{tick_at}
use Rattle.abc_voices_score.specs.Limits.{IsVoiceWithin}
use Rattle.smf_bytes.specs.Event.{end_event}
use Rattle.smf_bytes.specs.Groups.{AreInTurn}
use Rattle.smf_bytes.specs.Order.{in_order}
use Rattle.smf_bytes.specs.Track.{Follows, timed_events, track_body, voice_events}
use Rattle.smf_bytes.proofs.voice_track.put_in_turn.Given as goal

-- the notes that are left
abbrev pub invariant-loop-left : goal.invariant-loop-left
invariant-loop-left l =
    record {
      notes : IsVoiceWithin l.fn.music.end l.left;
      turn : AreInTurn l.left;
      follows : Follows (tick_at l.fn.music.end.0) l.before (in_order (voice_events l.fn.music.channel [] l.left));
      written : l.out ++ timed_events l.before (in_order (voice_events l.fn.music.channel [] l.left) ++ end_event (tick_at l.fn.music.end.0) ∷ [])
          ≡ l.fn.out ++ track_body (tick_at l.fn.music.end.0) (voice_events l.fn.music.channel l.fn.music.programs.now l.fn.music.notes.now);
    }

abbrev pub decreases-loop-left : goal.decreases-loop-left
decreases-loop-left l = length l.left
