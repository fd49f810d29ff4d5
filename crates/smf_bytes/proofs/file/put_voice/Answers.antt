use Rattle.std.proofs.Common.{◌≡◌, ℕ, ◌<◌, ◌++◌, ◌^◌, List, length, arith, subst, sym}
use Rattle.std.specs.Prelude.{OnOk}
use Rattle.std.proofs.lemmas.Grind.{common_steps}
use Rattle.abc_voices_score.specs.Limits.{AreProgramsWithin, IsVoiceWithin}
use Rattle.smf_bytes.specs.declared.event.Event.{Event}
use Rattle.smf_bytes.specs.Track.{track, track_body, voice_events}
use Rattle.smf_bytes.proofs.Lengths.{voice_length}
use Rattle.smf_bytes.proofs.file.put_voice.Goals as goal

pub put_track-requires-clause-within : goal.put_track-requires-clause-within
put_track-requires-clause-within c = (
  record {
    end = c.requires.end;
    channel = grind (arith, common_steps);
    programs = subst (AreProgramsWithin c.args.end) (sym c.as_slice-programs.ensures) c.requires.programs;
    notes = subst (IsVoiceWithin c.args.end) (sym c.as_slice-notes.ensures) c.requires.notes;
  },
  c.tick_of.ensures.value,
)

pub put_track-requires-clause-length : goal.put_track-requires-clause-length
put_track-requires-clause-length c =
    let channel = c.channel-channel.result in
    subst (λ (events : List Event). length (track_body c.tick_of.result events) < 2 ^ 32)
    (λ i. voice_events channel (sym c.as_slice-programs.ensures i) (sym c.as_slice-notes.ensures i))
    (voice_length c.tick_of.result channel c.args.programs.now c.args.notes.now c.requires.programs.count c.requires.notes.count)

pub returns : goal.returns
returns c =
    subst (λ (t : List ℕ). OnOk c.put_track.result (c.put_track.new.out.items ≡ c.args.out.now.items ++ t))
    (λ i. track (c.tick_of.ensures.value i) (voice_events (c.channel-channel.ensures i) (c.as_slice-programs.ensures i) (c.as_slice-notes.ensures i)))
    c.put_track.ensures
