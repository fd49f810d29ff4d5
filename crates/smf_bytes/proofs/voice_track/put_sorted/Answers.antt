use Rattle.std.proofs.Common.{◌≡◌, ◌≤◌, arith, subst}
use Rattle.std.specs.Prelude.{OnOk}
use Rattle.abc_time.specs.Grains.{tick_at}
use Rattle.smf_bytes.specs.Order.{in_order}
use Rattle.smf_bytes.specs.Track.{tick_after, voice_events}
use Rattle.smf_bytes.proofs.Grouped.{all_follow, all_written}
use Rattle.smf_bytes.proofs.Timed.{follows_end}
use Rattle.smf_bytes.proofs.voice_track.put_sorted.Goals as goal

pub put_together-requires-clause-in_time : goal.put_together-requires-clause-in_time
put_together-requires-clause-in_time c =
    let music = c.args.music in
    all_follow c.args.music.end music.channel music.programs.now music.notes.now c.requires.within.programs.each c.requires.within.notes.each

pub overflow_sub-delta : goal.overflow_sub-delta
overflow_sub-delta c =
    let music = c.args.music in
    let events = in_order (voice_events music.channel music.programs.now music.notes.now) in
    let end = tick_at c.args.music.end.0 in
    let within : tick_after 0 events ≤ end =
    follows_end end 0 events (all_follow c.args.music.end music.channel music.programs.now music.notes.now c.requires.within.programs.each c.requires.within.notes.each) in
    omega (arith, within, c.in_ok-last.ensures.last, c.tick_of.ensures.value)

pub returns : goal.returns
returns c =
    let music = c.args.music in
    let written =
    all_written c.args.out.now c.put_together.new.out c.in_ok-last.last c.tick_of.result (tick_at c.args.music.end.0)
    (voice_events music.channel music.programs.now music.notes.now) c.in_ok-last.ensures.bytes c.in_ok-last.ensures.last c.tick_of.ensures.value in
    subst (λ l. OnOk c.put_end.result (c.put_end.new.self ≡ l)) written c.put_end.ensures
