use Rattle.std.proofs.Common.{◌≡◌, List, ◌++◌, arith, subst, sym}
use Rattle.std.specs.Prelude.{IfOk, OnOk}
use Rattle.abc_time.specs.Grains.{tick_at}
use Rattle.abc_voices_score.specs.declared.score.Sounding.{Sounding}
use Rattle.smf_bytes.specs.declared.event.Event.{Event}
use Rattle.smf_bytes.specs.Track.{Follows, tick_after, timed_events}
use Rattle.smf_bytes.proofs.Grouped.{alone}
use Rattle.smf_bytes.proofs.voice_track.put_group.Goals as goal

abbrev none : Sounding
none = record { on = record { 0 = 0 }; off = record { 0 = 0 }; key = 0; velocity = 0 }

pub put_sounding-requires-clause-in_time : goal.put_sounding-requires-clause-in_time
put_sounding-requires-clause-in_time c =
    let same = alone c.args.channel c.args.end c.args.notes.now none (omega (arith, c.in-len1.len_at_least, c.in-len1.len_below)) c.requires.notes.each in
    subst (Follows (tick_at c.args.end.0) c.args.before) same c.requires.in_time

pub returns-in-len1-clause-bytes : goal.returns-in-len1-clause-bytes
returns-in-len1-clause-bytes c =
    let same = alone c.args.channel c.args.end c.args.notes.now none (omega (arith, c.in-len1.len_at_least, c.in-len1.len_below)) c.requires.notes.each in
    subst (λ (l : List Event). OnOk c.put_sounding.result (c.put_sounding.new.out ≡ c.args.out.now ++ timed_events c.args.before l))
    (sym same) c.put_sounding.ensures.bytes

pub returns-in-len1-clause-last : goal.returns-in-len1-clause-last
returns-in-len1-clause-last c =
    let same = alone c.args.channel c.args.end c.args.notes.now none (omega (arith, c.in-len1.len_at_least, c.in-len1.len_below)) c.requires.notes.each in
    subst (λ (l : List Event). IfOk c.put_sounding.result (λ last. last ≡ tick_after c.args.before l)) (sym same) c.put_sounding.ensures.last
