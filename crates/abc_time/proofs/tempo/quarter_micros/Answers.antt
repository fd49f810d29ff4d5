use Rattle.std.proofs.Common.{◌≡◌}
use Rattle.abc_time.specs.Tempo.{quarter_of, quarter_micros_of}
use Rattle.abc_time.proofs.Tempos.{laws}
use Rattle.abc_time.proofs.tempo.quarter_micros.Goals as goal

pub returns : goal.returns
unfolding quarter_of
returns c =
    let e : c.in_tempo_event.result ≡ quarter_micros_of c.args.beat c.args.per_minute = cc in
    let l = laws c.args.beat c.args.per_minute c.in_tempo_event.result e c.requires.beat.num_least c.requires.some in
    record { value = e; exact = l.iff; some = l.some; none = l.none }
