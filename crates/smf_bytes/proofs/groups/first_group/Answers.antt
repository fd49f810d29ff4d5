use Rattle.std.proofs.Common.{◌≡◌, ◌-◌, arith, get_or, max}
use Rattle.abc_voices_score.specs.declared.score.Sounding.{Sounding}
use Rattle.smf_bytes.proofs.Grouped.{group_more, turn_front}
use Rattle.smf_bytes.proofs.groups.first_group.Goals as goal

abbrev none : Sounding
none = record { on = record { 0 = 0 }; off = record { 0 = 0 }; key = 0; velocity = 0 }

pub loop-start-preserved : goal.loop-start-preserved
loop-start-preserved c =
    let start = c.loop-start.start in
    let inside = c.loop-start.invariant.inside in
    let end : c.max-end.result ≡ max c.loop-start.end (get_or c.args.notes.now (start - 1) none).off.0 = c.max-end.ensures in
    record {
      inside = omega arith;
      ends = group_more c.args.notes.now start (start - 1) c.loop-start.end c.max-end.result none (omega arith) (omega arith) (omega (arith, end)) (omega (arith, end))
          c.loop-start.invariant.ends;
    }

pub returns-else-notes-start-clause-begins : goal.returns-else-notes-start-clause-begins
returns-else-notes-start-clause-begins c =
    let inside = c.loop-start.invariant.inside in
    turn_front c.args.notes.now c.loop-start.start none c.loop-start.end c.requires.turn (omega arith) (omega arith) c.if-notes-start.false
