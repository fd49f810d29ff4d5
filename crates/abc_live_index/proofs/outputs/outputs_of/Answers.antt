use Rattle.std.proofs.Common.{None, Some, sym, ap, ◌∙◌, arith}
use Rattle.std.proofs.lemmas.Option.{slice_get_within}
use Rattle.abc_live_index.specs.Output.{ReusesOutput, output_in}
use Rattle.abc_live_index.proofs.BuildCounts.{built_asked, built_last, built_next, built_none, built_shared}
use Rattle.abc_live_index.proofs.Keys.{taken_there}
use Rattle.abc_live_index.proofs.OutputLists.{made_all, made_more, zipped_count}
use Rattle.abc_live_index.proofs.OutputReuse.{mapped_at}
use Rattle.abc_live_index.proofs.outputs.outputs_of.Goals.{in-Some+in_ok-output-in-Some, in-None+in_ok-output-in-None}
use Rattle.abc_live_index.proofs.outputs.outputs_of.Goals as goal

pub returns-in_err-outputs-clause-counted : goal.returns-in_err-outputs-clause-counted
returns-in_err-outputs-clause-counted g c = built_none _ _

pub shared_at-requires : goal.shared_at-requires
shared_at-requires g c =
    let there = taken_there
    (g.C.Compiler.rules
    c.args.compiler.now) c.args.old.now.outputs.now.items c.args.stretch.now.chains.now c.args.old.now.reused_tunes.now
    c.loop-place.place None c.in-Some.other c.requires.reused_tunes c.loop-place-test.true c.in-Some.is in
    slice_get_within c.args.old.now.outputs.now.items c.in-Some.other _ there.2

pub returns-in_err-output-in-Some-clause-counted : goal.returns-in_err-output-in-Some-clause-counted
returns-in_err-output-in-Some-clause-counted g c = c.loop-place.invariant.built _ (built_none _ _)

pub output_at-requires-clause-place : goal.output_at-requires-clause-place
output_at-requires-clause-place g c =
    let count = zipped_count (ReusesOutput
    (g.C.Compiler.rules c.args.compiler.now) c.args.old.now.outputs.now.items) c.args.stretch.now.chains.now c.args.old.now.reused_tunes.now c.requires.reused_tunes in
    omega (arith, count, c.loop-place-test.true)

pub returns-in_err-output-in-None-clause-counted : goal.returns-in_err-output-in-None-clause-counted
returns-in_err-output-in-None-clause-counted g c =
    built_last _ _ _ _ c.loop-place.place None c.loop-place-test.true c.loop-place.invariant.built (built_asked _ c.in-None.is _ _ c.output_at.ensures.counted)

pub returns-in_err-push-clause-remembers : goal.returns-in_err-push-clause-remembers
returns-in_err-push-clause-remembers g c =
    elim c.match-reused_tunes.branch [
      | in-Some+in_ok-output-in-Some w ↦ rw (w.memo-is) c.loop-place.invariant.remembers
      | in-None+in_ok-output-in-None w ↦ rw (w.memo-is) w.output_at.ensures.remembers
    ]

pub returns-in_err-push-clause-counted : goal.returns-in_err-push-clause-counted
returns-in_err-push-clause-counted g c =
    elim c.match-reused_tunes.branch [
      | in-Some+in_ok-output-in-Some w ↦
          built_last _ _ _ _ c.loop-place.place None c.loop-place-test.true c.loop-place.invariant.built (built_shared _ _ w.in-Some.is _ _ (ap g.C.Work.Counts.counts w.work-is))
      | in-None+in_ok-output-in-None w ↦
          rw (w.work-is) (built_last _ _ _ _ c.loop-place.place None c.loop-place-test.true c.loop-place.invariant.built (built_asked _ w.in-None.is _ _ w.output_at.ensures.counted))
    ]

pub loop-place-preserved : goal.loop-place-preserved
loop-place-preserved g c =
    let f = output_in (g.C.Compiler.rules c.args.compiler.now) in
    let chains = c.args.stretch.now.chains.now in
    record {
      values = made_more f chains c.loop-place.place c.match-reused_tunes.output c.loop-place.outputs.items c.push.new.self.items
          (elim c.match-reused_tunes.branch [
            | in-Some+in_ok-output-in-Some w ↦
                let there = taken_there
                (g.C.Compiler.rules
                c.args.compiler.now) c.args.old.now.outputs.now.items chains c.args.old.now.reused_tunes.now
                c.loop-place.place None w.in-Some.other c.requires.reused_tunes c.loop-place-test.true w.in-Some.is in
                mapped_at f chains c.loop-place.place there.0 there.1 ∙ sym there.2 ∙ w.in_ok-output-in-Some.ensures ∙ ap Some (sym w.output-is)
            | in-None+in_ok-output-in-None w ↦ w.in_ok-output-in-None.ensures.value ∙ ap Some (sym w.output-is)
          ])
          c.in_ok-push.ensures.items c.loop-place.invariant.values;
      remembers = elim c.match-reused_tunes.branch [
        | in-Some+in_ok-output-in-Some w ↦ rw (w.memo-is) c.loop-place.invariant.remembers
        | in-None+in_ok-output-in-None w ↦ rw (w.memo-is) w.output_at.ensures.remembers
      ];
      built = elim c.match-reused_tunes.branch [
        | in-Some+in_ok-output-in-Some w ↦
            built_next _ _ _ _ c.loop-place.place None c.loop-place-test.true c.loop-place.invariant.built (built_shared _ _ w.in-Some.is _ _ (ap g.C.Work.Counts.counts w.work-is))
        | in-None+in_ok-output-in-None w ↦
            built_next _ _ _ _ c.loop-place.place None c.loop-place-test.true c.loop-place.invariant.built (rw (w.work-is) (built_asked _ w.in-None.is _ _ w.output_at.ensures.counted))
      ];
    }

pub returns-clause-value : goal.returns-clause-value
returns-clause-value g c =
    let count = zipped_count (ReusesOutput
    (g.C.Compiler.rules c.args.compiler.now) c.args.old.now.outputs.now.items) c.args.stretch.now.chains.now c.args.old.now.reused_tunes.now c.requires.reused_tunes in
    made_all (output_in
    (g.C.Compiler.rules c.args.compiler.now)) c.args.stretch.now.chains.now c.loop-place.place c.loop-place.outputs.items (omega (arith, count, c.loop-place-test.false)) c.loop-place.invariant.values

pub returns-clause-counted : goal.returns-clause-counted
returns-clause-counted g c = c.loop-place.invariant.built _ (built_none _ _)
