use Rattle.std.proofs.Common.{◌-◌, ◌+◌, ◌++◌, take, drop, All, sym, ap, subst, ◌∙◌, arith}
use Rattle.abc_voices_sections.specs.ItemRuns.{runs_of, items_in, AreAllPlayed, IsRun}
use Rattle.abc_voices_sections.proofs.ItemRuns.{mark_alone, lone_run, mark_more, turn_more, no_turn, each_more}
use Rattle.abc_voices_sections.proofs.item_runs.item_runs.Goals as goal
use Rattle.abc_voices_sections.proofs.item_runs.item_runs.Goals.{then-not-is_played+in_ok-push_run+in_ok-push, else-not-is_played}

pub loop-at-preserved : goal.loop-at-preserved
loop-at-preserved g c =
    let item_of = g.T.AsItem.item_of in
    let part = c.args.part.now in
    let x = c.index-part-at.result in
    elim c.if-not-is_played.branch [
      | then-not-is_played+in_ok-push_run+in_ok-push w ↦
          let single_run = mark_alone part c.loop-at.at x c.loop-at-test.true c.index-part-at.is in
          let whole = mark_more part c.loop-at.found.items w.push_run.new.found.items w.push.new.self.items _ c.loop-at.begin
          c.loop-at.at x c.loop-at.invariant.inside c.loop-at-test.true c.index-part-at.is c.loop-at.invariant.whole w.in_ok-push_run.ensures.whole w.in_ok-push.ensures.items single_run in
          let each = each_more item_of w.push_run.new.found.items w.push.new.self.items _ w.in_ok-push.ensures.items
          (lone_run item_of w.mark_of.result _ x w.mark_of.ensures single_run) (w.in_ok-push_run.ensures.each c.loop-at.invariant.each) in
          record {
            inside = omega (arith, w.begin-is);
            whole = ap (λ found. items_in (runs_of found.items) ++ drop c.if-not-is_played.begin part) w.found-is
                ∙ ap (λ begin. items_in (runs_of w.push.new.self.items) ++ drop begin part) w.begin-is ∙ whole;
            each = subst (λ found. All (IsRun item_of) (runs_of found.items)) (sym w.found-is) each;
            turns = subst (λ begin. AreAllPlayed item_of (take (c.loop-at.at + 1 - begin) (drop begin part))) (sym w.begin-is) (no_turn item_of part (c.loop-at.at + 1));
          }
      | else-not-is_played w ↦
          let turns = turn_more item_of part c.loop-at.begin c.loop-at.at x c.loop-at.invariant.inside c.loop-at-test.true
          c.index-part-at.is (sym c.is_played.ensures ∙ w.if-not-is_played.false) c.loop-at.invariant.turns in
          record {
            inside = omega (arith, w.begin-is, c.loop-at.invariant.inside);
            whole = ap (λ found. items_in (runs_of found.items) ++ drop c.if-not-is_played.begin part) w.found-is
                ∙ ap (λ begin. items_in (runs_of c.loop-at.found.items) ++ drop begin part) w.begin-is ∙ c.loop-at.invariant.whole;
            each = subst (λ found. All (IsRun item_of) (runs_of found.items)) (sym w.found-is) c.loop-at.invariant.each;
            turns = subst (λ begin. AreAllPlayed item_of (take (c.loop-at.at + 1 - begin) (drop begin part))) (sym w.begin-is) turns;
          }
    ]
