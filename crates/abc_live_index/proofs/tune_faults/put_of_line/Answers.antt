use Rattle.std.proofs.Common.{◌+◌, ◌-◌, ◌++◌, drop, length, map, take, sym, ◌∙◌, ap}
use Rattle.abc_tune_compiler.specs.Placed.{placed_at}
use Rattle.abc_tune_compiler.specs.Tune.{fault_in, faults_along}
use Rattle.abc_live_index.proofs.Fronts.{front_both}
use Rattle.abc_live_index.proofs.OutputLists.{line_on, never_none, put_more, shorter}
use Rattle.abc_live_index.proofs.tune_faults.put_of_line.Goals.{in_default, in-Some+in_ok-put_of_cell}
use Rattle.abc_live_index.proofs.tune_faults.put_of_line.Goals as goal

pub loop-i-preserved : goal.loop-i-preserved
loop-i-preserved g c =
    elim c.match-items.branch [
      | in-Some+in_ok-put_of_cell w ↦
          let rf = (g.C.Compiler.rules c.args.compiler.now).faults in
          let split = line_on rf c.args.chain.now.items c.args.line c.loop-i.i c.args.to w.in-Some.items.now c.loop-i-test.true (sym w.in-Some.ensures) in
          let put = w.in_ok-put_of_cell.ensures.ok ∙ ap (λ found. c.loop-i.faults.items ++ map (fault_in c.args.line) found) w.faults.ensures in
          record {
            put =
                ap (λ faults. faults.items ++ faults_along rf (map (placed_at c.args.line) (take (c.args.to - (c.loop-i.i + 1)) (drop (c.loop-i.i + 1) c.args.chain.now.items)))) w.faults-is
                ∙ put_more c.loop-i.faults.items _ _ _ _ _ put split c.loop-i.invariant.put;
            front =
                ap (λ faults. take (length c.args.faults.now.items) faults.items) w.faults-is
                ∙ front_both c.args.faults.now.items c.loop-i.faults.items w.put_of_cell.new.faults.items c.loop-i.invariant.front w.in_ok-put_of_cell.ensures.front;
          }
      | in_default w ↦ never_none c.args.chain.now.items c.loop-i.i (shorter c.loop-i.i c.args.to _ c.loop-i-test.true c.requires.inside) (sym w.in_default.ensures)
    ]
