use Rattle.abc_live_text.specs.Row.{new_row}
use Rattle.abc_live_text.proofs.ScanCounts.{rows_next, scanning_done, scanning_more}
use Rattle.abc_live_text.proofs.row.read_rows.Goals as goal

pub returns-in_err-read_line-clause-counted : goal.returns-in_err-read_line-clause-counted
returns-in_err-read_line-clause-counted g c =
    scanning_done _ _ _ _ (scanning_more _ _ _ _ _ _ c.loop-line-test.true c.loop-line.invariant.within c.read_line.ensures.counted)

pub returns-in_err-push-clause-counted : goal.returns-in_err-push-clause-counted
returns-in_err-push-clause-counted g c =
    scanning_done _ _ _ _ (scanning_more _ _ _ _ _ _ c.loop-line-test.true c.loop-line.invariant.within c.read_line.ensures.counted)

pub loop-line-preserved : goal.loop-line-preserved
loop-line-preserved g c = record {
  rows = rw (c.in_ok-push.ensures.items, c.loop-line.invariant.rows, c.in_ok-read_line.ensures.row, c.deref.ensures.value)
      (rows_next (new_row (g.C.Compiler.rules c.args.compiler.now)) c.args.lines.now c.loop-line.line-index c.line-item.result c.line-item.is c.loop-line-test.true);
  within = scanning_more _ _ _ _ _ _ c.loop-line-test.true c.loop-line.invariant.within c.read_line.ensures.counted;
}

pub returns-clause-counted : goal.returns-clause-counted
returns-clause-counted g c = scanning_done _ _ _ _ c.loop-line.invariant.within
