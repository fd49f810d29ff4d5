use Rattle.std.proofs.Common.{◌≡◌, ◌-◌, length, map, take}
use Rattle.abc_lines.specs.Text.{lines_of}
use Rattle.abc_live_text.specs.Row.{new_row}
use Rattle.abc_live_text.proofs.ScanCounts.{IsScanning}
use Rattle.abc_live_text.proofs.row.read_rows.Given as goal

abbrev pub invariant-loop-line : goal.invariant-loop-line
invariant-loop-line g l = record {
  rows : l.rows.items ≡ map (new_row (g.C.Compiler.rules l.compiler)) (lines_of (take l.line-index l.lines));
  within : IsScanning (g.C.Work.Counts.counts l.initial.work) (g.C.Work.Counts.counts l.work) (length l.lines - l.line-index) (length l.lines);
}
