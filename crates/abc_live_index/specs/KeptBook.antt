-- A book that is kept, and a change of it that has been prepared, as contracts see them. Not in ABC 2.1.
use Rattle.std.specs.Prelude.{List}
use Rattle.abc_lines.specs.GapList.{GapListView}
use Rattle.abc_live_index.specs.declared.output.Output.{Output}
use Rattle.abc_tune_compiler.specs.declared.fault.Fault.{Fault}
use Rattle.abc_tune_compiler.specs.declared.report.Report.{Report}

-- The output of each tune, and the faults in order. The files and the titles are those of the outputs.
pub record KeptBookView : Type 0 where
  pub outputs : GapListView Output
  pub faults : List Fault

abbrev pub kept_book_view : GapListView Output → List Fault → KeptBookView
kept_book_view outputs faults = record { outputs = outputs; faults = faults }

-- A book before a change, what its tunes and faults are after it, and how its files differ.
pub record BookPatchView : Type 0 where
  pub on : KeptBookView
  pub outputs : List Output
  pub faults : List Fault
  pub report : Report

abbrev pub book_patch_view : KeptBookView → List Output → List Fault → Report → BookPatchView
book_patch_view on outputs faults report = record { on = on; outputs = outputs; faults = faults; report = report }
