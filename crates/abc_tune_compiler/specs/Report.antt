-- The difference between the files of two books. Not in ABC 2.1.
use Rattle.std.specs.Prelude.{◌≡◌, ◌↔◌, ℕ, Contains}
use Rattle.std.specs.List.Sorted.{IsStrictlyIncreasing}
use Rattle.abc_tune_compiler.specs.Files.{Files, written_numbers, removed_numbers, HasNewFile, HasLostFile}
use Rattle.abc_tune_compiler.specs.declared.report.Report.{Report}

-- The numbers whose files are new or have other bytes, and those that have lost their file, each list rising.
pub record Reports (before after : Files) (report : Report) : Type 0 where
  pub writes : report.written.items ≡ written_numbers before after
  pub removes : report.removed.items ≡ removed_numbers before after
  pub new : (n : ℕ) → Contains report.written.items n ↔ HasNewFile before after n
  pub lost : (n : ℕ) → Contains report.removed.items n ↔ HasLostFile before after n
  pub writes_rise : IsStrictlyIncreasing report.written.items
  pub removes_rise : IsStrictlyIncreasing report.removed.items
