-- The index that changes by differences is that of the whole text. Not in ABC 2.1.
use Rattle.std.specs.Prelude.{◌≡◌, ℕ, ◌+◌, ◌<◌, ◌≤◌, List, [], ◌++◌, map, All}
use Rattle.std.specs.List.{AllZip}
use Rattle.abc_lines.specs.ItemRange.{removed_count}
use Rattle.abc_lines.specs.declared.item_range.Replacement.{Replacement}
use Rattle.abc_live_index.specs.Faults.{shifted_fault, faults_after}
use Rattle.abc_live_index.specs.Outputs.{files_of, titles_of}
use Rattle.abc_live_index.specs.Tunes.{OutputAgrees}
use Rattle.abc_live_index.specs.declared.output.Output.{Output}
use Rattle.abc_tune_compiler.specs.Book.{title_of}
use Rattle.abc_tune_compiler.specs.Fault.{fault_cmp}
use Rattle.abc_tune_compiler.specs.Files.{files_from}
use Rattle.abc_tune_compiler.specs.Sort.{sort_dedup}
use Rattle.abc_tune_compiler.specs.declared.fault.Fault.{Fault}
use Rattle.abc_tune_compiler.specs.Tune.{Tune}

-- The files of tunes are those of their outputs.
abbrev pub FilesFollow : Type 0
FilesFollow = (outputs : List Output) (tunes : List Tune) → AllZip OutputAgrees outputs tunes
    → files_of outputs ≡ files_from [] tunes

-- The titles of tunes are those of their outputs.
abbrev pub TitlesFollow : Type 0
TitlesFollow = (outputs : List Output) (tunes : List Tune) → AllZip OutputAgrees outputs tunes
    → titles_of outputs ≡ map title_of tunes

-- A fault is in one of the first `from` lines.
abbrev pub FaultBefore : ℕ → Fault → Type 0
FaultBefore from fault = fault.line ≤ from

-- A fault is in one of `count` lines after the first `from`.
abbrev pub FaultAmong : ℕ → ℕ → Fault → Type 0
FaultAmong from count fault = (from < fault.line) × (fault.line ≤ from + count)

-- A fault is after the first `to` lines.
abbrev pub FaultAfter : ℕ → Fault → Type 0
FaultAfter to fault = to < fault.line

-- The faults of a text, with those of a stretch replaced, are those of the text with the stretch replaced.
abbrev pub FaultsMeet : Type 0
FaultsMeet =
    (lines : Replacement) (before old following new : List Fault)
    → All (FaultBefore lines.from) before → All (FaultAmong lines.from (removed_count lines)) old
    → All (FaultAfter (lines.from + removed_count lines)) following → All (FaultAmong lines.from lines.came) new
    → faults_after lines (sort_dedup fault_cmp (before ++ (old ++ following))) new
    ≡ sort_dedup fault_cmp (before ++ (new ++ map (shifted_fault (removed_count lines) lines.came) following))
