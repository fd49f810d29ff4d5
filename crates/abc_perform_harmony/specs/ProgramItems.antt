-- The programs of the accompaniment. The directives are those of abc2midi.
use Rattle.std.specs.Prelude.{ℕ, false, Option, Some, None, List, [], ◌∷◌, ◌++◌}
use Rattle.abc_bars_items.specs.declared.item.Item.TheVariants as items
use Rattle.abc_perform_item.specs.declared.performed.Performed.{Performed}
use Rattle.abc_perform_item.specs.declared.performed.Source.TheVariants as sources
use Rattle.abc_perform_harmony.specs.declared.harmony_mark.HarmonyMark.{HarmonyMark}
use Rattle.abc_perform_harmony.specs.declared.harmony_mark.HarmonyMark.TheVariants as marks
use Rattle.abc_perform_harmony.specs.declared.harmony_mark.Part.{Part}
use Rattle.abc_perform_harmony.specs.declared.harmony_mark.Part.TheVariants as parts
use Rattle.abc_perform_harmony.specs.declared.harmony_mark.TimedMark.{TimedMark}

-- The program that a mark sets for a voice of the accompaniment.
abbrev pub program_in : Part → HarmonyMark → Option ℕ
program_in parts.Chords (marks.ChordProgram program) = Some program
program_in parts.Bass (marks.BassProgram program) = Some program
program_in _ _ = None

-- A program as an item.
abbrev pub program_item : ℕ → Performed
program_item program = record { item = items.Program false (Some program); source = sources.Nothing }

abbrev pub programs : Option ℕ → List Performed
programs (Some program) = program_item program ∷ []
programs None = []

-- The programs that marks set for a voice of the accompaniment, in order.
abbrev pub program_items : Part → List TimedMark → List Performed
program_items part [] = []
program_items part (timed ∷ rest) = programs (program_in part timed.mark) ++ program_items part rest
