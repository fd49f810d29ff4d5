-- The program's answers to commands. Not in ABC 2.1.
use Rattle.std.specs.Prelude.{ℕ, List, ◌∷◌, ◌++◌, codes, decimal, flat_map, Option, Some, None}
use Rattle.hex.specs.Hex.{encode_upper}
use Rattle.abc_text.specs.Byte.{space}
use Rattle.abc_lines.specs.EditError.{name_of}
use Rattle.abc_fields.specs.Fault as fault_codes
use Rattle.abc_lines.specs.declared.edit_error.EditError.{EditError}
use Rattle.abc_tune_compiler.specs.Files.{Files, written_numbers, removed_numbers}
use Rattle.abc_tune_compiler.specs.declared.fault.Fault.{Fault}
use Rattle.abc_tune_compiler.specs.declared.title.Title.{Title}

-- Numbers, each with a space before it.
unfoldable pub number_list : List ℕ → List ℕ
number_list numbers = flat_map (λ n. space ∷ decimal n) numbers

-- An accepted edit: the numbers whose files it wrote and removed.
unfoldable pub report_line : List ℕ → List ℕ → List ℕ
report_line written removed = codes "ok written" ++ number_list written ++ codes " removed" ++ number_list removed ++ codes "\n"

-- The report of an edit between the files before it and those after it.
abbrev pub report : Files → Files → List ℕ
report before after = report_line (written_numbers before after) (removed_numbers before after)

-- A refused edit.
unfoldable pub refusal : EditError → List ℕ
refusal error = codes "error " ++ name_of error ++ codes "\n"

-- A fault: its line, its column and its name.
unfoldable pub fault_line : Fault → List ℕ
fault_line fault = decimal fault.line ++ codes ":" ++ decimal fault.column ++ codes " " ++ fault_codes.name_of fault.code
    ++ codes "\n"

-- A line for each fault, and the end of the list.
unfoldable pub fault_list : List Fault → List ℕ
fault_list faults = flat_map fault_line faults ++ codes "end\n"

-- A tune: its number and its title.
unfoldable pub title_line : Title → List ℕ
title_line title = decimal title.number ++ codes " " ++ title.text ++ codes "\n"

-- A line for each tune, and the end of the list.
unfoldable pub title_list : List Title → List ℕ
title_list titles = flat_map title_line titles ++ codes "end\n"

-- The end of a list.
unfoldable pub end_line : List ℕ
end_line = codes "end\n"

-- A file that was written, or removed.
unfoldable pub stored_line : ℕ → Option (List ℕ) → List ℕ
stored_line number None = codes "removed " ++ decimal number ++ codes ".mid\n"
stored_line number (Some bytes) = codes "written " ++ decimal number ++ codes ".mid\n"

-- A file that could not be written, or removed.
unfoldable pub failed_line : ℕ → List ℕ
failed_line number = codes "failed " ++ decimal number ++ codes ".mid\n"

-- The file of a number in upper-case hexadecimal.
unfoldable pub hex_line : Option (List ℕ) → List ℕ
hex_line None = codes "none\n"
hex_line (Some bytes) = encode_upper bytes ++ codes "\n"

-- A line that is no command.
unfoldable pub unknown_line : List ℕ
unknown_line = codes "error command\n"

-- The end of the input inside the lines of a command.
unfoldable pub truncated_line : List ℕ
truncated_line = codes "error truncated\n"
