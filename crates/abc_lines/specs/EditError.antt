-- How a refused edit is named.
use Rattle.std.specs.Prelude.{ℕ, List, codes}
use Rattle.abc_lines.specs.declared.edit_error.EditError.{EditError}
use Rattle.abc_lines.specs.declared.edit_error.EditError.TheVariants.{BadRange, BadLine, TooLarge, OutOfMemory}

-- The word that an answer has for a refusal. Not in ABC 2.1.
abbrev pub name_of : EditError → List ℕ
name_of BadRange = codes "BadRange"
name_of BadLine = codes "BadLine"
name_of TooLarge = codes "TooLarge"
name_of OutOfMemory = codes "OutOfMemory"
