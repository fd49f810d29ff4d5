-- The codes of refused edits.
use Rattle.std.specs.Prelude.{ℕ}
use Rattle.abc_lines.specs.declared.edit_error.EditError.{EditError}
use Rattle.abc_lines.specs.declared.edit_error.EditError.TheVariants.{BadRange, BadLine, TooLarge, OutOfMemory}
use Rattle.c_handle.specs.declared.codes.TheConstants.{CODE_BAD_RANGE, CODE_BAD_LINE, CODE_TOO_LARGE, CODE_OUT_OF_MEMORY}

abbrev pub code_of : EditError → ℕ
code_of BadRange = CODE_BAD_RANGE
code_of BadLine = CODE_BAD_LINE
code_of TooLarge = CODE_TOO_LARGE
code_of OutOfMemory = CODE_OUT_OF_MEMORY
