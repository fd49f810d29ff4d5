-- Why lines cannot be in a text. Not in ABC 2.1.
use Rattle.std.specs.Prelude.{ℕ, Bool, not, if◌then◌else◌, nat_le, Option, Some, None}
use Rattle.abc_lines.specs.declared.limits.TheConstants.{MOST_LINES}
use Rattle.abc_lines.specs.declared.edit_error.EditError.{EditError}
use Rattle.abc_lines.specs.declared.edit_error.EditError.TheVariants.{BadLine, TooLarge}

-- Lines are refused if one of them is too long, or if the text would have too many.
unfoldable pub limit_error : Bool → ℕ → Option EditError
limit_error proper count = if not proper then Some BadLine else if not (nat_le count MOST_LINES) then Some TooLarge else None
