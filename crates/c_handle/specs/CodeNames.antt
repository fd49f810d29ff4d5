-- The names of the codes that calls return, as the header of C has them.
use Rattle.std.specs.Prelude.{ℕ, List, codes, Option, None, Some, if◌then◌else◌, ◌==◌}
use Rattle.c_handle.specs.declared.codes.TheConstants.{CODE_OK, CODE_MISUSED, CODE_BAD_RANGE, CODE_BAD_LINE, CODE_TOO_LARGE, CODE_OUT_OF_MEMORY}
use Rattle.c_handle.specs.declared.codes.TheConstants.{CODE_NOT_FOUND, CODE_SHORT_BUFFER, CODE_TOO_LONG}

-- The name of a code, if it is one.
unfoldable pub code_name : ℕ → Option (List ℕ)
code_name code =
    if code == CODE_OK then Some (codes "ABC_LIVE_OK") else
    if code == CODE_MISUSED then Some (codes "ABC_LIVE_MISUSED") else
    if code == CODE_BAD_RANGE then Some (codes "ABC_LIVE_BAD_RANGE") else
    if code == CODE_BAD_LINE then Some (codes "ABC_LIVE_BAD_LINE") else
    if code == CODE_TOO_LARGE then Some (codes "ABC_LIVE_TOO_LARGE") else
    if code == CODE_OUT_OF_MEMORY then Some (codes "ABC_LIVE_OUT_OF_MEMORY") else
    if code == CODE_NOT_FOUND then Some (codes "ABC_LIVE_NOT_FOUND") else
    if code == CODE_SHORT_BUFFER then Some (codes "ABC_LIVE_SHORT_BUFFER") else
    if code == CODE_TOO_LONG then Some (codes "ABC_LIVE_TOO_LONG") else
    None
