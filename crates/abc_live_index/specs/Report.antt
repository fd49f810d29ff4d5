-- The number whose file changes with the tune at a place. Not in ABC 2.1.
use Rattle.std.specs.Prelude.{ℕ, ◌==◌, if◌then◌else◌, List, Option, Some, None, option_and_then, slice_get}
use Rattle.std.specs.Option.{option_eq}
use Rattle.std.specs.Str.{bytes_eq}
use Rattle.abc_live_index.specs.Owners.{Owners, bytes_at, owner_at}
use Rattle.abc_live_index.specs.declared.output.Output.{Output}

-- The number of an output, if its tune owns it and gave other bytes before.
abbrev pub changed_number_by : List Output → Owners → ℕ → Output → Option ℕ
changed_number_by before owners place output =
    if option_eq ◌==◌ (owner_at owners output.number) (Some place)
    then (if option_eq bytes_eq (bytes_at before place) output.built.bytes then None else Some output.number)
    else None

-- The number that the tune at a place owns before and after, if its bytes differ.
abbrev pub changed_number_at : List Output → List Output → Owners → ℕ → Option ℕ
changed_number_at before after owners place = option_and_then (changed_number_by before owners place) (slice_get after place)
