-- Which tune of a text gives the file of a number. Not in ABC 2.1.
use Rattle.std.specs.Prelude.{ℕ, List, slice_get, Option, option_and_then}
use Rattle.abc_live_index.specs.Owners.{owner_by}
use Rattle.abc_tune_compiler.specs.Tune.{Tune}

-- The index of the first tune of a number that has a file: the one whose bytes `first_file` gives.
abbrev pub owner_of : List Tune → ℕ → Option ℕ
owner_of tunes number = owner_by (λ tune. tune.number) (λ tune. tune.bytes) 0 tunes number

-- The file of the tune at an index, if there is one.
abbrev pub tune_file : List Tune → Option ℕ → Option (List ℕ)
tune_file tunes index = option_and_then (λ tune. tune.bytes) (option_and_then (slice_get tunes) index)
