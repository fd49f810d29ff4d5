-- The keys of bagpipe music. ABC 2.1 section 3.1.14.
use Rattle.std.specs.Prelude.{ℕ, Bool, ◌||◌, List, codes}
use Rattle.std.specs.Str.{bytes_eq}

-- The value of a field K: is a key of bagpipe music.
abbrev pub is_pipe_key : List ℕ → Bool
is_pipe_key value = bytes_eq value (codes "HP") || bytes_eq value (codes "Hp")
