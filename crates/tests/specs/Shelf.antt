-- A store as what was put and removed. Not in ABC 2.1.
use Rattle.std.specs.Prelude.{ℕ, List, [], ◌∷◌, Option, Some, None}
use Rattle.std.specs.FinMap.{empty, insert, remove}
use Rattle.abc2midi_live.specs.Streams.{Contents}

-- contents, with these bytes under a name, or without it
abbrev pub contents_with : Contents → List ℕ → Option (List ℕ) → Contents
contents_with contents name None = remove contents name
contents_with contents name (Some bytes) = insert contents name bytes

-- the contents after changes, the newest first
abbrev pub contents_of : List (List ℕ × Option (List ℕ)) → Contents
contents_of [] = empty
contents_of (change ∷ older) = contents_with (contents_of older) change.0 change.1
