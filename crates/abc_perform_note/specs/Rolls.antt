-- Rolls. ABC 2.1 section 4.14.
use Rattle.std.specs.Prelude.{ℕ, ◌*◌, ◌/◌, List, [], ◌∷◌}
use Rattle.abc_perform_note.specs.declared.part.Part.{Part}
use Rattle.abc_perform_note.specs.Part.{part, with_rest}

-- Some twelfths of a length, rounded down. Not in ABC 2.1.
abbrev pub twelfths : ℕ → ℕ → ℕ
twelfths length count = length * count / 12

-- Of twelve twelfths the note has four, three and the rest, each neighbour one between. Not in ABC 2.1.
abbrev pub roll_of : ℕ → ℕ → ℕ → ℕ → List Part
roll_of key up down length =
    with_rest length (part key (twelfths length 4) ∷ part up (twelfths length 1) ∷ part key (twelfths length 3) ∷ part down (twelfths length 1) ∷ []) key
