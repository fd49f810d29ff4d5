-- Turns. ABC 2.1 section 4.14.
use Rattle.std.specs.Prelude.{ℕ, ◌/◌, List, [], ◌∷◌}
use Rattle.abc_perform_note.specs.declared.part.Part.{Part}
use Rattle.abc_perform_note.specs.Part.{part, with_rest}

-- A neighbour, the note, the other neighbour and the note, each a quarter of its length. Not in ABC 2.1.
abbrev pub turn_of : ℕ → ℕ → ℕ → ℕ → List Part
turn_of first key other length =
    with_rest length (part first (length / 4) ∷ part key (length / 4) ∷ part other (length / 4) ∷ []) key
