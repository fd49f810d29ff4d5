-- Mordents. ABC 2.1 section 4.14.
use Rattle.std.specs.Prelude.{ℕ, ◌/◌, min, List, [], ◌∷◌}
use Rattle.abc_perform_note.specs.declared.mordents.TheConstants.{THIRTY_SECOND}
use Rattle.abc_perform_note.specs.declared.part.Part.{Part}
use Rattle.abc_perform_note.specs.Part.{part, with_rest}

-- A 32nd of a whole note, at most a quarter of the note. Not in ABC 2.1.
abbrev pub short_part : ℕ → ℕ
short_part length = min THIRTY_SECOND.0 (length / 4)

-- The note, its neighbour, and the note again. Not in ABC 2.1.
abbrev pub mordent_of : ℕ → ℕ → ℕ → List Part
mordent_of key neighbour length =
    with_rest length (part key (short_part length) ∷ part neighbour (short_part length) ∷ []) key
