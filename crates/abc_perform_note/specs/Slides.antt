-- Slides. ABC 2.1 section 4.14.
use Rattle.std.specs.Prelude.{ℕ, List, [], ◌∷◌}
use Rattle.abc_perform_note.specs.declared.part.Part.{Part}
use Rattle.abc_perform_note.specs.Mordents.{short_part}
use Rattle.abc_perform_note.specs.Part.{part, with_rest}

-- A key below, and the note. Not in ABC 2.1.
abbrev pub slide_of : ℕ → ℕ → ℕ → List Part
slide_of below key length = with_rest length (part below (short_part length) ∷ []) key
