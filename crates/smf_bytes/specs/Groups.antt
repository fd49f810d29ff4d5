-- Notes that follow each other, from the last to the first.
use Rattle.std.specs.Prelude.{◌≤◌, ◌&&◌, nat_le, Bool, true, List, [], ◌∷◌}
use Rattle.abc_voices_score.specs.declared.score.Sounding.{Sounding}

-- No note begins before one that comes after it in the list.
abbrev pub AreInTurn : List Sounding → Type 0
AreInTurn [] = Unit {0}
AreInTurn (note ∷ []) = Unit {0}
AreInTurn (note ∷ earlier ∷ notes) = (earlier.on.0 ≤ note.on.0) × AreInTurn (earlier ∷ notes)

-- Whether no note begins before one that comes after it in the list.
abbrev pub are_in_turn : List Sounding → Bool
are_in_turn [] = true
are_in_turn (note ∷ []) = true
are_in_turn (note ∷ earlier ∷ notes) = nat_le earlier.on.0 note.on.0 && are_in_turn (earlier ∷ notes)
