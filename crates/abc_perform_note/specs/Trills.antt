-- Trills. ABC 2.1 section 4.14.
use Rattle.std.specs.Prelude.{ℕ, zero, suc, ◌+◌, ◌-◌, ◌*◌, ◌/◌, ◌==◌, if◌then◌else◌, List, [], ◌∷◌, Option, Some, None}
use Rattle.abc_perform_note.specs.declared.mordents.TheConstants.{THIRTY_SECOND}
use Rattle.abc_perform_note.specs.declared.part.Part.{Part}
use Rattle.abc_perform_note.specs.Part.{part, with_rest}

-- The note and its upper neighbour some number of times, all parts of one length. Not in ABC 2.1.
abbrev pub alternations : ℕ → ℕ → ℕ → ℕ → List Part
alternations zero key up length = []
alternations (suc count) key up length = part key length ∷ part up length ∷ alternations count key up length

-- How often the upper neighbour sounds: the greatest number, with the note before each and after the last, at which all
-- parts are 32nds or longer. Not in ABC 2.1.
abbrev pub pairs_in : ℕ → ℕ
pairs_in length = (length / THIRTY_SECOND.0 - 1) / 2

-- The note and its upper neighbour by turns, the note last; none if the upper one never sounds. Not in ABC 2.1.
unfoldable pub trill_of : ℕ → ℕ → ℕ → Option (List Part)
trill_of key up length =
    if pairs_in length == 0 then None
    else Some (with_rest length (alternations (pairs_in length) key up (length / (2 * pairs_in length + 1))) key)
