-- What is kept of each line instead of its row: the chain that holds its cells, and the place of the first. Not in ABC
-- 2.1.
use Rattle.std.specs.Prelude.{ℕ, ◌+◌, List, [], ◌∷◌, ◌++◌, take, drop, map, length, Option, Some, None}
use Rattle.std.specs.Option.{option_map}
use Rattle.abc_lines.specs.Text.{Splice, Text}
use Rattle.abc_tune_compiler.specs.Tune.{lines_in}
use Rattle.abc_live_cost.specs.Layout.{FoldedBlock, Layout, chains_of}
use Rattle.abc_live_cost.specs.Past.{Past, lines_between}

-- The chain of a line, and the place in it of the line's first cell.
pub record Origin : Type 0 where
  pub source : ℕ
  pub first : ℕ

abbrev pub origin_at : ℕ → ℕ → Option Origin
origin_at source first = Some (record { source = source; first = first })

-- Lines that are new or lie in no chain have none.
abbrev pub no_origins : Text → List (Option Origin)
no_origins lines = map (λ _. None) lines

-- The origins of the lines of a chain, the first of which holds the chain's cells from this place on.
abbrev pub origins_along : {Cell : Type 0} → (List ℕ → List Cell) → ℕ → ℕ → Text → List (Option Origin)
origins_along read source place [] = []
origins_along read source place (bytes ∷ lines) = origin_at source place
    ∷ origins_along read source (place + length (read bytes)) lines

-- The origins of a text from a line on, by the chains that begin there or later.
abbrev pub origins_from : {State Cell : Type 0} → (List ℕ → List Cell) → Text → ℕ → List (FoldedBlock State) → List (Option Origin)
origins_from read text at [] = no_origins (drop at text)
origins_from read text at (chain ∷ chains) =
    no_origins (lines_between text at chain.block.from)
    ++ (origins_along read chain.source 0 (lines_in text chain.block) ++ origins_from read text chain.block.to chains)

-- The origins of the old text.
abbrev pub origins_of : {State Cell : Type 0} → (List ℕ → List Cell) → Layout State → List (Option Origin)
origins_of read layout = origins_from read layout.text 0 (chains_of layout)

-- The origins of the new text: they are spliced like its lines.
abbrev pub origins : {State Cell : Type 0} → (List ℕ → List Cell) → Layout State → Splice → List (Option Origin)
origins read old s = take s.at (origins_of read old) ++ (no_origins s.lines ++ drop (s.at + s.removed) (origins_of read old))

-- The chain and the place of each cell of a line, the first of which has this place.
abbrev pub addresses_from : {Cell : Type 0} → ℕ → ℕ → List Cell → List (Option (ℕ × ℕ))
addresses_from source place [] = []
addresses_from source place (cell ∷ cells) = Some (source, place) ∷ addresses_from source (place + 1) cells

-- The chain and the place of each cell of a line with this origin.
abbrev pub addresses : {Cell : Type 0} → Option Origin → List Cell → List (Option (ℕ × ℕ))
addresses None cells = map (λ _. None) cells
addresses (Some origin) cells = addresses_from origin.source origin.first cells

-- Those of each cell of lines, their origins beside them.
abbrev pub addresses_beside : {Cell : Type 0} → (List ℕ → List Cell) → List (Option Origin) → Text → List (List (Option (ℕ × ℕ)))
addresses_beside read [] lines = []
addresses_beside read (origin ∷ others) [] = []
addresses_beside read (origin ∷ others) (bytes ∷ lines) = addresses origin (read bytes) ∷ addresses_beside read others lines

-- The chain and the place of a past.
abbrev pub address_of : {State : Type 0} → Option (Past State) → Option (ℕ × ℕ)
address_of past = option_map (λ was. (was.source, was.place)) past
