-- The places of the tunes of an edited text. Not in ABC 2.1.
use Rattle.std.specs.Prelude.{◌≡◌, ◌+◌, ◌≤◌, ⊤, All, List, ◌++◌, drop, length, map, take}
use Rattle.abc_book.specs.declared.block.Block.{Block}
use Rattle.abc_lines.specs.declared.limits.TheConstants.{MOST_LINES}
use Rattle.abc_live_text.specs.Pieces.{LiesWithin}
use Rattle.abc_live_text.specs.KeptText.{LiesAfter, block_after}
use Rattle.abc_live_text.specs.declared.stretch.Stretch.{Stretch}
use Rattle.abc_live_text.specs.declared.new_places.NewPlaces.{NewPlaces}
use Rattle.abc_live_text.specs.declared.new_places.NewPlaces.TheVariants.{Whole, Among}

-- The places after an edit: all of them, or new ones for the stretch, and those after it moved.
abbrev pub tune_places_after : NewPlaces → Stretch → List Block → List Block → List Block
tune_places_after (Whole tunes) stretch old places = tunes.items
tune_places_after Among stretch old places = take stretch.tunes.from old
    ++ (places ++ map (block_after stretch) (drop stretch.tunes.to old))

-- The count of tunes is unchanged, and those after the stretch can be moved.
pub record FitAmong (stretch : Stretch) (old places : List Block) : Type 0 where
  pub count : stretch.tunes.from + length places ≡ stretch.tunes.to
  pub inside : stretch.tunes.to ≤ length old
  pub beyond : All (LiesAfter stretch) (drop stretch.tunes.to old)
  pub within : All (LiesWithin MOST_LINES) old
  pub lines : stretch.lines.from ≤ stretch.lines.to
  pub numbers : stretch.lines.came ≤ MOST_LINES

-- New places among others replace as many old ones.
abbrev pub MayReplaceTunes : NewPlaces → Stretch → List Block → List Block → Type 0
MayReplaceTunes (Whole tunes) stretch old places = ⊤
MayReplaceTunes Among stretch old places = FitAmong stretch old places
