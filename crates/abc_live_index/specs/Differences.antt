-- The differences that a change of the tunes makes to the owners and the titles of a book. Not in ABC 2.1.
use Rattle.std.specs.Prelude.{◌≡◌, List, Option, unwrap_or}
use Rattle.abc_live_index.specs.Outputs.{titles_of}
use Rattle.abc_live_index.specs.Owners.{Owners, owners_of}
use Rattle.abc_live_index.specs.Titles.{TitlesFit, titles_after}
use Rattle.abc_live_index.specs.declared.titles.NewTitles.{NewTitles}
use Rattle.abc_live_index.specs.declared.output.Output.{Output}

-- The new owners, if they change, and the new titles lead from the old outputs to the new ones.
abbrev pub AreDifferences : List Output → List Output → Option Owners → NewTitles → Type 0
AreDifferences old new owners titles =
    (unwrap_or owners (owners_of old) ≡ owners_of new) × TitlesFit (titles_of old) titles
    × (titles_after (titles_of old) titles ≡ titles_of new)
