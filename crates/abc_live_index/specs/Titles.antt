-- Titles that are put instead of old ones. Not in ABC 2.1.
use Rattle.std.specs.Prelude.{◌+◌, ◌≤◌, ⊤, List, ◌++◌, length, take, drop}
use Rattle.abc_live_index.specs.declared.titles.NewTitles.{NewTitles}
use Rattle.abc_live_index.specs.declared.titles.NewTitles.TheVariants.{Whole, Among}
use Rattle.abc_tune_compiler.specs.declared.title.Title.{Title}

-- The titles after a change: all of them, or those after the first few.
abbrev pub titles_after : List Title → NewTitles → List Title
titles_after old (Whole titles) = titles.items
titles_after old (Among front titles) = take front old ++ (titles.items ++ drop (front + length titles.items) old)

-- Titles that are put among others replace old ones.
abbrev pub TitlesFit : List Title → NewTitles → Type 0
TitlesFit old (Whole titles) = ⊤
TitlesFit old (Among front titles) = front + length titles.items ≤ length old
