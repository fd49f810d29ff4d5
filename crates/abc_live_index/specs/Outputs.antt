-- The files and the titles of outputs. Not in ABC 2.1.
use Rattle.std.specs.Prelude.{List, [], map}
use Rattle.abc_live_index.specs.declared.output.Output.{Output}
use Rattle.abc_tune_compiler.specs.Files.{Files, files_by}
use Rattle.abc_tune_compiler.specs.declared.title.Title.{Title}

-- The files of tunes.
abbrev pub files_of : List Output → Files
files_of outputs = files_by (λ output. output.number) (λ output. output.built.bytes) [] outputs

-- The entry of a tune in the title index.
abbrev pub title_by : Output → Title
title_by output = record { number = output.number; text = output.title }

-- The titles, tune by tune.
abbrev pub titles_of : List Output → List Title
titles_of outputs = map title_by outputs
