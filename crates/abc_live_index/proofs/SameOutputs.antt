-- Tunes and outputs that give the same.
use Rattle.std.proofs.Common.{◌≡◌, List, [], ◌∷◌, refl, ◌∙◌}
use Rattle.std.specs.List.{AllZip}
use Rattle.abc_live_index.specs.Laws.{FilesFollow, TitlesFollow}
use Rattle.abc_live_index.specs.Outputs.{title_by}
use Rattle.abc_live_index.specs.Tunes.{OutputAgrees}
use Rattle.abc_live_index.specs.declared.output.Output.{Output}
use Rattle.abc_tune_compiler.specs.Book.{title_of}
use Rattle.abc_tune_compiler.specs.Files.{Files, files_by, files_from, with_file_of}
use Rattle.abc_tune_compiler.specs.Tune.{Tune}

files_on : (files : Files) (outputs : List Output) (tunes : List Tune) → AllZip OutputAgrees outputs tunes
    → files_by (λ (o : Output). o.number) (λ (o : Output). o.built.bytes) files outputs ≡ files_from files tunes
files_on files [] [] all = refl
files_on files [] (tune ∷ tunes) all = absurd all
files_on files (output ∷ outputs) [] all = absurd all
files_on files (output ∷ outputs) (tune ∷ tunes) all =
    files_on (with_file_of files output.number output.built.bytes) outputs tunes all.1
    ∙ (λ i. files_from (with_file_of files (all.0.number i) (all.0.bytes i)) tunes)

pub files_follow : FilesFollow
files_follow outputs tunes all = files_on [] outputs tunes all

one_title : (output : Output) (tune : Tune) → OutputAgrees output tune → title_by output ≡ title_of tune
one_title output tune tells = λ i. record { number = tells.number i; text = tells.title i }

pub titles_follow : TitlesFollow
titles_follow [] [] all = refl
titles_follow [] (tune ∷ tunes) all = absurd all
titles_follow (output ∷ outputs) [] all = absurd all
titles_follow (output ∷ outputs) (tune ∷ tunes) all =
    λ i. one_title output tune all.0 i ∷ titles_follow outputs tunes all.1 i
