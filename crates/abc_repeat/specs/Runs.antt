-- Runs: played items up to the next mark, played as one. Not in ABC 2.1.
use Rattle.std.specs.Prelude.{◌≡◌, ℕ, true, List, [], ◌∷◌, ◌++◌, map, slice_index_or}
use Rattle.std.specs.List.{flat_map}
use Rattle.abc_repeat.specs.declared.mark.Mark.{Mark}
use Rattle.abc_repeat.specs.declared.mark.Mark.TheVariants as marks
use Rattle.abc_repeat.specs.Mark.{is_single}
use Rattle.abc_repeat.specs.Play.{play_of}

-- A mark, and the items played at its turn.
pub record Run (A : Type 0) : Type 0 where
  pub mark : Mark
  pub items : List A

-- A run of played items.
abbrev pub played_run : {A : Type 0} → List A → Run A
played_run items = record { mark = marks.Play; items = items }

-- The marks of runs.
abbrev pub marks_in : {A : Type 0} → List (Run A) → List Mark
marks_in runs = map (λ run. run.mark) runs

-- The items of the run at a place.
abbrev pub items_at : {A : Type 0} → List (Run A) → ℕ → List A
items_at runs at = slice_index_or (map (λ run. run.items) runs) at []

-- The items played of runs, in order of play: each run whole at its turn.
abbrev pub items_played : {A : Type 0} → List (Run A) → List A
items_played runs = flat_map (items_at runs) (play_of (marks_in runs))

-- Two runs with no mark between them are played as one.
abbrev pub AreJoined : Type 0 → Type 0
AreJoined A = (before following : List (Run A)) (first second : List A)
    → items_played (before ++ played_run first ∷ played_run second ∷ following)
    ≡ items_played (before ++ played_run (first ++ second) ∷ following)

-- A bar line that neither repeats nor is double changes nothing.
abbrev pub PassesSingleBars : Type 0 → Type 0
PassesSingleBars A = (before following : List (Run A)) (bar : Run A)
    → is_single bar.mark ≡ true → items_played (before ++ bar ∷ following) ≡ items_played (before ++ following)
