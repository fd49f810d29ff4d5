-- The runs of a part: played items up to the next mark are one. Not in ABC 2.1.
use Rattle.std.specs.Prelude.{◌≡◌, List, [], ◌∷◌, map, All}
use Rattle.std.specs.List.{AllPass, flat_map}
use Rattle.abc_bars_items.specs.declared.item.Item.{Item}
use Rattle.abc_repeat.specs.Mark.{is_play}
use Rattle.abc_repeat.specs.Runs.{Run, played_run}
use Rattle.abc_voices_sections.specs.declared.item_runs.ItemRun.{ItemRun}
use Rattle.abc_voices_sections.specs.Step.{mark_of}

-- An item run as the play sees it: its mark, and its steps.
abbrev pub run_of : {A : Type 0} → ItemRun A → Run A
run_of item_run = record { mark = item_run.mark; items = item_run.items.now }

-- Item runs as the play sees them.
abbrev pub runs_of : {A : Type 0} → List (ItemRun A) → List (Run A)
runs_of item_runs = map run_of item_runs

-- The steps of runs, one run after another.
abbrev pub items_in : {A : Type 0} → List (Run A) → List A
items_in runs = flat_map (λ run. run.items) runs

-- A step by itself.
abbrev pub single_run : {A : Type 0} → (A → Item) → A → Run A
single_run item_of step = record { mark = mark_of (item_of step); items = step ∷ [] }

-- Steps that are all played.
abbrev pub AreAllPlayed : {A : Type 0} → (A → Item) → List A → Type 0
AreAllPlayed item_of steps = AllPass (λ step. is_play (mark_of (item_of step))) steps

-- A run of a part: steps that are all played, or a step by itself.
pub data IsRun {A : Type 0} (item_of : A → Item) : Run A → Type 0 where
  together : (step : A) (steps : List A) → AreAllPlayed item_of (step ∷ steps) → IsRun item_of (played_run (step ∷ steps))
  single : (step : A) → IsRun item_of (single_run item_of step)

-- The runs of a part, which have each of its steps.
pub record AreRuns {A : Type 0} (item_of : A → Item) (part : List A) (runs : List (Run A)) : Type 0 where
  pub whole : items_in runs ≡ part
  pub each : All (IsRun item_of) runs
