-- How much work an edit may cost. Not in ABC 2.1.
use Rattle.std.specs.Prelude.{◌≡◌, ℕ, ◌≤◌, length, Option, Some, None}
use Rattle.abc_fold.specs.Steps.{Steps}
use Rattle.abc_fold.specs.Work.{Counters, raised}
use Rattle.abc_lines.specs.Text.{Splice, Text}
use Rattle.abc_live_cost.specs.FreshCells.{fresh_cells_after, touched_tunes_after}
use Rattle.abc_tune_compiler.specs.Rules.{Rules}

-- One counter has not fallen, and has risen by k at most.
pub record HasRisen (k before after : ℕ) : Type 0 where
  pub least : before ≤ after
  pub most : after ≤ raised before k

-- How many lines are scanned, steps folded and tunes built.
pub record Cost : Type 0 where
  pub lines : ℕ
  pub steps : ℕ
  pub tunes : ℕ

-- What an edit of a text costs at most: its new lines, the fresh cells and the touched tunes; nothing if it names no
-- splice.
abbrev pub cost_of : {State Cell Items Defaults : Type 0} → Steps State Cell Items → Rules State Cell Items Defaults → Text
    → Option Splice → Option Cost
cost_of steps rules text None = None
cost_of steps rules text (Some s) = Some (record {
  lines = length s.lines;
  steps = fresh_cells_after steps rules text s;
  tunes = touched_tunes_after steps rules text s;
})

-- The counters have risen by at most the lines, steps and tunes of a cost.
pub record IsWorkedUpTo (cost : Cost) (before after : Counters) : Type 0 where
  pub lines : HasRisen cost.lines before.scanned after.scanned
  pub steps : HasRisen cost.steps before.folded after.folded
  pub tunes : HasRisen cost.tunes before.built after.built

-- The counters have risen by a cost at most, or stay if there is none.
abbrev pub MayCost : Option Cost → Counters → Counters → Type 0
MayCost None before after = after ≡ before
MayCost (Some cost) before after = IsWorkedUpTo cost before after
