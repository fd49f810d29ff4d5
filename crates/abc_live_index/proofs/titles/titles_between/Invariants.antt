use Rattle.std.proofs.Common.{◌≡◌, ◌-◌, drop, take}
use Rattle.abc_live_index.specs.TuneChange.{new_outputs}
use Rattle.abc_live_index.specs.Outputs.{titles_of}
use Rattle.abc_live_index.proofs.titles.titles_between.Given as goal

-- the titles so far
abbrev pub invariant-loop-place : goal.invariant-loop-place
invariant-loop-place l = l.titles.items ≡ titles_of (take (l.place - l.from) (drop l.from (new_outputs l.change)))
