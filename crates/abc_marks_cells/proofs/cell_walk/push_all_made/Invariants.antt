use Rattle.std.proofs.Common.{◌≡◌, ◌++◌, drop}
use Rattle.std.specs.Prelude.{flat_map}
use Rattle.abc_marks_cells.specs.CellWalk.{made_at}
use Rattle.abc_marks_cells.proofs.cell_walk.push_all_made.Given as goal

-- the marks so far, and those of the waiting ones that are left
abbrev pub invariant-loop-one : goal.invariant-loop-one
invariant-loop-one l =
    l.marks ++ flat_map (made_at l.state l.next) (drop l.one-index l.waiting) ≡ l.initial.marks ++ flat_map (made_at l.state l.next) l.waiting
