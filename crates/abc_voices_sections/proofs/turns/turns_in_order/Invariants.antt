use Rattle.std.proofs.Common.{◌≡◌, ◌++◌, drop}
use Rattle.abc_voices_sections.specs.Table.{at_places}
use Rattle.abc_voices_sections.specs.Turns.{stages_in}
use Rattle.abc_voices_sections.proofs.turns.turns_in_order.Given as goal

-- the stages so far, and those at the other places
abbrev pub invariant-loop-place : goal.invariant-loop-place
invariant-loop-place g l = stages_in l.turns.items ++ at_places l.table (drop l.place-index l.places) ≡ at_places l.table l.places
