use Rattle.std.proofs.Common.{map, take}
use Rattle.abc_voices_sections.specs.Table.{ArePut}
use Rattle.abc_voices_sections.proofs.table.stages.Given as goal

-- the stages of the sections that are passed are in the table
abbrev pub invariant-loop-place : goal.invariant-loop-place
invariant-loop-place g l = ArePut g.T.AsItem.item_of (map (λ voice. voice.now) l.voices) l.sections (take l.place-index l.played) l.room l.table.items
