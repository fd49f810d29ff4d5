use Rattle.std.proofs.Common.{◌≡◌, ◌++◌, drop, map}
use Rattle.std.specs.List.{flat_map}
use Rattle.abc_voices_sections.specs.Stage.{part_items}
use Rattle.abc_voices.specs.Change.{tempo_of, set_from}
use Rattle.abc_voices.proofs.stage_settings.put_stage_tempos.Given as goal

-- what is set so far, and what the other parts set
abbrev pub invariant-loop-part : goal.invariant-loop-part
invariant-loop-part l = l.tempos.items ++ flat_map (λ part. set_from tempo_of l.at.0 part.steps) (map part_items (drop l.part-index l.stage.parts))
    ≡ l.initial.tempos.items ++ flat_map (λ part. set_from tempo_of l.at.0 part.steps) (map part_items l.stage.parts)
