use Rattle.std.proofs.Common.{◌∙◌}
use Rattle.std.proofs.lemmas.List.Elements.{All-map}
use Rattle.abc_time.specs.Grains.{grains_of_the_latest_end}
use Rattle.abc_voices.specs.Change.{program_of}
use Rattle.abc_voices_sections.specs.Stage.{stage_items}
use Rattle.abc_voices.specs.Turns.{stages_in, IsStage}
use Rattle.abc_voices.proofs.Within.{one_set}
use Rattle.abc_voices.proofs.programs.voice_programs.Goals as goal

pub programs_in_force-requires : goal.programs_in_force-requires
programs_in_force-requires c =
    one_set program_of c.args.voice c.args.opening grains_of_the_latest_end
    (stages_in c.args.turns.now) c.deref.result.now c.requires.in_time (All-map IsStage (λ turn. stage_items turn.stage.now) c.args.turns.now c.requires.stages) (c.deref.ensures.value ∙ c.in_ok-sets.ensures)
