use Rattle.std.proofs.Common.{◌≡◌, List, false, Some, sym, subst, ◌∙◌}
use Rattle.std.specs.Prelude.{pos, IfOk}
use Rattle.abc_fields.specs.declared.meter.Meter.TheVariants as meters
use Rattle.abc_time.specs.Grains.{grains_of_the_latest_end}
use Rattle.abc_voices_score.specs.declared.score.Change.{Change}
use Rattle.abc_voices_sections.specs.Items.{items_of}
use Rattle.abc_voices_sections.specs.Stage.{stage_items}
use Rattle.abc_voices.specs.Turns.{stages_in, IsStage}
use Rattle.abc_voices.specs.Layout.{usual_tempo}
use Rattle.abc_voices.specs.Change.{tempo_of, meter_of, key_of}
use Rattle.std.proofs.lemmas.List.Elements.{All-map}
use Rattle.abc_voices.proofs.Steady.{opening_is, steady_changes}
use Rattle.abc_voices.proofs.Within.{all_set, one_set}
use Rattle.abc_voices.proofs.tune_score.changes_along.Goals as goal

pub changes_in_force-requires-2-clause-tempos : goal.changes_in_force-requires-2-clause-tempos
changes_in_force-requires-2-clause-tempos c =
    all_set tempo_of _ grains_of_the_latest_end (stages_in c.args.turns.now) c.deref.result.now c.requires.in_time
    (All-map IsStage (λ turn. stage_items turn.stage.now) c.args.turns.now c.requires.stages) (c.deref.ensures.value ∙ c.in_ok-tempos.ensures)

pub changes_in_force-requires-2-clause-meters : goal.changes_in_force-requires-2-clause-meters
changes_in_force-requires-2-clause-meters c =
    one_set meter_of c.args.first (Some c.unwrap_or-meter.result) grains_of_the_latest_end
    (stages_in c.args.turns.now) c.deref-2.result.now c.requires.in_time
    (All-map IsStage (λ turn. stage_items turn.stage.now) c.args.turns.now c.requires.stages) (c.deref-2.ensures.value ∙ c.in_ok-meters.ensures)

pub changes_in_force-requires-2-clause-keys : goal.changes_in_force-requires-2-clause-keys
changes_in_force-requires-2-clause-keys c =
    one_set key_of c.args.first (Some c.unwrap_or-key.result) grains_of_the_latest_end
    (stages_in c.args.turns.now) c.deref-3.result.now c.requires.in_time
    (All-map IsStage (λ turn. stage_items turn.stage.now) c.args.turns.now c.requires.stages) (c.deref-3.ensures.value ∙ c.in_ok-keys.ensures)

pub returns-then-is_steady : goal.returns-then-is_steady
returns-then-is_steady c =
    let steady = c.requires.steady (sym c.is_steady.ensures ∙ c.if-is_steady.true) in
    let same = steady_changes (items_of c.args.fields.now) c.args.first (stages_in c.args.turns.now) c.unwrap_or-tempo.result c.unwrap_or-meter.result c.unwrap_or-key.result steady
    (opening_is c.opening_tempo.result _ usual_tempo _ c.unwrap_or-tempo.ensures c.opening_tempo.ensures)
    (opening_is c.opening_meter.result _ meters.Free _ c.unwrap_or-meter.ensures c.opening_meter.ensures)
    (opening_is c.opening_key.result _ (pos 0, false) _ c.unwrap_or-key.ensures c.opening_key.ensures) in
    subst (λ (l : List Change). IfOk c.changes_in_force.result (λ changes. changes.items ≡ l)) same c.changes_in_force.ensures
