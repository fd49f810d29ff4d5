use Rattle.std.proofs.Common.{◌≡◌, ◌<◌, ◌≤◌, [], List, ℕ, map, Err, ap, ◌∙◌, arith}
use Rattle.std.specs.Prelude.{IfOk, sum_by}
use Rattle.abc_repeat.specs.declared.play.TheConstants.{MOST_PLACES}
use Rattle.abc_time.specs.Grains.{grains_of_the_latest_end}
use Rattle.abc_voices.proofs.Layouts.{alike}
use Rattle.abc_voices_sections.specs.declared.stage.StageError.TheVariants.{TooMany, TooLate}
use Rattle.abc_play_sections.specs.declared.step.PlayStep.{PlayStep}
use Rattle.abc_play_sections.specs.Play.{content}
use Rattle.abc_play_tune.specs.Play.{step_sections}
use Rattle.abc_play_tune.specs.Stage.{size_in, section_time, stage_of}
use Rattle.abc_play_tune.specs.Steps.{sections_from}
use Rattle.abc_voices_sections.specs.Table.{at_places}
use Rattle.abc_play_tune.proofs.Tracks.{filter_map-played, sum_by-section_time}
use Rattle.abc_play_tune.proofs.play.stages_of.Goals as goal

pub returns-clause-value : goal.returns-clause-value
returns-clause-value c =
    let steps = c.deref.ensures.value ∙ c.in_ok-steps.ensures in
    let found : map content c.deref-2.result.now ≡ step_sections c.args.tune.now =
    ap (map content) c.deref-2.ensures.value ∙ c.in_ok-found.ensures ∙ (λ i. sections_from (c.requires.opening i) [] (c.requires.opening i) (steps i)) in
    alike (λ (voices : List (List ℕ)) (played : List (List ℕ × List PlayStep)). IfOk c.stages.result (λ table. at_places table.items c.args.played.now ≡ map (stage_of voices) played)) _ _ _ _
    c.requires.voices (filter_map-played c.args.tune.now _ _ found c.requires.played) c.stages.ensures.value

pub returns-clause-few : goal.returns-clause-few
returns-clause-few c =
    let steps = c.deref.ensures.value ∙ c.in_ok-steps.ensures in
    let found : map content c.deref-2.result.now ≡ step_sections c.args.tune.now =
    ap (map content) c.deref-2.ensures.value ∙ c.in_ok-found.ensures ∙ (λ i. sections_from (c.requires.opening i) [] (c.requires.opening i) (steps i)) in
    alike (λ (voices : List (List ℕ)) (played : List (List ℕ × List PlayStep)). IfOk c.stages.result (λ _. sum_by (λ section. sum_by (size_in section) voices) played ≤ MOST_PLACES)) _ _ _ _
    c.requires.voices (filter_map-played c.args.tune.now _ _ found c.requires.played) c.stages.ensures.places

pub returns-clause-too_many : goal.returns-clause-too_many
returns-clause-too_many c =
    let steps = c.deref.ensures.value ∙ c.in_ok-steps.ensures in
    let found : map content c.deref-2.result.now ≡ step_sections c.args.tune.now =
    ap (map content) c.deref-2.ensures.value ∙ c.in_ok-found.ensures ∙ (λ i. sections_from (c.requires.opening i) [] (c.requires.opening i) (steps i)) in
    alike (λ (voices : List (List ℕ)) (played : List (List ℕ × List PlayStep)). c.stages.result ≡ Err TooMany → MOST_PLACES < sum_by (λ section. sum_by (size_in section) voices) played) _ _ _ _
    c.requires.voices (filter_map-played c.args.tune.now _ _ found c.requires.played) c.stages.ensures.too_many

pub returns-clause-too_late : goal.returns-clause-too_late
returns-clause-too_late c = λ e.
    let steps = c.deref.ensures.value ∙ c.in_ok-steps.ensures in
    let found : map content c.deref-2.result.now ≡ step_sections c.args.tune.now =
    ap (map content) c.deref-2.ensures.value ∙ c.in_ok-found.ensures ∙ (λ i. sections_from (c.requires.opening i) [] (c.requires.opening i) (steps i)) in
    let late = alike (λ (voices : List (List ℕ)) (played : List (List ℕ × List PlayStep)). c.stages.result ≡ Err TooLate → grains_of_the_latest_end < sum_by (section_time voices) played) _ _ _ _
    c.requires.voices (filter_map-played c.args.tune.now _ _ found c.requires.played) c.stages.ensures.too_late e in
    omega (arith, late, sum_by-section_time c.args.tune.now)
