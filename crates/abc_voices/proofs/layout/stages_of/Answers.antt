use Rattle.std.proofs.Common.{◌≡◌, ◌<◌, ◌≤◌, ℕ, map, ap, subst, ◌∙◌, arith}
use Rattle.std.proofs.lemmas.Result.{IfOk-weaker}
use Rattle.std.specs.Borrow.{Bor}
use Rattle.std.specs.Prelude.{IfOk, sum_by}
use Rattle.abc_bars_items.specs.declared.item.Item.{Item}
use Rattle.abc_repeat.specs.declared.play.TheConstants.{MOST_PLACES}
use Rattle.abc_voices_sections.specs.Items.{items_of}
use Rattle.abc_voices_sections.specs.PlayedSection.{size_in, section_length}
use Rattle.abc_voices_sections.specs.Stage.{content, stage_in, stage_items, stage_of}
use Rattle.abc_voices_sections.specs.Table.{at_places, sections_at}
use Rattle.abc_voices_sections.proofs.StagesAsItems.{map-stage_as, sum_by-counts, sum_by-times}
use Rattle.abc_voices.specs.Layout.{played_sections}
use Rattle.abc_voices.specs.Track.{voice_names}
use Rattle.abc_voices.proofs.Borrowed.{played_items}
use Rattle.abc_voices.proofs.Staged.{total_within}
use Rattle.abc_voices.proofs.layout.stages_of.Goals as goal

pub returns-clause-value : goal.returns-clause-value
returns-clause-value c =
    let played = played_items (items_of c.args.tune.now) c.deref.result.now _ (ap (map content) c.deref.ensures.value ∙ c.in_ok-found.ensures) c.requires.played in
    IfOk-weaker c.stages.result
    (λ table. at_places table.items c.args.played.now ≡ map (stage_in (λ step. step.now) (map (λ voice. voice.now) c.args.voices.now)) (sections_at c.deref.result.now c.args.played.now))
    (λ table. map stage_items (at_places table.items c.args.played.now) ≡ map (stage_of (voice_names (items_of c.args.tune.now))) (played_sections (items_of c.args.tune.now)))
    (λ table is. ap (map stage_items) is ∙ map-stage_as (λ (step : Bor Item). step.now) _ _ ∙ (λ i. map (stage_of (c.requires.voices i)) (played i))) c.stages.ensures.value

pub returns-clause-few : goal.returns-clause-few
returns-clause-few c =
    let played = played_items (items_of c.args.tune.now) c.deref.result.now _ (ap (map content) c.deref.ensures.value ∙ c.in_ok-found.ensures) c.requires.played in
    let counts = sum_by-counts (λ (step : Bor Item). step.now) (map (λ voice. voice.now) c.args.voices.now) (sections_at c.deref.result.now c.args.played.now)
    ∙ (λ i. sum_by (λ section. sum_by (size_in section) (c.requires.voices i)) (played i)) in
    subst (λ (n : ℕ). IfOk c.stages.result (λ _. n ≤ MOST_PLACES)) counts c.stages.ensures.places

pub returns-clause-too_many : goal.returns-clause-too_many
returns-clause-too_many c = λ e.
    let played = played_items (items_of c.args.tune.now) c.deref.result.now _ (ap (map content) c.deref.ensures.value ∙ c.in_ok-found.ensures) c.requires.played in
    let counts = sum_by-counts (λ (step : Bor Item). step.now) (map (λ voice. voice.now) c.args.voices.now) (sections_at c.deref.result.now c.args.played.now)
    ∙ (λ i. sum_by (λ section. sum_by (size_in section) (c.requires.voices i)) (played i)) in
    subst (λ (n : ℕ). MOST_PLACES < n) counts (c.stages.ensures.too_many e)

pub returns-clause-too_late : goal.returns-clause-too_late
returns-clause-too_late c = λ e.
    let played = played_items (items_of c.args.tune.now) c.deref.result.now _ (ap (map content) c.deref.ensures.value ∙ c.in_ok-found.ensures) c.requires.played in
    let times = sum_by-times (λ (step : Bor Item). step.now) (map (λ voice. voice.now) c.args.voices.now) (sections_at c.deref.result.now c.args.played.now)
    ∙ (λ i. sum_by (section_length (c.requires.voices i)) (played i)) in
    omega (arith, times, c.stages.ensures.too_late e, total_within (items_of c.args.tune.now))
