-- Stages that are played one after another, one stage more.
use Rattle.std.proofs.Common.{◌≡◌, ℕ, ◌+◌, ◌<◌, List, [], ◌∷◌, ◌++◌, drop, get_or, length, All, sym, ap, subst, ◌∙◌, append_assoc}
use Rattle.std.proofs.lemmas.List.{drop_more}
use Rattle.std.proofs.lemmas.List.Elements.{All-nil, All-cons, All-head, All-tail, All-get_or}
use Rattle.std.proofs.lemmas.List.Sums.{sum_by-cons}
use Rattle.abc_play_sections.specs.declared.step.PlayStep.{PlayStep}
use Rattle.abc_play_tune.specs.Timed.{timed_at, timed_along}
use Rattle.abc_play_tune.specs.Turns.{IsStage}
use Rattle.abc_voices_sections.specs.Turns.{stages_in, length_along}
use Rattle.abc_voices_sections.specs.declared.stage.Stage.{Stage}
use Rattle.abc_play_tune.specs.declared.timed.TimedStep.{TimedStep}
use Rattle.abc_voices_sections.specs.declared.turns.Turn.{Turn}

-- what holds of each stage holds at its turn
pub are_stages : (turns : List (Turn PlayStep)) → All IsStage (stages_in turns) → All (λ turn. IsStage turn.stage.now) turns
are_stages [] all = All-nil (λ (turn : Turn PlayStep). IsStage turn.stage.now)
are_stages (turn ∷ turns) all =
    All-cons (λ (one : Turn PlayStep). IsStage one.stage.now) turn turns (All-head IsStage turn.stage.now (stages_in turns) all)
    (are_stages turns (All-tail IsStage turn.stage.now (stages_in turns) all))

-- the stages from one on
front : (turns : List (Turn PlayStep)) (k : ℕ) (turn : Turn PlayStep) → k < length turns → turn ≡ get_or turns k turn → drop k turns ≡ turn ∷ drop (k + 1) turns
front turns k turn within is = drop_more turns k turn within ∙ ap (λ t. t ∷ drop (k + 1) turns) (sym is)

-- how long they are
pub length_along-step : (turns : List (Turn PlayStep)) (k : ℕ) (turn : Turn PlayStep) → k < length turns → turn ≡ get_or turns k turn
    → length_along (stages_in (drop k turns)) ≡ turn.stage.now.longest.0 + length_along (stages_in (drop (k + 1) turns))
length_along-step turns k turn within is =
    ap (λ ts. length_along (stages_in ts)) (front turns k turn within is)
    ∙ sum_by-cons (λ (stage : Stage PlayStep). stage.longest.0) turn.stage.now (stages_in (drop (k + 1) turns))

-- what a voice plays, one stage further
pub timed_step : (voice : ℕ) (turns : List (Turn PlayStep)) (k at : ℕ) (seen whole : List TimedStep) (turn : Turn PlayStep)
    → k < length turns → turn ≡ get_or turns k turn → seen ++ timed_along voice at (stages_in (drop k turns)) ≡ whole
    → (seen ++ timed_at voice at turn.stage.now) ++ timed_along voice (at + turn.stage.now.longest.0) (stages_in (drop (k + 1) turns)) ≡ whole
timed_step voice turns k at seen whole turn within is before =
    append_assoc seen (timed_at voice at turn.stage.now) (timed_along voice (at + turn.stage.now.longest.0) (stages_in (drop (k + 1) turns)))
    ∙ ap (λ ts. seen ++ timed_along voice at (stages_in ts)) (sym (front turns k turn within is))
    ∙ before

-- one of the stages that are played
pub stage_played : (turns : List (Turn PlayStep)) (k : ℕ) (turn : Turn PlayStep) → k < length turns → turn ≡ get_or turns k turn
    → All (λ turn. IsStage turn.stage.now) turns → IsStage turn.stage.now
stage_played turns k turn within is all =
    subst (λ (one : Turn PlayStep). IsStage one.stage.now) (sym is) (All-get_or (λ (one : Turn PlayStep). IsStage one.stage.now) turns k turn within all)
