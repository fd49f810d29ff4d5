-- Stages that are played one after another, one stage more.
use Rattle.std.proofs.Common.{◌≡◌, ℕ, suc, max, ◌+◌, ◌-◌, ◌<◌, List, [], ◌∷◌, ◌++◌, drop, get_or, length, refl, sym, ap, subst, ◌∙◌, append_assoc, arith}
use Rattle.std.specs.Borrow.{Bor}
use Rattle.std.specs.Prelude.{All, Option, Some, None}
use Rattle.std.specs.List.{flat_map}
use Rattle.std.proofs.lemmas.List.{drop_more}
use Rattle.std.proofs.lemmas.List.Elements.{All-nil, All-cons, All-head, All-tail, All-get_or}
use Rattle.std.proofs.lemmas.List.Sums.{sum_by-cons}
use Rattle.abc_bars_items.specs.declared.item.Item.{Item}
use Rattle.abc_time.specs.declared.grains.Grains.{Grains}
use Rattle.abc_voices_score.specs.declared.score.Sounding.{Sounding}
use Rattle.abc_voices_sections.specs.declared.stage.Stage.{Stage}
use Rattle.abc_voices_sections.specs.declared.turns.Turn.{Turn}
use Rattle.abc_voices_sections.specs.Stage.{stage_items}
use Rattle.abc_voices.specs.Turns.{IsStage, stages_in, for_voices, set_at, set_by_one}
use Rattle.abc_voices_sections.specs.Turns.{length_along}
use Rattle.abc_voices.specs.Layout.{last_off}
use Rattle.abc_voices.specs.Change.{after_opening}

-- what holds of each stage holds at its turn
pub are_stages : (turns : List (Turn (Bor Item))) → All IsStage (stages_in turns) → All (λ turn. IsStage (stage_items turn.stage.now)) turns
are_stages [] all = All-nil (λ (turn : Turn (Bor Item)). IsStage (stage_items turn.stage.now))
are_stages (turn ∷ turns) all =
    All-cons (λ (one : Turn (Bor Item)). IsStage (stage_items one.stage.now)) turn turns (All-head IsStage (stage_items turn.stage.now) (stages_in turns) all)
    (are_stages turns (All-tail IsStage (stage_items turn.stage.now) (stages_in turns) all))

-- the stages from one on
front : (turns : List (Turn (Bor Item))) (k : ℕ) (turn : Turn (Bor Item)) → k < length turns → turn ≡ get_or turns k turn → drop k turns ≡ turn ∷ drop (k + 1) turns
front turns k turn within is = drop_more turns k turn within ∙ ap (λ t. t ∷ drop (k + 1) turns) (sym is)

-- how long they are
pub length_step : (turns : List (Turn (Bor Item))) (k : ℕ) (turn : Turn (Bor Item)) → k < length turns → turn ≡ get_or turns k turn
    → length_along (stages_in (drop k turns)) ≡ turn.stage.now.longest.0 + length_along (stages_in (drop (k + 1) turns))
length_step turns k turn within is =
    ap (λ ts. length_along (stages_in ts)) (front turns k turn within is)
    ∙ sum_by-cons (λ (stage : Stage Item). stage.longest.0) (stage_items turn.stage.now) (stages_in (drop (k + 1) turns))

-- what one voice sets, one stage further
pub set_one_step : {V : Type 0} (value_of : Item → Option V) (voice : ℕ) (turns : List (Turn (Bor Item))) (k at : ℕ) (seen whole : List (Grains × V)) (turn : Turn (Bor Item))
    → k < length turns → turn ≡ get_or turns k turn → seen ++ set_by_one value_of voice at (stages_in (drop k turns)) ≡ whole
    → (seen ++ set_at value_of voice at (stage_items turn.stage.now)) ++ set_by_one value_of voice (at + turn.stage.now.longest.0) (stages_in (drop (k + 1) turns)) ≡ whole
set_one_step value_of voice turns k at seen whole turn within is before =
    append_assoc seen (set_at value_of voice at (stage_items turn.stage.now)) (set_by_one value_of voice (at + turn.stage.now.longest.0) (stages_in (drop (k + 1) turns)))
    ∙ ap (λ ts. seen ++ set_by_one value_of voice at (stages_in ts)) (sym (front turns k turn within is))
    ∙ before

-- one of the stages that are played
pub stage_played : (turns : List (Turn (Bor Item))) (k : ℕ) (turn : Turn (Bor Item)) → k < length turns → turn ≡ get_or turns k turn
    → All (λ turn. IsStage (stage_items turn.stage.now)) turns → IsStage (stage_items turn.stage.now)
stage_played turns k turn within is all =
    subst (λ (one : Turn (Bor Item)). IsStage (stage_items one.stage.now)) (sym is) (All-get_or (λ (one : Turn (Bor Item)). IsStage (stage_items one.stage.now)) turns k turn within all)

-- what one voice more has
voices_more : {X : Type 0} (one : ℕ → X) (voice count : ℕ) → voice < count
    → for_voices one voice (count - voice) ≡ one voice ∷ for_voices one (voice + 1) (count - (voice + 1))
voices_more one voice count within =
    let next : count - voice ≡ suc (count - (voice + 1)) = omega arith in
    ap (for_voices one voice) next

pub voices_step : {X : Type 0} (one : ℕ → X) (voice count : ℕ) (seen : List X) (own : X) (whole : List X) → voice < count
    → own ≡ one voice → seen ++ for_voices one voice (count - voice) ≡ whole
    → (seen ++ own ∷ []) ++ for_voices one (voice + 1) (count - (voice + 1)) ≡ whole
voices_step one voice count seen own whole within is before =
    append_assoc seen (own ∷ []) (for_voices one (voice + 1) (count - (voice + 1)))
    ∙ ap (λ n. seen ++ n ∷ for_voices one (voice + 1) (count - (voice + 1))) is
    ∙ ap (λ l. seen ++ l) (sym (voices_more one voice count within))
    ∙ before

-- what is set after what holds at the beginning
pub after_nothing : {V : Type 0} (opening : Option V) (sets : List (Grains × V)) → after_opening opening [] ++ sets ≡ after_opening opening sets
after_nothing None sets = refl
after_nothing (Some value) sets = refl

-- when notes and others are over
pub last_off_append : (at : ℕ) (xs ys : List Sounding) → last_off at (xs ++ ys) ≡ last_off (last_off at xs) ys
last_off_append at [] ys = refl
last_off_append at (note ∷ notes) ys = last_off_append (max at note.off.0) notes ys

-- when one voice more is over
pub all_more : (last : ℕ) (voices : List (List Sounding)) (k : ℕ) (notes : List Sounding) → k < length voices → notes ≡ get_or voices k notes
    → last_off (last_off last notes) (flat_map (λ n. n) (drop (k + 1) voices)) ≡ last_off last (flat_map (λ n. n) (drop k voices))
all_more last voices k notes within is =
    sym (last_off_append last notes (flat_map (λ n. n) (drop (k + 1) voices)))
    ∙ ap (λ n. last_off last (n ++ flat_map (λ n. n) (drop (k + 1) voices))) is
    ∙ ap (λ l. last_off last (flat_map (λ n. n) l)) (sym (drop_more voices k notes within))
