-- The steps of a voice and their order, without the bar lines that are passed.
use Rattle.std.proofs.Common.{◌≡◌, ℕ, true, false, cond, List, [], ◌∷◌, ◌++◌, refl, sym, ap, subst, ◌∙◌, append-nil}
use Rattle.std.specs.Bool.{⊤}
use Rattle.std.specs.Prelude.{◌&&◌, bytes_eq}
use Rattle.std.proofs.lemmas.List.Elements.{filter-append}
use Rattle.abc_repeat.specs.Mark.{is_ending}
use Rattle.abc_voices_sections.specs.declared.ending_fields.EndingRegion.{EndingRegion}
use Rattle.abc_voices_sections.specs.declared.ending_fields.EndingRegion.TheVariants.{Common, Inside, AfterBar}
use Rattle.abc_voices_sections.specs.EndingFields.{waits, region_after}
use Rattle.abc_voices_sections.specs.Section.{is_step, voice_after}
use Rattle.abc_play_sections.specs.declared.step.PlayStep.{PlayStep}
use Rattle.abc_play_sections.specs.declared.step.PlayStep.TheVariants as steps
use Rattle.abc_play_sections.specs.Order.{put_with_waiting, in_order_from, in_order}
use Rattle.abc_play_sections.specs.Play.{part_from}
use Rattle.abc_play_sections.specs.Step.{as_item, is_item, mark, without_bar_lines}

-- the steps of a voice without bar lines
pub without_bar_lines-part : (voice current : List ℕ) (own : List PlayStep) → without_bar_lines (part_from voice current own) ≡ part_from voice current (without_bar_lines own)
without_bar_lines-part voice current [] = refl
without_bar_lines-part voice current (steps.Item item place ∷ rest) =
    let next = voice_after current item.now in
    let with_bars = part_from voice next rest in
    let others = part_from voice next (without_bar_lines rest) in
    elim (is_step item.now && bytes_eq current voice) as (λ b. without_bar_lines (cond b (steps.Item item place ∷ with_bars) with_bars) ≡ cond b (steps.Item item place ∷ others) others) [
      | true ↦ ap (λ l. steps.Item item place ∷ l) (without_bar_lines-part voice next rest)
      | false ↦ without_bar_lines-part voice next rest
    ]
without_bar_lines-part voice current (steps.BarLine place ∷ rest) =
    let with_bars = part_from voice current rest in
    elim (bytes_eq current voice) as (λ b. without_bar_lines (cond (true && b) (steps.BarLine place ∷ with_bars) with_bars) ≡ part_from voice current (without_bar_lines rest)) [
      | true ↦ without_bar_lines-part voice current rest
      | false ↦ without_bar_lines-part voice current rest
    ]

-- only after an ending's bar something waits
abbrev MayWait : EndingRegion → List PlayStep → Type 0
MayWait AfterBar held = ⊤
MayWait _ held = held ≡ []

none_waits : (region : EndingRegion) → MayWait region []
none_waits AfterBar = tt
none_waits Common = refl
none_waits Inside = refl

-- what is moved is the same without bar lines
abbrev MovedAlike : EndingRegion → List PlayStep → List PlayStep → Type 0
MovedAlike region held own =
    without_bar_lines (in_order_from region held own) ≡ in_order_from region (without_bar_lines held) (without_bar_lines own)

put_without : (held : List PlayStep) (step : PlayStep) → is_item step ≡ true → without_bar_lines (put_with_waiting held step) ≡ put_with_waiting (without_bar_lines held) step
put_without held step h =
    let single = ap (λ b. cond b (step ∷ []) []) h in
    elim (is_ending (mark step)) as (λ b. without_bar_lines (cond b (step ∷ held) (held ++ step ∷ [])) ≡ cond b (step ∷ without_bar_lines held) (without_bar_lines held ++ step ∷ [])) [
      | true ↦ ap (λ b. cond b (step ∷ without_bar_lines held) (without_bar_lines held)) h
      | false ↦ filter-append is_item held (step ∷ []) ∙ ap (λ l. without_bar_lines held ++ l) single
    ]

-- a step that does not wait
goes_alike : (region : EndingRegion) (held rest : List PlayStep) (step : PlayStep) → is_item step ≡ true
    → MovedAlike (region_after region (mark step)) [] rest
    → without_bar_lines (put_with_waiting held step ++ in_order_from (region_after region (mark step)) [] rest)
    ≡ put_with_waiting (without_bar_lines held) step ++ in_order_from (region_after region (mark step)) [] (without_bar_lines rest)
goes_alike region held rest step h same =
    filter-append is_item (put_with_waiting held step) (in_order_from (region_after region (mark step)) [] rest)
    ∙ (λ i. put_without held step h i ++ same i)

item_more : (region : EndingRegion) (held rest : List PlayStep) (step : PlayStep) → is_item step ≡ true
    → ((next : EndingRegion) (waiting : List PlayStep) → MayWait next waiting → MovedAlike next waiting rest)
    → without_bar_lines (in_order_from region held (step ∷ rest)) ≡ in_order_from region (without_bar_lines held) (step ∷ without_bar_lines rest)
item_more AfterBar held rest step h alike =
    let next = region_after AfterBar (mark step) in
    elim (waits AfterBar (as_item step)) as (λ b. without_bar_lines (cond b (in_order_from AfterBar (held ++ step ∷ []) rest) (put_with_waiting held step ++ in_order_from next [] rest))
    ≡ cond b (in_order_from AfterBar (without_bar_lines held ++ step ∷ []) (without_bar_lines rest))
    (put_with_waiting (without_bar_lines held) step ++ in_order_from next [] (without_bar_lines rest))) [
      | true ↦
          alike AfterBar (held ++ step ∷ []) tt
          ∙ ap (λ l. in_order_from AfterBar l (without_bar_lines rest))
          (filter-append is_item held (step ∷ []) ∙ ap (λ b. without_bar_lines held ++ cond b (step ∷ []) []) h)
      | false ↦ goes_alike AfterBar held rest step h (alike next [] (none_waits next))
    ]
item_more Common held rest step h alike =
    let next = region_after Common (mark step) in
    goes_alike Common held rest step h (alike next [] (none_waits next))
item_more Inside held rest step h alike =
    let next = region_after Inside (mark step) in
    goes_alike Inside held rest step h (alike next [] (none_waits next))

bar_line_more : (region : EndingRegion) (held rest : List PlayStep) (place : ℕ) → MayWait region held
    → ((next : EndingRegion) (waiting : List PlayStep) → MayWait next waiting → MovedAlike next waiting rest)
    → MovedAlike region held (steps.BarLine place ∷ rest)
bar_line_more AfterBar held rest place may alike =
    alike AfterBar (held ++ steps.BarLine place ∷ []) tt
    ∙ ap (λ l. in_order_from AfterBar l (without_bar_lines rest)) (filter-append is_item held (steps.BarLine place ∷ []) ∙ append-nil (without_bar_lines held))
bar_line_more Common held rest place may alike =
    subst (λ l. MovedAlike Common l (steps.BarLine place ∷ rest)) (sym may) (alike Common [] refl)
bar_line_more Inside held rest place may alike =
    subst (λ l. MovedAlike Inside l (steps.BarLine place ∷ rest)) (sym may) (alike Inside [] refl)

order_without : (region : EndingRegion) (held own : List PlayStep) → MayWait region held → MovedAlike region held own
order_without region held [] may = refl
order_without region held (steps.Item item place ∷ rest) may =
    item_more region held rest (steps.Item item place) refl (λ next waiting. order_without next waiting rest)
order_without region held (steps.BarLine place ∷ rest) may =
    bar_line_more region held rest place may (λ next waiting. order_without next waiting rest)

-- the order of steps without bar lines
pub without_bar_lines-in_order : (own : List PlayStep) → without_bar_lines (in_order own) ≡ in_order (without_bar_lines own)
without_bar_lines-in_order own = order_without Common [] own refl
