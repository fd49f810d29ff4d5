-- Steps in the order of their play: no bar line that is passed is between an ending's bar and the sign of the next ending.
use Rattle.std.proofs.Common.{◌≡◌, Bool, true, false, not, cond, ◌&&◌, ◌||◌, List, [], ◌∷◌, ◌++◌, refl, sym, ap, subst, ◌∙◌, append_assoc, append-nil}
use Rattle.std.specs.Bool.{⊤}
use Rattle.std.proofs.lemmas.List.Elements.{filter-append}
use Rattle.abc_bars_items.specs.declared.item.Item.{Item}
use Rattle.abc_bars_items.specs.declared.item.Item.TheVariants as items
use Rattle.abc_repeat.specs.declared.mark.Mark.{Mark}
use Rattle.abc_repeat.specs.declared.mark.Mark.TheVariants as marks
use Rattle.abc_repeat.specs.Mark.{is_ending, is_single, opens_next, closes_common, closes_ending}
use Rattle.abc_repeat.specs.Strain.{ends_strain, goes_on, leads_to_ending}
use Rattle.abc_repeat.proofs.Readings.{single_stays}
use Rattle.abc_voices_sections.specs.declared.ending_fields.EndingRegion.TheVariants.{Common, Inside, AfterBar}
use Rattle.abc_voices_sections.specs.EndingFields.{waits, after_mark, region_after}
use Rattle.abc_voices_sections.specs.Step.{is_field, mark_of}
use Rattle.abc_play_sections.specs.declared.step.PlayStep.{PlayStep}
use Rattle.abc_play_sections.specs.declared.step.PlayStep.TheVariants as steps
use Rattle.abc_play_sections.specs.Order.{put_with_waiting, in_order_from, in_order}
use Rattle.abc_play_sections.specs.Step.{as_item, is_item, mark, without_bar_lines}
use Rattle.abc_play_sections.proofs.OneByOne.{run_marks}

-- each mark ends its strain or not, with or without the bar lines after it
abbrev pub IsSettled : Bool → List PlayStep → Type 0
IsSettled inside [] = ⊤
IsSettled inside (step ∷ rest) =
    ((opened : Bool) → ends_strain opened inside (mark step) (run_marks rest) ≡ ends_strain opened inside (mark step) (run_marks (without_bar_lines rest)))
    × ((opened : Bool) → IsSettled (cond (ends_strain opened inside (mark step) (run_marks rest)) false (inside || is_ending (mark step))) rest)

-- whether steps lead to an ending's sign
abbrev leads : List PlayStep → Bool
leads own = leads_to_ending (run_marks own)

-- all of these may wait for an ending's sign
abbrev AllWait : List PlayStep → Type 0
AllWait [] = ⊤
AllWait (step ∷ own) = (waits AfterBar (as_item step) ≡ true) × AllWait own

one_more_waits : (own : List PlayStep) (step : PlayStep) → AllWait own → waits AfterBar (as_item step) ≡ true → AllWait (own ++ step ∷ [])
one_more_waits [] step all h = (h, tt)
one_more_waits (first ∷ own) step all h = (all.0, one_more_waits own step all.1 h)

wait_without : (own : List PlayStep) → AllWait own → AllWait (without_bar_lines own)
wait_without [] all = tt
wait_without (steps.Item item place ∷ own) all = (all.0, wait_without own all.1)
wait_without (steps.BarLine place ∷ own) all = wait_without own all.1

-- what waits is no sign, and ends no ending
no_sign : (item : Item) → waits AfterBar item ≡ true → is_ending (mark_of item) ≡ false
no_sign (items.Ending numbers) h = cc
no_sign _ h = refl

no_end : (item : Item) → waits AfterBar item ≡ true → closes_ending (mark_of item) ≡ false
no_end (items.Bar line) h = single_stays (mark_of (items.Bar line)) h
no_end _ h = refl

sign_stays : (own : Mark) → is_ending own ≡ true → closes_ending own ≡ false
sign_stays (marks.Ending numbers) h = refl
sign_stays _ h = cc

common_goes : (opened : Bool) (own : Mark) → cond (closes_common opened own) false (is_ending own) ≡ is_ending own
common_goes opened marks.Play = refl
common_goes opened (marks.Ending numbers) = refl
common_goes opened (marks.Bar closes opens double) = elim (closes_common opened (marks.Bar closes opens double)) as (λ b. cond b false false ≡ false) [
  | true ↦ refl
  | false ↦ refl
]

-- a step in a common part
head_common : (step : PlayStep) (rest : List PlayStep) (sign : Bool) → is_ending (mark step) ≡ sign → IsSettled sign rest → IsSettled false (step ∷ rest)
head_common step rest sign is settled = (
  λ opened. refl,
  λ opened. subst (λ b. IsSettled b rest) (sym (common_goes opened (mark step) ∙ is)) settled,
)

-- a step in an ending that does not end it
head_stays : (step : PlayStep) (rest : List PlayStep) → closes_ending (mark step) ≡ false → IsSettled true rest → IsSettled true (step ∷ rest)
head_stays step rest stays settled =
    let ends : (others : List Mark) → (closes_ending (mark step) && not (goes_on (mark step) others)) ≡ false = λ others. ap (λ b. b && not (goes_on (mark step) others)) stays in (
      λ opened. ends (run_marks rest) ∙ sym (ends (run_marks (without_bar_lines rest))),
      λ opened. subst (λ b. IsSettled (cond b false true) rest) (sym (ends (run_marks rest))) settled,
    )

-- a bar that ends an ending and opens another strain
head_opens : (step : PlayStep) (rest : List PlayStep) → closes_ending (mark step) ≡ true → opens_next (mark step) ≡ true → IsSettled false rest → IsSettled true (step ∷ rest)
head_opens step rest closes opens settled =
    let ends : (others : List Mark) → (closes_ending (mark step) && not (goes_on (mark step) others)) ≡ true =
    λ others. (λ i. closes i && not (not (opens i) && leads_to_ending others)) in (
      λ opened. ends (run_marks rest) ∙ sym (ends (run_marks (without_bar_lines rest))),
      λ opened. subst (λ b. IsSettled (cond b false true) rest) (sym (ends (run_marks rest))) settled,
    )

by_leading : (goes : Bool) → cond (not goes) false true ≡ goes
by_leading true = refl
by_leading false = refl

-- a bar that ends an ending and opens none
head_after : (step : PlayStep) (rest : List PlayStep) → closes_ending (mark step) ≡ true → opens_next (mark step) ≡ false → leads rest ≡ leads (without_bar_lines rest)
    → IsSettled (leads rest) rest → IsSettled true (step ∷ rest)
head_after step rest closes opens same settled =
    let ends : (others : List Mark) → (closes_ending (mark step) && not (goes_on (mark step) others)) ≡ not (leads_to_ending others) =
    λ others. (λ i. closes i && not (not (opens i) && leads_to_ending others)) in (
      λ opened. ends (run_marks rest) ∙ ap not same ∙ sym (ends (run_marks (without_bar_lines rest))),
      λ opened. subst (λ b. IsSettled (cond b false true) rest) (sym (ends (run_marks rest))) (subst (λ b. IsSettled b rest) (sym (by_leading (leads rest))) settled),
    )

-- what waits before others
waiting_common : (held rest : List PlayStep) → AllWait held → IsSettled false rest → IsSettled false (held ++ rest)
waiting_common [] rest all settled = settled
waiting_common (step ∷ held) rest all settled =
    head_common step (held ++ rest) false (no_sign (as_item step) all.0) (waiting_common held rest all.1 settled)

waiting_inside : (held rest : List PlayStep) → AllWait held → IsSettled true rest → IsSettled true (held ++ rest)
waiting_inside [] rest all settled = settled
waiting_inside (step ∷ held) rest all settled =
    head_stays step (held ++ rest) (no_end (as_item step) all.0) (waiting_inside held rest all.1 settled)

no_more : (a : Bool) → (a && false) ≡ false
no_more true = refl
no_more false = refl

-- what waits leads to no sign by itself
waiting_leads : (held rest : List PlayStep) → AllWait held → leads rest ≡ false → leads (held ++ rest) ≡ false
waiting_leads [] rest all none = none
waiting_leads (step ∷ held) rest all none =
    (λ i. no_sign (as_item step) all.0 i || (is_single (mark step) && waiting_leads held rest all.1 none i))
    ∙ no_more (is_single (mark step))

second : (a b : Bool) → (a || b) ≡ false → b ≡ false
second true b h = cc
second false b h = h

-- neither does what neither waits nor is a sign
other_leads : (step : PlayStep) (rest : List PlayStep) → waits AfterBar (as_item step) ≡ false → is_ending (mark step) ≡ false → leads (step ∷ rest) ≡ false
other_leads step rest goes sign =
    let single = second (is_field (as_item step)) (is_single (mark step)) goes in
    (λ i. sign i || (single i && leads rest))

is_an_item : (step : PlayStep) → waits AfterBar (as_item step) ≡ false → is_item step ≡ true
is_an_item (steps.Item item place) h = refl
is_an_item (steps.BarLine place) h = cc

kept_first : (step : PlayStep) (rest : List PlayStep) → waits AfterBar (as_item step) ≡ false → without_bar_lines (step ∷ rest) ≡ step ∷ without_bar_lines rest
kept_first step rest goes = ap (λ b. cond b (step ∷ without_bar_lines rest) (without_bar_lines rest)) (is_an_item step goes)

-- what is put after an ending's bar
record AreAfter (own : List PlayStep) : Type 0 where
  settled : IsSettled (leads own) own
  same : leads own ≡ leads (without_bar_lines own)

-- the order of steps from each region on
record AreInOrder (own : List PlayStep) : Type 0 where
  common : IsSettled false (in_order_from Common [] own)
  inside : IsSettled true (in_order_from Inside [] own)
  after : (held : List PlayStep) → AllWait held → AreAfter (in_order_from AfterBar held own)

none_after : (held : List PlayStep) → AllWait held → AreAfter held
none_after held all =
    let none : leads held ≡ false = ap leads (sym (append-nil held)) ∙ waiting_leads held [] all refl in
    let others = without_bar_lines held in
    let still : leads others ≡ false = ap leads (sym (append-nil others)) ∙ waiting_leads others [] (wait_without held all) refl in
    record {
      settled = subst (λ b. IsSettled b held) (sym none) (subst (IsSettled false) (append-nil held) (waiting_common held [] all tt));
      same = none ∙ sym still;
    }

in_common : (step : PlayStep) (rest : List PlayStep) (sign : Bool) → AreInOrder rest → is_ending (mark step) ≡ sign
    → IsSettled false (cond sign (step ∷ []) ([] ++ step ∷ []) ++ in_order_from (cond sign Inside (after_mark Common (mark step))) [] rest)
in_common step rest true are is = head_common step (in_order_from Inside [] rest) true is are.inside
in_common step rest false are is = head_common step (in_order_from Common [] rest) false is are.common

in_ending : (step : PlayStep) (rest : List PlayStep) (sign closes opens : Bool) → AreInOrder rest
    → is_ending (mark step) ≡ sign → closes_ending (mark step) ≡ closes → opens_next (mark step) ≡ opens
    → IsSettled true (cond sign (step ∷ []) ([] ++ step ∷ []) ++ in_order_from (cond sign Inside (cond closes (cond opens Common AfterBar) Inside)) [] rest)
in_ending step rest true closes opens are is ends goes = head_stays step (in_order_from Inside [] rest) (sign_stays (mark step) is) are.inside
in_ending step rest false false opens are is ends goes = head_stays step (in_order_from Inside [] rest) ends are.inside
in_ending step rest false true true are is ends goes = head_opens step (in_order_from Common [] rest) ends goes are.common
in_ending step rest false true false are is ends goes =
    let later = are.after [] tt in
    head_after step (in_order_from AfterBar [] rest) ends goes later.same later.settled

sign_after : (step : PlayStep) (held rest : List PlayStep) → AllWait held → AreInOrder rest → waits AfterBar (as_item step) ≡ false → is_ending (mark step) ≡ true
    → AreAfter (step ∷ (held ++ in_order_from Inside [] rest))
sign_after step held rest all are goes is =
    let others = held ++ in_order_from Inside [] rest in
    let leading : (more : List PlayStep) → leads (step ∷ more) ≡ true = λ more. ap (λ b. b || (is_single (mark step) && leads more)) is in
    record {
      settled = subst (λ b. IsSettled b (step ∷ others)) (sym (leading others))
          (head_stays step others (sign_stays (mark step) is) (waiting_inside held (in_order_from Inside [] rest) all are.inside));
      same = leading others ∙ sym (ap leads (kept_first step others goes) ∙ leading (without_bar_lines others));
    }

other_after : (step : PlayStep) (held rest : List PlayStep) → AllWait held → AreInOrder rest → waits AfterBar (as_item step) ≡ false → is_ending (mark step) ≡ false
    → AreAfter (held ++ step ∷ in_order_from Common [] rest)
other_after step held rest all are goes is =
    let others = in_order_from Common [] rest in
    let none = waiting_leads held (step ∷ others) all (other_leads step others goes is) in
    let less = filter-append is_item held (step ∷ others) ∙ ap (λ l. without_bar_lines held ++ l) (kept_first step others goes) in
    let still = ap leads less ∙ waiting_leads (without_bar_lines held) (step ∷ without_bar_lines others) (wait_without held all) (other_leads step (without_bar_lines others) goes is) in
    record {
      settled = subst (λ b. IsSettled b (held ++ step ∷ others)) (sym none) (waiting_common held (step ∷ others) all (head_common step others false is are.common));
      same = none ∙ sym still;
    }

after_one : (step : PlayStep) (held rest : List PlayStep) (sign : Bool) → AllWait held → AreInOrder rest → waits AfterBar (as_item step) ≡ false → is_ending (mark step) ≡ sign
    → AreAfter (cond sign (step ∷ held) (held ++ step ∷ []) ++ in_order_from (cond sign Inside (after_mark AfterBar (mark step))) [] rest)
after_one step held rest true all are goes is = sign_after step held rest all are goes is
after_one step held rest false all are goes is =
    subst AreAfter (sym (append_assoc held (step ∷ []) (in_order_from Common [] rest))) (other_after step held rest all are goes is)

in_after : (step : PlayStep) (held rest : List PlayStep) (waiting : Bool) → AllWait held → AreInOrder rest → waits AfterBar (as_item step) ≡ waiting
    → AreAfter (cond waiting (in_order_from AfterBar (held ++ step ∷ []) rest) (put_with_waiting held step ++ in_order_from (region_after AfterBar (mark step)) [] rest))
in_after step held rest true all are goes = are.after (held ++ step ∷ []) (one_more_waits held step all goes)
in_after step held rest false all are goes = after_one step held rest (is_ending (mark step)) all are goes refl

are_in_order : (own : List PlayStep) → AreInOrder own
are_in_order [] = record { common = tt; inside = tt; after = none_after }
are_in_order (step ∷ rest) =
    let are = are_in_order rest in
    record {
      common = in_common step rest (is_ending (mark step)) are refl;
      inside = in_ending step rest (is_ending (mark step)) (closes_ending (mark step)) (opens_next (mark step)) are refl refl refl;
      after = λ held all. in_after step held rest (waits AfterBar (as_item step)) all are refl;
    }

-- steps in the order of their play
pub order_settled : (own : List PlayStep) → IsSettled false (in_order own)
order_settled own = (are_in_order own).common
