-- What stages set is within their time; an order of a tune is accepted.
use Rattle.std.proofs.Common.{◌≡◌, ℕ, ◌+◌, ◌<◌, ◌≤◌, List, [], ◌∷◌, length, Option, Some, None, Ok, sym, subst, ap, ◌∙◌, arith}
use Rattle.abc_repeat.specs.Order.{sections_of, has_unknown}
use Rattle.std.proofs.lemmas.List.Elements.{All-nil, All-cons, All-head, All-tail, All-append}
use Rattle.std.proofs.lemmas.List.Sums.{sum_by_from}
use Rattle.std.specs.Prelude.{All, IfSome, slice_get}
use Rattle.std.specs.List.{cons_option, flat_map}
use Rattle.std.specs.Option.{ForSome}
use Rattle.abc_bars_items.specs.declared.item.Item.{Item}
use Rattle.abc_bars_items.specs.declared.item.Item.TheVariants as items
use Rattle.abc_bars_items.specs.Item.{IsItem}
use Rattle.abc_fields.specs.Parts.{parts_of}
use Rattle.abc_time.specs.declared.grains.Grains.{Grains}
use Rattle.abc_voices_sections.specs.declared.stage.VoicePart.{VoicePart}
use Rattle.abc_voices_sections.specs.declared.stage.Stage.{Stage}
use Rattle.abc_voices.specs.Turns.{IsPart, IsStage, steps_of, set_by_all, set_by_one}
use Rattle.abc_voices_sections.specs.Turns.{length_along}
use Rattle.abc_voices.specs.Change.{at_moment, set_from, after_opening}
use Rattle.abc_voices.specs.Opening.{order_after, after_all}
use Rattle.abc_voices_sections.specs.Play.{duration}
use Rattle.abc_voices_sections.specs.Step.{length_of}
use Rattle.abc_voices.proofs.Fitting.Kept.{got}

-- a value that is set no later than this
abbrev pub IsBefore : {V : Type 0} → ℕ → Grains × V → Type 0
IsBefore end set = set.0.0 ≤ end

-- one more value, if there is one
one_more : {V : Type 0} (end at : ℕ) (value : Option V) (sets : List (Grains × V)) → at ≤ end → All (IsBefore end) sets → All (IsBefore end) (cons_option (at_moment at value) sets)
one_more end at None sets early all = all
one_more end at (Some value) sets early all = All-cons (IsBefore end) (record { 0 = at }, value) sets early all

-- what steps set
steps_before : {V : Type 0} (value_of : Item → Option V) (end at : ℕ) (steps : List Item) → at + duration steps ≤ end
    → All (IsBefore end) (set_from value_of at steps)
steps_before value_of end at [] early = All-nil (IsBefore end)
steps_before value_of end at (step ∷ steps) early =
    let sum = sum_by_from length_of (0 + length_of step) steps in
    one_more end at (value_of step) (set_from value_of (at + length_of step) steps) (omega (arith, sum))
    (steps_before value_of end (at + length_of step) steps (omega (arith, sum)))

-- what a part sets
part_before : {V : Type 0} (value_of : Item → Option V) (end at : ℕ) (longest : Grains) (part : VoicePart Item) → at + longest.0 ≤ end → IsPart longest part
    → All (IsBefore end) (set_from value_of at part.steps)
part_before value_of end at longest part early is = steps_before value_of end at part.steps (omega arith)

-- what parts set
parts_before : {V : Type 0} (value_of : Item → Option V) (end at : ℕ) (longest : Grains) (parts : List (VoicePart Item)) → at + longest.0 ≤ end → All (IsPart longest) parts
    → All (IsBefore end) (flat_map (λ part. set_from value_of at part.steps) parts)
parts_before value_of end at longest [] early all = All-nil (IsBefore end)
parts_before value_of end at longest (part ∷ parts) early all =
    All-append (IsBefore end) (set_from value_of at part.steps) (flat_map (λ p. set_from value_of at p.steps) parts)
    (part_before value_of end at longest part early (All-head (IsPart longest) part parts all))
    (parts_before value_of end at longest parts early (All-tail (IsPart longest) part parts all))

-- what all voices set
all_before : {V : Type 0} (value_of : Item → Option V) (end at : ℕ) (stages : List (Stage Item)) → at + length_along stages ≤ end → All IsStage stages
    → All (IsBefore end) (set_by_all value_of at stages)
all_before value_of end at [] early all = All-nil (IsBefore end)
all_before value_of end at (stage ∷ stages) early all =
    let sum = sum_by_from (λ (s : Stage Item). s.longest.0) (0 + stage.longest.0) stages in
    let is : IsStage stage = All-head IsStage stage stages all in
    All-append (IsBefore end) (flat_map (λ part. set_from value_of at part.steps) stage.parts) (set_by_all value_of (at + stage.longest.0) stages)
    (parts_before value_of end at stage.longest stage.parts (omega (arith, sum)) is.parts)
    (all_before value_of end (at + stage.longest.0) stages (omega (arith, sum)) (All-tail IsStage stage stages all))

-- what a part sets, if there is one
if_part_before : {V : Type 0} (value_of : Item → Option V) (end at : ℕ) (longest : Grains) (part : Option (VoicePart Item)) → at + longest.0 ≤ end → IfSome part (IsPart longest)
    → All (IsBefore end) (set_from value_of at (steps_of part))
if_part_before value_of end at longest None early is = All-nil (IsBefore end)
if_part_before value_of end at longest (Some part) early is = part_before value_of end at longest part early is

-- what one voice sets
one_before : {V : Type 0} (value_of : Item → Option V) (voice end at : ℕ) (stages : List (Stage Item)) → at + length_along stages ≤ end → All IsStage stages
    → All (IsBefore end) (set_by_one value_of voice at stages)
one_before value_of voice end at [] early all = All-nil (IsBefore end)
one_before value_of voice end at (stage ∷ stages) early all =
    let sum = sum_by_from (λ (s : Stage Item). s.longest.0) (0 + stage.longest.0) stages in
    let is : IsStage stage = All-head IsStage stage stages all in
    All-append (IsBefore end) (set_from value_of at (steps_of (slice_get stage.parts voice))) (set_by_one value_of voice (at + stage.longest.0) stages)
    (if_part_before value_of end at stage.longest (slice_get stage.parts voice) (omega (arith, sum))
    (got (IsPart stage.longest) stage.parts voice is.parts))
    (one_before value_of voice end (at + stage.longest.0) stages (omega (arith, sum)) (All-tail IsStage stage stages all))

-- after what holds at the beginning
pub all_set : {V : Type 0} (value_of : Item → Option V) (opening : V) (end : ℕ) (stages : List (Stage Item)) (sets : List (Grains × V)) → length_along stages ≤ end → All IsStage stages
    → sets ≡ (record { 0 = 0 }, opening) ∷ set_by_all value_of 0 stages → All (IsBefore end) sets
all_set value_of opening end stages sets early all e =
    subst (All (IsBefore end)) (sym e)
    (All-cons (IsBefore end) (record { 0 = 0 }, opening) (set_by_all value_of 0 stages) (omega arith) (all_before value_of end 0 stages (omega arith) all))

pub one_set : {V : Type 0} (value_of : Item → Option V) (voice : ℕ) (opening : Option V) (end : ℕ) (stages : List (Stage Item)) (sets : List (Grains × V)) → length_along stages ≤ end → All IsStage stages
    → sets ≡ after_opening opening (set_by_one value_of voice 0 stages) → All (IsBefore end) sets
one_set value_of voice opening end stages sets early all e =
    subst (All (IsBefore end)) (sym e)
    (one_more end 0 opening (set_by_one value_of voice 0 stages) (omega arith) (one_before value_of voice end 0 stages (omega arith) all))

-- an order that is accepted
abbrev pub IsAccepted : Option (List ℕ) → Type 0
IsAccepted order = ForSome order (λ text. parts_of text ≡ Ok tt)

order_step : (order : Option (List ℕ)) (item : Item) → IsAccepted order → IsItem item → IsAccepted (order_after order item)
order_step order (items.Order text) h is = λ other e. let same : text ≡ other = cc in subst (λ t. parts_of t ≡ Ok tt) same is
order_step order _ h is = h

pub order_accepted : (tune : List Item) (order : Option (List ℕ)) → IsAccepted order → All IsItem tune
    → IsAccepted (after_all order_after order tune)
order_accepted [] order h all = h
order_accepted (step ∷ tune) order h all =
    order_accepted tune (order_after order step) (order_step order step h (All-head IsItem step tune all)) (All-tail IsItem step tune all)

-- the same order and letters play as many sections, and have as much unknown
pub same_length : (order order2 : Option (List ℕ)) (found found2 : List ℕ) → order ≡ order2 → found ≡ found2 → length (sections_of order found) ≡ length (sections_of order2 found2)
same_length order order2 found found2 p q = ap (λ o. length (sections_of o found)) p ∙ ap (λ f. length (sections_of order2 f)) q

pub same_unknown : (order order2 : Option (List ℕ)) (found found2 : List ℕ) → order ≡ order2 → found ≡ found2 → has_unknown order found ≡ has_unknown order2 found2
same_unknown order order2 found found2 p q = ap (λ o. has_unknown o found) p ∙ ap (has_unknown order2) q

-- what is not above a number is at most it
pub not_above : (n most : ℕ) → (most < n → ⊥) → n ≤ most
not_above n most refuted = omega arith
