-- Bar lines that neither repeat nor are double change nothing.
use Rattle.std.proofs.Common.{◌≡◌, Bool, true, false, not, cond, ◌||◌, List, [], ◌∷◌, ◌++◌, length, map, refl, sym, ap, subst, ◌∙◌, append_assoc}
use Rattle.std.specs.Bool.{⊤}
use Rattle.std.proofs.lemmas.List.{append-nil}
use Rattle.std.proofs.lemmas.List.Elements.{filter-append}
use Rattle.abc_bars_items.specs.declared.item.Item.{Item}
use Rattle.abc_repeat.specs.declared.mark.Mark.{Mark}
use Rattle.abc_repeat.specs.declared.mark.Mark.TheVariants as marks
use Rattle.abc_repeat.specs.Mark.{is_ending, is_single}
use Rattle.abc_repeat.specs.Runs.{Run, items_played}
use Rattle.abc_repeat.proofs.Readings.{single_stays}
use Rattle.abc_repeat.proofs.Whole.{bars_passed}
use Rattle.abc_voices_sections.specs.declared.ending_fields.EndingRegion.{EndingRegion}
use Rattle.abc_voices_sections.specs.declared.ending_fields.EndingRegion.TheVariants.{Common, Inside, AfterBar}
use Rattle.abc_voices_sections.specs.EndingFields.{waits, after_mark, after_bar, region_after, with_waiting, ordered_from, ordered}
use Rattle.abc_voices_sections.specs.Play.{places, played, without_single_bars}
use Rattle.abc_voices_sections.specs.Step.{is_field, mark_of}
use Rattle.abc_voices_sections.specs.ItemRuns.{single_run}
use Rattle.abc_voices_sections.proofs.OneByOne.{one_by_one, as_many}

-- whether it changes something
abbrev matters : {A : Type 0} → (A → Item) → A → Bool
matters item_of step = not (is_single (mark_of (item_of step)))

left_out : {A : Type 0} (item_of : A → Item) (step : A) (steps : List A) → is_single (mark_of (item_of step)) ≡ true → without_single_bars item_of (step ∷ steps) ≡ without_single_bars item_of steps
left_out item_of step steps h = ap (λ b. cond (not b) (step ∷ without_single_bars item_of steps) (without_single_bars item_of steps)) h

kept : {A : Type 0} (item_of : A → Item) (step : A) (steps : List A) → is_single (mark_of (item_of step)) ≡ false → without_single_bars item_of (step ∷ steps) ≡ step ∷ without_single_bars item_of steps
kept item_of step steps h = ap (λ b. cond (not b) (step ∷ without_single_bars item_of steps) (without_single_bars item_of steps)) h

-- with or without a bar line that changes nothing, or with what matters
one_played : {A : Type 0} (item_of : A → Item) (before : List (Run A)) (step : A) (steps : List A) (single : Bool) → is_single (mark_of (item_of step)) ≡ single
    → ((front : List (Run A)) → items_played (front ++ map (single_run item_of) (without_single_bars item_of steps)) ≡ items_played (front ++ map (single_run item_of) steps))
    → items_played (before ++ map (single_run item_of) (without_single_bars item_of (step ∷ steps))) ≡ items_played (before ++ map (single_run item_of) (step ∷ steps))
one_played item_of before step steps true h rest =
    ap (λ l. items_played (before ++ map (single_run item_of) l)) (left_out item_of step steps h)
    ∙ rest before
    ∙ sym (bars_passed before (map (single_run item_of) steps) (single_run item_of step) h)
one_played item_of before step steps false h rest =
    ap (λ l. items_played (before ++ map (single_run item_of) l)) (kept item_of step steps h)
    ∙ ap items_played (sym (append_assoc before (single_run item_of step ∷ []) (map (single_run item_of) (without_single_bars item_of steps))))
    ∙ rest (before ++ single_run item_of step ∷ [])
    ∙ ap items_played (append_assoc before (single_run item_of step ∷ []) (map (single_run item_of) steps))

-- nothing is played otherwise without them
bars_played : {A : Type 0} (item_of : A → Item) (before : List (Run A)) (steps : List A) → items_played (before ++ map (single_run item_of) (without_single_bars item_of steps)) ≡ items_played (before ++ map (single_run item_of) steps)
bars_played item_of before [] = refl
bars_played item_of before (step ∷ steps) = one_played item_of before step steps (is_single (mark_of (item_of step))) refl (λ front. bars_played item_of front steps)

-- only after an ending's bar something waits
abbrev MayWait : {A : Type 0} → EndingRegion → List A → Type 0
MayWait AfterBar held = ⊤
MayWait _ held = held ≡ []

none_waits : (A : Type 0) (region : EndingRegion) → MayWait {A = A} region []
none_waits A AfterBar = tt
none_waits A _ = refl

no_sign : (mark : Mark) → is_single mark ≡ true → is_ending mark ≡ false
no_sign (marks.Ending numbers) h = cc
no_sign _ h = refl

abbrev order : {A : Type 0} → (A → Item) → EndingRegion → List A → List A → List A
order item_of region held steps = ordered_from item_of region held steps

-- a single bar that waits for nothing stays where it is
single_alone : {A : Type 0} (item_of : A → Item) (step : A) → is_single (mark_of (item_of step)) ≡ true → with_waiting item_of [] step ≡ step ∷ []
single_alone item_of step h = ap (λ b. cond b (step ∷ []) ([] ++ step ∷ [])) (no_sign (mark_of (item_of step)) h)

single_common : (mark : Mark) → is_single mark ≡ true → region_after Common mark ≡ Common
single_common mark h = ap (λ b. cond b Inside Common) (no_sign mark h)

single_inside : (mark : Mark) → is_single mark ≡ true → region_after Inside mark ≡ Inside
single_inside mark h =
    ap (λ b. cond b Inside (after_mark Inside mark)) (no_sign mark h)
    ∙ ap (λ b. cond b (after_bar mark) Inside) (single_stays mark h)

second : (a b : Bool) → b ≡ true → (a || b) ≡ true
second true b h = refl
second false b h = h

-- an item and those that have waited, without single bars
set_alike : {A : Type 0} (item_of : A → Item) (held : List A) (step : A) → is_single (mark_of (item_of step)) ≡ false → without_single_bars item_of (with_waiting item_of held step) ≡ with_waiting item_of (without_single_bars item_of held) step
set_alike item_of held step h = by_sign (is_ending (mark_of (item_of step)))
  where
    by_sign : (sign : Bool) → without_single_bars item_of (cond sign (step ∷ held) (held ++ step ∷ [])) ≡ cond sign (step ∷ without_single_bars item_of held) (without_single_bars item_of held ++ step ∷ [])
    by_sign true = kept item_of step held h
    by_sign false = filter-append (matters item_of) held (step ∷ []) ∙ ap (λ l. without_single_bars item_of held ++ l) (kept item_of step [] h)

-- what stays after an item that matters
goes_alike : {A : Type 0} (item_of : A → Item) (region : EndingRegion) (held steps : List A) (step : A) → is_single (mark_of (item_of step)) ≡ false
    → without_single_bars item_of (order item_of (region_after region (mark_of (item_of step))) [] steps) ≡ order item_of (region_after region (mark_of (item_of step))) [] (without_single_bars item_of steps)
    → without_single_bars item_of (with_waiting item_of held step ++ order item_of (region_after region (mark_of (item_of step))) [] steps)
    ≡ with_waiting item_of (without_single_bars item_of held) step ++ order item_of (region_after region (mark_of (item_of step))) [] (without_single_bars item_of steps)
goes_alike item_of region held steps step h rest =
    filter-append (matters item_of) (with_waiting item_of held step) (order item_of (region_after region (mark_of (item_of step))) [] steps)
    ∙ (λ i. set_alike item_of held step h i ++ rest i)

-- what is moved is the same without single bars
abbrev MovedAlike : {A : Type 0} → (A → Item) → EndingRegion → List A → List A → Type 0
MovedAlike item_of region held steps = without_single_bars item_of (order item_of region held steps) ≡ order item_of region (without_single_bars item_of held) (without_single_bars item_of steps)

after_single : {A : Type 0} (item_of : A → Item) (held steps : List A) (step : A) → is_single (mark_of (item_of step)) ≡ true → MovedAlike item_of AfterBar (held ++ step ∷ []) steps → MovedAlike item_of AfterBar held (step ∷ steps)
after_single item_of held steps step h rest =
    ap (λ b. without_single_bars item_of (cond b (order item_of AfterBar (held ++ step ∷ []) steps) (with_waiting item_of held step ++ order item_of (region_after AfterBar (mark_of (item_of step))) [] steps)))
    (second (is_field (item_of step)) (is_single (mark_of (item_of step))) h)
    ∙ rest
    ∙ ap (λ l. order item_of AfterBar l (without_single_bars item_of steps))
    (filter-append (matters item_of) held (step ∷ []) ∙ ap (λ l. without_single_bars item_of held ++ l) (left_out item_of step [] h) ∙ append-nil (without_single_bars item_of held))
    ∙ ap (order item_of AfterBar (without_single_bars item_of held)) (sym (left_out item_of step steps h))

after_other : {A : Type 0} (item_of : A → Item) (held steps : List A) (step : A) → is_single (mark_of (item_of step)) ≡ false → MovedAlike item_of AfterBar (held ++ step ∷ []) steps
    → MovedAlike item_of (region_after AfterBar (mark_of (item_of step))) [] steps → MovedAlike item_of AfterBar held (step ∷ steps)
after_other item_of held steps step h waiting going =
    elim (waits AfterBar (item_of step)) as (λ b. without_single_bars item_of (cond b (order item_of AfterBar (held ++ step ∷ []) steps) (with_waiting item_of held step ++ order item_of (region_after AfterBar (mark_of (item_of step))) [] steps))
    ≡ cond b (order item_of AfterBar (without_single_bars item_of held ++ step ∷ []) (without_single_bars item_of steps))
    (with_waiting item_of (without_single_bars item_of held) step ++ order item_of (region_after AfterBar (mark_of (item_of step))) [] (without_single_bars item_of steps))) [
      | true ↦
          waiting
          ∙ ap (λ l. order item_of AfterBar l (without_single_bars item_of steps)) (filter-append (matters item_of) held (step ∷ []) ∙ ap (λ l. without_single_bars item_of held ++ l) (kept item_of step [] h))
      | false ↦ goes_alike item_of AfterBar held steps step h going
    ]
    ∙ ap (order item_of AfterBar (without_single_bars item_of held)) (sym (kept item_of step steps h))

-- if nothing waits
alone : {A : Type 0} (item_of : A → Item) (region : EndingRegion) (steps : List A) (step : A) → is_single (mark_of (item_of step)) ≡ true → region_after region (mark_of (item_of step)) ≡ region → MovedAlike item_of region [] steps
    → without_single_bars item_of (with_waiting item_of [] step ++ order item_of (region_after region (mark_of (item_of step))) [] steps) ≡ order item_of region [] (without_single_bars item_of (step ∷ steps))
alone item_of region steps step h same rest =
    (λ i. without_single_bars item_of (single_alone item_of step h i ++ order item_of (same i) [] steps))
    ∙ left_out item_of step (order item_of region [] steps) h ∙ rest ∙ ap (order item_of region []) (sym (left_out item_of step steps h))

common_other : {A : Type 0} (item_of : A → Item) (steps : List A) (step : A) → is_single (mark_of (item_of step)) ≡ false → MovedAlike item_of (region_after Common (mark_of (item_of step))) [] steps → MovedAlike item_of Common [] (step ∷ steps)
common_other item_of steps step h going = goes_alike item_of Common [] steps step h going ∙ ap (order item_of Common []) (sym (kept item_of step steps h))

inside_other : {A : Type 0} (item_of : A → Item) (steps : List A) (step : A) → is_single (mark_of (item_of step)) ≡ false → MovedAlike item_of (region_after Inside (mark_of (item_of step))) [] steps → MovedAlike item_of Inside [] (step ∷ steps)
inside_other item_of steps step h going = goes_alike item_of Inside [] steps step h going ∙ ap (order item_of Inside []) (sym (kept item_of step steps h))

-- one step more
moved_more : {A : Type 0} (item_of : A → Item) (region : EndingRegion) (held steps : List A) (step : A) (single : Bool) → is_single (mark_of (item_of step)) ≡ single → MayWait region held
    → ((next : EndingRegion) (waiting : List A) → MayWait next waiting → MovedAlike item_of next waiting steps) → MovedAlike item_of region held (step ∷ steps)
moved_more item_of AfterBar held steps step true h may rest = after_single item_of held steps step h (rest AfterBar (held ++ step ∷ []) tt)
moved_more item_of AfterBar held steps step false h may rest =
    after_other item_of held steps step h (rest AfterBar (held ++ step ∷ []) tt) (rest (region_after AfterBar (mark_of (item_of step))) [] (none_waits _ (region_after AfterBar (mark_of (item_of step)))))
moved_more item_of Common held steps step true h may rest =
    subst (λ l. MovedAlike item_of Common l (step ∷ steps)) (sym may) (alone item_of Common steps step h (single_common (mark_of (item_of step)) h) (rest Common [] refl))
moved_more item_of Common held steps step false h may rest =
    subst (λ l. MovedAlike item_of Common l (step ∷ steps)) (sym may)
    (common_other item_of steps step h (rest (region_after Common (mark_of (item_of step))) [] (none_waits _ (region_after Common (mark_of (item_of step))))))
moved_more item_of Inside held steps step true h may rest =
    subst (λ l. MovedAlike item_of Inside l (step ∷ steps)) (sym may) (alone item_of Inside steps step h (single_inside (mark_of (item_of step)) h) (rest Inside [] refl))
moved_more item_of Inside held steps step false h may rest =
    subst (λ l. MovedAlike item_of Inside l (step ∷ steps)) (sym may)
    (inside_other item_of steps step h (rest (region_after Inside (mark_of (item_of step))) [] (none_waits _ (region_after Inside (mark_of (item_of step))))))

moved_alike : {A : Type 0} (item_of : A → Item) (region : EndingRegion) (held steps : List A) → MayWait region held → MovedAlike item_of region held steps
moved_alike item_of region held [] may = refl
moved_alike item_of region held (step ∷ steps) may =
    moved_more item_of region held steps step (is_single (mark_of (item_of step))) refl may (λ next waiting. moved_alike item_of next waiting steps)

-- what is played of a part without them
pub played_without_bars : {A : Type 0} (item_of : A → Item) (part : List A) → played item_of (without_single_bars item_of part) ≡ played item_of part
played_without_bars item_of part =
    sym (one_by_one item_of (ordered item_of (without_single_bars item_of part)))
    ∙ ap (λ steps. items_played (map (single_run item_of) steps)) (sym (moved_alike item_of Common [] part refl))
    ∙ bars_played item_of [] (ordered item_of part)
    ∙ one_by_one item_of (ordered item_of part)

-- how many places that has
pub size_without_bars : {A : Type 0} (item_of : A → Item) (part : List A)
    → length (places item_of (ordered item_of (without_single_bars item_of part))) ≡ length (places item_of (ordered item_of part))
size_without_bars item_of part =
    sym (as_many item_of (ordered item_of (without_single_bars item_of part)))
    ∙ ap length (played_without_bars item_of part)
    ∙ as_many item_of (ordered item_of part)
