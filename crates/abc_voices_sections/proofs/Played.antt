-- What is played of a part, by its runs.
use Rattle.std.proofs.Common.{◌≡◌, Bool, false, not, List, [], length, Vec, Global, Ok, Err, IfOk, sym, ap, ◌∙◌, append-nil}
use Rattle.std.specs.declared.result.Result.{Result}
use Rattle.abc_bars_items.specs.declared.item.Item.{Item}
use Rattle.abc_repeat.specs.Runs.{Run, items_played}
use Rattle.abc_repeat.specs.declared.fault.RepeatFault.{RepeatFault}
use Rattle.abc_voices_sections.specs.declared.item_runs.ItemRun.{ItemRun}
use Rattle.abc_voices_sections.specs.declared.ending_fields.EndingRegion.TheVariants.{Common}
use Rattle.abc_voices_sections.specs.EndingFields.{nothing_waits, ordered}
use Rattle.abc_voices_sections.specs.Play.{places, played, expanded}
use Rattle.abc_voices_sections.specs.ItemRuns.{runs_of, items_in, AreAllPlayed, AreRuns}
use Rattle.abc_voices_sections.proofs.OneByOne.{one_by_one, as_many}
use Rattle.abc_voices_sections.proofs.Unmoved.{nothing_moves}
use Rattle.abc_voices_sections.proofs.Waiting.{rest_goes}
use Rattle.abc_voices_sections.proofs.Whole.{played_whole, one_run}

played_runs : {A : Type 0} (item_of : A → Item) (part steps : List A) (runs : List (Run A)) → steps ≡ ordered item_of part → AreRuns item_of steps runs → items_played runs ≡ played item_of part
played_runs item_of part steps runs moved are =
    played_whole item_of steps runs are
    ∙ one_by_one item_of steps
    ∙ ap (expanded item_of) moved

-- if nothing in its runs waits for an ending's sign, a part is unchanged
stays : {A : Type 0} (item_of : A → Item) (part : List A) (runs : List (Run A)) (waiting : Bool) → AreRuns item_of part runs → not waiting ≡ nothing_waits item_of Common (items_in runs) → waiting ≡ false
    → part ≡ ordered item_of part
stays item_of part runs waiting are is none =
    sym (nothing_moves item_of Common part (ap (nothing_waits item_of Common) (sym are.whole) ∙ sym is ∙ ap not none))

-- what runs play if nothing is moved
pub items_played-in_place : {A : Type 0} (item_of : A → Item) (part seen : List A) (found listed borrowed : List (ItemRun A)) (waiting : Bool) → seen ≡ part → listed ≡ found → borrowed ≡ found
    → AreRuns item_of seen (runs_of found) → not waiting ≡ nothing_waits item_of Common (items_in (runs_of listed)) → waiting ≡ false
    → items_played (runs_of borrowed) ≡ played item_of part
items_played-in_place item_of part seen found listed borrowed waiting same first second are is none =
    let waits = is ∙ ap (λ item_runs. nothing_waits item_of Common (items_in (runs_of item_runs))) first in
    ap (λ item_runs. items_played (runs_of item_runs)) second
    ∙ played_runs item_of seen seen (runs_of found) (stays item_of seen (runs_of found) waiting are waits none) are
    ∙ ap (played item_of) same

-- what they play after what is moved
pub items_played-in_order : {A : Type 0} (item_of : A → Item) (part seen steps taken : List A) (found borrowed : List (ItemRun A)) → seen ≡ part → steps ≡ ordered item_of seen
    → taken ≡ steps → borrowed ≡ found → AreRuns item_of taken (runs_of found) → items_played (runs_of borrowed) ≡ played item_of part
items_played-in_order item_of part seen steps taken found borrowed same moved first second are =
    ap (λ item_runs. items_played (runs_of item_runs)) second
    ∙ played_runs item_of seen taken (runs_of found) (first ∙ moved) are
    ∙ ap (played item_of) same

-- the number of places
pub length-items : {A : Type 0} (item_of : A → Item) (part items : List A) → items ≡ played item_of part → length items ≡ length (places item_of (ordered item_of part))
length-items item_of part items is = ap length is ∙ as_many item_of (ordered item_of part)

pub sized : {A : Type 0} (item_of : A → Item) (given : Result (Vec A Global) RepeatFault) (part items : List A) → items ≡ played item_of part → IfOk given (λ steps. steps.items ≡ items)
    → IfOk given (λ steps. length steps.items ≡ length (places item_of (ordered item_of part)))
sized item_of (Ok steps) part items is own =
    ap length own ∙ length-items item_of part items is
sized item_of (Err why) part items is own = own

turns_stay : {A : Type 0} (item_of : A → Item) (part : List A) → AreAllPlayed item_of part → ordered item_of part ≡ part
turns_stay item_of part turns = nothing_moves item_of Common part (ap (nothing_waits item_of Common) (sym (append-nil part)) ∙ rest_goes item_of Common part [] turns)

-- items that all take their turn are played in order
pub played_items-turns : {A : Type 0} (item_of : A → Item) (part : List A) → AreAllPlayed item_of part → played item_of part ≡ part
played_items-turns item_of part turns =
    ap (expanded item_of) (turns_stay item_of part turns)
    ∙ sym (one_by_one item_of part)
    ∙ one_run item_of part turns

pub length-turns : {A : Type 0} (item_of : A → Item) (part : List A) → AreAllPlayed item_of part → length (places item_of (ordered item_of part)) ≡ length part
length-turns item_of part turns = sym (as_many item_of (ordered item_of part)) ∙ ap length (played_items-turns item_of part turns)
