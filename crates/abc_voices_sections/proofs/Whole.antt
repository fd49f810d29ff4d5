-- The runs of a part are played as its steps are one by one.
use Rattle.std.proofs.Common.{◌≡◌, ℕ, zero, suc, ◌<◌, ◌≤◌, true, List, [], ◌∷◌, ◌++◌, length, map, All, refl, sym, ap, ◌∙◌, arith, append_assoc, append-nil, length-append}
use Rattle.std.specs.List.{flat_map, list_all}
use Rattle.std.proofs.lemmas.Bool.{and_parts}
use Rattle.std.proofs.lemmas.List.{length-map, map-append}
use Rattle.std.proofs.lemmas.List.Elements.{All-nil, All-cons, All-head, All-tail}
use Rattle.abc_bars_items.specs.declared.item.Item.{Item}
use Rattle.abc_repeat.specs.declared.mark.Mark.{Mark}
use Rattle.abc_repeat.specs.declared.mark.Mark.TheVariants as marks
use Rattle.abc_repeat.specs.Mark.{is_play}
use Rattle.abc_repeat.specs.Play.{play_of, IsPlayed}
use Rattle.abc_repeat.specs.Runs.{Run, played_run, marks_in, items_at, items_played}
use Rattle.abc_repeat.proofs.Lying.{play_played}
use Rattle.abc_repeat.proofs.Whole.{joined}
use Rattle.abc_voices_sections.specs.Step.{mark_of}
use Rattle.abc_voices_sections.specs.ItemRuns.{items_in, single_run, AreAllPlayed, IsRun, together, single, AreRuns}

pub takes_turn : (mark : Mark) → is_play mark ≡ true → mark ≡ marks.Play
takes_turn marks.Play h = refl
takes_turn _ h = cc

turn_alone : {A : Type 0} (item_of : A → Item) (item : A) → is_play (mark_of (item_of item)) ≡ true → single_run item_of item ≡ played_run (item ∷ [])
turn_alone item_of item h = ap (λ (mark : Mark). record { mark = mark; items = item ∷ [] }) (takes_turn (mark_of (item_of item)) h)

-- what is after one run more
after_one : {A : Type 0} (before following : List (Run A)) (run : Run A) → (before ++ run ∷ []) ++ following ≡ before ++ run ∷ following
after_one before following run = append_assoc before (run ∷ []) following

turn_whole : {A : Type 0} (item_of : A → Item) (before following : List (Run A)) (item : A) (items : List A) → AreAllPlayed item_of (item ∷ items)
    → items_played (before ++ (map (single_run item_of) (item ∷ items) ++ following)) ≡ items_played (before ++ played_run (item ∷ items) ∷ following)
turn_whole item_of before following item [] h =
    ap (λ run. items_played (before ++ run ∷ following)) (turn_alone item_of item (All-head (λ one. is_play (mark_of (item_of one)) ≡ true) item [] h))
turn_whole item_of before following item (next ∷ items) h =
    let first = turn_alone item_of item (All-head (λ one. is_play (mark_of (item_of one)) ≡ true) item (next ∷ items) h) in
    let rest = All-tail (λ one. is_play (mark_of (item_of one)) ≡ true) item (next ∷ items) h in
    ap items_played (sym (after_one before (map (single_run item_of) (next ∷ items) ++ following) (single_run item_of item)))
    ∙ turn_whole item_of (before ++ single_run item_of item ∷ []) following next items rest
    ∙ ap items_played (after_one before (played_run (next ∷ items) ∷ following) (single_run item_of item))
    ∙ ap (λ run. items_played (before ++ run ∷ played_run (next ∷ items) ∷ following)) first
    ∙ joined before following (item ∷ []) (next ∷ items)

run_whole : {A : Type 0} (item_of : A → Item) (before following : List (Run A)) (run : Run A) → IsRun item_of run
    → items_played (before ++ (map (single_run item_of) run.items ++ following)) ≡ items_played (before ++ run ∷ following)
run_whole item_of before following _ (together item items turns) = turn_whole item_of before following item items turns
run_whole item_of before following _ (single item) = refl

runs_whole : {A : Type 0} (item_of : A → Item) (before runs : List (Run A)) → All (IsRun item_of) runs → items_played (before ++ map (single_run item_of) (items_in runs)) ≡ items_played (before ++ runs)
runs_whole item_of before [] h = refl
runs_whole item_of before (run ∷ runs) h =
    ap (λ l. items_played (before ++ l)) (map-append (single_run item_of) run.items (items_in runs))
    ∙ run_whole item_of before (map (single_run item_of) (items_in runs)) run (All-head (IsRun item_of) run runs h)
    ∙ ap items_played (sym (after_one before (map (single_run item_of) (items_in runs)) run))
    ∙ runs_whole item_of (before ++ run ∷ []) runs (All-tail (IsRun item_of) run runs h)
    ∙ ap items_played (after_one before runs run)

pub played_whole : {A : Type 0} (item_of : A → Item) (part : List A) (runs : List (Run A)) → AreRuns item_of part runs → items_played runs ≡ items_played (map (single_run item_of) part)
played_whole item_of part runs are = sym (runs_whole item_of [] runs are.each) ∙ ap (λ items. items_played (map (single_run item_of) items)) are.whole

pub some_in : {A : Type 0} (item_of : A → Item) (run : Run A) → IsRun item_of run → 1 ≤ length run.items
some_in item_of _ (together item items turns) = omega arith
some_in item_of _ (single item) = omega arith

some_at : {A : Type 0} (item_of : A → Item) (runs : List (Run A)) (place : ℕ) → All (IsRun item_of) runs → place < length runs → 1 ≤ length (items_at runs place)
some_at item_of [] place all h = absurd (omega arith)
some_at item_of (run ∷ runs) zero all h = some_in item_of run (All-head (IsRun item_of) run runs all)
some_at item_of (run ∷ runs) (suc place) all h = some_at item_of runs place (All-tail (IsRun item_of) run runs all) (omega arith)

places_within : {A : Type 0} (item_of : A → Item) (runs : List (Run A)) (places : List ℕ) → All (IsRun item_of) runs → All (IsPlayed (marks_in runs)) places
    → length places ≤ length (flat_map (items_at runs) places)
places_within item_of runs [] all h = omega arith
places_within item_of runs (place ∷ places) all h =
    let here = All-head (IsPlayed (marks_in runs)) place places h in
    let within : place < length runs = omega (arith, here.0, length-map runs (λ run. run.mark)) in
    let some = some_at item_of runs place all within in
    let rest = places_within item_of runs places all (All-tail (IsPlayed (marks_in runs)) place places h) in
    let both = length-append (items_at runs place) (flat_map (items_at runs) places) in
    omega arith

-- no run is empty, so as many items are played as runs, or more
pub runs_within : {A : Type 0} (item_of : A → Item) (runs : List (Run A)) → All (IsRun item_of) runs → length (play_of (marks_in runs)) ≤ length (items_played runs)
runs_within item_of runs all = places_within item_of runs (play_of (marks_in runs)) all (play_played (marks_in runs))

-- what all takes its turn is one run
pub one_run : {A : Type 0} (item_of : A → Item) (part : List A) → AreAllPlayed item_of part → items_played (map (single_run item_of) part) ≡ part
unfolding play_of Rattle.abc_repeat.specs.Play.strain_play
one_run item_of [] h = refl
one_run item_of (item ∷ items) h =
    ap items_played (sym (append-nil (map (single_run item_of) (item ∷ items))))
    ∙ turn_whole item_of [] [] item items h
    ∙ append-nil (item ∷ items)

-- whether all take their turn
pub all_turns : {A : Type 0} (item_of : A → Item) (part : List A) → list_all (λ item. is_play (mark_of (item_of item))) part ≡ true → AreAllPlayed item_of part
all_turns item_of [] h = All-nil (λ item. is_play (mark_of (item_of item)) ≡ true)
all_turns item_of (item ∷ items) h =
    let both = and_parts (is_play (mark_of (item_of item))) (list_all (λ one. is_play (mark_of (item_of one))) items) h in
    All-cons (λ one. is_play (mark_of (item_of one)) ≡ true) item items both.0 (all_turns item_of items both.1)
