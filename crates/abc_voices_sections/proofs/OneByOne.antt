-- What is played of steps is what is played of them one by one.
use Rattle.std.proofs.Common.{◌≡◌, ℕ, zero, suc, ◌<◌, List, [], ◌∷◌, ◌++◌, length, map, All, refl, sym, ap, ◌∙◌, arith}
use Rattle.std.specs.Prelude.{filter_map, slice_get}
use Rattle.std.specs.List.{cons_option, flat_map}
use Rattle.std.proofs.lemmas.List.Elements.{All-head, All-tail}
use Rattle.abc_bars_items.specs.declared.item.Item.{Item}
use Rattle.abc_repeat.specs.Play.{play_of, IsPlayed}
use Rattle.abc_repeat.specs.Runs.{items_at, items_played, marks_in}
use Rattle.abc_repeat.proofs.Lying.{play_played}
use Rattle.abc_voices_sections.specs.Play.{marks, places, expanded}
use Rattle.abc_voices_sections.specs.Step.{mark_of}
use Rattle.abc_voices_sections.specs.ItemRuns.{single_run}

one_at : {A : Type 0} (item_of : A → Item) (steps : List A) (place : ℕ) (rest : List A)
    → cons_option (slice_get steps place) rest ≡ items_at (map (single_run item_of) steps) place ++ rest
one_at item_of [] place rest = refl
one_at item_of (step ∷ steps) zero rest = refl
one_at item_of (step ∷ steps) (suc place) rest = one_at item_of steps place rest

all_at : {A : Type 0} (item_of : A → Item) (steps : List A) (those : List ℕ)
    → filter_map (slice_get steps) those ≡ flat_map (items_at (map (single_run item_of) steps)) those
all_at item_of steps [] = refl
all_at item_of steps (place ∷ those) =
    ap (cons_option (slice_get steps place)) (all_at item_of steps those)
    ∙ one_at item_of steps place (flat_map (items_at (map (single_run item_of) steps)) those)

pub marks_alone : {A : Type 0} (item_of : A → Item) (steps : List A) → marks_in (map (single_run item_of) steps) ≡ marks item_of steps
marks_alone item_of [] = refl
marks_alone item_of (step ∷ steps) = ap (λ others. mark_of (item_of step) ∷ others) (marks_alone item_of steps)

pub one_by_one : {A : Type 0} (item_of : A → Item) (steps : List A) → items_played (map (single_run item_of) steps) ≡ expanded item_of steps
one_by_one item_of steps =
    ap (λ those. flat_map (items_at (map (single_run item_of) steps)) (play_of those)) (marks_alone item_of steps)
    ∙ sym (all_at item_of steps (places item_of steps))

found : {A : Type 0} (steps : List A) (place : ℕ) (rest : List A) → place < length steps → length (cons_option (slice_get steps place) rest) ≡ suc (length rest)
found [] place rest h = absurd (omega arith)
found (step ∷ steps) zero rest h = refl
found (step ∷ steps) (suc place) rest h = found steps place rest (omega arith)

all_found : {A : Type 0} (item_of : A → Item) (steps : List A) (those : List ℕ) → All (IsPlayed (marks item_of steps)) those
    → length (filter_map (slice_get steps) those) ≡ length those
all_found item_of steps [] h = refl
all_found item_of steps (place ∷ those) h =
    let here = All-head (IsPlayed (marks item_of steps)) place those h in
    let within : place < length steps = omega (arith, here.0, Rattle.std.proofs.lemmas.List.length-map steps (λ step. mark_of (item_of step))) in
    found steps place (filter_map (slice_get steps) those) within
    ∙ ap suc (all_found item_of steps those (All-tail (IsPlayed (marks item_of steps)) place those h))

-- something is at each place that is played
pub as_many : {A : Type 0} (item_of : A → Item) (steps : List A) → length (expanded item_of steps) ≡ length (places item_of steps)
as_many item_of steps = all_found item_of steps (places item_of steps) (play_played (marks item_of steps))
