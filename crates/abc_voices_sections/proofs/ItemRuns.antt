-- The runs of a part, one after another.
use Rattle.std.proofs.Common.{◌≡◌, ℕ, zero, suc, ◌+◌, ◌-◌, ◌<◌, ◌≤◌, min, true, false, not, ◌&&◌, Bool, List, [], ◌∷◌, ◌++◌, length, take, drop}
use Rattle.std.proofs.Common.{get_or, All, refl, sym, ap, subst, ◌∙◌, arith, append_assoc, append-nil, length-append}
use Rattle.std.specs.List.{flat_map}
use Rattle.std.proofs.lemmas.List.{map-append, take_more, take-append-drop, drop-drop}
use Rattle.std.proofs.lemmas.List.Concat.{flat_map-append}
use Rattle.std.proofs.lemmas.List.Elements.{All-nil, All-cons, All-append, All-get_or}
use Rattle.abc_bars_items.specs.declared.item.Item.{Item}
use Rattle.abc_repeat.specs.declared.mark.Mark.{Mark}
use Rattle.abc_repeat.specs.Mark.{is_play}
use Rattle.abc_repeat.specs.Runs.{Run, played_run, items_at}
use Rattle.abc_voices_sections.specs.declared.ending_fields.EndingRegion.{EndingRegion}
use Rattle.abc_voices_sections.specs.declared.item_runs.ItemRun.{ItemRun}
use Rattle.abc_voices_sections.specs.EndingFields.{waits, region_after, nothing_waits}
use Rattle.abc_voices_sections.specs.Step.{mark_of}
use Rattle.abc_voices_sections.specs.ItemRuns.{run_of, runs_of, items_in, AreAllPlayed, IsRun, together, single}
use Rattle.abc_voices_sections.proofs.Cuts.{front, held_more}
use Rattle.abc_voices_sections.proofs.Items.{of_map}
use Rattle.abc_voices_sections.proofs.Waiting.{run_goes}
use Rattle.abc_voices_sections.proofs.Whole.{some_in}

-- the items of one run more
items_more : {A : Type 0} (found : List (ItemRun A)) (item_run : ItemRun A) → items_in (runs_of (found ++ item_run ∷ [])) ≡ items_in (runs_of found) ++ item_run.items.now
items_more {A = A} found item_run =
    ap items_in (map-append run_of found (item_run ∷ []))
    ∙ flat_map-append (λ (run : Run A). run.items) (runs_of found) (run_of item_run ∷ [])
    ∙ ap (λ l. items_in (runs_of found) ++ l) (append-nil item_run.items.now)

-- it is a run as well
pub each_more : {A : Type 0} (item_of : A → Item) (found next : List (ItemRun A)) (item_run : ItemRun A) → next ≡ found ++ item_run ∷ [] → IsRun item_of (run_of item_run) → All (IsRun item_of) (runs_of found) → All (IsRun item_of) (runs_of next)
each_more item_of found next item_run is one all =
    subst (All (IsRun item_of)) (sym (ap runs_of is ∙ map-append run_of found (item_run ∷ [])))
    (All-append (IsRun item_of) (runs_of found) (run_of item_run ∷ []) all (All-cons (IsRun item_of) (run_of item_run) [] one (All-nil (IsRun item_of))))

pub turn_run : {A : Type 0} (item_of : A → Item) (items : List A) → 0 < length items → AreAllPlayed item_of items → IsRun item_of (played_run items)
turn_run item_of [] some turns = absurd (omega arith)
turn_run item_of (item ∷ items) some turns = together item items turns

-- what is before a place, and from there on
cut_at : {A : Type 0} (part : List A) (begin at : ℕ) → begin ≤ at → take (at - begin) (drop begin part) ++ drop at part ≡ drop begin part
cut_at part begin at inside =
    let place : begin + (at - begin) ≡ at = omega arith in
    ap (λ l. take (at - begin) (drop begin part) ++ l) (sym (drop-drop (at - begin) begin part ∙ ap (λ k. drop k part) place))
    ∙ take-append-drop (at - begin) (drop begin part)

-- a mark ends what takes its turn before it
pub mark_more : {A : Type 0} (part : List A) (found middle next : List (ItemRun A)) (mark : ItemRun A) (begin at : ℕ) (x : A)
    → begin ≤ at → at < length part → x ≡ get_or part at x
    → items_in (runs_of found) ++ drop begin part ≡ part
    → items_in (runs_of middle) ≡ items_in (runs_of found) ++ take (at - begin) (drop begin part)
    → next ≡ middle ++ mark ∷ [] → mark.items.now ≡ x ∷ []
    → items_in (runs_of next) ++ drop (at + 1) part ≡ part
mark_more part found middle next mark begin at x inside within is before put more one =
    let held = take (at - begin) (drop begin part) in
    let rest = drop (at + 1) part in
    let all : held ++ x ∷ rest ≡ drop begin part =
    ap (λ steps. held ++ steps) (sym (front part at x within is)) ∙ cut_at part begin at inside in
    ap (λ l. l ++ rest) (ap (λ l. items_in (runs_of l)) more ∙ items_more middle mark ∙ ap (λ l. items_in (runs_of middle) ++ l) one)
    ∙ append_assoc (items_in (runs_of middle)) (x ∷ []) rest
    ∙ ap (λ l. l ++ x ∷ rest) put
    ∙ append_assoc (items_in (runs_of found)) held (x ∷ rest)
    ∙ ap (λ l. items_in (runs_of found) ++ l) all
    ∙ before

-- the mark is a run by itself
pub mark_alone : {A : Type 0} (part : List A) (at : ℕ) (x : A) → at < length part → x ≡ get_or part at x → take (at + 1 - at) (drop at part) ≡ x ∷ []
mark_alone part at x within is =
    let one : at + 1 - at ≡ 1 = omega arith in
    ap (λ k. take k (drop at part)) one ∙ ap (take 1) (front part at x within is)

pub lone_run : {A : Type 0} (item_of : A → Item) (mark : Mark) (items : List A) (item : A) → mark ≡ mark_of (item_of item) → items ≡ item ∷ [] → IsRun item_of (record { mark = mark; items = items })
lone_run item_of mark items item same single_run =
    subst (λ l. IsRun item_of (record { mark = mark; items = l })) (sym single_run)
    (subst (λ (one : Mark). IsRun item_of (record { mark = one; items = item ∷ [] })) (sym same) (single item))

-- something more takes its turn
pub turn_more : {A : Type 0} (item_of : A → Item) (part : List A) (begin at : ℕ) (x : A) → begin ≤ at → at < length part → x ≡ get_or part at x → is_play (mark_of (item_of x)) ≡ true
    → AreAllPlayed item_of (take (at - begin) (drop begin part)) → AreAllPlayed item_of (take (at + 1 - begin) (drop begin part))
turn_more item_of part begin at x inside within is turns before =
    let held = take (at - begin) (drop begin part) in
    subst (AreAllPlayed item_of) (sym (held_more part begin at x inside within is))
    (All-append (λ item. is_play (mark_of (item_of item)) ≡ true) held (x ∷ []) before
    (All-cons (λ item. is_play (mark_of (item_of item)) ≡ true) x [] turns (All-nil (λ item. is_play (mark_of (item_of item)) ≡ true))))

pub no_turn : {A : Type 0} (item_of : A → Item) (part : List A) (at : ℕ) → AreAllPlayed item_of (take (at - at) (drop at part))
no_turn item_of part at =
    let none : at - at ≡ 0 = omega arith in
    subst (λ k. AreAllPlayed item_of (take k (drop at part))) (sym none) (All-nil (λ item. is_play (mark_of (item_of item)) ≡ true))

-- what is in the run at a place is what is in the item run there
found_at : {A : Type 0} (item_runs : List (ItemRun A)) (place : ℕ) (s : ItemRun A) → place < length item_runs → items_at (runs_of item_runs) place ≡ (get_or item_runs place s).items.now
found_at [] place s within = absurd (omega arith)
found_at (item_run ∷ item_runs) zero s within = refl
found_at (item_run ∷ item_runs) (suc place) s within = found_at item_runs place s (omega arith)

-- one place more
pub flat_map-place_more : {A : Type 0} (item_runs : List (ItemRun A)) (places : List ℕ) (i : ℕ) (s : ItemRun A) → All (λ place. place < length item_runs) places → i < length places
    → flat_map (items_at (runs_of item_runs)) (take (i + 1) places)
    ≡ flat_map (items_at (runs_of item_runs)) (take i places) ++ (get_or item_runs (get_or places i 0) s).items.now
flat_map-place_more item_runs places i s inside within =
    let place = get_or places i 0 in
    let here : place < length item_runs = All-get_or (λ one. one < length item_runs) places i 0 within inside in
    ap (flat_map (items_at (runs_of item_runs))) (take_more places i 0 within)
    ∙ flat_map-append (items_at (runs_of item_runs)) (take i places) (place ∷ [])
    ∙ ap (λ l. flat_map (items_at (runs_of item_runs)) (take i places) ++ l) (append-nil (items_at (runs_of item_runs) place) ∙ found_at item_runs place s here)

pub size_more : {A : Type 0} (item_runs : List (ItemRun A)) (places : List ℕ) (i : ℕ) (s : ItemRun A) (size next top : ℕ)
    → All (λ place. place < length item_runs) places → i < length places
    → size ≡ min (length (flat_map (items_at (runs_of item_runs)) (take i places))) top
    → next ≡ min (size + length (get_or item_runs (get_or places i 0) s).items.now) top
    → next ≡ min (length (flat_map (items_at (runs_of item_runs)) (take (i + 1) places))) top
size_more item_runs places i s size next top inside within before added =
    let item_run = get_or item_runs (get_or places i 0) s in
    let more = ap length (flat_map-place_more item_runs places i s inside within) in
    let both = length-append (flat_map (items_at (runs_of item_runs)) (take i places)) item_run.items.now in
    omega arith

pub items_more-at : {A : Type 0} (item_runs : List (ItemRun A)) (places : List ℕ) (i : ℕ) (s : ItemRun A) (items next : List A)
    → All (λ place. place < length item_runs) places → i < length places
    → items ≡ flat_map (items_at (runs_of item_runs)) (take i places)
    → next ≡ items ++ (get_or item_runs (get_or places i 0) s).items.now
    → next ≡ flat_map (items_at (runs_of item_runs)) (take (i + 1) places)
items_more-at item_runs places i s items next inside within before more =
    let own = (get_or item_runs (get_or places i 0) s).items.now in
    more
    ∙ ap (λ l. l ++ own) before
    ∙ sym (flat_map-place_more item_runs places i s inside within)

pub is_run_at : {A : Type 0} (item_of : A → Item) (item_runs : List (ItemRun A)) (i : ℕ) (s : ItemRun A) → All (IsRun item_of) (runs_of item_runs) → i < length item_runs → s ≡ get_or item_runs i s → IsRun item_of (run_of s)
is_run_at {A = A} item_of item_runs i s all within is =
    subst (λ (one : ItemRun A). IsRun item_of (run_of one)) (sym is) (All-get_or (λ (one : ItemRun A). IsRun item_of (run_of one)) item_runs i s within (of_map (IsRun item_of) run_of item_runs all))

pub some_at_first : {A : Type 0} (item_of : A → Item) (s : ItemRun A) → IsRun item_of (run_of s) → 0 < length s.items.now
some_at_first item_of s run = some_in item_of (run_of s) run

first_alike : {A : Type 0} (steps : List A) (x : A) → get_or steps 0 x ≡ get_or steps 0 (get_or steps 0 x)
first_alike [] x = refl
first_alike (step ∷ steps) x = refl

-- whether something waits from a run on
waits_from : {A : Type 0} (item_of : A → Item) (item_runs : List (ItemRun A)) (i : ℕ) (s : ItemRun A) (x : A) (region : EndingRegion) (own : Bool)
    → All (IsRun item_of) (runs_of item_runs) → i < length item_runs → s ≡ get_or item_runs i s → own ≡ waits region (item_of (get_or s.items.now 0 x))
    → nothing_waits item_of region (items_in (runs_of (drop i item_runs)))
    ≡ (not own && nothing_waits item_of (region_after region s.mark) (items_in (runs_of (drop (i + 1) item_runs))))
waits_from item_of item_runs i s x region own all within is agrees =
    let rest = items_in (runs_of (drop (i + 1) item_runs)) in
    ap (λ l. nothing_waits item_of region (items_in (runs_of l))) (front item_runs i s within is)
    ∙ run_goes item_of region (run_of s) (get_or s.items.now 0 x) rest (is_run_at item_of item_runs i s all within is) (first_alike s.items.now x)
    ∙ ap (λ b. not b && nothing_waits item_of (region_after region s.mark) rest) (sym agrees)

-- it does if the first item of the run does
pub nothing_waits-here : {A : Type 0} (item_of : A → Item) (item_runs : List (ItemRun A)) (i : ℕ) (s : ItemRun A) (x : A) (region : EndingRegion) (own : Bool)
    → All (IsRun item_of) (runs_of item_runs) → i < length item_runs → s ≡ get_or item_runs i s → own ≡ waits region (item_of (get_or s.items.now 0 x)) → own ≡ true
    → nothing_waits item_of region (items_in (runs_of (drop i item_runs))) ≡ false
nothing_waits-here item_of item_runs i s x region own all within is agrees here =
    waits_from item_of item_runs i s x region own all within is agrees
    ∙ ap (λ b. not b && nothing_waits item_of (region_after region s.mark) (items_in (runs_of (drop (i + 1) item_runs)))) here

-- else the others decide
pub nothing_waits-after : {A : Type 0} (item_of : A → Item) (item_runs : List (ItemRun A)) (i : ℕ) (s : ItemRun A) (x : A) (region : EndingRegion) (own : Bool)
    → All (IsRun item_of) (runs_of item_runs) → i < length item_runs → s ≡ get_or item_runs i s → own ≡ waits region (item_of (get_or s.items.now 0 x)) → own ≡ false
    → nothing_waits item_of region (items_in (runs_of (drop i item_runs))) ≡ nothing_waits item_of (region_after region s.mark) (items_in (runs_of (drop (i + 1) item_runs)))
nothing_waits-after item_of item_runs i s x region own all within is agrees here =
    waits_from item_of item_runs i s x region own all within is agrees
    ∙ ap (λ b. not b && nothing_waits item_of (region_after region s.mark) (items_in (runs_of (drop (i + 1) item_runs)))) here
