-- What a splice of a list leaves, step by step and item by item.
use Rattle.std.proofs.Common.{◌≡◌, ℕ, ◌+◌, ◌-◌, ◌*◌, ◌<◌, ◌≤◌, true, false, if◌then◌else◌, nat_le, List, [], ◌++◌, length, take, drop, None, refl, sym, ap, ◌∙◌, subst, arith}
use Rattle.std.specs.List.{slice_get}
use Rattle.std.proofs.lemmas.Bool.Decides.{nat_tests}
use Rattle.std.proofs.lemmas.Grind.{common_steps}
use Rattle.std.proofs.lemmas.Option.{gets}
use Rattle.std.proofs.lemmas.List.{append-nil, take_at, drop_at, length-take-le}
use Rattle.abc_lines.specs.GapList.{GapListView, gapped_list, distance, add_to_tally, replaced_run}
use Rattle.abc_lines.specs.ListSplice.{SplicePatchView, after_splice, capacity, capacity_for, count_after, splice_view}

pub gapped_alike : {X : Type 0} (xs ys : List X) (gap moved m n : ℕ) → xs ≡ ys → m ≡ n → gapped_list xs gap m moved ≡ gapped_list ys gap n moved
gapped_alike xs ys gap moved m n same alike = rw same (rw alike refl)

pub length-replaced_run : {X : Type 0} (xs : List X) (at removed : ℕ) (new : List X) → at + removed ≤ length xs
    → length (replaced_run xs at removed new) ≡ length xs - removed + length new
length-replaced_run xs at removed new inside = grind (arith, common_steps)

-- the places of the items
pub item_front : {X : Type 0} (xs : List X) (at removed : ℕ) (new : List X) (i : ℕ) → at + removed ≤ length xs → i < at
    → slice_get xs i ≡ slice_get (replaced_run xs at removed new) i
item_front xs at removed new i inside before = grind (arith, common_steps, gets)

pub item_among : {X : Type 0} (xs : List X) (at removed : ℕ) (new : List X) (i : ℕ) → at + removed ≤ length xs → at ≤ i → i - at < length new
    → slice_get new (i - at) ≡ slice_get (replaced_run xs at removed new) i
item_among xs at removed new i inside following before = grind (arith, common_steps, gets)

pub item_back : {X : Type 0} (xs : List X) (at removed : ℕ) (new : List X) (i : ℕ) → at + removed ≤ length xs → at + length new ≤ i → i - length new < length xs - removed
    → slice_get xs (i - length new + removed) ≡ slice_get (replaced_run xs at removed new) i
item_back xs at removed new i inside following before = grind (arith, common_steps, gets)

pub item_past : {X : Type 0} (xs : List X) (at removed : ℕ) (new : List X) (i : ℕ) → at + removed ≤ length xs → at + length new ≤ i → length xs - removed ≤ i - length new
    → None ≡ slice_get (replaced_run xs at removed new) i
item_past xs at removed new i inside following past = grind (arith, common_steps, gets)

-- a patch whose list is still the one that it was prepared on
pub items_now : {X : Type 0} (on now : GapListView X) (at removed : ℕ) (new : List X) (patch : SplicePatchView X) → splice_view on at removed new ≡ patch → patch.on ≡ now
    → replaced_run now.items at removed new ≡ patch.after.items
unfolding after_splice
items_now {X = X} on now at removed new patch seen same =
    ap (λ (l : GapListView X). replaced_run l.items at removed new) (sym (ap (λ p. p.on) seen ∙ same)) ∙ ap (λ p. p.after.items) seen

pub inside_now : {X : Type 0} (on now : GapListView X) (at removed : ℕ) (new : List X) (patch : SplicePatchView X) → splice_view on at removed new ≡ patch → patch.on ≡ now
    → at + removed ≤ length on.items
    → at + removed ≤ length now.items
inside_now {X = X} on now at removed new patch seen same inside =
    subst (λ (l : GapListView X). at + removed ≤ length l.items) (ap (λ p. p.on) seen ∙ same) inside

-- what is done to a list: some items are left out, all are moved over into a roomier list, others are put in
abbrev pub left_out : {X : Type 0} → ℕ → ℕ → GapListView X → GapListView X
left_out at removed list = gapped_list (replaced_run list.items at removed []) at (list.room + removed) (add_to_tally list.moved (distance list.gap at))

abbrev pub move_items : {X : Type 0} → GapListView X → GapListView X → GapListView X
move_items roomier list = gapped_list list.items list.gap (roomier.room - length list.items) list.moved

abbrev pub put_in : {X : Type 0} → List X → GapListView X → GapListView X
put_in new list = gapped_list (replaced_run list.items list.gap 0 new) (list.gap + length new) (list.room - length new) list.moved

run_put : {X : Type 0} (xs : List X) (at removed : ℕ) (new : List X) → at + removed ≤ length xs
    → replaced_run (replaced_run xs at removed []) at 0 new ≡ replaced_run xs at removed new
run_put xs at removed new inside =
    let front : length (take at xs) ≡ at = length-take-le at xs (omega arith) in
    let none : at + 0 ≡ at = omega arith in
    rw (append-nil (take at xs)) (rw none (
    rw (take_at (take at xs) (drop (at + removed) xs) at front)
    (ap (λ ys. take at xs ++ new ++ ys) (drop_at (take at xs) (drop (at + removed) xs) at front))))

pub put_in_room : {X : Type 0} (list : GapListView X) (at removed : ℕ) (new : List X) → at + removed ≤ length list.items → count_after list removed new ≤ capacity list
    → put_in new (left_out at removed list) ≡ after_splice list at removed new
unfolding after_splice
put_in_room list at removed new inside fits =
    let count : ℕ = count_after list removed new in
    let test : nat_le count (capacity list) ≡ true = grind (arith, nat_tests) in
    let all : capacity_for count list ≡ capacity list = ap (λ b. if b then capacity list else 2 * count) test in
    gapped_alike _ _ _ _ _ _ (run_put list.items at removed new inside) (omega (arith, all))

pub put_in_roomier : {X : Type 0} (list : GapListView X) (at removed : ℕ) (new : List X) → at + removed ≤ length list.items → capacity list < count_after list removed new
    → put_in new (move_items (gapped_list [] 0 (2 * count_after list removed new) 0) (left_out at removed list)) ≡ after_splice list at removed new
unfolding after_splice
put_in_roomier list at removed new inside narrow =
    let count : ℕ = count_after list removed new in
    let test : nat_le count (capacity list) ≡ false = grind (arith, nat_tests) in
    let all : capacity_for count list ≡ 2 * count = ap (λ b. if b then capacity list else 2 * count) test in
    let left = length-replaced_run list.items at removed [] inside in
    gapped_alike _ _ _ _ _ _ (run_put list.items at removed new inside) (omega (arith, all, left))
