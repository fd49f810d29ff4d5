-- Runs of items that come and go at a gap, one by one.
use Rattle.std.proofs.Common.{◌≡◌, ℕ, suc, ◌+◌, ◌<◌, ◌≤◌, List, [], ◌∷◌, ◌++◌, length, take, drop, Some, refl, sym, ap, ◌∙◌, arith, rules}
use Rattle.std.specs.List.{insert, remove, slice_get}
use Rattle.std.proofs.lemmas.List.{same_lists, places, append-nil, drop-drop, drop_at, length-take-le, take_at}
use Rattle.abc_lines.specs.Block.{gap_block}
use Rattle.abc_lines.specs.GapList.{gapped_list, replaced_run}

drop_past : {X : Type 0} (front back : List X) (n : ℕ) → length front ≡ n → drop (suc n) (front ++ back) ≡ drop 1 back
drop_past front back n count =
    let next : suc n ≡ n + 1 = omega arith in
    ap (λ k. drop k (front ++ back)) next ∙ sym (drop-drop 1 n (front ++ back)) ∙ ap (λ xs. drop 1 xs) (drop_at front back n count)

-- one more of a run goes
pub one_left_out : {X : Type 0} (xs : List X) (at k : ℕ) → at + k < length xs
    → remove (replaced_run xs at k []) at ≡ replaced_run xs at (k + 1) []
one_left_out xs at k inside =
    let front = take at xs ++ [] in
    let back = drop (at + k) xs in
    let count : length front ≡ at = rw (append-nil (take at xs)) (length-take-le at xs (omega arith)) in
    let more : at + k + 1 ≡ at + (k + 1) = omega arith in
    ap (λ ys. ys ++ drop (suc at) (front ++ back)) (take_at front back at count)
    ∙ ap (λ ys. front ++ ys) (drop_past front back at count ∙ drop-drop 1 (at + k) xs ∙ ap (λ n. drop n xs) more)

pub none_left_out : {X : Type 0} (xs : List X) (at : ℕ) → replaced_run xs at 0 [] ≡ xs
none_left_out xs at = same_lists _ _ (grind (arith, places)) (λ i d h. grind (arith, places))

pub all_left_out : {X : Type 0} (xs : List X) → replaced_run xs 0 (length xs) [] ≡ []
all_left_out xs = same_lists _ _ (grind (arith, places)) (λ i d h. grind (arith, places))

-- one more of a run comes
pub one_put : {X : Type 0} (xs : List X) (gap : ℕ) (x : X) (rest : List X) → gap ≤ length xs
    → replaced_run (insert xs gap x) (gap + 1) 0 rest ≡ replaced_run xs gap 0 (x ∷ rest)
one_put xs gap x rest inside = same_lists _ _ (grind (arith, places)) (λ i d h. grind (arith, places))

-- none is still to come
pub none_put : {X : Type 0} (xs : List X) (gap : ℕ) (rest : List X) → length rest ≡ 0 → xs ≡ replaced_run xs gap 0 rest
none_put xs gap [] none = sym (none_left_out xs gap)
none_put xs gap (x ∷ rest) none = absurd (omega arith)

-- a list part by part
pub gapped_equal : {X : Type 0} (xs ys : List X) (i j m n t u : ℕ) → xs ≡ ys → i ≡ j → m ≡ n → t ≡ u → gapped_list xs i m t ≡ gapped_list ys j n u
gapped_equal xs ys i j m n t u items gap room moved = rw items (rw gap (rw room (rw moved refl)))

pub placed_equal : {X : Type 0} (xs ys : List X) (gap m n : ℕ) → xs ≡ ys → m ≡ n → gap_block xs gap m ≡ gap_block ys gap n
placed_equal xs ys gap m n items room = rw items (rw room refl)

-- the first of some goes after the last of others
pub one_moved : {X : Type 0} (to from : List X) (x : X) → slice_get from 0 ≡ Some x
    → insert to (length to) x ++ remove from 0 ≡ to ++ from
one_moved to [] x first = search rules
one_moved to (y ∷ from) x first = same_lists _ _ (grind (arith, places)) (λ i d h. grind (arith, places))
