-- Items of a chain from a place on, and their faults.
use Rattle.std.proofs.Common.{◌≡◌, ℕ, zero, suc, ◌+◌, ◌-◌, ◌<◌, ◌≤◌, List, [], ◌∷◌, ◌++◌, length, take, drop, map, Some}
use Rattle.std.proofs.Common.{None, slice_get, get_or, refl, sym, ap, ◌∙◌, subst, append_assoc, length-append, arith}
use Rattle.std.proofs.Math.Seq.{drop-cons}
use Rattle.std.proofs.lemmas.Grind.{flat_map-append}
use Rattle.std.proofs.lemmas.List.{drop_all, drop-drop, drop-map, append-nil}
use Rattle.std.proofs.lemmas.Option.{slice_get_within, slice_get_read, get_or_from_slice_get}
use Rattle.std.specs.List.{AllZip}
use Rattle.std.specs.Prelude.{All, IfOk, Result, Ok, Err}
use Rattle.std.proofs.lemmas.Slice.Zip.{AllZip-long}
use Rattle.abc_live_index.proofs.Lists.{one_on, past}
use Rattle.abc_fields.specs.declared.fault_code.FaultCode.{FaultCode}
use Rattle.abc_live_index.specs.Output.{placed_from}
use Rattle.abc_tune_compiler.specs.Placed.{placed_at}
use Rattle.abc_tune_compiler.specs.Tune.{fault_in, faults_along}

-- there is none after the last
pub none_on : {X : Type 0} (xs : List X) (i : ℕ) → slice_get xs i ≡ None → drop i xs ≡ []
none_on xs i is = drop_all i xs (past xs i is)

-- and one before it
pub never_none : {X : Type 0} {A : Type 0} (xs : List X) (i : ℕ) → i < length xs → slice_get xs i ≡ None → A
never_none xs i inside is = absurd (let following = past xs i is in omega (arith, inside, following))

-- the first of those from one place to another, and the rest
pub between : {X : Type 0} (xs : List X) (from to : ℕ) (x : X) → from < to → slice_get xs from ≡ Some x → take (to - from) (drop from xs) ≡ x ∷ take (to - (from + 1)) (drop (from + 1) xs)
between xs from to x order is =
    let count : to - from ≡ suc (to - (from + 1)) = omega (arith, order) in
    ap (λ k. take k (drop from xs)) count ∙ ap (take (suc (to - (from + 1)))) (one_on xs from x is)

-- what is put, and the rest
pub put_more : {X : Type 0} (out more own rest left whole : List X) → more ≡ out ++ own → left ≡ own ++ rest → out ++ left ≡ whole → more ++ rest ≡ whole
put_more out more own rest left whole put split is =
    ap (λ l. l ++ rest) put ∙ append_assoc out own rest ∙ ap (λ l. out ++ l) (sym split) ∙ is

module _ {Items : Type 0} (faults : Items → List (ℕ × FaultCode)) where
  -- the faults of a line from a place on
  pub line_on : (all : List Items) (line from to : ℕ) (one : Items) → from < to → slice_get all from ≡ Some one
      → faults_along faults (map (placed_at line) (take (to - from) (drop from all))) ≡ map (fault_in line) (faults one)
      ++ faults_along faults (map (placed_at line) (take (to - (from + 1)) (drop (from + 1) all)))
  line_on all line from to one order is = ap (λ l. faults_along faults (map (placed_at line) l)) (between all from to one order is)

  -- the faults of a line and those of the rest
  pub lines_on : (all : List Items) (line next from to : ℕ) (count : ℕ) (counts left : List ℕ) → left ≡ count ∷ counts → to ≡ from + count → next ≡ line + 1
      → faults_along faults (placed_from line left (drop from all)) ≡ faults_along faults
      (map (placed_at line) (take (to - from) (drop from all))) ++ faults_along faults (placed_from next counts (drop to all))
  lines_on all line next from to count counts left are ends follows =
      let long : count ≡ to - from = omega (arith, ends) in
      let following : drop count (drop from all) ≡ drop to all = drop-drop count from all ∙ ap (λ k. drop k all) (let e : from + count ≡ to = omega (arith, ends) in e) in
      ap (λ l. faults_along faults (placed_from line l (drop from all))) are
      ∙ flat_map-append (λ one. map (fault_in one.line) (faults one.here)) (map (placed_at line) (take count (drop from all))) (placed_from (line + 1) counts (drop count (drop from all)))
      ∙ ap (λ k. faults_along faults (map (placed_at line) (take k (drop from all))) ++ faults_along faults (placed_from (line + 1) counts (drop count (drop from all)))) long
      ∙ ap (λ l. faults_along faults (map (placed_at line) (take (to - from) (drop from all))) ++ faults_along faults (placed_from (line + 1) counts l)) following
      ∙ ap (λ k. faults_along faults (map (placed_at line) (take (to - from) (drop from all))) ++ faults_along faults (placed_from k counts (drop to all))) (sym follows)

-- an order after another
pub shorter : (i to count : ℕ) → i < to → to ≤ count → i < count
shorter i to count before within = omega (arith, before, within)

-- the count at a place, and those after it
pub one_count : (counts : List ℕ) (at : ℕ) → at < length counts → drop at counts ≡ get_or counts at 0 ∷ drop (at + 1) counts
one_count counts at inside =
    let next : suc at ≡ at + 1 = omega arith in
    drop-cons counts at 0 inside ∙ ap (λ k. get_or counts at 0 ∷ drop k counts) next

-- one copy more, and the rest
pub copied_more : {X : Type 0} (all copies more : List X) (n : ℕ) (one copy : X) → n ≡ length copies → more ≡ copies ++ copy ∷ [] → copy ≡ one → slice_get all n ≡ Some one
    → copies ++ drop (length copies) all ≡ all → more ++ drop (length more) all ≡ all
copied_more all copies more n one copy count put same at whole =
    let is = ap (slice_get all) (sym count) ∙ at in
    let next : length more ≡ length copies + 1 = ap length put ∙ length-append copies (copy ∷ []) in
    let own = put ∙ ap (λ x. copies ++ x ∷ []) same in
    ap (λ n. more ++ drop n all) next ∙ put_more copies more (one ∷ []) (drop (length copies + 1) all) (drop (length copies) all) all own (one_on all (length copies) one is) whole

-- if none is left, all are copied
pub copied_all : {X : Type 0} (all copies : List X) (n : ℕ) → n ≡ length copies → slice_get all n ≡ None → copies ++ drop (length copies) all ≡ all → copies ≡ all
copied_all all copies n count at whole =
    let is = ap (slice_get all) (sym count) ∙ at in
    sym (append-nil copies) ∙ ap (λ l. copies ++ l) (sym (none_on all (length copies) is)) ∙ whole

module _ {A B : Type 0} (R : A → B → Type 0) where
  -- two lists that go together place by place have as many
  pub zipped_count : (xs : List A) (ys : List B) → AllZip R xs ys → length xs ≡ length ys
  zipped_count xs ys all = sym (AllZip-long R xs ys all)

  -- and those of one place go together
  pub zipped_at : (xs : List A) (ys : List B) (at : ℕ) (x : A) (y : B) → AllZip R xs ys → slice_get xs at ≡ Some x → slice_get ys at ≡ Some y → R x y
  zipped_at [] ys at x y all here there = absurd (cc)
  zipped_at (x ∷ xs) [] at one other all here there = absurd all
  zipped_at (x ∷ xs) (y ∷ ys) zero one other all here there = (let a : x ≡ one = cc in let b : y ≡ other = cc in subst (λ v. R one v) b (subst (λ u. R u y) a all.0))
  zipped_at (x ∷ xs) (y ∷ ys) (suc at) one other all here there = zipped_at xs ys at one other all.1 here there

-- what holds of all holds of the one at a place
pub all_at : {X : Type 0} (P : X → Type 0) (xs : List X) (at : ℕ) (x : X) → All P xs → slice_get xs at ≡ Some x → P x
all_at P xs at x all here = subst P (get_or_from_slice_get xs at x x here) (all at x (slice_get_within xs at x here))

-- there is one at each place
pub some_at : {X : Type 0} (xs : List X) (at : ℕ) → at < length xs → (x : X) × (slice_get xs at ≡ Some x)
some_at [] at inside = absurd (omega (arith, inside))
some_at (x ∷ xs) zero inside = (x, refl)
some_at (x ∷ xs) (suc at) inside = some_at xs at (omega (arith, inside))

-- the one at a place, as code reads it
pub read_at : {X : Type 0} (xs : List X) (at : ℕ) (x : X) → at < length xs → x ≡ get_or xs at x → slice_get xs at ≡ Some x
read_at xs at x inside is = slice_get_read xs (length xs) at x refl inside is

-- one value more, and those of the rest
pub made_more : {A B : Type 0} (f : A → B) (xs : List A) (at : ℕ) (y : B) (made more : List B) → slice_get (map f xs) at ≡ Some y → more ≡ made ++ y ∷ []
    → made ++ map f (drop at xs) ≡ map f xs → more ++ map f (drop (at + 1) xs) ≡ map f xs
made_more f xs at y made more is put whole =
    let left : map f (drop at xs) ≡ y ∷ map f (drop (at + 1) xs) = sym (drop-map f at xs) ∙ one_on (map f xs) at y is ∙ ap (λ l. y ∷ l) (drop-map f (at + 1) xs) in
    put_more made more (y ∷ []) (map f (drop (at + 1) xs)) (map f (drop at xs)) (map f xs) put left whole

-- if none is left, these are all
pub made_all : {A B : Type 0} (f : A → B) (xs : List A) (at : ℕ) (made : List B) → length xs ≤ at → made ++ map f (drop at xs) ≡ map f xs → made ≡ map f xs
made_all f xs at made following whole = sym (append-nil made) ∙ ap (λ l. made ++ map f l) (sym (drop_all at xs following)) ∙ whole

-- what holds of an answer holds of what follows from it
pub ok_more : {A E : Type 0} (answer : Result A E) (P Q : A → Type 0) → ((x : A) → P x → Q x) → IfOk answer P → IfOk answer Q
ok_more (Ok x) P Q follows holds = follows x holds
ok_more (Err e) P Q follows holds = holds
