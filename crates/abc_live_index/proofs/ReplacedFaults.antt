-- The faults of a text whose lines are replaced meet those of the whole text.
use Rattle.std.proofs.Common.{◌≡◌, ℕ, ◌+◌, ◌-◌, ◌<◌, ◌≤◌, List, [], ◌∷◌, ◌++◌, All, Contains, filter, map, ◌⊎◌, inl, inr, refl}
use Rattle.std.proofs.Common.{ap, ◌∙◌, subst, arith}
use Rattle.std.specs.Cmp.{IsTotalOrder}
use Rattle.std.specs.List.{AllByRecursion}
use Rattle.std.specs.List.Sorted.{IsStrictlySortedBy}
use Rattle.std.specs.Ordering.{MatchOrdering, nat_cmp, on, ordering_then, then_cmp}
use Rattle.std.specs.declared.cmp.Ordering.{Ordering}
use Rattle.std.specs.declared.cmp.Ordering.TheVariants.{Less, Equal, Greater}
use Rattle.std.proofs.lemmas.Bool.{leb-true, le-leb, ltb-true, lt-ltb}
use Rattle.std.proofs.lemmas.Cmp.{nat_cmp_total, on_total, ranked, then_total}
use Rattle.std.proofs.lemmas.List.Elements.{All-append, All-contains, All-from_recursion, All-head, All-tail, Contains-get_or}
use Rattle.std.proofs.lemmas.List.Elements.{Contains-append_cases, Contains-append_left, Contains-append_right}
use Rattle.std.proofs.lemmas.List.Elements.{recursion_from_All}
use Rattle.std.proofs.lemmas.List.Kept.{IsStrictlySortedBy-filter}
use Rattle.abc_fields.specs.Fault.{number_of}
use Rattle.abc_live_index.proofs.Orders.{one_order}
use Rattle.abc_lines.specs.ItemRange.{removed_count}
use Rattle.abc_live_index.specs.Faults.{shifted_fault, faults_after, is_before, is_after}
use Rattle.abc_live_index.specs.Laws.{FaultsMeet, FaultAmong, FaultBefore, FaultAfter}
use Rattle.abc_tune_compiler.proofs.Members.{contains_cons, contains_head, contains_none, contains_tail, from_filter, to_filter}
use Rattle.abc_tune_compiler.proofs.Order.{faults_rise, no_fault_lost}
use Rattle.abc_tune_compiler.specs.Fault.{fault_cmp}
use Rattle.abc_tune_compiler.specs.Sort.{sort_dedup}
use Rattle.abc_tune_compiler.specs.declared.fault.Fault.{Fault}

faults_total : IsTotalOrder fault_cmp
faults_total = then_total (on_total (λ (f : Fault). f.line) nat_cmp_total) (then_total (on_total (λ (f : Fault). f.column) nat_cmp_total) (on_total (λ (f : Fault). number_of f.code) nat_cmp_total))

-- numbers that both grow by as much keep their order
ranks_same : (a b m n : ℕ) (o p : Ordering) → (a < b → m < n) → (a ≡ b → m ≡ n) → (b < a → n < m) → MatchOrdering o (a < b) (a ≡ b) (b < a) → MatchOrdering p (m < n) (m ≡ n) (n < m) → p ≡ o
ranks_same a b m n Less Less less same more early late = refl
ranks_same a b m n Less Equal less same more early late = let e = less early in absurd (omega (arith, e, late))
ranks_same a b m n Less Greater less same more early late = let e = less early in absurd (omega (arith, e, late))
ranks_same a b m n Equal Less less same more early late = let e = same early in absurd (omega (arith, e, late))
ranks_same a b m n Equal Equal less same more early late = refl
ranks_same a b m n Equal Greater less same more early late = let e = same early in absurd (omega (arith, e, late))
ranks_same a b m n Greater Less less same more early late = let e = more early in absurd (omega (arith, e, late))
ranks_same a b m n Greater Equal less same more early late = let e = more early in absurd (omega (arith, e, late))
ranks_same a b m n Greater Greater less same more early late = refl

lines_same : (a b gone came : ℕ) → gone ≤ a → gone ≤ b → nat_cmp (a - gone + came) (b - gone + came) ≡ nat_cmp a b
lines_same a b gone came above beyond =
    ranks_same a b (a - gone + came) (b - gone + came) (nat_cmp a b) (nat_cmp (a - gone + came) (b - gone + came))
    (λ h. omega (arith, above, beyond, h)) (λ h. omega (arith, above, beyond, h)) (λ h. omega (arith, above, beyond, h))
    (ranked a b (nat_cmp a b) refl) (ranked (a - gone + came) (b - gone + came) (nat_cmp (a - gone + came) (b - gone + came)) refl)

shifted_cmp : (gone came : ℕ) (x y : Fault) → gone ≤ x.line → gone ≤ y.line → fault_cmp (shifted_fault gone came x) (shifted_fault gone came y) ≡ fault_cmp x y
shifted_cmp gone came x y above beyond =
    ap (λ o. ordering_then o (then_cmp (on (λ (f : Fault). f.column) nat_cmp) (on (λ (f : Fault). number_of f.code) nat_cmp) x y)) (lines_same x.line y.line gone came above beyond)

rank_less : (a b : ℕ) (o : Ordering) → a < b → MatchOrdering o (a < b) (a ≡ b) (b < a) → o ≡ Less
rank_less a b Less h r = refl
rank_less a b Equal h r = absurd (omega (arith, h, r))
rank_less a b Greater h r = absurd (omega (arith, h, r))

-- a fault of an earlier line is before one of a later line
earlier : (x y : Fault) → x.line < y.line → fault_cmp x y ≡ Less
earlier x y before =
    ap (λ o. ordering_then o (then_cmp (on (λ (f : Fault). f.column) nat_cmp) (on (λ (f : Fault). number_of f.code) nat_cmp) x y))
    (rank_less x.line y.line (nat_cmp x.line y.line) before (ranked x.line y.line (nat_cmp x.line y.line) refl))

module _ {A B : Type 0} (f : A → B) where
  from_map_step : (x : A) (xs : List A) (y : B) → (Contains (map f xs) y → (z : A) × Contains xs z × (f z ≡ y)) → (f x ≡ y) ⊎ Contains (map f xs) y → (z : A) × Contains (x ∷ xs) z × (f z ≡ y)
  from_map_step x xs y rest (inl is) = (x, contains_head x xs x refl, is)
  from_map_step x xs y rest (inr later) = let one = rest later in (one.0, contains_tail x xs one.0 one.1, one.2)

  from_map : (xs : List A) (y : B) → Contains (map f xs) y → (z : A) × Contains xs z × (f z ≡ y)
  from_map [] y there = contains_none y there
  from_map (x ∷ xs) y there = from_map_step x xs y (from_map xs y) (contains_cons (f x) (map f xs) y there)

  to_map_step : (x : A) (xs : List A) (z : A) → (Contains xs z → Contains (map f xs) (f z)) → (x ≡ z) ⊎ Contains xs z → Contains (map f (x ∷ xs)) (f z)
  to_map_step x xs z rest (inl is) = contains_head (f x) (map f xs) (f z) (ap f is)
  to_map_step x xs z rest (inr later) = contains_tail (f x) (map f xs) (f z) (rest later)

  to_map : (xs : List A) (z : A) → Contains xs z → Contains (map f xs) (f z)
  to_map [] z there = contains_none z there
  to_map (x ∷ xs) z there = to_map_step x xs z (to_map xs z) (contains_cons x xs z there)

-- what holds of each element
all_of : {A : Type 0} (P : A → Type 0) (xs : List A) → ((x : A) → Contains xs x → P x) → All P xs
all_of P xs holds = λ k d inside. holds _ (Contains-get_or xs k d inside)

-- lists in order that follow one another are in order
joined : (xs ys : List Fault) → IsStrictlySortedBy fault_cmp xs → IsStrictlySortedBy fault_cmp ys
    → ((x y : Fault) → Contains xs x → Contains ys y → fault_cmp x y ≡ Less) → IsStrictlySortedBy fault_cmp (xs ++ ys)
unfolding IsStrictlySortedBy
joined [] ys up down below = down
joined (x ∷ xs) ys up down below =
    let above : (y : Fault) → Type 0 = λ y. fault_cmp x y ≡ Less in (
      recursion_from_All above (xs ++ ys) (All-append above xs ys (All-from_recursion above xs up.0) (all_of above ys (λ y there. below x y (contains_head x xs x refl) there))),
      joined xs ys up.1 down (λ z y here there. below z y (contains_tail x xs z here) there),
    )

shifted_all : (gone came : ℕ) (x : Fault) (xs : List Fault) → gone ≤ x.line → All (λ (f : Fault). gone ≤ f.line) xs → AllByRecursion (λ y. fault_cmp x y ≡ Less) xs
    → AllByRecursion (λ y. fault_cmp (shifted_fault gone came x) y ≡ Less) (map (shifted_fault gone came) xs)
shifted_all gone came x [] above all up = tt
shifted_all gone came x (y ∷ xs) above all up =
    (shifted_cmp gone came x y above (All-head (λ (f : Fault). gone ≤ f.line) y xs all) ∙ up.0, shifted_all gone came x xs above (All-tail (λ (f : Fault). gone ≤ f.line) y xs all) up.1)

shifted_order : (gone came : ℕ) (xs : List Fault) → All (λ (f : Fault). gone ≤ f.line) xs → IsStrictlySortedBy fault_cmp xs → IsStrictlySortedBy fault_cmp (map (shifted_fault gone came) xs)
unfolding IsStrictlySortedBy
shifted_order gone came [] all up = tt
shifted_order gone came (x ∷ xs) all up = (
  shifted_all gone came x xs (All-head (λ (f : Fault). gone ≤ f.line) x xs all) (All-tail (λ (f : Fault). gone ≤ f.line) x xs all) up.0,
  shifted_order gone came xs (All-tail (λ (f : Fault). gone ≤ f.line) x xs all) up.1,
)

module _ (from gone came : ℕ) (before old following new : List Fault)
    (front : All (FaultBefore from) before) (stretch : All (FaultAmong from gone) old) (back : All (FaultAfter (from + gone)) following) (stand : All (FaultAmong from came) new) where
  abbrev shift : Fault → Fault
  shift = shifted_fault gone came

  abbrev was : List Fault
  was = before ++ (old ++ following)

  abbrev is : List Fault
  is = before ++ (new ++ map shift following)

  abbrev whole : List Fault
  whole = sort_dedup fault_cmp was

  abbrev first : List Fault
  first = filter (is_before from) whole

  abbrev middle : List Fault
  middle = sort_dedup fault_cmp new

  abbrev kept : List Fault
  kept = filter (is_after (from + gone)) whole

  -- the places of the faults of the three parts
  early : (f : Fault) → Contains first f → f.line ≤ from
  early f there = leb-true f.line from (from_filter (is_before from) whole f there).1

  among : (f : Fault) → Contains middle f → FaultAmong from came f
  among f there = All-contains (FaultAmong from came) new f stand ((no_fault_lost new f).0 there)

  late : (f : Fault) → Contains kept f → from + gone < f.line
  late f there = ltb-true (from + gone) f.line (from_filter (is_after (from + gone)) whole f there).1

  later : (f : Fault) → Contains (map shift kept) f → from + came < f.line
  later f there =
      let one = from_map shift kept f there in
      let beyond = late one.0 one.1 in
      let moved : one.0.line - gone + came ≡ f.line = ap (λ (g : Fault). g.line) one.2 in
      omega (arith, beyond, moved)

  beyond_first : (f g : Fault) → Contains first f → Contains (middle ++ map shift kept) g → f.line < g.line
  beyond_first f g here there =
      let low = early f here in
      elim (Contains-append_cases middle (map shift kept) g there) [
        | inl one ↦ let high = among g one in omega (arith, low, high.0)
        | inr one ↦ let high = later g one in omega (arith, low, high)
      ]

  in_order : IsStrictlySortedBy fault_cmp (first ++ (middle ++ map shift kept))
  in_order =
      let sorted = faults_rise was in
      let ends : IsStrictlySortedBy fault_cmp (map shift kept) =
      shifted_order gone came kept (all_of (λ (f : Fault). gone ≤ f.line) kept
      (λ f there. let far = late f there in omega (arith, far))) (IsStrictlySortedBy-filter fault_cmp (is_after (from + gone)) whole sorted) in
      joined first (middle ++ map shift kept) (IsStrictlySortedBy-filter fault_cmp (is_before from) whole sorted)
      (joined middle (map shift kept) (faults_rise new) ends (λ f g here there. let low = among f here in let high = later g there in earlier f g (omega (arith, low.1, high))))
      (λ f g here there. earlier f g (beyond_first f g here there))

  -- each fault of the parts is one of the new text
  front_forth : (f : Fault) → Contains first f → Contains is f
  front_forth f there =
      let low = early f there in
      elim (Contains-append_cases before (old ++ following) f ((no_fault_lost was f).0 (from_filter (is_before from) whole f there).0)) [
        | inl one ↦ Contains-append_left before (new ++ map shift following) f one
        | inr rest ↦ elim (Contains-append_cases old following f rest) [
          | inl one ↦ absurd (let high = All-contains (FaultAmong from gone) old f stretch one in omega (arith, low, high.0))
          | inr one ↦ absurd (let high = All-contains (FaultAfter (from + gone)) following f back one in omega (arith, low, high))
        ]
      ]

  kept_after : (f : Fault) → Contains kept f → Contains following f
  kept_after f there =
      let far = late f there in
      elim (Contains-append_cases before (old ++ following) f ((no_fault_lost was f).0 (from_filter (is_after (from + gone)) whole f there).0)) [
        | inl one ↦ absurd (let low = All-contains (FaultBefore from) before f front one in omega (arith, low, far))
        | inr rest ↦ elim (Contains-append_cases old following f rest) [
          | inl one ↦ absurd (let low = All-contains (FaultAmong from gone) old f stretch one in omega (arith, low.1, far))
          | inr one ↦ one
        ]
      ]

  back_forth : (f : Fault) → Contains (map shift kept) f → Contains is f
  back_forth f there =
      let one = from_map shift kept f there in
      Contains-append_right before (new ++ map shift following) f
      (Contains-append_right new (map shift following) f (subst (λ g. Contains (map shift following) g) one.2 (to_map shift following one.0 (kept_after one.0 one.1))))

  forth : (f : Fault) → Contains (first ++ (middle ++ map shift kept)) f → Contains is f
  forth f there = elim (Contains-append_cases first (middle ++ map shift kept) f there) [
    | inl one ↦ front_forth f one
    | inr rest ↦ elim (Contains-append_cases middle (map shift kept) f rest) [
      | inl one ↦ Contains-append_right before (new ++ map shift following) f (Contains-append_left new (map shift following) f ((no_fault_lost new f).0 one))
      | inr one ↦ back_forth f one
    ]
  ]

  -- and each of the new text is in one of the parts
  front_back : (f : Fault) → Contains before f → Contains first f
  front_back f there =
      to_filter (is_before from) whole f ((no_fault_lost was f).1 (Contains-append_left before (old ++ following) f there)) (le-leb f.line from (All-contains (FaultBefore from) before f front there))

  after_back : (f : Fault) → Contains (map shift following) f → Contains (map shift kept) f
  after_back f there =
      let one = from_map shift following f there in
      let here : Contains kept one.0 =
      to_filter (is_after (from + gone)) whole one.0
      ((no_fault_lost was one.0).1 (Contains-append_right before (old ++ following) one.0 (Contains-append_right old following one.0 one.1)))
      (lt-ltb (from + gone) one.0.line (All-contains (FaultAfter (from + gone)) following one.0 back one.1)) in
      subst (λ g. Contains (map shift kept) g) one.2 (to_map shift kept one.0 here)

  backward : (f : Fault) → Contains is f → Contains (first ++ (middle ++ map shift kept)) f
  backward f there = elim (Contains-append_cases before (new ++ map shift following) f there) [
    | inl one ↦ Contains-append_left first (middle ++ map shift kept) f (front_back f one)
    | inr rest ↦ Contains-append_right first (middle ++ map shift kept) f (elim (Contains-append_cases new (map shift following) f rest) [
      | inl one ↦ Contains-append_left middle (map shift kept) f ((no_fault_lost new f).1 one)
      | inr one ↦ Contains-append_right middle (map shift kept) f (after_back f one)
    ])
  ]

  meets : first ++ (middle ++ map shift kept) ≡ sort_dedup fault_cmp is
  meets =
      one_order fault_cmp faults_total (first ++ (middle ++ map shift kept)) (sort_dedup fault_cmp is) in_order (faults_rise is)
      (λ f there. (no_fault_lost is f).1 (forth f there)) (λ f there. backward f ((no_fault_lost is f).0 there))

pub faults_meet : FaultsMeet
unfolding faults_after
faults_meet lines before old following new front stretch back stand = meets lines.from (removed_count lines) lines.came before old following new front stretch back stand
