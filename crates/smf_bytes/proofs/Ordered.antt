-- Events have one order: a sorted list of the same events is the sorted list.
use Rattle.std.proofs.Common.{◌≡◌, ℕ, zero, suc, ◌+◌, ◌<◌, Bool, true, false, cond, List, [], ◌∷◌, length, get_or, inl, inr, arith, refl, sym, ap, subst, ◌∙◌}
use Rattle.std.proofs.Math.ListN.{set, length-set}
use Rattle.std.proofs.lemmas.List.{get_or-set_same, get_or-set_other}
use Rattle.std.specs.Cmp.{IsTotalOrder, IsStrictWeakOrder}
use Rattle.std.specs.Ordering.{nat_cmp, ordering_reverse, is_lt}
use Rattle.std.specs.declared.cmp.Ordering.{Ordering}
use Rattle.std.specs.declared.cmp.Ordering.TheVariants.{Equal}
use Rattle.std.specs.Cmp.Lexicographic.{slice_cmp}
use Rattle.std.specs.List.{swap}
use Rattle.std.specs.List.Sorted.{IsPermutation, IsSorted}
use Rattle.std.proofs.lemmas.Bool.{cases_Bool, cases_eq}
use Rattle.std.proofs.lemmas.Cmp.{nat_cmp_total, nat_list_cmp_total, on_total, then_total, tied_itself}
use Rattle.std.proofs.lemmas.Map.Lookups.{CmpEqualImpliesEq, exact_unsigned, exact_bytes, exact_pairs}
use Rattle.std.proofs.lemmas.List.Sorted.{ranks_by, IsPermutation-keeps, IsPermutation-refl, IsPermutation-cons, IsPermutation-swap, IsPermutation-trans}
use Rattle.std.proofs.lemmas.List.Edits.{swap_is}
use Rattle.smf_bytes.specs.declared.event.Event.{Event}
use Rattle.smf_bytes.specs.Order.{event_cmp, insert_event, in_order}

total : IsTotalOrder event_cmp
total =
    then_total (on_total (λ e. e.tick) nat_cmp_total)
    (then_total (on_total (λ e. e.class) nat_cmp_total)
    (then_total (on_total (λ e. e.key) nat_cmp_total) (on_total (λ e. e.bytes) nat_list_cmp_total)))

-- an event of its parts
abbrev of_parts : ℕ × (ℕ × (ℕ × List ℕ)) → Event
of_parts p = record { tick = p.0; class = p.1.0; key = p.1.1.0; bytes = p.1.1.1 }

exact : CmpEqualImpliesEq event_cmp
exact a b h =
    ap of_parts
    (exact_pairs nat_cmp _ exact_unsigned
    (exact_pairs nat_cmp _ exact_unsigned (exact_pairs nat_cmp (slice_cmp nat_cmp) exact_unsigned exact_bytes))
    (a.tick, (a.class, (a.key, a.bytes))) (b.tick, (b.class, (b.key, b.bytes))) h)

abbrev pub less : Event → Event → Bool
less a b = is_lt (event_cmp a b)

weak : IsStrictWeakOrder less
weak = ranks_by total (λ e. e)

less_itself : (a : Event) → less a a ≡ false
less_itself a = ap is_lt (tied_itself total a)

tied : (o p : Ordering) → o ≡ ordering_reverse p → is_lt o ≡ false → is_lt p ≡ false → o ≡ Equal
tied o Equal e f g = e
tied o _ e f g = cc

same : (a b : Event) → less a b ≡ false → less b a ≡ false → a ≡ b
same a b f g = exact a b (tied (event_cmp a b) (event_cmp b a) (total.antisymm a b) f g)

later : (a b x : Event) → less x a ≡ true → less x b ≡ false → less b a ≡ true
later a b x f g =
    elim (cases_Bool (less b a)) [
      | inl before ↦ before
      | inr after ↦ let other : less x a ≡ false = weak.chain x b a g after in cc
    ]

pub past : (a x : Event) (xs : List Event) → less x a ≡ true → insert_event a (x ∷ xs) ≡ x ∷ insert_event a xs
past a x xs h = ap (λ b. cond b (x ∷ insert_event a xs) (a ∷ x ∷ xs)) h

pub here : (a x : Event) (xs : List Event) → less x a ≡ false → insert_event a (x ∷ xs) ≡ a ∷ x ∷ xs
here a x xs h = ap (λ b. cond b (x ∷ insert_event a xs) (a ∷ x ∷ xs)) h

-- both go to the front
front : (a b : Event) (xs : List Event) → insert_event a xs ≡ a ∷ xs → insert_event b xs ≡ b ∷ xs → insert_event a (b ∷ xs) ≡ insert_event b (a ∷ xs)
front a b xs f g =
    elim (cases_Bool (less b a)) [
      | inl before ↦ past a b xs before ∙ ap (λ l. b ∷ l) f ∙ sym (here b a xs (weak.one_way b a before))
      | inr after ↦ elim (cases_Bool (less a b)) [
        | inl before' ↦ here a b xs after ∙ sym (past b a xs before' ∙ ap (λ l. a ∷ l) g)
        | inr after' ↦ let e : a ≡ b = same a b after' after in ap (λ c. insert_event a (c ∷ xs)) (sym e) ∙ ap (λ c. insert_event c (a ∷ xs)) e
      ]
    ]

insert_comm : (a b : Event) (xs : List Event) → insert_event a (insert_event b xs) ≡ insert_event b (insert_event a xs)
insert_comm a b [] = front a b [] refl refl
insert_comm a b (x ∷ xs) =
    elim (cases_Bool (less x a)) [
      | inl fa ↦ elim (cases_Bool (less x b)) [
        | inl fb ↦
            ap (insert_event a) (past b x xs fb) ∙ past a x (insert_event b xs) fa ∙ ap (λ l. x ∷ l) (insert_comm a b xs)
            ∙ sym (ap (insert_event b) (past a x xs fa) ∙ past b x (insert_event a xs) fb)
        | inr hb ↦
            ap (insert_event a) (here b x xs hb) ∙ past a b (x ∷ xs) (later a b x fa hb) ∙ ap (λ l. b ∷ l) (past a x xs fa)
            ∙ sym (ap (insert_event b) (past a x xs fa) ∙ here b x (insert_event a xs) hb)
      ]
      | inr ha ↦ elim (cases_Bool (less x b)) [
        | inl fb ↦
            ap (insert_event a) (past b x xs fb) ∙ here a x (insert_event b xs) ha
            ∙ sym (ap (insert_event b) (here a x xs ha) ∙ past b a (x ∷ xs) (later b a x fb ha) ∙ ap (λ l. a ∷ l) (past b x xs fb))
        | inr hb ↦
            ap (insert_event a) (here b x xs hb) ∙ front a b (x ∷ xs) (here a x xs ha) (here b x xs hb)
            ∙ sym (ap (insert_event b) (here a x xs ha))
      ]
    ]

-- an event put into another's place
replaced : (xs : List Event) (i : ℕ) (b d : Event) → i < length xs → insert_event (get_or xs i d) (in_order (set xs i b)) ≡ insert_event b (in_order xs)
replaced [] i b d h = absurd (omega arith)
replaced (x ∷ xs) zero b d h = insert_comm x b (in_order xs)
replaced (x ∷ xs) (suc i) b d h =
    insert_comm (get_or xs i d) x (in_order (set xs i b)) ∙ ap (insert_event x) (replaced xs i b d (omega arith)) ∙ insert_comm x b (in_order xs)

-- what is left without the first event that is not less
abbrev without : Event → List Event → List Event
without a [] = []
without a (x ∷ xs) = cond (less x a) (x ∷ without a xs) xs

without_inserted : (a : Event) (xs : List Event) → without a (insert_event a xs) ≡ xs
without_inserted a [] = ap (λ b. cond b (a ∷ []) []) (less_itself a)
without_inserted a (x ∷ xs) =
    elim (cases_Bool (less x a)) [
      | inl before ↦ ap (without a) (past a x xs before) ∙ ap (λ b. cond b (x ∷ without a (insert_event a xs)) (insert_event a xs)) before ∙ ap (λ l. x ∷ l) (without_inserted a xs)
      | inr after ↦ ap (without a) (here a x xs after) ∙ ap (λ b. cond b (a ∷ without a (x ∷ xs)) (x ∷ xs)) (less_itself a)
    ]

insert_injective : (a : Event) (xs ys : List Event) → insert_event a xs ≡ insert_event a ys → xs ≡ ys
insert_injective a xs ys e = sym (without_inserted a xs) ∙ ap (without a) e ∙ without_inserted a ys

pub swapped : (xs : List Event) (i j : ℕ) (d : Event) → i < length xs → j < length xs → in_order (swap xs i j) ≡ in_order xs
swapped xs i j d g h =
    let x = get_or xs i d in
    let y = get_or xs j d in
    let once : List Event = set xs i y in
    let there : get_or once j d ≡ y =
    elim (cases_eq j i) [
      | inl e ↦ ap (λ k. get_or once k d) e ∙ get_or-set_same xs i y d g
      | inr ne ↦ get_or-set_other xs i j y d ne
    ] in
    let long : length once ≡ length xs = length-set xs i y in
    let first : insert_event x (in_order once) ≡ insert_event y (in_order xs) = replaced xs i y d g in
    let second : insert_event (get_or once j d) (in_order (set once j x)) ≡ insert_event x (in_order once) = replaced once j x d (omega arith) in
    ap in_order (sym (swap_is xs i j d g h))
    ∙ insert_injective y (in_order (set once j x)) (in_order xs) (ap (λ c. insert_event c (in_order (set once j x))) (sym there) ∙ second ∙ first)

-- events in another order have the same sorted list
pub in_order_permutation : (xs ys : List Event) → IsPermutation xs ys → in_order ys ≡ in_order xs
in_order_permutation [] ys h =
    IsPermutation-keeps [] (λ l. in_order l ≡ []) refl (λ l i j g k e. step l i j g k e) ys h
  where
    step : (l : List Event) (i j : ℕ) → i < length l → j < length l → in_order l ≡ [] → in_order (swap l i j) ≡ []
    step [] i j g k e = e
    step (d ∷ l) i j g k e = swapped (d ∷ l) i j d g k ∙ e
in_order_permutation (x ∷ xs) ys h =
    IsPermutation-keeps (x ∷ xs) (λ l. in_order l ≡ in_order (x ∷ xs)) refl (λ l i j g k e. swapped l i j x g k ∙ e) ys h

inserted_is_permutation : (a : Event) (xs : List Event) → IsPermutation (a ∷ xs) (insert_event a xs)
inserted_is_permutation a [] = IsPermutation-refl (a ∷ [])
inserted_is_permutation a (x ∷ xs) =
    elim (cases_Bool (less x a)) [
      | inl before ↦
          let P : List Event → Type 0 = IsPermutation (a ∷ x ∷ xs) in
          subst P (sym (past a x xs before))
          (IsPermutation-trans (a ∷ x ∷ xs) (x ∷ a ∷ xs) (x ∷ insert_event a xs)
          (IsPermutation-swap (a ∷ x ∷ xs) (x ∷ a ∷ xs) 0 1 (omega arith) (omega arith) refl)
          (IsPermutation-cons x (a ∷ xs) (insert_event a xs) (inserted_is_permutation a xs)))
      | inr after ↦
          let P : List Event → Type 0 = IsPermutation (a ∷ x ∷ xs) in
          subst P (sym (here a x xs after)) (IsPermutation-refl (a ∷ x ∷ xs))
    ]

pub is_permutation : (xs : List Event) → IsPermutation xs (in_order xs)
is_permutation [] = IsPermutation-refl []
is_permutation (x ∷ xs) =
    IsPermutation-trans (x ∷ xs) (x ∷ in_order xs) (insert_event x (in_order xs))
    (IsPermutation-cons x xs (in_order xs) (is_permutation xs)) (inserted_is_permutation x (in_order xs))

-- sorted, by recursion: no first event is greater than the second
abbrev pub Rises : List Event → Type 0
Rises [] = Unit {0}
Rises (x ∷ []) = Unit {0}
Rises (x ∷ y ∷ xs) = (less y x ≡ false) × Rises (y ∷ xs)

next : (k : ℕ) → suc k + 1 ≡ suc (k + 1)
next k = omega arith

pub rises_from : (xs : List Event) → IsSorted event_cmp xs → Rises xs
rises_from [] h = tt
rises_from (x ∷ []) h = tt
rises_from (x ∷ y ∷ xs) h = (
  h 0 x (omega arith) (omega arith),
  rises_from (y ∷ xs) (λ k d g i. subst (λ (j : ℕ). less (get_or (x ∷ y ∷ xs) j d) (get_or (y ∷ xs) k d) ≡ false) (next k) (h (suc k) d (omega arith) (omega arith))),
)

pub sorted_from : (xs : List Event) → Rises xs → IsSorted event_cmp xs
sorted_from [] h k d g i = absurd (omega arith)
sorted_from (x ∷ []) h k d g i = absurd (omega arith)
sorted_from (x ∷ y ∷ xs) h zero d g i = h.0
sorted_from (x ∷ y ∷ xs) h (suc k) d g i = subst (λ (j : ℕ). less (get_or (x ∷ y ∷ xs) j d) (get_or (y ∷ xs) k d) ≡ false) (sym (next k)) (sorted_from (y ∷ xs) h.1 k d (omega arith) (omega arith))

inserted_after : (a x : Event) (xs : List Event) → less a x ≡ false → Rises (x ∷ xs) → Rises (insert_event a xs) → Rises (x ∷ insert_event a xs)
inserted_after a x [] g h i = (g, tt)
inserted_after a x (y ∷ xs) g h i =
    elim (cases_Bool (less y a)) [
      | inl before ↦ let e = past a y xs before in subst (λ l. Rises (x ∷ l)) (sym e) (h.0, subst Rises e i)
      | inr after ↦ let e = here a y xs after in subst (λ l. Rises (x ∷ l)) (sym e) (g, subst Rises e i)
    ]

pub tail_rises : (x : Event) (xs : List Event) → Rises (x ∷ xs) → Rises xs
tail_rises x [] h = tt
tail_rises x (y ∷ xs) h = h.1

inserted_rises : (a : Event) (xs : List Event) → Rises xs → Rises (insert_event a xs)
inserted_rises a [] h = tt
inserted_rises a (x ∷ xs) h =
    elim (cases_Bool (less x a)) [
      | inl before ↦ subst Rises (sym (past a x xs before)) (inserted_after a x xs (weak.one_way x a before) h (inserted_rises a xs (tail_rises x xs h)))
      | inr after ↦ subst Rises (sym (here a x xs after)) (after, h)
    ]

pub rises : (xs : List Event) → Rises (in_order xs)
rises [] = tt
rises (x ∷ xs) = inserted_rises x (in_order xs) (rises xs)

pub is_sorted : (xs : List Event) → IsSorted event_cmp (in_order xs)
is_sorted xs = sorted_from (in_order xs) (rises xs)

inserted_first : (x : Event) (xs : List Event) → Rises (x ∷ xs) → insert_event x xs ≡ x ∷ xs
inserted_first x [] h = refl
inserted_first x (y ∷ xs) h = here x y xs h.0

pub stays : (xs : List Event) → Rises xs → in_order xs ≡ xs
stays [] h = refl
stays (x ∷ xs) h = ap (insert_event x) (stays xs (tail_rises x xs h)) ∙ inserted_first x xs h

-- the sorted list of the same events
pub sorted_is_in_order : (xs ys : List Event) → IsPermutation xs ys → IsSorted event_cmp ys → ys ≡ in_order xs
sorted_is_in_order xs ys p s = sym (stays ys (rises_from ys s)) ∙ in_order_permutation xs ys p

pub unique : (xs ys : List Event) → IsPermutation xs ys → IsSorted event_cmp xs → IsSorted event_cmp ys → xs ≡ ys
unique xs ys p s t = sym (stays xs (rises_from xs s)) ∙ sym (sorted_is_in_order xs ys p t)
