-- Lists in strict order.
use Rattle.std.proofs.Common.{◌≡◌, List, [], ◌∷◌, Contains, ◌⊎◌, inl, inr, refl, sym, ap, ◌∙◌}
use Rattle.std.specs.Cmp.{IsTotalOrder}
use Rattle.std.specs.List.{AllByRecursion}
use Rattle.std.specs.List.Sorted.{IsStrictlySortedBy}
use Rattle.std.specs.Ordering.{ordering_reverse}
use Rattle.std.specs.declared.cmp.Ordering.{Ordering}
use Rattle.std.specs.declared.cmp.Ordering.TheVariants.{Less}
use Rattle.std.proofs.lemmas.List.Elements.{All-contains, All-from_recursion}
use Rattle.abc_tune_compiler.proofs.Members.{contains_cons, contains_head, contains_none, contains_tail}

module _ {A : Type 0} (cmp : A → A → Ordering) (total : IsTotalOrder cmp) where
  never_both : (x y : A) {G : Type 0} → cmp x y ≡ Less → cmp y x ≡ Less → G
  never_both x y up down = absurd (let e = sym up ∙ total.antisymm x y ∙ ap ordering_reverse down in cc)

  above : (x y : A) (xs : List A) → AllByRecursion (λ z. cmp x z ≡ Less) xs → Contains xs y → cmp x y ≡ Less
  above x y xs all there = All-contains (λ z. cmp x z ≡ Less) xs y (All-from_recursion (λ z. cmp x z ≡ Less) xs all) there

  same_head : (x y : A) (xs ys : List A) → AllByRecursion (λ z. cmp x z ≡ Less) xs → AllByRecursion (λ z. cmp y z ≡ Less) ys
      → (y ≡ x) ⊎ Contains ys x → (x ≡ y) ⊎ Contains xs y → x ≡ y
  same_head x y xs ys front back (inl is) other = sym is
  same_head x y xs ys front back (inr late) (inl is) = is
  same_head x y xs ys front back (inr late) (inr later) = never_both x y (above x y xs front later) (above y x ys back late)

  after_head : (x y n : A) (xs ys : List A) → AllByRecursion (λ z. cmp x z ≡ Less) xs → x ≡ y → Contains xs n → (y ≡ n) ⊎ Contains ys n → Contains ys n
  after_head x y n xs ys front same there (inl is) =
      let up = above x n xs front there in
      never_both x x (ap (cmp x) (same ∙ is) ∙ up) (ap (cmp x) (same ∙ is) ∙ up)
  after_head x y n xs ys front same there (inr late) = late

  -- two that have the same elements are the same
  pub one_order : (xs ys : List A) → IsStrictlySortedBy cmp xs → IsStrictlySortedBy cmp ys
      → ((n : A) → Contains xs n → Contains ys n) → ((n : A) → Contains ys n → Contains xs n) → xs ≡ ys
  unfolding IsStrictlySortedBy
  one_order [] [] up down forth back = refl
  one_order [] (y ∷ ys) up down forth back = contains_none y (back y (contains_head y ys y refl))
  one_order (x ∷ xs) [] up down forth back = contains_none x (forth x (contains_head x xs x refl))
  one_order (x ∷ xs) (y ∷ ys) up down forth back =
      let head : x ≡ y = same_head x y xs ys up.0 down.0 (contains_cons y ys x (forth x (contains_head x xs x refl))) (contains_cons x xs y (back y (contains_head y ys y refl))) in
      let rest : xs ≡ ys = one_order xs ys up.1 down.1
      (λ n there. after_head x y n xs ys up.0 head there (contains_cons y ys n (forth n (contains_tail x xs n there))))
      (λ n there. after_head y x n ys xs down.0 (sym head) there (contains_cons x xs n (back n (contains_tail y ys n there)))) in
      ap (λ z. z ∷ xs) head ∙ ap (λ l. y ∷ l) rest
