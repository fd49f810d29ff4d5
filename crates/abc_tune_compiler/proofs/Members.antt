-- The elements of a list, of a filter of it and of the same list in order.
use Rattle.std.proofs.Common.{◌≡◌, Bool, true, false, cond, List, [], ◌∷◌, filter, Contains, ◌⊎◌, inl, inr, refl, sym, ap, ◌∙◌, arith, zero, suc}
use Rattle.std.proofs.lemmas.Bool.{false≢true}
use Rattle.std.specs.BTreeSet.{insert_key}
use Rattle.std.specs.declared.cmp.Ordering.{Ordering}
use Rattle.std.specs.declared.cmp.Ordering.TheVariants.{Less, Equal, Greater}
use Rattle.std.specs.Ordering.{match_ordering}
use Rattle.abc_tune_compiler.specs.Sort.{insert_all}

module _ {A : Type 0} where
  -- an element of x ∷ xs is x, or one of xs
  pub contains_cons : (x : A) (xs : List A) (n : A) → Contains (x ∷ xs) n → (x ≡ n) ⊎ Contains xs n
  contains_cons x xs n (zero, within, is) = inl is
  contains_cons x xs n (suc k, within, is) = inr (k, omega arith, is)

  pub contains_head : (x : A) (xs : List A) (n : A) → x ≡ n → Contains (x ∷ xs) n
  contains_head x xs n is = (0, omega arith, is)

  pub contains_tail : (x : A) (xs : List A) (n : A) → Contains xs n → Contains (x ∷ xs) n
  contains_tail x xs n (k, within, is) = (suc k, omega arith, is)

  pub contains_none : (n : A) {G : Type 0} → Contains [] n → G
  contains_none n h = absurd (omega (arith, h.1))

  -- a filter keeps the elements that pass, and no others: one element more, with the fact on the rest
  from_filter_step : (p : A → Bool) (x : A) (xs : List A) (n : A) → (Contains (filter p xs) n → Contains xs n × (p n ≡ true))
      → (b : Bool) → p x ≡ b → Contains (cond b (x ∷ filter p xs) (filter p xs)) n → Contains (x ∷ xs) n × (p n ≡ true)
  from_filter_step p x xs n rest true pass kept = elim (contains_cons x (filter p xs) n kept) [
    | inl is ↦ (contains_head x xs n is, ap p (sym is) ∙ pass)
    | inr later ↦
        (contains_tail x xs n (rest later).0, (rest later).1)
  ]
  from_filter_step p x xs n rest false fail kept = (contains_tail x xs n (rest kept).0, (rest kept).1)

  pub from_filter : (p : A → Bool) (xs : List A) (n : A) → Contains (filter p xs) n → Contains xs n × (p n ≡ true)
  from_filter p [] n h = contains_none n h
  from_filter p (x ∷ xs) n h = from_filter_step p x xs n (from_filter p xs n) (p x) refl h

  to_filter_step : (p : A → Bool) (x : A) (xs : List A) (n : A) → (Contains xs n → Contains (filter p xs) n) → p n ≡ true
      → (b : Bool) → p x ≡ b → (x ≡ n) ⊎ Contains xs n → Contains (cond b (x ∷ filter p xs) (filter p xs)) n
  to_filter_step p x xs n rest pass true here (inl is) = contains_head x (filter p xs) n is
  to_filter_step p x xs n rest pass true here (inr later) = contains_tail x (filter p xs) n (rest later)
  to_filter_step p x xs n rest pass false here (inl is) = absurd (false≢true (sym here ∙ ap p is ∙ pass))
  to_filter_step p x xs n rest pass false here (inr later) = rest later

  pub to_filter : (p : A → Bool) (xs : List A) (n : A) → Contains xs n → p n ≡ true → Contains (filter p xs) n
  to_filter p [] n h pass = contains_none n h
  to_filter p (x ∷ xs) n h pass = to_filter_step p x xs n (λ later. to_filter p xs n later pass) pass (p x) refl (contains_cons x xs n h)

  -- an order by which only equal elements tie
  abbrev pub TellsApart : (A → A → Ordering) → Type 0
  TellsApart cmp = (x y : A) → cmp x y ≡ Equal → x ≡ y

  -- one element more in order
  from_insert_step : (cmp : A → A → Ordering) (k x : A) (xs : List A) (n : A) → (Contains (insert_key cmp xs k) n → (k ≡ n) ⊎ Contains xs n)
      → (o : Ordering) → Contains (match_ordering o (k ∷ x ∷ xs) (x ∷ xs) (x ∷ insert_key cmp xs k)) n → (k ≡ n) ⊎ Contains (x ∷ xs) n
  from_insert_step cmp k x xs n rest Less h = contains_cons k (x ∷ xs) n h
  from_insert_step cmp k x xs n rest Equal h = inr h
  from_insert_step cmp k x xs n rest Greater h =
      elim (contains_cons x (insert_key cmp xs k) n h) [
        | inl is ↦ inr (contains_head x xs n is)
        | inr later ↦ elim (rest later) [ inl is ↦ inl is | inr inside ↦ inr (contains_tail x xs n inside) ]
      ]

  pub from_insert : (cmp : A → A → Ordering) (xs : List A) (k n : A) → Contains (insert_key cmp xs k) n → (k ≡ n) ⊎ Contains xs n
  from_insert cmp [] k n h = contains_cons k [] n h
  from_insert cmp (x ∷ xs) k n h = from_insert_step cmp k x xs n (from_insert cmp xs k n) (cmp k x) h

  to_insert_step : (cmp : A → A → Ordering) (k x : A) (xs : List A) (n : A) → ((k ≡ n) ⊎ Contains xs n → Contains (insert_key cmp xs k) n)
      → (o : Ordering) → (o ≡ Equal → k ≡ x) → (k ≡ n) ⊎ Contains (x ∷ xs) n → Contains (match_ordering o (k ∷ x ∷ xs) (x ∷ xs) (x ∷ insert_key cmp xs k)) n
  to_insert_step cmp k x xs n rest Less same (inl is) = contains_head k (x ∷ xs) n is
  to_insert_step cmp k x xs n rest Less same (inr there) = contains_tail k (x ∷ xs) n there
  to_insert_step cmp k x xs n rest Equal same (inl is) = contains_head x xs n (sym (same refl) ∙ is)
  to_insert_step cmp k x xs n rest Equal same (inr there) = there
  to_insert_step cmp k x xs n rest Greater same (inl is) = contains_tail x (insert_key cmp xs k) n (rest (inl is))
  to_insert_step cmp k x xs n rest Greater same (inr there) = elim (contains_cons x xs n there) [
    | inl is ↦ contains_head x (insert_key cmp xs k) n is
    | inr later ↦ contains_tail x
        (insert_key cmp xs k) n (rest (inr later))
  ]

  pub to_insert : (cmp : A → A → Ordering) → TellsApart cmp → (xs : List A) (k n : A) → (k ≡ n) ⊎ Contains xs n → Contains (insert_key cmp xs k) n
  to_insert cmp apart [] k n (inl is) = contains_head k [] n is
  to_insert cmp apart [] k n (inr there) = contains_none n there
  to_insert cmp apart (x ∷ xs) k n h = to_insert_step cmp k x xs n (to_insert cmp apart xs k n) (cmp k x) (apart k x) h

  pub from_sorted : (cmp : A → A → Ordering) (sorted xs : List A) (n : A) → Contains (insert_all cmp sorted xs) n → Contains sorted n ⊎ Contains xs n
  from_sorted cmp sorted [] n h = inl h
  from_sorted cmp sorted (x ∷ xs) n h =
      elim (from_sorted cmp (insert_key cmp sorted x) xs n h) [
        | inl early ↦ elim (from_insert cmp sorted x n early) [ inl is ↦ inr (contains_head x xs n is) | inr there ↦ inl there ]
        | inr late ↦ inr (contains_tail x xs n late)
      ]

  pub to_sorted : (cmp : A → A → Ordering) → TellsApart cmp → (sorted xs : List A) (n : A) → Contains sorted n ⊎ Contains xs n → Contains (insert_all cmp sorted xs) n
  to_sorted cmp apart sorted [] n (inl h) = h
  to_sorted cmp apart sorted [] n (inr h) = contains_none n h
  to_sorted cmp apart sorted (x ∷ xs) n (inl h) = to_sorted cmp apart (insert_key cmp sorted x) xs n (inl (to_insert cmp apart sorted x n (inr h)))
  to_sorted cmp apart sorted (x ∷ xs) n (inr h) =
      elim (contains_cons x xs n h) [
        | inl is ↦ to_sorted cmp apart (insert_key cmp sorted x) xs n (inl (to_insert cmp apart sorted x n (inl is)))
        | inr late ↦ to_sorted cmp apart (insert_key cmp sorted x) xs n (inr late)
      ]
