-- Faults in order, each once.
use Rattle.std.proofs.Common.{◌≡◌, ℕ, List, [], ◌∷◌, inr, ⊎_elim, refl, sym, ap, ◌∙◌}
use Rattle.std.specs.BTreeSet.{insert_key}
use Rattle.std.specs.Cmp.{IsTotalOrder}
use Rattle.std.specs.List.{AllByRecursion}
use Rattle.std.specs.List.Sorted.{IsStrictlySortedBy}
use Rattle.std.specs.declared.cmp.Ordering.{Ordering}
use Rattle.std.specs.declared.cmp.Ordering.TheVariants.{Less, Equal, Greater}
use Rattle.std.specs.Ordering.{match_ordering, nat_cmp, ordering_then, ordering_reverse}
use Rattle.std.proofs.lemmas.Cmp.{ranked, nat_cmp_total, on_total, then_total}
use Rattle.abc_fields.proofs.Faults.{one_code}
use Rattle.abc_fields.specs.Fault.{number_of}
use Rattle.abc_tune_compiler.proofs.Members.{TellsApart, contains_none, from_sorted, to_sorted}
use Rattle.abc_tune_compiler.specs.Fault.{fault_cmp}
use Rattle.abc_tune_compiler.specs.Laws.{NoFaultLost, FaultsRise}
use Rattle.abc_tune_compiler.specs.Sort.{insert_all}
use Rattle.abc_tune_compiler.specs.declared.fault.Fault.{Fault}

module _ {A : Type 0} (cmp : A → A → Ordering) where
  all_more : (P Q : A → Type 0) → ((y : A) → P y → Q y) → (xs : List A) → AllByRecursion P xs → AllByRecursion Q xs
  all_more P Q more [] h = tt
  all_more P Q more (x ∷ xs) h = (more x h.0, all_more P Q more xs h.1)

  all_insert_step : (P : A → Type 0) (k x : A) (xs : List A) → AllByRecursion P (x ∷ xs) → P k → AllByRecursion P (insert_key cmp xs k)
      → (o : Ordering) → AllByRecursion P (match_ordering o (k ∷ x ∷ xs) (x ∷ xs) (x ∷ insert_key cmp xs k))
  all_insert_step P k x xs h p rest Less = (p, h)
  all_insert_step P k x xs h p rest Equal = h
  all_insert_step P k x xs h p rest Greater = (h.0, rest)

  all_insert : (P : A → Type 0) (k : A) (xs : List A) → AllByRecursion P xs → P k → AllByRecursion P (insert_key cmp xs k)
  all_insert P k [] h p = (p, tt)
  all_insert P k (x ∷ xs) h p = all_insert_step P k x xs h p (all_insert P k xs h.1 p) (cmp k x)

  -- one element more keeps a list in order
  insert_step : IsTotalOrder cmp → (k x : A) (xs : List A) → IsStrictlySortedBy cmp (x ∷ xs) → IsStrictlySortedBy cmp (insert_key cmp xs k)
      → (o : Ordering) → cmp k x ≡ o → IsStrictlySortedBy cmp (match_ordering o (k ∷ x ∷ xs) (x ∷ xs) (x ∷ insert_key cmp xs k))
  unfolding IsStrictlySortedBy
  insert_step total k x xs h rest Less e = ((e, all_more (λ y. cmp x y ≡ Less) (λ y. cmp k y ≡ Less) (λ y below. total.trans k x y e below) xs h.0), h)
  insert_step total k x xs h rest Equal e = h
  insert_step total k x xs h rest Greater e = (all_insert (λ y. cmp x y ≡ Less) k xs h.0 (total.antisymm x k ∙ ap ordering_reverse e), rest)

  insert_sorted : IsTotalOrder cmp → (k : A) (xs : List A) → IsStrictlySortedBy cmp xs → IsStrictlySortedBy cmp (insert_key cmp xs k)
  unfolding IsStrictlySortedBy
  insert_sorted total k [] h = (tt, tt)
  insert_sorted total k (x ∷ xs) h = insert_step total k x xs h (insert_sorted total k xs h.1) (cmp k x) refl

  pub onto_sorted : IsTotalOrder cmp → (sorted xs : List A) → IsStrictlySortedBy cmp sorted → IsStrictlySortedBy cmp (insert_all cmp sorted xs)
  onto_sorted total sorted [] h = h
  onto_sorted total sorted (x ∷ xs) h = onto_sorted total (insert_key cmp sorted x) xs (insert_sorted total x sorted h)

faults_total : IsTotalOrder fault_cmp
faults_total = then_total (on_total (λ (f : Fault). f.line) nat_cmp_total) (then_total (on_total (λ (f : Fault). f.column) nat_cmp_total) (on_total (λ (f : Fault). number_of f.code) nat_cmp_total))

both_tie : (o p : Ordering) → ordering_then o p ≡ Equal → (o ≡ Equal) × (p ≡ Equal)
both_tie Less p e = absurd cc
both_tie Equal p e = (refl, e)
both_tie Greater p e = absurd cc

tied : (x y : ℕ) → nat_cmp x y ≡ Equal → x ≡ y
tied x y e = ranked x y Equal (sym e)

one_fault : (a b : Fault) → a.line ≡ b.line → a.column ≡ b.column → a.code ≡ b.code → a ≡ b
one_fault a b p q r = λ i. record { line = p i; column = q i; code = r i }

faults_apart : TellsApart fault_cmp
faults_apart a b e =
    let first = both_tie _ _ e in
    let second = both_tie _ _ first.1 in
    one_fault a b (tied _ _ first.0) (tied _ _ second.0) (one_code a.code b.code (tied _ _ second.1))

pub no_fault_lost : NoFaultLost
no_fault_lost faults fault = (
  (λ h. ⊎_elim (λ early. contains_none fault early) (λ late. late) (from_sorted fault_cmp [] faults fault h)),
  λ h. to_sorted fault_cmp faults_apart [] faults fault (inr h),
)

pub faults_rise : FaultsRise
unfolding IsStrictlySortedBy
faults_rise faults = onto_sorted fault_cmp faults_total [] faults tt
