-- Which tunes reuse the output of an old one, and how many are built.
use Rattle.std.proofs.Common.{◌≡◌, ℕ, ◌≤◌, Bool, true, false, not, cond, List, [], ◌∷◌, map, count_by, Option, Some, None, IsSome}
use Rattle.std.proofs.Common.{slice_get, option_map, refl, ap, ◌∙◌, subst, arith}
use Rattle.std.specs.List.{AllZip}
use Rattle.std.proofs.lemmas.List.Sums.{sum_by-cons}
use Rattle.std.proofs.lemmas.Option.{slice_get-map}
use Rattle.abc_fold.specs.Chain.{ChainView}
use Rattle.abc_live_index.specs.BuildCount.{built_count_at, built_count}
use Rattle.abc_live_index.specs.Output.{ReusesOutput, output_in, output_of}
use Rattle.abc_live_cost.specs.OldItems.{HasItemsOf}
use Rattle.abc_tune_compiler.specs.Rules.{Rules}

-- the one at a place of mapped values
pub mapped_at : {A B : Type 0} (f : A → B) (xs : List A) (i : ℕ) (x : A) → slice_get xs i ≡ Some x → slice_get (map f xs) i ≡ Some (f x)
mapped_at f xs i x is = slice_get-map f xs i ∙ ap (option_map f) is

module _ {State Cell Items Defaults : Type 0} (rules : Rules State Cell Items Defaults) (olds : List (ChainView State Cell Items)) where
  takes_over : (chain : ChainView State Cell Items) (reused_tunes : Option ℕ) → HasItemsOf olds chain reused_tunes → ReusesOutput rules (map (output_in rules) olds) chain reused_tunes
  takes_over chain None has = tt
  takes_over chain (Some old) has = mapped_at (output_in rules) olds old has.0 has.1 ∙ ap (λ items. Some (output_of rules items)) has.2

  pub items_suffice : (chains : List (ChainView State Cell Items)) (reused_tunes : List (Option ℕ))
      → AllZip (HasItemsOf olds) chains reused_tunes → AllZip (ReusesOutput rules (map (output_in rules) olds)) chains reused_tunes
  items_suffice [] [] all = tt
  items_suffice [] (old ∷ reused_tunes) all = absurd all
  items_suffice (chain ∷ chains) [] all = absurd all
  items_suffice (chain ∷ chains) (old ∷ reused_tunes) all = (takes_over chain old all.0, items_suffice chains reused_tunes all.1)

-- one that passes is not built
one_made : (passes : Bool) (reused_tunes : Option ℕ) → (passes ≡ true → IsSome reused_tunes) → built_count_at reused_tunes ≤ cond (not passes) 1 0
one_made true None some = absurd (subst (λ b. elim b as (λ _. Type 0) [ true ↦ ⊥ | false ↦ Unit {0} ]) (some refl) tt)
one_made false None some = omega arith
one_made true (Some old) some = omega arith
one_made false (Some old) some = omega arith

-- no more are built than do not pass
pub made_least : {A : Type 0} (passes : A → Bool) (xs : List A) (reused_tunes : List (Option ℕ))
    → AllZip (λ x old. passes x ≡ true → IsSome old) xs reused_tunes → built_count reused_tunes ≤ count_by (λ x. not (passes x)) xs
made_least passes [] [] all = omega arith
made_least passes [] (old ∷ reused_tunes) all = absurd all
made_least passes (x ∷ xs) [] all = absurd all
made_least passes (x ∷ xs) (old ∷ reused_tunes) all =
    let one = one_made (passes x) old all.0 in
    let rest = made_least passes xs reused_tunes all.1 in
    omega (arith, one, rest, sum_by-cons built_count_at old reused_tunes, sum_by-cons (λ y. cond (not (passes y)) 1 0) x xs)
