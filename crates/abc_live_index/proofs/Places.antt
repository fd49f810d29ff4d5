-- The place that a map has for a number, as it finds it.
use Rattle.std.proofs.Common.{◌≡◌, ℕ, true, false, [], ◌∷◌, is_some, sym, ap, ◌∙◌, refl, arith}
use Rattle.std.proofs.lemmas.Bool.{cond-true, cond-false}
use Rattle.std.specs.BTreeMap.{is_at, insert_entry}
use Rattle.std.specs.Map.{lookup}
use Rattle.std.specs.Ordering.{nat_cmp}
use Rattle.std.proofs.lemmas.Bool.Decides.{nat_tests}
use Rattle.abc_live_index.specs.Owners.{Owners, owner_at, owners_with}

pub looked_up : (owners : Owners) (n : ℕ) → lookup (is_at (nat_cmp n)) owners ≡ owner_at owners n
looked_up [] n = refl
looked_up (owner ∷ owners) n =
    let rest = looked_up owners n in
    grind (arith, nat_tests)

-- a number that has an owner keeps it
pub kept : (owners : Owners) (n place : ℕ) → is_some (lookup (is_at (nat_cmp n)) owners) ≡ true → owners_with owners n place ≡ owners
kept owners n place has = cond-true _ _ _ (ap is_some (sym (looked_up owners n)) ∙ has)

-- and one that has none takes it
pub taken : (owners : Owners) (n place : ℕ) → is_some (lookup (is_at (nat_cmp n)) owners) ≡ false → owners_with owners n place ≡ insert_entry nat_cmp owners n place
taken owners n place none = cond-false _ _ _ (ap is_some (sym (looked_up owners n)) ∙ none)
