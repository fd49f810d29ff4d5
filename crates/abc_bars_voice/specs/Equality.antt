-- Equalities that can be tested. Not in ABC 2.1.
use Rattle.std.specs.Prelude.{◌≡◌, ◌==◌, ℤ, Bool, true, false, ◌&&◌, List, Option, Some, None}
use Rattle.std.specs.Bool.{Decides}
use Rattle.std.specs.Cmp.{IsEquivalence, unsigned_Decides, signed_Decides}
use Rattle.std.specs.Cmp.Lexicographic.{pointwise}
use Rattle.std.specs.Option.{option_eq}
use Rattle.std.specs.Ordering.{int_eq}
use Rattle.std.proofs.Common.{refl, sym, ap, subst, ◌∙◌}
use Rattle.std.proofs.lemmas.Bool.Decides.{Decides-and, Decides-like, same_from_decides}
use Rattle.std.proofs.lemmas.Option.{same_Some}
use Rattle.std.proofs.lemmas.Slice.Eq.{slice_eq-Decides}
use base.Stored.{Coded, Gv, gnil, gnum, gcons, num}

-- A test that is true exactly if two values are equal.
pub record Equality (A : Type 0) : Type 0 where
  pub same : A → A → Bool
  pub exact : (a b : A) → Decides (same a b) (a ≡ b)

-- Whole numbers.
abbrev pub integers : Equality ℤ
integers = record { same = int_eq; exact = signed_Decides }

module _ {A B : Type 0} (first : Equality A) (second : Equality B) where
  abbrev pub same_pair : A × B → A × B → Bool
  same_pair a b = first.same a.0 b.0 && second.same a.1 b.1

  pub exact_pair : (a b : A × B) → Decides (same_pair a b) (a ≡ b)
  exact_pair a b = Decides-like (same_pair a b) (λ e i. (e.0 i, e.1 i)) (λ e. (ap (λ p. p.0) e, ap (λ p. p.1) e))
      (Decides-and (first.same a.0 b.0) (second.same a.1 b.1) (first.exact a.0 b.0) (second.exact a.1 b.1))

  -- Pairs, by both parts.
  abbrev pub pairs : Equality (A × B)
  pairs = record { same = same_pair; exact = exact_pair }

module _ {A : Type 0} (each : Equality A) where
  pub exact_option : (a b : Option A) → Decides (option_eq each.same a b) (a ≡ b)
  exact_option None None = (λ e. refl, λ e. refl)
  exact_option None (Some b) = (λ e. absurd cc, λ e. absurd cc)
  exact_option (Some a) None = (λ e. absurd cc, λ e. absurd cc)
  exact_option (Some a) (Some b) = (λ e. ap Some ((each.exact a b).0 e), λ e. (each.exact a b).1 (same_Some a b e))

  -- A value, or none.
  abbrev pub options : Equality (Option A)
  options = record { same = option_eq each.same; exact = exact_option }

  pub exact_list : (a b : List A) → Decides (pointwise each.same a b) (a ≡ b)
  exact_list a b = slice_eq-Decides each.exact a b (pointwise each.same a b) refl

  -- Lists, place by place.
  abbrev pub lists : Equality (List A)
  lists = record { same = pointwise each.same; exact = exact_list }

  -- Three values, by each.
  abbrev pub threes : Equality (A × (A × A))
  threes = pairs each (pairs each each)

  -- Seven values, by each.
  abbrev pub sevens : Equality (A × (A × (A × (A × (A × (A × A))))))
  sevens = pairs each (pairs each (pairs each (pairs each threes)))

  -- The test is an equivalence.
  pub equivalence : IsEquivalence each.same
  equivalence = record {
    refl = λ a. (each.exact a a).1 refl;
    symm = λ a b. same_from_decides {P = a ≡ b} (each.same a b) (each.same b a) (each.exact a b)
        (λ e. sym ((each.exact b a).0 e), λ e. (each.exact b a).1 (sym e));
    congr = λ a b c e. ap (λ x. each.same x c) ((each.exact a b).0 e);
  }

  -- A value that decides whether two are equal is the test.
  pub test_by : (r : Bool) (a b : A) → Decides r (a ≡ b) → r ≡ each.same a b
  test_by r a b decides = same_from_decides {P = a ≡ b} r (each.same a b) decides (each.exact a b)

  -- The result of the test decides whether two are equal.
  pub test_decides : (r : Bool) (a b : A) → r ≡ each.same a b → Decides r (a ≡ b)
  test_decides r a b e = subst (λ t. Decides t (a ≡ b)) (sym e) (each.exact a b)

module _ {A B : Type 0} (parts : Equality B) (to : A → B) (from : B → A) (back : (a : A) → from (to a) ≡ a) where
  pub exact_by : (a b : A) → Decides (parts.same (to a) (to b)) (a ≡ b)
  exact_by a b =
      (λ e. sym (back a) ∙ ap from ((parts.exact (to a) (to b)).0 e) ∙ back b, λ e. (parts.exact (to a) (to b)).1 (ap to e))

  -- Values, by parts that give them back.
  abbrev pub by_parts : Equality A
  by_parts = record { same = λ a b. parts.same (to a) (to b); exact = exact_by }

abbrev same_code : Gv → Gv → Bool
same_code gnil gnil = true
same_code gnil (gnum n) = false
same_code gnil (gcons c d) = false
same_code (gnum m) gnil = false
same_code (gnum m) (gnum n) = m == n
same_code (gnum m) (gcons c d) = false
same_code (gcons a b) gnil = false
same_code (gcons a b) (gnum n) = false
same_code (gcons a b) (gcons c d) = same_code a c && same_code b d

pub exact_code : (a b : Gv) → Decides (same_code a b) (a ≡ b)
exact_code gnil gnil = (λ e. refl, λ e. refl)
exact_code gnil (gnum n) = (λ e. absurd cc, λ e. absurd cc)
exact_code gnil (gcons c d) = (λ e. absurd cc, λ e. absurd cc)
exact_code (gnum m) gnil = (λ e. absurd cc, λ e. absurd cc)
exact_code (gnum m) (gnum n) = (λ e. ap gnum ((unsigned_Decides m n).0 e), λ e. (unsigned_Decides m n).1 (ap num e))
exact_code (gnum m) (gcons c d) = (λ e. absurd cc, λ e. absurd cc)
exact_code (gcons a b) gnil = (λ e. absurd cc, λ e. absurd cc)
exact_code (gcons a b) (gnum n) = (λ e. absurd cc, λ e. absurd cc)
exact_code (gcons a b) (gcons c d) =
    let both = Decides-and (same_code a c) (same_code b d) (exact_code a c) (exact_code b d) in
    (λ e i. gcons ((both.0 e).0 i) ((both.0 e).1 i), λ e. both.1 (cc, cc))

module _ {A : Type 0} (codes : Coded A) where
  pub exact_by_code : (a b : A) → Decides (same_code (codes.code a) (codes.code b)) (a ≡ b)
  exact_by_code a b =
      let same = exact_code (codes.code a) (codes.code b) in
      (λ e. codes.inj a b (same.0 e), λ e. same.1 (ap codes.code e))

  -- The values of a type, by the code that test_decides them apart.
  abbrev pub by_code : Equality A
  by_code = record { same = λ a b. same_code (codes.code a) (codes.code b); exact = exact_by_code }
