-- Passes as bits.
use Rattle.std.proofs.Common.{◌≡◌, ℕ, ◌+◌, ◌-◌, ◌*◌, ◌^◌, ◌%◌, ◌<◌, ◌≤◌, true, max, Option, Some, None, List, [], ◌∷◌, refl, sym, ap, ◌∙◌, subst, inl, inr, ⊎_elim, arith}
use Rattle.std.specs.Prelude.{◌⊎◌, ◌↔◌, IsTrue, bit_or, fold}
use Rattle.std.specs.Int.{bit_at}
use Rattle.std.proofs.Math.Nat.{pow-le-pow_right}
use Rattle.std.proofs.lemmas.Nat.{pow_pos, or_lt}
use Rattle.std.proofs.lemmas.Nat.Bits.{bit_at-zero, bit_at_or, bit_at-lt, bit_at_mask_inside, bit_at_mask_below, bit_at_mask_above, same_from_bits_below}
use Rattle.std.proofs.lemmas.Bool.{and_parts, leb-true, cases_Bool, cases_lt, cases_eq, cond-true, cond-false, false≢true}
use Rattle.std.proofs.lemmas.List.Elements.{All-nil, All-cons, All-head, All-tail}
use Rattle.abc_scan.specs.declared.ending.PassRange.{PassRange}
use Rattle.abc_scan.specs.Ending.{is_accepted, Names, AreNaming, AreAccepted, AreBits, ArePasses, range_bits, with_range, passes_of}

pub record InOrder (range : PassRange) : Type 0 where
  pub least : 1 ≤ range.first
  pub order : range.first ≤ range.last
  pub most : range.last ≤ 32

pub accepted_order : (range : PassRange) → is_accepted range ≡ true → InOrder range
accepted_order range h =
    let outer = and_parts _ _ h in
    let inner = and_parts _ _ outer.0 in
    record { least = leb-true 1 range.first inner.0; order = leb-true range.first range.last inner.1; most = leb-true range.last 32 outer.1 }

-- a bit that there can be, in a wider word
pub bit_fits : (k : ℕ) → k ≤ 32 → 1 * 2 ^ k % 18446744073709551616 ≡ 2 ^ k
bit_fits k few = let most : 2 ^ k ≤ 2 ^ 32 = pow-le-pow_right (omega arith) few in omega arith

pub bits_order : (i j : ℕ) → i ≤ j → 2 ^ i ≤ 2 ^ j
bits_order i j h = pow-le-pow_right (omega arith) h

-- the bits of one range
mask_set : (range : PassRange) (pass : ℕ) → InOrder range → 1 ≤ pass → (bit_at (range_bits range) (pass - 1) ≡ 1) ↔ Names range pass
mask_set range pass order some = ⊎_elim
    (λ below. (λ e. absurd (omega (arith, e, bit_at_mask_below (range.first - 1) range.last (pass - 1) (omega (arith, below, some, order.least)))), λ named. absurd (omega (arith, below, named.0))))
    (λ from. ⊎_elim
    (λ above. (λ e. absurd (omega (arith, e, bit_at_mask_above (range.first - 1) range.last (pass - 1) (omega (arith, above)))), λ named. absurd (omega (arith, above, named.1))))
    (λ upto. (λ e. (from, upto), λ named. bit_at_mask_inside (range.first - 1) range.last (pass - 1) (omega (arith, from)) (omega (arith, upto, some))))
    (cases_lt range.last pass))
    (cases_lt pass range.first)

mask_bounded : (range : PassRange) → InOrder range → range_bits range < 2 ^ 32
mask_bounded range order = let most = bits_order range.last 32 order.most in let least = pow_pos (range.first - 1) in omega (arith, most, least)

-- a bit of either is set
either : (a b : ℕ) → a < 2 → b < 2 → (max a b ≡ 1) ↔ ((a ≡ 1) ⊎ (b ≡ 1))
either a b a_bit b_bit = (
  λ e. ⊎_elim (λ one. inl one) (λ not_one. inr (omega (arith, e, not_one))) (cases_eq a 1),
  λ h. ⊎_elim (λ e. omega (arith, e)) (λ e. omega (arith, e)) h,
)

more_bits : (IsPass : ℕ → Type 0) (bits : ℕ) (range : PassRange) → AreBits IsPass bits → InOrder range → AreBits (λ pass. IsPass pass ⊎ Names range pass) (bit_or bits (range_bits range))
more_bits IsPass bits range are order = record {
  bounded = or_lt 32 bits (range_bits range) are.bounded (mask_bounded range order);
  set = λ pass some.
      let mask = range_bits range in
      let joined = bit_at_or bits mask (pass - 1) in
      let one = either (bit_at bits (pass - 1)) (bit_at mask (pass - 1)) (bit_at-lt bits (pass - 1)) (bit_at-lt mask (pass - 1)) in
      let old = are.set pass some in
      let new = mask_set range pass order some in (
        λ e. ⊎_elim (λ a. inl (old.0 a)) (λ b. inr (new.0 b)) (one.0 (sym joined ∙ e)),
        λ h. joined ∙ one.1 (⊎_elim (λ a. inl (old.1 a)) (λ b. inr (new.1 b)) h),
      );
}

same_bits : (IsPass IsSame : ℕ → Type 0) (bits : ℕ) → ((pass : ℕ) → IsPass pass → IsSame pass) → ((pass : ℕ) → IsSame pass → IsPass pass) → AreBits IsPass bits → AreBits IsSame bits
same_bits IsPass IsSame bits to from are = record {
  bounded = are.bounded;
  set = λ pass some. (λ e. to pass ((are.set pass some).0 e), λ h. (are.set pass some).1 (from pass h));
}

-- a list of ranges, added to passes that there are
abbrev Outcome : (ℕ → Type 0) → List PassRange → Option ℕ → Type 0
Outcome IsPass ranges None = AreAccepted ranges → ⊥
Outcome IsPass ranges (Some bits) = AreAccepted ranges × AreBits (λ pass. IsPass pass ⊎ AreNaming ranges pass) bits

none_stays : (ranges : List PassRange) → fold with_range None ranges ≡ None
none_stays [] = refl
none_stays (range ∷ more) = none_stays more

regrouped : (IsPass : ℕ → Type 0) (range : PassRange) (more : List PassRange) (outcome : Option ℕ) → is_accepted range ≡ true → Outcome (λ pass. IsPass pass ⊎ Names range pass) more outcome
    → Outcome IsPass (range ∷ more) outcome
regrouped IsPass range more None accepted h = λ all. h (All-tail (λ r. IsTrue (is_accepted r)) range more all)
regrouped IsPass range more (Some bits) accepted h = (
  All-cons (λ r. IsTrue (is_accepted r)) range more accepted h.0,
  same_bits (λ pass. (IsPass pass ⊎ Names range pass) ⊎ AreNaming more pass) (λ pass. IsPass pass ⊎ (Names range pass ⊎ AreNaming more pass)) bits
      (λ pass x. ⊎_elim (λ y. ⊎_elim (λ z. inl z) (λ z. inr (inl z)) y) (λ z. inr (inr z)) x)
      (λ pass x. ⊎_elim (λ z. inl (inl z)) (λ y. ⊎_elim (λ z. inl (inr z)) (λ z. inr z) y) x)
      h.1,
)

fold_is : (ranges : List PassRange) (IsPass : ℕ → Type 0) (bits : ℕ) → AreBits IsPass bits → Outcome IsPass ranges (fold with_range (Some bits) ranges)
fold_is [] IsPass bits are = (All-nil (λ r. IsTrue (is_accepted r)), same_bits IsPass (λ pass. IsPass pass ⊎ ⊥) bits (λ pass h. inl h) (λ pass h. ⊎_elim (λ x. x) (λ no. absurd no) h) are)
fold_is (range ∷ more) IsPass bits are = ⊎_elim
    (λ yes.
    let next = fold_is more (λ pass. IsPass pass ⊎ Names range pass) (bit_or bits (range_bits range)) (more_bits IsPass bits range are (accepted_order range yes)) in
    subst (λ (o : Option ℕ). Outcome IsPass (range ∷ more) (fold with_range o more)) (sym (cond-true _ _ _ yes)) (regrouped IsPass range more
    (fold with_range (Some (bit_or bits (range_bits range))) more) yes next))
    (λ fails.
    subst (Outcome IsPass (range ∷ more)) (sym (ap (λ (o : Option ℕ). fold with_range o more) (cond-false _ _ _ fails) ∙ none_stays more)) (λ all. false≢true
    (sym fails ∙ All-head (λ r. IsTrue (is_accepted r)) range more all)))
    (cases_Bool (is_accepted range))

none_yet : AreBits (λ pass. ⊥) 0
none_yet = record { bounded = omega arith; set = λ pass some. (λ e. absurd (omega (arith, e, bit_at-zero (pass - 1))), λ no. absurd no) }

named_only : (ranges : List PassRange) (o : Option ℕ) → Outcome (λ pass. ⊥) ranges o → ArePasses ranges o
named_only ranges None h = h
named_only ranges (Some bits) h = (h.0, same_bits (λ pass. ⊥ ⊎ AreNaming ranges pass) (AreNaming ranges) bits (λ pass x. ⊎_elim (λ no. absurd no) (λ y. y) x) (λ pass x. inr x) h.1)

-- the passes of ranges are those that they name
pub passes_are : (ranges : List PassRange) → ArePasses ranges (passes_of ranges)
passes_are ranges = named_only ranges (fold with_range (Some 0) ranges) (fold_is ranges (λ pass. ⊥) 0 none_yet)

-- a bit is 1 or 0
equal_bits : (a b i : ℕ) → (bit_at a i ≡ 1 → bit_at b i ≡ 1) → (bit_at b i ≡ 1 → bit_at a i ≡ 1) → bit_at a i ≡ bit_at b i
equal_bits a b i to from = ⊎_elim
    (λ one. one ∙ sym (to one))
    (λ not_one. ⊎_elim (λ one. absurd (not_one (from one))) (λ other. let m = bit_at-lt a i in let n = bit_at-lt b i in omega (arith, m, n, not_one, other)) (cases_eq (bit_at b i) 1))
    (cases_eq (bit_at a i) 1)

-- and no others
pub one_outcome : (ranges : List PassRange) (a b : Option ℕ) → ArePasses ranges a → ArePasses ranges b → a ≡ b
one_outcome ranges None None is_a is_b = refl
one_outcome ranges None (Some b) is_a is_b = absurd (is_a is_b.0)
one_outcome ranges (Some a) None is_a is_b = absurd (is_b is_a.0)
one_outcome ranges (Some a) (Some b) is_a is_b =
    ap Some (same_from_bits_below 32 a b is_a.1.bounded is_b.1.bounded (λ i below.
    let place : i + 1 - 1 ≡ i = omega arith in
    let same_at = λ (n : ℕ). bit_at a n ≡ bit_at b n in
    let as_a = is_a.1.set (i + 1) (omega arith) in
    let as_b = is_b.1.set (i + 1) (omega arith) in
    subst same_at place (equal_bits a b (i + 1 - 1) (λ e. as_b.1 (as_a.0 e)) (λ e. as_a.1 (as_b.0 e)))))
