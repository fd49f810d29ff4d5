-- Laws of tempi.
use Rattle.std.proofs.Common.{◌≡◌, ℕ, ◌+◌, ◌*◌, ◌/◌, ◌<◌, ◌≤◌, ◌&&◌, Bool, true, false, cond, leb, Option, Some, None, refl, sym, ap, ◌∙◌, subst, arith}
use Rattle.std.specs.Prelude.{SomeIff, ◌↔◌}
use Rattle.std.proofs.lemmas.Bool.Decides.{nat_tests}
use Rattle.std.proofs.Math.Nat.{le-div_iff_mul-le, mul-pos}
use Rattle.abc_time.specs.declared.ratio.Ratio.{Ratio}
use Rattle.abc_time.specs.Tempo.{quarter_of, quarter_micros_of, FitsInTempoEvent, IsQuarter}

-- a quotient, by its inequalities
quotient_from : (q d m : ℕ) → 1 ≤ d → m ≡ q / d → (m * d ≤ q) × (q < (m + 1) * d)
quotient_from q d m some e =
    let some' : 0 < d = omega arith in
    let low : m * d ≤ q = (le-div_iff_mul-le {k = d} {x = m} {y = q} some').0 (omega (arith, e)) in
    let high : ((m + 1) * d ≤ q) → ⊥ = λ h. let more : m + 1 ≤ q / d = (le-div_iff_mul-le {k = d} {x = m + 1} {y = q} some').1 h in omega (arith, e) in
    (low, omega (arith, high))

quotient_to : (q d m : ℕ) → 1 ≤ d → m * d ≤ q → q < (m + 1) * d → m ≡ q / d
quotient_to q d m some low high =
    let some' : 0 < d = omega arith in
    let least : m ≤ q / d = (le-div_iff_mul-le {k = d} {x = m} {y = q} some').1 low in
    let most : (m + 1 ≤ q / d) → ⊥ = λ h. let more : (m + 1) * d ≤ q = (le-div_iff_mul-le {k = d} {x = m + 1} {y = q} some').0 h in omega arith in
    omega (arith, most)

-- the range of a tempo event, by its test
pub record Said (micros : ℕ) (r : Option ℕ) : Type 0 where
  pub iff : SomeIff r (FitsInTempoEvent micros) micros
  pub some : (m : ℕ) → r ≡ Some m → FitsInTempoEvent m × (m ≡ micros)

said : (micros : ℕ) (t : Bool) → t ≡ (leb 1 micros && leb micros 16777215) → Said micros (cond t (Some micros) None)
said micros true e =
    let least : 1 ≤ micros = grind (arith, nat_tests) in
    let most : micros ≤ 16777215 = grind (arith, nat_tests) in
    record {
      iff = (record { least = least; most = most }, refl);
      some = λ m h. let same : m ≡ micros = cc in (subst FitsInTempoEvent (sym same) (record { least = least; most = most }), same);
    }
said micros false e = record {
  iff = λ h. let least : 1 ≤ micros = h.least in let most : micros ≤ 16777215 = h.most in grind (arith, nat_tests);
  some = λ m h. cc;
}

pub record Laws (beat : Ratio) (per_minute : ℕ) (r : Option ℕ) : Type 0 where
  pub iff : SomeIff r (FitsInTempoEvent (quarter_of beat per_minute)) (quarter_of beat per_minute)
  pub some : (m : ℕ) → (r ≡ Some m) ↔ IsQuarter beat per_minute m
  pub none : (r ≡ None) ↔ ((m : ℕ) → IsQuarter beat per_minute m → ⊥)

is_some : (r : Option ℕ) (P : Type 0) (v : ℕ) → SomeIff r P v → P → r ≡ Some v
is_some (Some x) P v h p = ap Some h.1
is_some None P v h p = absurd (h p)

none_from : (r : Option ℕ) (Q : ℕ → Type 0) → ((m : ℕ) → (r ≡ Some m) ↔ Q m) → (r ≡ None) ↔ ((m : ℕ) → Q m → ⊥)
none_from (Some x) Q h = (λ e. cc, λ no. absurd (no x ((h x).0 refl)))
none_from None Q h = (λ _. λ m q. let e = (h m).1 q in cc, λ _. refl)

quarter_is : (beat : Ratio) (per_minute m : ℕ) → IsQuarter beat per_minute m → 1 ≤ beat.num → 1 ≤ per_minute → m ≡ quarter_of beat per_minute
unfolding quarter_of
quarter_is beat per_minute m h num n =
    let some : 1 ≤ 4 * beat.num * per_minute = mul-pos (mul-pos {m = 4} (omega arith) num) n in
    quotient_to _ _ m some h.not_longer h.longest

is_quarter : (beat : Ratio) (per_minute m : ℕ) → FitsInTempoEvent m → 1 ≤ beat.num → 1 ≤ per_minute → m ≡ quarter_of beat per_minute → IsQuarter beat per_minute m
unfolding quarter_of
is_quarter beat per_minute m fits num n e =
    let some : 1 ≤ 4 * beat.num * per_minute = mul-pos (mul-pos {m = 4} (omega arith) num) n in
    let q = quotient_from _ _ m some e in
    record { fits = fits; not_longer = q.0; longest = q.1 }

laws_at : (beat : Ratio) (per_minute : ℕ) (r : Option ℕ) → 1 ≤ beat.num → 1 ≤ per_minute → Said (quarter_of beat per_minute) r → Laws beat per_minute r
laws_at beat per_minute r num n h =
    let some : (m : ℕ) → (r ≡ Some m) ↔ IsQuarter beat per_minute m = λ m. (
      λ e. let k = h.some m e in is_quarter beat per_minute m k.0 num n k.1,
      λ q. let e = quarter_is beat per_minute m q num n in is_some r _ _ h.iff (subst FitsInTempoEvent e q.fits) ∙ ap Some (sym e),
    ) in
    record { iff = h.iff; some = some; none = none_from r _ some }

pub laws : (beat : Ratio) (per_minute : ℕ) (r : Option ℕ) → r ≡ quarter_micros_of beat per_minute → 1 ≤ beat.num → 1 ≤ per_minute → Laws beat per_minute r
laws beat per_minute r e num n = laws_at beat per_minute r num n (subst (Said (quarter_of beat per_minute)) (sym e) (said _ _ refl))
