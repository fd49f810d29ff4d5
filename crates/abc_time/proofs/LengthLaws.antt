-- The meaning of a result.
use Rattle.std.proofs.Common.{◌∙◌, ◌≡◌, ℕ, ◌*◌, ◌<◌, ◌≤◌, ◌↔◌, List, Result, Ok, Err, sym, subst}
use Rattle.std.specs.Int.{◌∣◌}
use Rattle.std.specs.List.{All}
use Rattle.abc_time.specs.declared.grains.Grains.{Grains}
use Rattle.abc_time.specs.declared.lengths.LengthFault.{LengthFault}
use Rattle.abc_time.specs.declared.lengths.LengthFault.TheVariants.{NotWhole, TooLong}
use Rattle.abc_time.specs.declared.ratio.Ratio.{Ratio}
use Rattle.abc_time.specs.Grains.{grains_of_a_whole_note, grains_of_the_longest_length}
use Rattle.abc_time.specs.Length.{IsLength, length_of, numerator_of, denominator_of}
use Rattle.abc_time.specs.Ratio.{IsRatio}
use Rattle.abc_time.proofs.Denominators.{denominator_positive}
use Rattle.abc_time.proofs.Quotients.{quotient_of-Ok, quotient_of-NotWhole, quotient_of-TooLong, quotient_of-whole, quotient_of-long, quotient_of-broken}

-- the result of `length`, by the equation that a length fulfils
pub record Judges (unit : Ratio) (factors : List Ratio) (r : Result Grains LengthFault) : Type 0 where
  pub ok : (g : ℕ) → (r ≡ Ok (record { 0 = g })) ↔ (IsLength unit factors g × (g ≤ grains_of_the_longest_length))
  pub not_whole : (r ≡ Err NotWhole) ↔ ((g : ℕ) → ¬ IsLength unit factors g)
  pub too_long : (r ≡ Err TooLong) ↔ ((g : ℕ) × IsLength unit factors g × (grains_of_the_longest_length < g))

module _ (unit : Ratio) (factors : List Ratio) (is_unit : IsRatio unit) (are_factors : All IsRatio factors) where
  pub length_of-Ok : (g : ℕ) → (length_of unit factors ≡ Ok (record { 0 = g })) ↔ (IsLength unit factors g × (g ≤ grains_of_the_longest_length))
  unfolding length_of
  length_of-Ok = quotient_of-Ok _ _ (denominator_positive unit factors is_unit are_factors)

  pub length_of-NotWhole : (length_of unit factors ≡ Err NotWhole) ↔ ((g : ℕ) → ¬ IsLength unit factors g)
  unfolding length_of
  length_of-NotWhole = quotient_of-NotWhole _ _ (denominator_positive unit factors is_unit are_factors)

  pub length_of-TooLong : (length_of unit factors ≡ Err TooLong) ↔ ((g : ℕ) × IsLength unit factors g × (grains_of_the_longest_length < g))
  unfolding length_of
  length_of-TooLong = quotient_of-TooLong _ _ (denominator_positive unit factors is_unit are_factors)

  length_of_judges : Judges unit factors (length_of unit factors)
  length_of_judges = record { ok = length_of-Ok; not_whole = length_of-NotWhole; too_long = length_of-TooLong }

  pub judges : (r : Result Grains LengthFault) → r ≡ length_of unit factors → Judges unit factors r
  judges r e = subst (λ x. Judges unit factors x) (sym e) length_of_judges

  pub length_from_quotient : (p q g : ℕ) → p ≡ grains_of_a_whole_note * numerator_of unit factors → q * denominator_of unit factors ≡ p
      → (q ≤ grains_of_the_longest_length) × (g ≡ q) → Ok (record { 0 = g }) ≡ length_of unit factors
  unfolding length_of
  length_from_quotient p q g e quotient h =
      rw h.1 (sym (quotient_of-whole _ _ q (denominator_positive unit factors is_unit are_factors) (quotient ∙ e) h.0))

  pub too_long_from_quotient : (p g : ℕ) → p ≡ grains_of_a_whole_note * numerator_of unit factors → g * denominator_of unit factors ≡ p
      → grains_of_the_longest_length < g → Err TooLong ≡ length_of unit factors
  unfolding length_of
  too_long_from_quotient p g e q big = sym (quotient_of-long _ _ g (denominator_positive unit factors is_unit are_factors) (q ∙ e) big)

  pub not_whole_from_quotient : (p : ℕ) → p ≡ grains_of_a_whole_note * numerator_of unit factors → ¬ (denominator_of unit factors ∣ p)
      → Err NotWhole ≡ length_of unit factors
  unfolding length_of
  not_whole_from_quotient p e none = sym (quotient_of-broken _ _ (subst (λ n. ¬ (denominator_of unit factors ∣ n)) e none))
