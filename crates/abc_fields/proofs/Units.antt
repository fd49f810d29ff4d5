-- Laws of the unit note length.
use Rattle.std.proofs.Common.{◌≡◌, ◌≤◌, ℕ, List, [], ◌∷◌, Option, Some, None, Result, refl, sym, ap, ◌∙◌, subst, inl, inr, ⊎_elim, arith}
use Rattle.std.specs.Prelude.{◌==◌, ◌⊎◌, codes, option_map}
use Rattle.std.proofs.lemmas.Bool.{eqb-true, cases_Bool, cond-true, cond-false}
use Rattle.abc_time.specs.declared.ratio.Ratio.{Ratio}
use Rattle.abc_time.specs.Ratio.{IsRatio}
use Rattle.abc_fields.specs.declared.fault_code.FaultCode.{FaultCode}
use Rattle.abc_fields.specs.declared.fault_code.FaultCode.TheVariants.{BadUnit}
use Rattle.abc_text.specs.Number.{number_of}
use Rattle.abc_fields.specs.Unit.{part_after_one, part_of, part_as_unit, unit_in, unit_of}
use Rattle.abc_fields.specs.Spelling.Unit.{IsPartOfWhole, IsUnit}
use Rattle.abc_text.proofs.Numbers.{number_of-spells, number_of-spelled}
use Rattle.abc_text.proofs.Powers.{power_least, power_most, power_up_to-from, power_up_to-to}
use Rattle.abc_fields.proofs.Readings.{map_some, Reads, reads}

same_ratio : (u : Ratio) (n d : ℕ) → u.num ≡ n → u.den ≡ d → u ≡ record { num = n; den = d }
same_ratio u n d e f = ap (λ x. record { num = x; den = u.den }) e ∙ ap (λ x. record { num = n; den = x }) f

-- a text that is read is a part of a whole note
abbrev IsPart : List ℕ → ℕ → Type 0
IsPart text n = ((text ≡ codes "1") × (n ≡ 1)) ⊎ IsPartOfWhole text n

part_after : (rest : List ℕ) (n : ℕ) → part_after_one rest ≡ Some n → IsPart (49 ∷ rest) n
part_after [] n e = let same : n ≡ 1 = cc in inl (refl, same)
part_after (c ∷ below) n e = ⊎_elim
    (λ stroke.
    let p = power_up_to-from 9 (number_of below) n (sym (cond-true _ _ _ stroke) ∙ e) in
    let spelling = ap (λ x. 49 ∷ x ∷ below) (eqb-true c 47 stroke) in
    inr (record { below = below; spelling = spelling; number = number_of-spells below n p.0; power = p.1 }))
    (λ other. let k : ◌≡◌ {A = Option ℕ} None (Some n) = sym (cond-false _ _ _ other) ∙ e in cc)
    (cases_Bool (c == 47))

part_from : (text : List ℕ) (n : ℕ) → part_of text ≡ Some n → IsPart text n
part_from [] n e = cc
part_from (b ∷ rest) n e = ⊎_elim
    (λ one. subst (λ x. IsPart (x ∷ rest) n) (sym (eqb-true b 49 one)) (part_after rest n (sym (cond-true _ _ _ one) ∙ e)))
    (λ other. let k : ◌≡◌ {A = Option ℕ} None (Some n) = sym (cond-false _ _ _ other) ∙ e in cc)
    (cases_Bool (b == 49))

part_to : (text : List ℕ) (n : ℕ) → IsPart text n → part_of text ≡ Some n
part_to text n h = ⊎_elim
    (λ whole. ap part_of whole.0 ∙ ap Some (sym whole.1))
    (λ p. ap part_of p.spelling ∙ power_up_to-to 9 (number_of p.below) n (number_of-spelled p.below n p.number) p.power)
    h

-- and the unit is that part
unit_from : (text : List ℕ) (u : Ratio) → unit_in text ≡ Some u → IsUnit text u
unit_from text u e =
    let part = map_some part_as_unit (part_of text) u e in
    subst (IsUnit text) (sym part.2) (record { one = refl; part = part_from text part.0 part.1 })

unit_to : (text : List ℕ) (u : Ratio) → IsUnit text u → unit_in text ≡ Some u
unit_to text u h = ap (option_map part_as_unit) (part_to text u.den h.part) ∙ ap Some (sym (same_ratio u 1 u.den h.one refl))

small_unit : (u : Ratio) → u.num ≡ 1 → 1 ≤ u.den → u.den ≤ 512 → IsRatio u
small_unit u one least most = record { num_least = omega arith; num_most = omega arith; den_least = least; den_most = omega arith }

unit_IsRatio : (text : List ℕ) (u : Ratio) → IsUnit text u → IsRatio u
unit_IsRatio text u h = ⊎_elim
    (λ whole. let den = whole.1 in small_unit u h.one (omega arith) (omega arith))
    (λ p. let most = power_most 9 u.den p.power in small_unit u h.one (power_least 9 u.den p.power) (omega arith))
    h.part

-- the reader answers the unit
pub unit_read : (text : List ℕ) (r : Result Ratio FaultCode) → r ≡ unit_of text → Reads (IsUnit text) IsRatio BadUnit r
unit_read text = reads (IsUnit text) IsRatio BadUnit (unit_in text) (unit_from text) (unit_to text) (unit_IsRatio text)
