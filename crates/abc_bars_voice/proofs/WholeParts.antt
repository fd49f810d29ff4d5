-- Parts of a whole note are whole numbers of grains.
use Rattle.std.proofs.Common.{◌≡◌, ℕ, ◌+◌, ◌-◌, ◌*◌, ◌/◌, ◌^◌, ◌≤◌, List, [], refl, sym, ap, ◌∙◌, subst, ⊎_elim, arith}
use Rattle.std.proofs.lemmas.Nat.{pow-add}
use Rattle.std.proofs.Math.Nat.{mul-div_cancel, div-le_self}
use Rattle.abc_text.specs.Power.{IsPowerUpTo}
use Rattle.abc_text.proofs.Powers.{power_least, power_most}
use Rattle.abc_time.specs.declared.grains.Grains.{Grains}
use Rattle.abc_time.specs.declared.ratio.Ratio.{Ratio}
use Rattle.abc_time.specs.Grains.{grains_of_a_whole_note, grains_of_the_longest_length}
use Rattle.abc_time.specs.Length.{IsLength}
use Rattle.abc_fields.specs.Spelling.Unit.{IsUnit}
use Rattle.abc_fields.specs.Unit.{part_as_unit}
use Rattle.abc_bars_voice.specs.UnitLength.{IsUnitPart, unit_grains}

-- a whole note is cut into 512 parts, and into as many parts as a lower power of two
pub cut_exactly : (den : ℕ) → IsPowerUpTo 9 den → grains_of_a_whole_note / den * den ≡ grains_of_a_whole_note
unfolding grains_of_a_whole_note
cut_exactly den h =
    let parts = 2 ^ (9 - h.power) * 1816214400 in
    let small : h.power ≤ 9 = h.small in
    let sum : (9 - h.power) + h.power ≡ 9 = omega arith in
    let powers : 2 ^ (9 - h.power) * 2 ^ h.power ≡ 512 = sym (pow-add 2 (9 - h.power) h.power) ∙ ap (λ k. 2 ^ k) sum in
    let whole : 929901772800 ≡ parts * den =
    sym (ap (λ n. n * 1816214400) powers) ∙ (let e : 2 ^ (9 - h.power) * 2 ^ h.power * 1816214400 ≡ parts * 2 ^ h.power = omega arith in e) ∙ ap (λ n. parts * n) (sym h.value) in
    ap (λ n. n / den * den) whole ∙ ap (λ n. n * den) (mul-div_cancel parts (power_least 9 den h)) ∙ sym whole

-- A unit is a whole number of the shortest units.
cut_by_parts : (den : ℕ) → IsPowerUpTo 9 den → 1816214400 * (512 / den) ≡ 929901772800 / den
cut_by_parts den h =
    let times = 2 ^ (9 - h.power) in
    let small : h.power ≤ 9 = h.small in
    let sum : (9 - h.power) + h.power ≡ 9 = omega arith in
    let powers : times * 2 ^ h.power ≡ 512 = sym (pow-add 2 (9 - h.power) h.power) ∙ ap (λ k. 2 ^ k) sum in
    let most : 512 ≡ times * den = sym powers ∙ ap (λ n. times * n) (sym h.value) in
    let whole : 929901772800 ≡ (1816214400 * times) * den =
    ap (λ n. 1816214400 * n) most ∙ (let e : 1816214400 * (times * den) ≡ (1816214400 * times) * den = omega arith in e) in
    let cut : 512 / den ≡ times = ap (λ n. n / den) most ∙ mul-div_cancel times (power_least 9 den h) in
    ap (λ n. 1816214400 * n) cut ∙ sym (ap (λ n. n / den) whole ∙ mul-div_cancel (1816214400 * times) (power_least 9 den h))

pub read_part : (text : List ℕ) (part : Ratio) → IsUnit text part → IsUnitPart part
read_part text part h = record {
  one = h.one;
  power = ⊎_elim (λ whole. record { power = 0; small = omega arith; value = whole.1 }) (λ p. p.power) h.part;
}

-- a part is known by how many there are in a whole note, and these are few
by_parts : (part : Ratio) → IsUnitPart part → part_as_unit part.den ≡ part
by_parts part h = let one = sym h.one in λ i. record { num = one i; den = part.den }

pub part_in_parts : (text : List ℕ) (part : Ratio) → IsUnit text part → IsUnitPart (part_as_unit part.den)
part_in_parts text part h = let is = read_part text part h in subst IsUnitPart (sym (by_parts part is)) is

pub few_parts : (text : List ℕ) (part : Ratio) → IsUnit text part → part.den ≤ 512
few_parts text part h = power_most 9 part.den (read_part text part h).power

-- A unit is a whole number of grains, exactly.
pub unit_exact : (part : Ratio) → IsUnitPart part → (unit_grains part).0 * (part.den * 1) ≡ grains_of_a_whole_note * (part.num * 1)
unfolding unit_grains
unit_exact part h =
    let cut = cut_exactly part.den h.power in
    let one = h.one in
    let a : grains_of_a_whole_note / part.den * (part.den * 1) ≡ grains_of_a_whole_note = omega arith in
    let b : grains_of_a_whole_note * (part.num * 1) ≡ grains_of_a_whole_note = ap (λ n. grains_of_a_whole_note * (n * 1)) one ∙ omega arith in
    a ∙ sym b

pub eighth : IsUnitPart (record { num = 1; den = 8 })
eighth = record { one = refl; power = record { power = 3; small = omega arith; value = refl } }

pub sixteenth : IsUnitPart (record { num = 1; den = 16 })
sixteenth = record { one = refl; power = record { power = 4; small = omega arith; value = refl } }

-- a unit is no longer than a whole note
unit_short : (part : Ratio) → (unit_grains part).0 ≤ grains_of_the_longest_length
unfolding unit_grains grains_of_the_longest_length grains_of_a_whole_note
unit_short part = let below = div-le_self 929901772800 part.den in omega (arith, below)

-- the shortest units that code counts
abbrev pub part_in : ℕ → Grains
part_in n = record { 0 = 1816214400 * n }

pub part_value : (n : ℕ) (inside self : Ratio) → n ≡ 512 / inside.den → inside ≡ self → IsUnitPart inside → part_in n ≡ unit_grains self
unfolding unit_grains grains_of_a_whole_note
part_value n inside self e v part =
    let grains = ap (λ m. 1816214400 * m) e ∙ cut_by_parts inside.den part.power ∙ ap (λ (r : Ratio). 929901772800 / r.den) v in
    λ i. record { 0 = grains i }

pub part_exact : (n : ℕ) (inside self : Ratio) → n ≡ 512 / inside.den → inside ≡ self → IsUnitPart inside → IsLength self [] (part_in n).0
part_exact n inside self e v part =
    subst (λ (g : Grains). IsLength self [] g.0) (sym (part_value n inside self e v part)) (unit_exact self (subst IsUnitPart v part))

pub part_short : (n : ℕ) (inside self : Ratio) → n ≡ 512 / inside.den → inside ≡ self → IsUnitPart inside → (part_in n).0 ≤ grains_of_the_longest_length
part_short n inside self e v part =
    subst (λ (g : Grains). g.0 ≤ grains_of_the_longest_length) (sym (part_value n inside self e v part)) (unit_short self)
