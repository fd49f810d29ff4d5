-- Bars are whole numbers of grains.
use Rattle.std.proofs.Common.{◌≡◌, ℕ, ◌*◌, ◌/◌, ◌≤◌, [], sym, ap, ◌∙◌, subst, arith}
use Rattle.std.proofs.Math.Nat.{div-le_self, mul-le-mul}
use Rattle.abc_time.specs.declared.grains.Grains.{Grains}
use Rattle.abc_time.specs.Grains.{grains_of_a_whole_note, grains_of_the_longest_length}
use Rattle.abc_time.specs.Length.{IsLength}
use Rattle.abc_fields.specs.Meter.{HasMeterRange}
use Rattle.abc_bars_notes.specs.BarRest.{bar_grains}
use Rattle.abc_bars_voice.proofs.WholeParts.{cut_exactly}

-- the number of grains that code computes
abbrev pub bar_in : ℕ → ℕ → Grains
bar_in a b = record { 0 = 929901772800 / a * b }

-- A bar is a whole number of grains, exactly.
pub bar_exact : (num den : ℕ) → HasMeterRange num den → (bar_grains num den).0 * (den * 1) ≡ grains_of_a_whole_note * (num * 1)
unfolding bar_grains
bar_exact num den h =
    let power = h.den_power in
    let small : power.power ≤ 9 = omega (arith, power.small) in
    let cut = cut_exactly den (record { power = power.power; small = small; value = power.value }) in
    let a : (grains_of_a_whole_note / den * num) * (den * 1) ≡ (grains_of_a_whole_note / den * den) * num = omega arith in
    a ∙ ap (λ n. n * num) cut ∙ (let e : grains_of_a_whole_note * num ≡ grains_of_a_whole_note * (num * 1) = omega arith in e)

-- a bar has at most 255 whole notes
pub bar_short : (num den : ℕ) → HasMeterRange num den → (bar_grains num den).0 ≤ grains_of_the_longest_length
unfolding bar_grains grains_of_the_longest_length grains_of_a_whole_note
bar_short num den h =
    let below = div-le_self 929901772800 den in
    let most = h.num_most in
    let product : 929901772800 / den * num ≤ 929901772800 * 255 = mul-le-mul below most in
    omega (arith, product)

pub bar_value : (a b num den : ℕ) → a ≡ den → b ≡ num → bar_in a b ≡ bar_grains num den
unfolding bar_grains grains_of_a_whole_note
bar_value a b num den e f = λ i. bar_in (e i) (f i)

pub bar_exact_at : (a b num den : ℕ) → a ≡ den → b ≡ num → HasMeterRange num den → IsLength (record { num = num; den = den }) [] (bar_in a b).0
bar_exact_at a b num den e f h =
    subst (λ (g : Grains). IsLength (record { num = num; den = den }) [] g.0) (sym (bar_value a b num den e f)) (bar_exact num den h)

pub bar_short_at : (a b num den : ℕ) → a ≡ den → b ≡ num → HasMeterRange num den → (bar_in a b).0 ≤ grains_of_the_longest_length
bar_short_at a b num den e f h =
    subst (λ (g : Grains). g.0 ≤ grains_of_the_longest_length) (sym (bar_value a b num den e f)) (bar_short num den h)
