-- Sums of pitches, in 64 and 128 bits.
use Rattle.std.proofs.Common.{◌≡◌, ◌^◌, ◌∙◌, arith}
use Rattle.std.specs.Prelude.{ℤ, pos, negsuc, ◌+ℤ◌, ◌*ℤ◌, ◌≤ℤ◌}
use Rattle.std.proofs.lemmas.Int.{ints, to_z-of_z}
use mir.Syntax.{Width, w32, w64, w128}
use mir.Val.{SFits, of_z, to_z}

-- a number that is widened stays the same
pub widened : (w : Width) (x wide : ℤ) → SFits w x → wide ≡ to_z w (of_z w x) → wide ≡ x
widened w x wide fits e = e ∙ to_z-of_z w x fits

-- a number, twelve times another, and a third, as the code adds them up before it cuts the sum off
abbrev pub total_in : Width → ℤ → ℤ → ℤ → ℤ
total_in w x y z = to_z w (of_z w (to_z w (of_z w x) +ℤ to_z w (of_z w (pos 12 *ℤ to_z w (of_z w y))))) +ℤ to_z w (of_z w z)

-- the sum fits
pub record AddsUp (w : Width) (x y z a b c : ℤ) : Type 0 where
  pub fits : SFits w (total_in w a b c)
  pub is : to_z w (of_z w (total_in w a b c)) ≡ x +ℤ (pos 12 *ℤ y) +ℤ z

adds_up : (w : Width) (x y z a b c : ℤ) → SFits w x → SFits w y → SFits w z → SFits w (pos 12 *ℤ y) → SFits w (x +ℤ (pos 12 *ℤ y))
    → SFits w (x +ℤ (pos 12 *ℤ y) +ℤ z) → a ≡ x → b ≡ y → c ≡ z → AddsUp w x y z a b c
adds_up w x y z a b c fx fy fz octaves some all ea eb ec = record { fits = rw (ea, eb, ec) (simp to_z-of_z all); is = rw (ea, eb, ec) (simp to_z-of_z) }

pub wide_sum : (x y z a b c : ℤ) → SFits w64 x → SFits w64 y → SFits w64 z → a ≡ x → b ≡ y → c ≡ z → AddsUp w128 x y z a b c
wide_sum x y z a b c fx fy fz =
    adds_up w128 x y z a b c (omega (arith, ints)) (omega (arith, ints)) (omega (arith, ints)) (omega (arith, ints)) (omega (arith, ints)) (omega (arith, ints))

pub near_sum : (x y z a b c : ℤ) → SFits w32 x → SFits w32 y → SFits w32 z → a ≡ x → b ≡ y → c ≡ z → AddsUp w64 x y z a b c
near_sum x y z a b c fx fy fz =
    adds_up w64 x y z a b c (omega (arith, ints)) (omega (arith, ints)) (omega (arith, ints)) (omega (arith, ints)) (omega (arith, ints)) (omega (arith, ints))

-- and is small
pub wide_low : (x y z : ℤ) → SFits w64 x → SFits w64 y → SFits w64 z → negsuc (2 ^ 70) ≤ℤ (x +ℤ (pos 12 *ℤ y) +ℤ z)
wide_low x y z fx fy fz = omega (arith, ints)

pub wide_high : (x y z : ℤ) → SFits w64 x → SFits w64 y → SFits w64 z → (x +ℤ (pos 12 *ℤ y) +ℤ z) ≤ℤ pos (2 ^ 70)
wide_high x y z fx fy fz = omega (arith, ints)

-- a pitch and a shift fit
pub shifted-is : (x shift : ℤ) → SFits w64 x → negsuc (2 ^ 70) ≤ℤ shift → shift ≤ℤ pos (2 ^ 70)
    → to_z w128 (of_z w128 (to_z w128 (of_z w128 x) +ℤ to_z w128 (of_z w128 shift))) ≡ x +ℤ shift
shifted-is x shift fx low high =
    let gx : SFits w128 x = omega (arith, ints) in
    let gs : SFits w128 shift = omega (arith, ints) in
    let sum : SFits w128 (x +ℤ shift) = omega (arith, ints) in
    simp to_z-of_z
