use Rattle.std.proofs.Common.{◌≡◌, ℕ, ◌+◌, ◌-◌, ◌*◌, ◌<◌, ◌≤◌, List, length, take, get_or, arith, ap, subst, sym}
use Rattle.std.specs.List.{AllPass}
use Rattle.std.proofs.lemmas.List.{take_all}
use Rattle.abc_text.specs.Digit.{is_digit, decimal}
use Rattle.abc_text.proofs.Decimals.{decimal-lt, step-lt}
use Rattle.abc_text.proofs.digit.decimal.Goals as goal

-- the number with one more digit is below 10 ^ 9
bounded : (ds : List ℕ) (i n : ℕ) → n ≡ decimal (take i ds) → AllPass is_digit ds → length ds ≤ 9 → i < length ds → n * 10 + (get_or ds i 0 - 48) < 1000000000
bounded ds i n e h short inside = subst (λ m. m * 10 + (get_or ds i 0 - 48) < 1000000000) (sym e) (step-lt ds i h short inside)

pub overflow_mul-number : goal.overflow_mul-number
overflow_mul-number c =
    let b = bounded c.args.digits.now c.loop-digit.digit-index c.loop-digit.number c.loop-digit.invariant c.requires.digits c.requires.short (omega arith) in
    omega (arith, b)

pub overflow_add-number : goal.overflow_add-number
overflow_add-number c =
    let b = bounded c.args.digits.now c.loop-digit.digit-index c.loop-digit.number c.loop-digit.invariant c.requires.digits c.requires.short (omega arith) in
    omega (arith, b)

pub returns-clause-bounded : goal.returns-clause-bounded
returns-clause-bounded c = let below = decimal-lt c.args.digits.now c.requires.digits c.requires.short in let whole = ap decimal (take_all c.loop-digit.digit-index c.args.digits.now
    (omega arith)) in omega (arith, below, whole)
