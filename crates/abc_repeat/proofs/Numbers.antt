-- Numbers that stay at a greatest value.
use Rattle.std.proofs.Common.{◌≡◌, ℕ, zero, suc, ◌+◌, ◌*◌, ◌≤◌, min, ap, ◌∙◌, ⊎_elim, arith}
use Rattle.std.proofs.lemmas.Bool.{cases_lt}
use Rattle.std.proofs.lemmas.Nat.{mul-le}

-- a factor that stays at the greatest value
pub min-product : (p c top : ℕ) → min (min p top * c) top ≡ min (p * c) top
min-product p zero top = omega arith
min-product p (suc k) top = ⊎_elim
    (λ less. let e : min p top ≡ p = omega arith in ap (λ q. min (q * suc k) top) e)
    (λ more.
    let e : min p top ≡ top = omega arith in
    let m : top * 1 ≤ top * suc k = mul-le top 1 top (suc k) (omega arith) (omega arith) in
    let n : top * suc k ≤ p * suc k = mul-le top (suc k) p (suc k) more (omega arith) in
    ap (λ q. min (q * suc k) top) e ∙ omega arith)
    (cases_lt p top)

-- a sum of numbers that stay there
pub sizes_join : (a b x y z top : ℕ) → a ≡ min x top → b ≡ min y top → z ≡ x + y → min (a + b) top ≡ min z top
sizes_join a b x y z top e f g = omega arith
