-- Bars and steps that are repeated.
use Rattle.std.proofs.Common.{◌≡◌, ℕ, zero, suc, ◌+◌, ◌-◌, ◌*◌, ◌/◌, ◌<◌, ◌≤◌, List, [], ◌∷◌, ◌++◌, refl, sym, ap, arith, append_assoc, append-nil}
use Rattle.std.proofs.Math.Nat.{le-div_iff_mul-le}
use Rattle.abc_marks.specs.declared.directive.Step.{Step}
use Rattle.abc_perform_chords.specs.declared.pattern_steps.StepSpan.{StepSpan}
use Rattle.abc_perform_patterns.specs.MeterPattern.{repeated}
use Rattle.abc_perform_patterns.specs.Stretch.{bars_in, clipped_all, repeated_steps}

-- Once more at the end is once more.
pub repeated-next : (times : ℕ) (steps : List Step) → repeated times steps ++ steps ≡ repeated (suc times) steps
repeated-next zero steps = sym (append-nil steps)
repeated-next (suc times) steps = rw append_assoc (ap (λ rest. steps ++ rest) (repeated-next times steps))

-- The first of the bars that are left.
pub next_bar : (bars index bar length : ℕ) (spans : List StepSpan) → index < bars
    → repeated_steps (bars - index) (index * bar) bar length spans
    ≡ clipped_all (index * bar) length spans ++ repeated_steps (bars - (index + 1)) ((index + 1) * bar) bar length spans
next_bar bars index bar length spans below =
    let count : bars - index ≡ suc (bars - (index + 1)) = omega arith in
    let moment : index * bar + bar ≡ (index + 1) * bar = grind arith in
    rw count (ap (λ m. clipped_all (index * bar) length spans ++ repeated_steps (bars - (index + 1)) m bar length spans) moment)

-- A bar of a stretch begins in it.
pub begins_within : (index bar length : ℕ) → 1 ≤ bar → index < bars_in length bar → index * bar ≤ length
begins_within index bar length some below =
    let next : index + 1 ≤ (length + (bar - 1)) / bar = omega (arith, below) in
    let room = (le-div_iff_mul-le {k = bar} {x = index + 1} {y = length + (bar - 1)} some).0 next in
    let split : (index + 1) * bar ≡ index * bar + bar = grind arith in
    omega (arith, room, split)
