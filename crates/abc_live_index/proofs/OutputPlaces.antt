-- Runs of a list among `count` items of it at index `before`.
use Rattle.std.proofs.Common.{◌≡◌, ℕ, ◌+◌, ◌-◌, ◌≤◌, List, length, take, drop, ap, ◌∙◌, arith}
use Rattle.std.proofs.lemmas.List.{drop-drop, drop-take, take-take, length-take-le, length-drop}

module _ {X : Type 0} (xs : List X) (before count : ℕ) where
  -- a run of them is a run of the whole
  pub among : (from to : ℕ) → before ≤ from → from ≤ to → to ≤ before + count
      → take (to - before - (from - before)) (drop (from - before) (take count (drop before xs))) ≡ take (to - from) (drop from xs)
  among from to following order within =
      let many : count ≡ from - before + (before + count - from) = omega (arith, following, order, within) in
      let long : to - before - (from - before) ≡ to - from = omega (arith, following, order) in
      let there : before + (from - before) ≡ from = omega (arith, following) in
      let fewer : to - from ≤ before + count - from = omega (arith, within) in
      ap (λ n. take n (drop (from - before) (take count (drop before xs)))) long
      ∙ ap (λ n. take (to - from) (drop (from - before) (take n (drop before xs)))) many
      ∙ ap (take (to - from)) (drop-take (from - before) (before + count - from) (drop before xs))
      ∙ ap (λ ys. take (to - from) (take (before + count - from) ys)) (drop-drop (from - before) before xs)
      ∙ ap (λ n. take (to - from) (take (before + count - from) (drop n xs))) there
      ∙ take-take (to - from) (before + count - from) (drop from xs) fewer

  -- and the count of them
  pub among_inside : before + count ≤ length xs → length (take count (drop before xs)) ≡ count
  among_inside inside = let left = length-drop before xs in length-take-le count (drop before xs) (omega (arith, inside, left))
