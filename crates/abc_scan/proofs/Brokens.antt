-- The mark at the front of a text is the longest one that the grammar has there.
use Rattle.std.proofs.Common.{◌≡◌, ℕ, zero, suc, ◌+◌, ◌<◌, ◌≤◌, min, Some, List, [], ◌∷◌, ◌++◌, length, take, replicate, refl, sym, ap, ◌∙◌, subst, arith, length-take-le}
use Rattle.std.specs.Prelude.{IfSome, ◌==◌}
use Rattle.std.specs.List.{prefix_len}
use Rattle.std.specs.Option.{option_map}
use Rattle.std.proofs.lemmas.Bool.{cond-true, cond_both, eqb-true, eq-eqb}
use Rattle.std.proofs.lemmas.List.{length-replicate}
use Rattle.abc_scan.specs.declared.broken.BrokenRhythm.{BrokenRhythm}
use Rattle.abc_scan.specs.declared.broken.Direction.{Direction}
use Rattle.abc_scan.specs.declared.broken.Direction.TheVariants.{Right, Left}
use Rattle.abc_scan.specs.Broken.{mark_of, IsBroken, direction_of, marks_at, marks_of, broken_at}
use Rattle.abc_scan.proofs.Marks.{all_same, same_pass}
use Rattle.abc_scan.proofs.Readings.{Finds, IsSpelled, mapped}
use Rattle.abc_scan.proofs.Numbers.{counted, counted_passes, counted-le}

direction_known : (direction : Direction) → direction_of (mark_of direction) ≡ Some direction
direction_known Right = refl
direction_known Left = refl

direction_sound : (b : ℕ) → IfSome (direction_of b) (λ direction. b ≡ mark_of direction)
direction_sound b =
    cond_both (b == 62) _ _ (λ o. IfSome o (λ direction. b ≡ mark_of direction)) (λ long. eqb-true b 62 long)
    (λ _. cond_both (b == 60) _ _ (λ o. IfSome o (λ direction. b ≡ mark_of direction)) (λ short. eqb-true b 60 short) (λ _. tt))

longest_of : (rest : List ℕ) (direction : Direction) (n : ℕ) → 1 ≤ n → n ≤ 3
    → Finds (broken_at (replicate n (mark_of direction) ++ rest)) (replicate n (mark_of direction)) (let value : BrokenRhythm = record { direction = direction; marks = n } in value)
unfolding broken_at
longest_of rest direction zero some few = absurd (omega arith)
longest_of rest direction (suc n) some few =
    let mark = mark_of direction in
    let front = replicate (suc n) mark in
    let text = front ++ rest in
    let long : length front ≡ suc n = length-replicate (suc n) mark in
    let count : marks_at mark text ≡ min (length front + prefix_len (λ b. b == mark) rest) 3 = counted (λ b. b == mark) 3 front rest (same_pass (suc n) mark) in
    record {
      found = (marks_of text direction).0;
      size = marks_at mark text;
      is_read = ap (option_map (marks_of text)) (direction_known direction);
      long = omega (arith, long, count);
      same = λ e. ap (λ (k : ℕ). let value : BrokenRhythm = record { direction = direction; marks = k } in value) (sym long ∙ e);
    }

pub broken_longest : (front rest : List ℕ) (value : BrokenRhythm) → IsBroken front value → Finds (broken_at (front ++ rest)) front value
broken_longest front rest value is = subst (λ l. Finds (broken_at (l ++ rest)) l value) (sym is.spelling) (longest_of rest value.direction value.marks is.some is.few)

-- a text that begins with a mark has one
marks_some : (mark b : ℕ) (bs : List ℕ) → b ≡ mark → 0 < marks_at mark (b ∷ bs)
marks_some mark b bs e = let first = cond-true (b == mark) (1 + prefix_len (λ x. x == mark) (take 2 bs)) 0 (eq-eqb b mark e) in omega (arith, first)

marks_sound : (b : ℕ) (bs : List ℕ) (direction : Direction) → b ≡ mark_of direction → IsSpelled IsBroken (b ∷ bs) (marks_of (b ∷ bs) direction)
marks_sound b bs direction e =
    let mark = mark_of direction in
    let text = b ∷ bs in
    let size = marks_at mark text in
    let some = marks_some mark b bs e in
    let bound = counted-le (λ x. x == mark) 3 text in
    let long : length (take size text) ≡ size = length-take-le size text bound.1 in (
      record { some = some; inside = bound.1 },
      record {
        some = omega (arith, some);
        few = bound.0;
        spelling = all_same mark (take size text) (counted_passes (λ x. x == mark) 3 text) ∙ ap (λ n. replicate n mark) long;
      },
    )

pub broken_sound : (text : List ℕ) → IfSome (broken_at text) (IsSpelled IsBroken text)
unfolding broken_at
broken_sound [] = tt
broken_sound (b ∷ bs) =
    mapped (λ direction. b ≡ mark_of direction) (IsSpelled IsBroken (b ∷ bs)) (marks_of (b ∷ bs)) (direction_of b) (λ direction e. marks_sound b bs direction e) (direction_sound b)
