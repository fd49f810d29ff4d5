-- Broken rhythm. ABC 2.1 section 4.4.
use Rattle.std.specs.Prelude.{ℕ, ◌≡◌, ◌≤◌, ◌==◌, if◌then◌else◌, List, [], ◌∷◌, replicate, take, Option, Some, None}
use Rattle.std.specs.List.{prefix_len}
use Rattle.std.specs.Option.{option_map}
use Rattle.abc_scan.specs.declared.broken.BrokenRhythm.{BrokenRhythm}
use Rattle.abc_scan.specs.declared.broken.Direction.{Direction}
use Rattle.abc_scan.specs.declared.broken.Direction.TheVariants.{Right, Left}
use Rattle.abc_scan.specs.Byte.{less_sign, greater_sign}

-- The mark of a direction, `>` or `<`.
abbrev pub mark_of : Direction → ℕ
mark_of Right = greater_sign
mark_of Left = less_sign

-- One to three marks of one direction. ABC 2.1 section 4.4; that there are at most three is not in ABC 2.1.
pub record IsBroken (text : List ℕ) (value : BrokenRhythm) : Type 0 where
  pub some : 1 ≤ value.marks
  pub few : value.marks ≤ 3
  pub spelling : text ≡ replicate value.marks (mark_of value.direction)

-- The direction of a mark.
abbrev pub direction_of : ℕ → Option Direction
direction_of b = if b == greater_sign then Some Right else (if b == less_sign then Some Left else None)

-- The number of equal marks at the front of a text: the fourth belongs to another token.
abbrev pub marks_at : ℕ → List ℕ → ℕ
marks_at mark text = prefix_len (λ b. b == mark) (take 3 text)

-- The longest mark of a direction at the front of a text, and its size in bytes.
abbrev pub marks_of : List ℕ → Direction → BrokenRhythm × ℕ
marks_of text direction =
    (record { direction = direction; marks = marks_at (mark_of direction) text }, marks_at (mark_of direction) text)

-- The longest mark at the front of a text, and its size in bytes.
unfoldable pub broken_at : List ℕ → Option (BrokenRhythm × ℕ)
broken_at [] = None
broken_at (b ∷ bs) = option_map (marks_of (b ∷ bs)) (direction_of b)
