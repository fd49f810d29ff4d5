-- The frame of a chord: its brackets and its outer length. ABC 2.1 section 4.17.
use Rattle.std.specs.Prelude.{◌≡◌, ℕ, ◌+◌, Bool, false, not, ◌&&◌, Option, Some, None, List, [], ◌∷◌, ◌++◌, length, drop}
use Rattle.std.specs.Prelude.{if◌then◌else◌, ◌==◌}
use Rattle.std.specs.List.{prefix_len, AllPass}
use Rattle.abc_scan.specs.declared.frame.Frame.{Frame}
use Rattle.abc_scan.specs.Byte.{opening_bracket, closing_bracket, bar_stroke}
use Rattle.abc_scan.specs.Field.{begins_field}
use Rattle.abc_scan.specs.Length.{IsLength, length_at, length_size}

-- Any byte but the brackets and `|` may be inside a chord.
abbrev pub is_inside : ℕ → Bool
is_inside b = not (b == opening_bracket) && (not (b == closing_bracket) && not (b == bar_stroke))

-- `[`, such bytes that do not begin with a letter and a colon, `]`, and a length.
pub record IsFrame (text : List ℕ) (frame : Frame) : Type 0 where
  pub inside : List ℕ
  pub written : List ℕ
  pub spelling : text ≡ opening_bracket ∷ (inside ++ closing_bracket ∷ written)
  pub inside_is : AllPass is_inside inside
  pub no_field : begins_field inside ≡ false
  pub size_is : frame.inside ≡ length inside
  pub length_is : IsLength written frame.length

-- The frame with `size` bytes inside that this text follows, and its size in bytes.
abbrev pub closed_frame : ℕ → List ℕ → Option (Frame × ℕ)
closed_frame size [] = None
closed_frame size (b ∷ following) =
    if b == closing_bracket then Some (record { inside = size; length = length_at following }, size + 2 + length_size following)
    else None

-- The number of bytes at the front of a text that may be inside a chord.
abbrev pub inside_size : List ℕ → ℕ
inside_size text = prefix_len is_inside text

-- The frame at the front of a text, and its size in bytes.
unfoldable pub frame_at : List ℕ → Option (Frame × ℕ)
frame_at [] = None
frame_at (b ∷ rest) =
    if (b == opening_bracket) && not (begins_field rest)
    then closed_frame (inside_size rest) (drop (inside_size rest) rest)
    else None
