-- The front of a key: its tonic, and its mode. ABC 2.1 section 3.1.14.
use Rattle.std.specs.Prelude.{ℕ, ◌==◌, ℤ, pos, negsuc, ◌+ℤ◌, ◌-ℤ◌, ◌≤ℤ◌, if◌then◌else◌, List, [], ◌∷◌, length, take, drop, codes}
use Rattle.std.specs.Prelude.{Option, Some, None}
use Rattle.std.specs.List.{prefix_len}
use Rattle.std.specs.Option.{option_map, option_and_then}
use Rattle.std.specs.Str.{bytes_eq}
use Rattle.std.specs.Char.{is_ascii_alphabetic}
use Rattle.abc_fields.specs.declared.mode.Mode.{Mode}
use Rattle.abc_fields.specs.declared.mode.Mode.TheVariants.{Ionian}
use Rattle.abc_fields.specs.declared.tonic.KeyMode.{KeyMode}
use Rattle.abc_fields.specs.declared.tonic.KeyMode.TheVariants.{Named, Explicit}
use Rattle.abc_text.specs.declared.letter.Letter.{Letter}
use Rattle.abc_text.specs.declared.letter.Letter.TheVariants.{B}
use Rattle.abc_text.specs.Blank.{is_blank}
use Rattle.abc_text.specs.Letter.{capital, letter_of, small}
use Rattle.abc_fields.specs.Mode.{mode_of}
use Rattle.abc_fields.specs.Signature.{fifths}

-- The sign that makes a tonic sharp, `#`.
abbrev pub sharp_sign : ℕ
sharp_sign = 35

-- The sign that makes a tonic flat, `b`.
abbrev pub flat_sign : ℕ
flat_sign = small B

-- The sharps of the major key on a letter, by the circle of fifths: the key on F has one flat, and each fifth above it
-- one more sharp.
abbrev pub major_sharps : Letter → ℤ
major_sharps letter = pos (fifths letter) -ℤ pos 1

-- The letter, if it is the capital that a byte is.
abbrev pub if_capital : ℕ → Letter → Option Letter
if_capital b letter = if capital letter == b then Some letter else None

-- The letter of a tonic, which is a capital.
abbrev pub tonic_letter : ℕ → Option Letter
tonic_letter b = option_and_then (if_capital b) (letter_of b)

-- The sharps that a sign at the front of a text adds, and the rest after it.
abbrev pub sign_at : List ℕ → ℤ × List ℕ
sign_at [] = (pos 0, [])
sign_at (b ∷ rest) =
    if b == sharp_sign then (pos 7, rest) else (if b == flat_sign then (negsuc 6, rest) else (pos 0, b ∷ rest))

-- The sharps of the major key on the tonic at the front of a text, and the rest after it.
abbrev pub tonic_at : List ℕ → Option (ℤ × List ℕ)
tonic_at [] = None
tonic_at (b ∷ following) =
    option_map (λ letter. (major_sharps letter +ℤ (sign_at following).0, (sign_at following).1)) (tonic_letter b)

-- The sharps of a major key, written with at most one sign.
abbrev pub IsMajor : ℤ → Type 0
IsMajor sharps = (negsuc 7 ≤ℤ sharps) × (sharps ≤ℤ pos 12)

-- The mode of a key, if a run of letters follows `blanks` blanks of a text.
abbrev pub key_mode_by : Option Mode → ℕ → List ℕ → List ℕ → List ℕ → Option (KeyMode × List ℕ)
key_mode_by (Some mode) blanks run text rest = Some (Named mode, rest)
key_mode_by None blanks run text rest =
    if length run == 0 then Some (Named Ionian, text)
    else (if blanks == 0 then None
    else (if bytes_eq run (codes "exp") then Some (Explicit, rest) else Some (Named Ionian, text)))

-- The mode of a key, by the text after the tonic, and the rest with the other words.
unfoldable pub key_mode_at : List ℕ → Option (KeyMode × List ℕ)
key_mode_at text =
    let blanks = prefix_len is_blank text in
    let following = drop blanks text in
    let letters = prefix_len is_ascii_alphabetic following in
    key_mode_by (mode_of (take letters following)) blanks (take letters following) text (drop letters following)
