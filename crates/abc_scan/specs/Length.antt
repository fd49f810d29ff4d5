-- Lengths as they are written after notes and rests. ABC 2.1 section 4.3.
use Rattle.std.specs.Prelude.{◌≤◌, ◌≡◌, ℕ, ◌+◌, ◌^◌, ◌<◌, Bool, false, ◌||◌, Option, Some, None, List, [], ◌∷◌, ◌++◌, length, take}
use Rattle.std.specs.Prelude.{drop, replicate, if◌then◌else◌, ◌==◌, nat_lt}
use Rattle.std.specs.List.{prefix_len, AllPass}
use Rattle.abc_text.specs.declared.digit.TheConstants.{LONGEST_NUMBER, LARGEST_NUMBER}
use Rattle.abc_text.specs.Digit.{is_digit, decimal}
use Rattle.abc_scan.specs.Byte.{slash}
use Rattle.abc_scan.specs.declared.length.TheConstants.{MOST_SLASHES}
use Rattle.abc_scan.specs.declared.length.WrittenLength.{WrittenLength}
use Rattle.abc_scan.specs.declared.length.WrittenLength.TheVariants.{Factor, Refused}

-- A slash.
abbrev pub is_slash : ℕ → Bool
is_slash = λ b. b == slash

-- Whether a text begins with a digit or a slash.
abbrev pub begins_length : List ℕ → Bool
begins_length [] = false
begins_length (b ∷ bs) = is_digit b || is_slash b

-- The number that digits write, or another if there are none. It is refused if it has more than
-- nine digits or is 0. Not in ABC 2.1.
abbrev pub number_or : List ℕ → ℕ → Option ℕ
number_or [] other = Some other
number_or (d ∷ ds) other =
    if nat_lt LONGEST_NUMBER (length (d ∷ ds)) then None
    else (if decimal (d ∷ ds) == 0 then None else Some (decimal (d ∷ ds)))

-- Two accepted numbers, or refused.
abbrev pub factor : Option ℕ → Option ℕ → WrittenLength
factor None den = Refused
factor (Some num) None = Refused
factor (Some num) (Some den) = Factor num den

-- The value of digits, slashes and digits. Without digits it is 1 over the slashes, and under them a
-- half for each. More than `MOST_SLASHES` are refused, which is not in ABC 2.1.
abbrev pub written_length : List ℕ → ℕ → List ℕ → WrittenLength
written_length over slashes under =
    if nat_lt MOST_SLASHES slashes then Refused else factor (number_or over 1) (number_or under (2 ^ slashes))

-- A length text: digits, then nothing, one slash with digits, or one or more slashes.
pub record IsLength (text : List ℕ) (value : WrittenLength) : Type 0 where
  pub over : List ℕ
  pub slashes : ℕ
  pub under : List ℕ
  pub spelling : text ≡ over ++ (replicate slashes slash ++ under)
  pub over_digits : AllPass is_digit over
  pub under_digits : AllPass is_digit under
  pub one_slash : 0 < length under → slashes ≡ 1
  pub value_is : value ≡ written_length over slashes under

-- Both parts of an accepted length are from 1 to the largest number of nine digits. Not in ABC 2.1.
pub record IsFactor (num den : ℕ) : Type 0 where
  pub num_least : 1 ≤ num
  pub num_most : num ≤ LARGEST_NUMBER
  pub den_least : 1 ≤ den
  pub den_most : den ≤ LARGEST_NUMBER

-- A written length is refused or has such parts.
abbrev pub HasFactor : WrittenLength → Type 0
HasFactor (Factor num den) = IsFactor num den
HasFactor Refused = Unit {0}

-- The number of leading digits of the longest length text: digits, then slashes, then digits again after a single
-- slash.
abbrev pub over_size : List ℕ → ℕ
over_size text = prefix_len is_digit text

-- The number of slashes after the digits.
abbrev pub slashes_size : List ℕ → ℕ
slashes_size rest = prefix_len is_slash rest

-- The number of digits after the slashes: only a single slash has any.
abbrev pub under_size : List ℕ → ℕ
under_size rest = if slashes_size rest == 1 then prefix_len is_digit (drop (slashes_size rest) rest) else 0

-- The size of the length text in bytes.
unfoldable pub length_size : List ℕ → ℕ
length_size text =
    let rest = drop (over_size text) text in
    over_size text + slashes_size rest + under_size rest

-- Its value.
unfoldable pub length_at : List ℕ → WrittenLength
length_at text =
    let rest = drop (over_size text) text in
    written_length (take (over_size text) text) (slashes_size rest) (take (under_size rest) (drop (slashes_size rest) rest))
