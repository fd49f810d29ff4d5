-- Variable-length quantities (SMF 1.0).
use Rattle.std.specs.Prelude.{◌≡◌, ℕ, zero, suc, ◌+◌, ◌*◌, ◌/◌, ◌%◌, ◌^◌, ◌<◌, ◌≤◌, ◌==◌, nat_lt, if◌then◌else◌, List, [], ◌∷◌}
use Rattle.std.specs.Prelude.{◌++◌, length, take, All, slice_get, Some, Result, Ok, Err}
use Rattle.smf_bytes.specs.declared.number.NumberFault.{NumberFault}
use Rattle.smf_bytes.specs.declared.number.NumberFault.TheVariants.{Padded, TooLong, Truncated}

-- The bytes of a quantity before its last: the groups of seven bits that are left, highest first,
-- each with the top bit set. The first number bounds how many groups there are.
abbrev pub leading_bytes : ℕ → ℕ → List ℕ
leading_bytes zero n = []
leading_bytes (suc groups) n = if n == 0 then [] else leading_bytes groups (n / 128) ++ (128 + n % 128) ∷ []

-- The variable-length quantity of a number below 2^28 (SMF 1.0): seven bits a byte, highest first,
-- the top bit set on all but the last.
unfoldable pub number_text : ℕ → List ℕ
number_text n = leading_bytes 3 (n / 128) ++ n % 128 ∷ []

-- The bytes begin with the text of the number, which has `used` bytes.
pub record StartsWithNumber (bytes : List ℕ) (n used : ℕ) : Type 0 where
  pub in_range : n < 2 ^ 28
  pub rest : List ℕ
  pub spelled : bytes ≡ number_text n ++ rest
  pub counted : used ≡ length (number_text n)

-- The first byte is 80, which no quantity's text begins with. Not in ABC 2.1.
abbrev pub IsPadded : List ℕ → Type 0
IsPadded bytes = slice_get bytes 0 ≡ Some 128

-- Each of the first four bytes has the top bit set, and the first is not 80: a quantity has at most four
-- bytes (SMF 1.0).
pub record IsTooLong (bytes : List ℕ) : Type 0 where
  pub not_padded : ¬ IsPadded bytes
  pub four : 4 ≤ length bytes
  pub top_bits : All (λ byte. 128 ≤ byte) (take 4 bytes)

-- The bytes end, before there are four of them, while each has the top bit set. Not in ABC 2.1.
pub record IsTruncated (bytes : List ℕ) : Type 0 where
  pub not_padded : ¬ IsPadded bytes
  pub short : length bytes < 4
  pub top_bits : All (λ byte. 128 ≤ byte) bytes

-- A quantity is read from the front: from n and the count of the bytes read so far, with `left` more bytes allowed.
abbrev pub read_on : ℕ → ℕ → ℕ → List ℕ → Result (ℕ × ℕ) NumberFault
read_on zero n used bytes = Err TooLong
read_on (suc left) n used [] = Err Truncated
read_on (suc left) n used (byte ∷ bytes) =
    if nat_lt byte 128 then Ok (n * 128 + byte, used + 1) else read_on left (n * 128 + byte % 128) (used + 1) bytes

-- The number at the front of the bytes and its count of bytes, or what is wrong. The refusals and their
-- order are not in ABC 2.1.
unfoldable pub read_result : List ℕ → Result (ℕ × ℕ) NumberFault
read_result [] = Err Truncated
read_result (byte ∷ bytes) = if byte == 128 then Err Padded else read_on 4 0 0 (byte ∷ bytes)
