-- Words, which are separated by blanks.
use Rattle.std.specs.Prelude.{◌≡◌, ℕ, ◌+◌, ◌<◌, ◌⊎◌, Bool, true, false, nat_lt, Option, Some, None, List, [], ◌∷◌, ◌++◌, length}
use Rattle.std.specs.Prelude.{drop, if◌then◌else◌, take}
use Rattle.std.specs.List.{All, AllPass, filter, position_or_len, prefix_len, slice_split}
use Rattle.std.specs.Str.{bytes_eq}
use Rattle.abc_text.specs.Blank.{is_blank}

-- A word has at least one byte.
abbrev pub is_word : List ℕ → Bool
is_word part = nat_lt 0 (length part)

-- The words of a text: the nonempty parts between its blanks.
unfoldable pub words_of : List ℕ → List (List ℕ)
words_of text = filter is_word (slice_split is_blank text)

-- The first word of a text: the longest run of nonblank bytes after the leading blanks.
pub record IsFirstWord (text word following : List ℕ) : Type 0 where
  pub blanks : List ℕ
  pub spelling : text ≡ blanks ++ (word ++ following)
  pub are_blanks : AllPass is_blank blanks
  pub some : 0 < length word
  pub no_blank : All (λ b. is_blank b ≡ false) word
  pub ends : (following ≡ []) ⊎ ((b : ℕ) × (rest : List ℕ) × (following ≡ b ∷ rest) × (is_blank b ≡ true))

-- The words of a text, in order. A text of only blanks has none.
abbrev pub AreWords : List ℕ → List (List ℕ) → Type 0
AreWords text [] = AllPass is_blank text
AreWords text (word ∷ words) = (following : List ℕ) × IsFirstWord text word following × AreWords following words

-- A text begins with a word.
abbrev pub begins_with : List ℕ → List ℕ → Bool
begins_with word text = bytes_eq (take (length word) text) word

-- The number of blanks at the front of a text.
abbrev pub leading_blanks : List ℕ → ℕ
leading_blanks text = prefix_len is_blank text

-- The number of bytes before the first blank of a text.
abbrev pub bytes_before_blank : List ℕ → ℕ
bytes_before_blank text = position_or_len is_blank text

-- The beginning and the end of the first word of a text.
unfoldable pub first_word : List ℕ → Option (ℕ × ℕ)
first_word text =
    if nat_lt (leading_blanks text) (length text)
    then Some (leading_blanks text, leading_blanks text + bytes_before_blank (drop (leading_blanks text) text))
    else None
