-- The part of a line that is read.
use Rattle.std.specs.Prelude.{◌≡◌, ◌≢◌, ◌⊎◌, ℕ, ◌&&◌, not, List, [], ◌∷◌, ◌++◌, if◌then◌else◌, ◌==◌}
use Rattle.abc_text.specs.LineEnd.{without_return}
use Rattle.abc_scan.specs.Byte.{space, percent, backslash}

-- The part before the comment in a text that follows this byte: a comment begins at a `%` that does not directly
-- follow a backslash. ABC 2.1 section 2.2; that backslashes do not pair up is not in ABC 2.1.
abbrev pub before_comment : ℕ → List ℕ → List ℕ
before_comment before [] = []
before_comment before (b ∷ bs) = if (b == percent) && not (before == backslash) then [] else b ∷ before_comment b bs

-- A text without its comment. It follows nothing, which counts as a space.
abbrev pub without_comment : List ℕ → List ℕ
without_comment text = before_comment space text

-- The bytes of a line that are read: the carriage return is dropped first. ABC 2.1 section 2.2; the order is not in ABC 2.1.
abbrev pub content : List ℕ → List ℕ
content line = without_comment (without_return line)

-- The last byte of a text, or this one if there is none.
abbrev pub last_or : ℕ → List ℕ → ℕ
last_or before [] = before
last_or before (b ∷ bs) = last_or b bs

-- The text read after this byte is a front of the text. Each `%` in the front directly follows a backslash. After the
-- front comes nothing, or a comment, whose `%` does not follow one.
pub record IsRead (before : ℕ) (text read : List ℕ) : Type 0 where
  pub comment : List ℕ
  pub spelling : text ≡ read ++ comment
  pub escaped : (front rest : List ℕ) → read ≡ front ++ percent ∷ rest → last_or before front ≡ backslash
  pub begins : (comment ≡ []) ⊎ ((rest : List ℕ) × (comment ≡ percent ∷ rest) × (last_or before read ≢ backslash))

-- Each text without its comment is the text that is read.
abbrev pub CutsComments : Type 0
CutsComments = (text : List ℕ) → IsRead space text (without_comment text)
