-- The grammar of a key, the value of a field K:. ABC 2.1 section 3.1.14.
use Rattle.std.specs.Prelude.{ℕ, ◌⊎◌, ◌≡◌, ℤ, ◌+ℤ◌, List, [], ◌∷◌, codes, Option, Some, None}
use Rattle.std.specs.List.{Contains}
use Rattle.abc_fields.specs.declared.key.Key.{Key}
use Rattle.abc_fields.specs.declared.signature.Signature.{Signature}
use Rattle.abc_fields.specs.declared.tonic.KeyMode.{KeyMode}
use Rattle.abc_fields.specs.declared.tonic.KeyMode.TheVariants.{Named, Explicit}
use Rattle.abc_fields.specs.Spelling.Listed.{AreListed}
use Rattle.abc_fields.specs.Mode.{added_sharps, is_minor}
use Rattle.abc_fields.specs.Spelling.Clef.{HasMark, IsClefName}
use Rattle.abc_fields.specs.Shift.{no_shift}
use Rattle.abc_fields.specs.Spelling.Shift.{IsShift}
use Rattle.abc_fields.specs.Signature.{IsSharps, signature_of}
use Rattle.abc_fields.specs.Spelling.Tonic.{IsTonic, IsKeyMode}
use Rattle.abc_text.specs.Word.{AreWords, IsFirstWord}
use Rattle.abc_fields.specs.Key.{empty_key, unchanged_key}
use Rattle.abc_text.specs.Byte.{equals_sign, caret, underscore}

-- The key of a mode on the tonic whose major key has these sharps. The bound of seven sharps or flats is not in ABC
-- 2.1.
abbrev pub IsKeyOn : ℤ → KeyMode → Key → Type 0
IsKeyOn major Explicit key = key ≡ empty_key
IsKeyOn major (Named mode) key =
    let sharps = major +ℤ added_sharps mode in
    IsSharps sharps
    × (key ≡ record { signature = Some (signature_of sharps); sharps = sharps; minor = is_minor mode; shift = no_shift })

-- A value begins with no tonic.
abbrev pub HasNoTonic : List ℕ → Type 0
HasNoTonic value = (sharps : ℤ) (rest : List ℕ) → ¬ IsTonic value sharps rest

-- A word begins with an accidental: `^`, `_` or `=`.
abbrev pub BeginsAccidental : List ℕ → Type 0
BeginsAccidental word = (b : ℕ) × (rest : List ℕ) × (word ≡ b ∷ rest) × ((b ≡ caret) ⊎ ((b ≡ underscore) ⊎ (b ≡ equals_sign)))

-- A word sets properties, as the first word: it has a `=`, or the mark of an octave, or is the
-- name of a clef. Not in ABC 2.1.
abbrev pub SetsProperties : List ℕ → Type 0
SetsProperties word = Contains word equals_sign ⊎ (((n : ℤ) × HasMark word n) ⊎ IsClefName word)

-- The beginning of a value, and the text with its other words. It is a tonic and the key on it. Without a tonic it is
-- an empty signature if accidentals are listed, and no signature if there are only properties. The last two are not in
-- ABC 2.1.
pub data IsStart (value : List ℕ) (start : Key) (text : List ℕ) : Type 0 where
  tonal : (major : ℤ) (following : List ℕ) (key_mode : KeyMode) → IsTonic value major following → IsKeyMode following key_mode text
      → IsKeyOn major key_mode start → IsStart value start text
  listed : (first following : List ℕ) → HasNoTonic value → IsFirstWord value first following → BeginsAccidental first
      → start ≡ empty_key → text ≡ value → IsStart value start text
  properties : (first following : List ℕ) → HasNoTonic value → IsFirstWord value first following → ¬ BeginsAccidental first
      → SetsProperties first → start ≡ unchanged_key → text ≡ value → IsStart value start text

-- The accidentals among words complete a signature, if there is one.
abbrev pub IsCompleted : Option Signature → List (List ℕ) → Option Signature → Type 0
IsCompleted None words completed = completed ≡ None
IsCompleted (Some signature) words completed =
    (changed : Signature) × AreListed signature words changed × (completed ≡ Some changed)

-- The beginning of a value, completed by words.
pub record IsSpelled (value : List ℕ) (key : Key) : Type 0 where
  pub start : Key
  pub text : List ℕ
  pub words : List (List ℕ)
  pub begins : IsStart value start text
  pub are_words : AreWords text words
  pub signature : IsCompleted start.signature words key.signature
  pub sharps : key.sharps ≡ start.sharps
  pub minor : key.minor ≡ start.minor
  pub shift : IsShift words key.shift

-- The value of a field K:. It is empty or `none`, or begins with a key that its words complete.
pub data IsKey (value : List ℕ) (key : Key) : Type 0 where
  nothing : (value ≡ []) ⊎ (value ≡ codes "none") → key ≡ empty_key → IsKey value key
  spelled : IsSpelled value key → IsKey value key
