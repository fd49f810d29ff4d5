-- The grammar of the front of a key: its tonic, and its mode. ABC 2.1 section 3.1.14.
use Rattle.std.specs.Prelude.{ℕ, ◌<◌, ◌≡◌, ◌≢◌, ◌⊎◌, Bool, false, ℤ, pos, negsuc, ◌+ℤ◌, List, [], ◌∷◌, ◌++◌, length, codes}
use Rattle.std.specs.List.{AllPass}
use Rattle.std.specs.Char.{is_ascii_alphabetic}
use Rattle.abc_fields.specs.declared.mode.Mode.{Mode}
use Rattle.abc_fields.specs.declared.mode.Mode.TheVariants.{Ionian}
use Rattle.abc_fields.specs.declared.tonic.KeyMode.{KeyMode}
use Rattle.abc_fields.specs.declared.tonic.KeyMode.TheVariants.{Named, Explicit}
use Rattle.abc_text.specs.declared.letter.Letter.{Letter}
use Rattle.abc_text.specs.Blank.{is_blank}
use Rattle.abc_text.specs.Letter.{capital}
use Rattle.abc_fields.specs.Tonic.{flat_sign, major_sharps, sharp_sign}
use Rattle.abc_fields.specs.Spelling.Mode.{IsMode}

-- A text begins with neither `#` nor `b`.
abbrev pub HasNoSign : List ℕ → Type 0
HasNoSign text = ((rest : List ℕ) → text ≢ sharp_sign ∷ rest) × ((rest : List ℕ) → text ≢ flat_sign ∷ rest)

-- A text begins with a sign that adds sharps, or with none, and continues with the rest.
pub data IsSign (text : List ℕ) (added : ℤ) (rest : List ℕ) : Type 0 where
  sharp : text ≡ sharp_sign ∷ rest → added ≡ pos 7 → IsSign text added rest
  flat : text ≡ flat_sign ∷ rest → added ≡ negsuc 6 → IsSign text added rest
  none : HasNoSign text → text ≡ rest → added ≡ pos 0 → IsSign text added rest

-- A text begins with a tonic, a capital letter and perhaps a sign, whose major key has these sharps, and continues with
-- the rest.
pub record IsTonic (text : List ℕ) (sharps : ℤ) (rest : List ℕ) : Type 0 where
  pub letter : Letter
  pub following : List ℕ
  pub spelling : text ≡ capital letter ∷ following
  pub added : ℤ
  pub sign : IsSign following added rest
  pub sharps_are : sharps ≡ major_sharps letter +ℤ added

-- The first byte of a text, if it has one, fails a test.
abbrev pub StopsAt : (ℕ → Bool) → List ℕ → Type 0
StopsAt test text = (b : ℕ) (rest : List ℕ) → text ≡ b ∷ rest → test b ≡ false

-- A text begins with blanks and a run of letters, both as long as they can be, and continues with the rest.
pub record IsRun (text blanks run rest : List ℕ) : Type 0 where
  pub spelling : text ≡ blanks ++ (run ++ rest)
  pub are_blanks : AllPass is_blank blanks
  pub no_more_blanks : StopsAt is_blank (run ++ rest)
  pub are_letters : AllPass is_ascii_alphabetic run
  pub no_more_letters : StopsAt is_ascii_alphabetic rest

-- The mode of a key, by the text after the tonic, and the rest. A run of letters names a mode, or is `exp` after
-- blanks. Without either, the mode is major. Then a run of letters comes after blanks, and belongs to the rest.
pub data IsKeyMode (text : List ℕ) (key_mode : KeyMode) (rest : List ℕ) : Type 0 where
  named : (blanks run : List ℕ) (mode : Mode) → IsRun text blanks run rest → IsMode run mode → key_mode ≡ Named mode
      → IsKeyMode text key_mode rest
  explicit : (blanks : List ℕ) → IsRun text blanks (codes "exp") rest → 0 < length blanks → key_mode ≡ Explicit
      → IsKeyMode text key_mode rest
  major : (blanks run following : List ℕ) → IsRun text blanks run following → ((mode : Mode) → ¬ IsMode run mode)
      → ((run ≡ []) ⊎ ((0 < length blanks) × (run ≢ codes "exp"))) → key_mode ≡ Named Ionian → rest ≡ text
      → IsKeyMode text key_mode rest
