-- What the accidentals and the mode of a field K: say, apart from how its value is read. ABC 2.1 section 3.1.14.
use Rattle.std.specs.Prelude.{◌≡◌, ◌≢◌, ℕ, ◌+◌, ◌<◌, ◌⊎◌, Bool, true, false, ⊤, ℤ, pos, negsuc, ◌+ℤ◌, List, [], ◌∷◌, ◌++◌, length}
use Rattle.std.specs.Prelude.{codes, All, Some, Ok, Err}
use Rattle.abc_text.specs.declared.accidental.Accidental.{Accidental}
use Rattle.abc_text.specs.declared.letter.Letter.{Letter}
use Rattle.abc_text.specs.Accidental.{spelling, alteration as semitones}
use Rattle.abc_text.specs.Letter.{IsLetter}
use Rattle.abc_text.specs.Word.{AreWords}
use Rattle.abc_fields.specs.declared.fault_code.FaultCode.TheVariants.{BadKey}
use Rattle.abc_fields.specs.declared.key.Key.{Key}
use Rattle.abc_fields.specs.declared.signature.Signature.{Signature}
use Rattle.abc_fields.specs.Key.{key_of}
use Rattle.abc_fields.specs.Signature.{alteration}
use Rattle.abc_fields.specs.Spelling.Key.{IsStart}
use Rattle.abc_fields.specs.Spelling.Tonic.{IsRun, IsTonic}

-- An accidental and the letter that it is listed for.
abbrev pub Change : Type 0
Change = Accidental × Letter

-- A word lists these and nothing else: each accidental directly before its letter, capital or small.
abbrev pub Lists : List ℕ → List Change → Type 0
Lists word [] = word ≡ []
Lists word (change ∷ changes) =
    (b : ℕ) × (rest : List ℕ) × (word ≡ spelling change.0 ++ b ∷ rest) × IsLetter b change.1 × Lists rest changes

-- None of these is listed for the letter.
abbrev pub HasNoneOf : Letter → List Change → Type 0
HasNoneOf letter changes = All (λ change. change.1 ≢ letter) changes

-- A word lists nothing for a letter: it is no list of accidentals, or none of them is the letter's.
abbrev pub IsSilentOf : Letter → List ℕ → Type 0
IsSilentOf letter word = (changes : List Change) → Lists word changes → HasNoneOf letter changes

-- The last accidental that words list for a letter. No other one of the letter comes after it, in this word or a later one.
pub record IsLastListed (words : List (List ℕ)) (letter : Letter) (accidental : Accidental) : Type 0 where
  pub before : List (List ℕ)
  pub word : List ℕ
  pub after : List (List ℕ)
  pub split : words ≡ before ++ word ∷ after
  pub earlier : List Change
  pub later : List Change
  pub listed : Lists word (earlier ++ (accidental, letter) ∷ later)
  pub none_later : HasNoneOf letter later
  pub silent : All (IsSilentOf letter) after

-- A signature alters a letter as the last accidental that words list for it, and as another signature if they list none.
abbrev pub AltersByLast : Signature → List (List ℕ) → Signature → Letter → Type 0
AltersByLast start words signature letter =
    ((accidental : Accidental) × IsLastListed words letter accidental × (alteration signature letter ≡ semitones accidental))
    ⊎ (All (IsSilentOf letter) words × (alteration signature letter ≡ alteration start letter))

-- The value of a K: begins with a key, whose signature its words complete to this one.
pub record IsListed (value : List ℕ) (signature : Signature) : Type 0 where
  pub start : Key
  pub text : List ℕ
  pub words : List (List ℕ)
  pub opening : Signature
  pub begins : IsStart value start text
  pub are_words : AreWords text words
  pub opens : start.signature ≡ Some opening
  pub alters : (letter : Letter) → AltersByLast opening words signature letter

-- Of two accidentals of a letter that a K: lists the later one counts.
abbrev pub LastListedCounts : Type 0
LastListedCounts =
    (value : List ℕ) (key : Key) (signature : Signature) → key_of value ≡ Ok key → key.signature ≡ Some signature
    → ((value ≡ []) ⊎ (value ≡ codes "none")) ⊎ IsListed value signature

-- A run of letters begins with these small letters, capitals or not.
abbrev pub BeginsWith : List ℕ → List ℕ → Type 0
BeginsWith [] run = ⊤
BeginsWith (small ∷ rest) [] = ⊥
BeginsWith (small ∷ rest) (b ∷ run) = ((b ≡ small) ⊎ (b + 32 ≡ small)) × BeginsWith rest run

-- A run of letters names a mode, which adds `sharps` to those of the major key and is minor or not.
pub data NamesMode (run : List ℕ) : ℤ → Bool → Type 0 where
  lydian : BeginsWith (codes "lyd") run → NamesMode run (pos 1) false
  major : BeginsWith (codes "maj") run → NamesMode run (pos 0) false
  ionian : BeginsWith (codes "ion") run → NamesMode run (pos 0) false
  mixolydian : BeginsWith (codes "mix") run → NamesMode run (negsuc 0) false
  dorian : BeginsWith (codes "dor") run → NamesMode run (negsuc 1) false
  minor : BeginsWith (codes "min") run → NamesMode run (negsuc 2) true
  aeolian : BeginsWith (codes "aeo") run → NamesMode run (negsuc 2) true
  letter_m : run ≡ codes "m" → NamesMode run (negsuc 2) true
  phrygian : BeginsWith (codes "phr") run → NamesMode run (negsuc 3) false
  locrian : BeginsWith (codes "loc") run → NamesMode run (negsuc 4) false

-- After the tonic of a value, whose major key has `sharps` sharps, come blanks and a run of letters, each as long as it can be.
pub record IsTonicWithRun (value : List ℕ) (sharps : ℤ) (blanks run : List ℕ) : Type 0 where
  pub following : List ℕ
  pub rest : List ℕ
  pub tonic : IsTonic value sharps following
  pub letters : IsRun following blanks run rest

-- The run of letters names no mode.
abbrev pub NamesNone : List ℕ → Type 0
NamesNone run = (added : ℤ) (minor : Bool) → ¬ NamesMode run added minor

-- A mode that is named counts.
abbrev pub NamedModesAdd : Type 0
NamedModesAdd =
    (value blanks run : List ℕ) (sharps added : ℤ) (minor : Bool) (key : Key)
    → IsTonicWithRun value sharps blanks run → NamesMode run added minor → key_of value ≡ Ok key
    → (key.sharps ≡ sharps +ℤ added) × (key.minor ≡ minor)

-- Without a mode the key is major: no letters follow the tonic, or what follows after blanks is another word, except `exp`.
abbrev pub OthersAreMajor : Type 0
OthersAreMajor =
    (value blanks run : List ℕ) (sharps : ℤ) (key : Key)
    → IsTonicWithRun value sharps blanks run → NamesNone run → (run ≡ []) ⊎ ((0 < length blanks) × (run ≢ codes "exp"))
    → key_of value ≡ Ok key → (key.sharps ≡ sharps) × (key.minor ≡ false)

-- A run of letters directly after the tonic that names no mode is refused.
abbrev pub OtherRunsAreRefused : Type 0
OtherRunsAreRefused =
    (value run : List ℕ) (sharps : ℤ) → IsTonicWithRun value sharps [] run → NamesNone run → 0 < length run → key_of value
    ≡ Err BadKey
