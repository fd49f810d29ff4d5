-- The names of the kinds of chords. ABC 2.1 section 4.18 has some of them, the others are those of abc2midi.
use Rattle.std.specs.Prelude.{◌≡◌, ◌↔◌, ℕ, ◌||◌, if◌then◌else◌, List, [], ◌∷◌, codes, Option, Some, None}
use Rattle.std.specs.List.{Contains}
use Rattle.std.specs.Option.{option_or}
use Rattle.std.specs.Str.{bytes_eq}
use Rattle.abc_marks.specs.declared.chord_name.ChordKind.{ChordKind}
use Rattle.abc_marks.specs.declared.chord_name.ChordKind.TheVariants as kinds

-- The names of a kind.
abbrev pub names_of : ChordKind → List (List ℕ)
names_of kinds.Major = codes "" ∷ codes "maj" ∷ []
names_of kinds.Minor = codes "m" ∷ codes "min" ∷ codes "-" ∷ []
names_of kinds.Seventh = codes "7" ∷ []
names_of kinds.MinorSeventh = codes "m7" ∷ codes "min7" ∷ codes "-7" ∷ []
names_of kinds.MajorSeventh = codes "maj7" ∷ codes "Maj7" ∷ codes "M7" ∷ []
names_of kinds.MinorMajorSeventh = codes "mM7" ∷ codes "mmaj7" ∷ []
names_of kinds.Sixth = codes "6" ∷ []
names_of kinds.MinorSixth = codes "m6" ∷ []
names_of kinds.Augmented = codes "aug" ∷ codes "+" ∷ []
names_of kinds.AugmentedSeventh = codes "aug7" ∷ codes "7#5" ∷ []
names_of kinds.Diminished = codes "dim" ∷ codes "o" ∷ []
names_of kinds.DiminishedSeventh = codes "dim7" ∷ codes "o7" ∷ []
names_of kinds.HalfDiminished = codes "m7b5" ∷ []
names_of kinds.Ninth = codes "9" ∷ []
names_of kinds.MinorNinth = codes "m9" ∷ []
names_of kinds.MajorNinth = codes "maj9" ∷ codes "M9" ∷ []
names_of kinds.Eleventh = codes "11" ∷ []
names_of kinds.SuspendedFourth = codes "sus" ∷ codes "sus4" ∷ []
names_of kinds.SuspendedSecond = codes "sus2" ∷ codes "sus9" ∷ []
names_of kinds.SeventhSuspendedFourth = codes "7sus4" ∷ codes "7sus" ∷ []
names_of kinds.SeventhSuspendedSecond = codes "7sus2" ∷ codes "7sus9" ∷ []
names_of kinds.Fifth = codes "5" ∷ []
names_of kinds.AddedNinth = codes "add9" ∷ []
names_of kinds.AddedSecond = codes "add2" ∷ []
names_of kinds.MinorAddedNinth = codes "madd9" ∷ []
names_of kinds.SixthNinth = codes "69" ∷ codes "6/9" ∷ []
names_of kinds.SeventhFlatNinth = codes "7b9" ∷ []
names_of kinds.SeventhSharpNinth = codes "7#9" ∷ []
names_of kinds.SeventhFlatFifth = codes "7b5" ∷ []
names_of kinds.MinorEleventh = codes "m11" ∷ []
names_of kinds.Thirteenth = codes "13" ∷ []

-- The names of triads.
unfoldable pub triad_named : List ℕ → Option ChordKind
triad_named text =
    if bytes_eq text (codes "") || bytes_eq text (codes "maj") then Some kinds.Major
    else (if (bytes_eq text (codes "m") || bytes_eq text (codes "min")) || bytes_eq text (codes "-") then Some kinds.Minor
    else (if bytes_eq text (codes "aug") || bytes_eq text (codes "+") then Some kinds.Augmented
    else (if bytes_eq text (codes "dim") || bytes_eq text (codes "o") then Some kinds.Diminished
    else None)))

-- The names of usual sevenths.
unfoldable pub seventh_named : List ℕ → Option ChordKind
seventh_named text =
    if bytes_eq text (codes "7") then Some kinds.Seventh
    else (if (bytes_eq text (codes "m7") || bytes_eq text (codes "min7")) || bytes_eq text (codes "-7") then Some kinds.MinorSeventh
    else (if (bytes_eq text (codes "maj7") || bytes_eq text (codes "Maj7")) || bytes_eq text (codes "M7") then Some kinds.MajorSeventh
    else None))

-- The names of other sevenths.
unfoldable pub rare_seventh_named : List ℕ → Option ChordKind
rare_seventh_named text =
    if bytes_eq text (codes "mM7") || bytes_eq text (codes "mmaj7") then Some kinds.MinorMajorSeventh
    else (if bytes_eq text (codes "aug7") || bytes_eq text (codes "7#5") then Some kinds.AugmentedSeventh
    else (if bytes_eq text (codes "dim7") || bytes_eq text (codes "o7") then Some kinds.DiminishedSeventh
    else (if bytes_eq text (codes "m7b5") then Some kinds.HalfDiminished
    else None)))

-- The names of sixths and of altered sevenths.
unfoldable pub sixth_named : List ℕ → Option ChordKind
sixth_named text =
    if bytes_eq text (codes "6") then Some kinds.Sixth
    else (if bytes_eq text (codes "m6") then Some kinds.MinorSixth
    else (if bytes_eq text (codes "69") || bytes_eq text (codes "6/9") then Some kinds.SixthNinth
    else (if bytes_eq text (codes "7b9") then Some kinds.SeventhFlatNinth
    else (if bytes_eq text (codes "7#9") then Some kinds.SeventhSharpNinth
    else (if bytes_eq text (codes "7b5") then Some kinds.SeventhFlatFifth
    else None)))))

-- The names of chords from the ninth on.
unfoldable pub extended_named : List ℕ → Option ChordKind
extended_named text =
    if bytes_eq text (codes "9") then Some kinds.Ninth
    else (if bytes_eq text (codes "m9") then Some kinds.MinorNinth
    else (if bytes_eq text (codes "maj9") || bytes_eq text (codes "M9") then Some kinds.MajorNinth
    else (if bytes_eq text (codes "11") then Some kinds.Eleventh
    else (if bytes_eq text (codes "m11") then Some kinds.MinorEleventh
    else (if bytes_eq text (codes "13") then Some kinds.Thirteenth
    else None)))))

-- The names of suspended chords.
unfoldable pub suspended_named : List ℕ → Option ChordKind
suspended_named text =
    if bytes_eq text (codes "sus") || bytes_eq text (codes "sus4") then Some kinds.SuspendedFourth
    else (if bytes_eq text (codes "sus2") || bytes_eq text (codes "sus9") then Some kinds.SuspendedSecond
    else (if bytes_eq text (codes "7sus4") || bytes_eq text (codes "7sus") then Some kinds.SeventhSuspendedFourth
    else (if bytes_eq text (codes "7sus2") || bytes_eq text (codes "7sus9") then Some kinds.SeventhSuspendedSecond
    else None)))

-- The names of chords with an added note, and of the fifth alone.
unfoldable pub added_named : List ℕ → Option ChordKind
added_named text =
    if bytes_eq text (codes "5") then Some kinds.Fifth
    else (if bytes_eq text (codes "add9") then Some kinds.AddedNinth
    else (if bytes_eq text (codes "add2") then Some kinds.AddedSecond
    else (if bytes_eq text (codes "madd9") then Some kinds.MinorAddedNinth
    else None)))

-- The kind of chord that a text names.
abbrev pub kind_named : List ℕ → Option ChordKind
kind_named text = option_or (triad_named text) (option_or (seventh_named text) (option_or (rare_seventh_named text) (option_or (sixth_named text) (option_or (extended_named text) (option_or (suspended_named text) (added_named text))))))

-- A text names a kind exactly if it is one of the kind's names: so no name is that of two kinds.
abbrev pub ReadsKinds : Type 0
ReadsKinds = (text : List ℕ) (kind : ChordKind) → (kind_named text ≡ Some kind) ↔ Contains (names_of kind) text
