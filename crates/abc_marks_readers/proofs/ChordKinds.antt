-- A text is read as a kind of chord exactly if it names it.
use Rattle.std.proofs.Common.{◌≡◌, ℕ, List, [], ◌∷◌, Some, codes, refl, ⊎_elim, arith}
use Rattle.std.specs.List.{Contains}
use Rattle.std.specs.Prelude.{All}
use Rattle.std.proofs.lemmas.Bool.{or_cases}
use Rattle.std.proofs.lemmas.List.Elements.{All-nil, All-cons, All-contains}
use Rattle.abc_marks.specs.declared.chord_name.ChordKind.{ChordKind}
use Rattle.abc_marks.specs.declared.chord_name.ChordKind.TheVariants as kinds
use Rattle.abc_marks_readers.proofs.Names.{chosen, either, same}
use Rattle.abc_marks_readers.specs.ChordKind.{names_of, kind_named, ReadsKinds, triad_named, seventh_named, rare_seventh_named, sixth_named, extended_named, suspended_named, added_named}

triad_named-from : (text : List ℕ) (value : ChordKind) → triad_named text ≡ Some value → Contains (names_of value) text
unfolding triad_named
triad_named-from text value e =
    chosen names_of _ kinds.Major _ value text e (λ t. ⊎_elim (λ t. (0, omega arith, same text _ t)) (λ t. (1, omega arith, same text _ t)) (or_cases _ _ t)) (λ e.
    chosen names_of _ kinds.Minor _ value text e (λ t. ⊎_elim (λ t. ⊎_elim (λ t. (0, omega arith, same text _ t)) (λ t. (1, omega arith, same text _ t)) (or_cases _ _ t)) (λ t. (2, omega arith, same text _ t)) (or_cases _ _ t)) (λ e.
    chosen names_of _ kinds.Augmented _ value text e (λ t. ⊎_elim (λ t. (0, omega arith, same text _ t)) (λ t. (1, omega arith, same text _ t)) (or_cases _ _ t)) (λ e.
    chosen names_of _ kinds.Diminished _ value text e (λ t. ⊎_elim (λ t. (0, omega arith, same text _ t)) (λ t. (1, omega arith, same text _ t)) (or_cases _ _ t)) (λ e. cc))))

seventh_named-from : (text : List ℕ) (value : ChordKind) → seventh_named text ≡ Some value → Contains (names_of value) text
unfolding seventh_named
seventh_named-from text value e =
    chosen names_of _ kinds.Seventh _ value text e (λ t. (0, omega arith, same text _ t)) (λ e.
    chosen names_of _ kinds.MinorSeventh _ value text e (λ t. ⊎_elim (λ t. ⊎_elim (λ t. (0, omega arith, same text _ t)) (λ t. (1, omega arith, same text _ t)) (or_cases _ _ t)) (λ t. (2, omega arith, same text _ t)) (or_cases _ _ t)) (λ e.
    chosen names_of _ kinds.MajorSeventh _ value text e (λ t. ⊎_elim (λ t. ⊎_elim (λ t. (0, omega arith, same text _ t)) (λ t. (1, omega arith, same text _ t)) (or_cases _ _ t)) (λ t. (2, omega arith, same text _ t)) (or_cases _ _ t)) (λ e. cc)))

rare_seventh_named-from : (text : List ℕ) (value : ChordKind) → rare_seventh_named text ≡ Some value → Contains (names_of value) text
unfolding rare_seventh_named
rare_seventh_named-from text value e =
    chosen names_of _ kinds.MinorMajorSeventh _ value text e (λ t. ⊎_elim (λ t. (0, omega arith, same text _ t)) (λ t. (1, omega arith, same text _ t)) (or_cases _ _ t)) (λ e.
    chosen names_of _ kinds.AugmentedSeventh _ value text e (λ t. ⊎_elim (λ t. (0, omega arith, same text _ t)) (λ t. (1, omega arith, same text _ t)) (or_cases _ _ t)) (λ e.
    chosen names_of _ kinds.DiminishedSeventh _ value text e (λ t. ⊎_elim (λ t. (0, omega arith, same text _ t)) (λ t. (1, omega arith, same text _ t)) (or_cases _ _ t)) (λ e.
    chosen names_of _ kinds.HalfDiminished _ value text e (λ t. (0, omega arith, same text _ t)) (λ e. cc))))

sixth_named-from : (text : List ℕ) (value : ChordKind) → sixth_named text ≡ Some value → Contains (names_of value) text
unfolding sixth_named
sixth_named-from text value e =
    chosen names_of _ kinds.Sixth _ value text e (λ t. (0, omega arith, same text _ t)) (λ e.
    chosen names_of _ kinds.MinorSixth _ value text e (λ t. (0, omega arith, same text _ t)) (λ e.
    chosen names_of _ kinds.SixthNinth _ value text e (λ t. ⊎_elim (λ t. (0, omega arith, same text _ t)) (λ t. (1, omega arith, same text _ t)) (or_cases _ _ t)) (λ e.
    chosen names_of _ kinds.SeventhFlatNinth _ value text e (λ t. (0, omega arith, same text _ t)) (λ e.
    chosen names_of _ kinds.SeventhSharpNinth _ value text e (λ t. (0, omega arith, same text _ t)) (λ e.
    chosen names_of _ kinds.SeventhFlatFifth _ value text e (λ t. (0, omega arith, same text _ t)) (λ e. cc))))))

extended_named-from : (text : List ℕ) (value : ChordKind) → extended_named text ≡ Some value → Contains (names_of value) text
unfolding extended_named
extended_named-from text value e =
    chosen names_of _ kinds.Ninth _ value text e (λ t. (0, omega arith, same text _ t)) (λ e.
    chosen names_of _ kinds.MinorNinth _ value text e (λ t. (0, omega arith, same text _ t)) (λ e.
    chosen names_of _ kinds.MajorNinth _ value text e (λ t. ⊎_elim (λ t. (0, omega arith, same text _ t)) (λ t. (1, omega arith, same text _ t)) (or_cases _ _ t)) (λ e.
    chosen names_of _ kinds.Eleventh _ value text e (λ t. (0, omega arith, same text _ t)) (λ e.
    chosen names_of _ kinds.MinorEleventh _ value text e (λ t. (0, omega arith, same text _ t)) (λ e.
    chosen names_of _ kinds.Thirteenth _ value text e (λ t. (0, omega arith, same text _ t)) (λ e. cc))))))

suspended_named-from : (text : List ℕ) (value : ChordKind) → suspended_named text ≡ Some value → Contains (names_of value) text
unfolding suspended_named
suspended_named-from text value e =
    chosen names_of _ kinds.SuspendedFourth _ value text e (λ t. ⊎_elim (λ t. (0, omega arith, same text _ t)) (λ t. (1, omega arith, same text _ t)) (or_cases _ _ t)) (λ e.
    chosen names_of _ kinds.SuspendedSecond _ value text e (λ t. ⊎_elim (λ t. (0, omega arith, same text _ t)) (λ t. (1, omega arith, same text _ t)) (or_cases _ _ t)) (λ e.
    chosen names_of _ kinds.SeventhSuspendedFourth _ value text e (λ t. ⊎_elim (λ t. (0, omega arith, same text _ t)) (λ t. (1, omega arith, same text _ t)) (or_cases _ _ t)) (λ e.
    chosen names_of _ kinds.SeventhSuspendedSecond _ value text e (λ t. ⊎_elim (λ t. (0, omega arith, same text _ t)) (λ t. (1, omega arith, same text _ t)) (or_cases _ _ t)) (λ e. cc))))

added_named-from : (text : List ℕ) (value : ChordKind) → added_named text ≡ Some value → Contains (names_of value) text
unfolding added_named
added_named-from text value e =
    chosen names_of _ kinds.Fifth _ value text e (λ t. (0, omega arith, same text _ t)) (λ e.
    chosen names_of _ kinds.AddedNinth _ value text e (λ t. (0, omega arith, same text _ t)) (λ e.
    chosen names_of _ kinds.AddedSecond _ value text e (λ t. (0, omega arith, same text _ t)) (λ e.
    chosen names_of _ kinds.MinorAddedNinth _ value text e (λ t. (0, omega arith, same text _ t)) (λ e. cc))))

from_names : (text : List ℕ) (value : ChordKind) → kind_named text ≡ Some value → Contains (names_of value) text
from_names text value e =
    either names_of _ _ value text e (triad_named-from text value) (λ e.
    either names_of _ _ value text e (seventh_named-from text value) (λ e.
    either names_of _ _ value text e (rare_seventh_named-from text value) (λ e.
    either names_of _ _ value text e (sixth_named-from text value) (λ e.
    either names_of _ _ value text e (extended_named-from text value) (λ e.
    either names_of _ _ value text e (suspended_named-from text value) (λ e. added_named-from text value e))))))

abbrev Names : ChordKind → List ℕ → Type 0
Names value text = kind_named text ≡ Some value

to_names : (value : ChordKind) → All (Names value) (names_of value)
unfolding triad_named seventh_named rare_seventh_named sixth_named extended_named suspended_named added_named
to_names kinds.Major = All-cons (Names kinds.Major) (codes "") (codes "maj" ∷ []) refl (All-cons (Names kinds.Major) (codes "maj") ([]) refl (All-nil _))
to_names kinds.Minor = All-cons (Names kinds.Minor) (codes "m") (codes "min" ∷ codes "-" ∷ []) refl (All-cons (Names kinds.Minor) (codes "min") (codes "-" ∷ []) refl (All-cons (Names kinds.Minor) (codes "-") ([]) refl (All-nil _)))
to_names kinds.Seventh = All-cons (Names kinds.Seventh) (codes "7") ([]) refl (All-nil _)
to_names kinds.MinorSeventh = All-cons (Names kinds.MinorSeventh) (codes "m7") (codes "min7" ∷ codes "-7" ∷ []) refl (All-cons (Names kinds.MinorSeventh) (codes "min7") (codes "-7" ∷ []) refl (All-cons (Names kinds.MinorSeventh) (codes "-7") ([]) refl (All-nil _)))
to_names kinds.MajorSeventh = All-cons (Names kinds.MajorSeventh) (codes "maj7") (codes "Maj7" ∷ codes "M7" ∷ []) refl (All-cons (Names kinds.MajorSeventh) (codes "Maj7") (codes "M7" ∷ []) refl (All-cons (Names kinds.MajorSeventh) (codes "M7") ([]) refl (All-nil _)))
to_names kinds.MinorMajorSeventh = All-cons (Names kinds.MinorMajorSeventh) (codes "mM7") (codes "mmaj7" ∷ []) refl (All-cons (Names kinds.MinorMajorSeventh) (codes "mmaj7") ([]) refl (All-nil _))
to_names kinds.Sixth = All-cons (Names kinds.Sixth) (codes "6") ([]) refl (All-nil _)
to_names kinds.MinorSixth = All-cons (Names kinds.MinorSixth) (codes "m6") ([]) refl (All-nil _)
to_names kinds.Augmented = All-cons (Names kinds.Augmented) (codes "aug") (codes "+" ∷ []) refl (All-cons (Names kinds.Augmented) (codes "+") ([]) refl (All-nil _))
to_names kinds.AugmentedSeventh = All-cons (Names kinds.AugmentedSeventh) (codes "aug7") (codes "7#5" ∷ []) refl (All-cons (Names kinds.AugmentedSeventh) (codes "7#5") ([]) refl (All-nil _))
to_names kinds.Diminished = All-cons (Names kinds.Diminished) (codes "dim") (codes "o" ∷ []) refl (All-cons (Names kinds.Diminished) (codes "o") ([]) refl (All-nil _))
to_names kinds.DiminishedSeventh = All-cons (Names kinds.DiminishedSeventh) (codes "dim7") (codes "o7" ∷ []) refl (All-cons (Names kinds.DiminishedSeventh) (codes "o7") ([]) refl (All-nil _))
to_names kinds.HalfDiminished = All-cons (Names kinds.HalfDiminished) (codes "m7b5") ([]) refl (All-nil _)
to_names kinds.Ninth = All-cons (Names kinds.Ninth) (codes "9") ([]) refl (All-nil _)
to_names kinds.MinorNinth = All-cons (Names kinds.MinorNinth) (codes "m9") ([]) refl (All-nil _)
to_names kinds.MajorNinth = All-cons (Names kinds.MajorNinth) (codes "maj9") (codes "M9" ∷ []) refl (All-cons (Names kinds.MajorNinth) (codes "M9") ([]) refl (All-nil _))
to_names kinds.Eleventh = All-cons (Names kinds.Eleventh) (codes "11") ([]) refl (All-nil _)
to_names kinds.SuspendedFourth = All-cons (Names kinds.SuspendedFourth) (codes "sus") (codes "sus4" ∷ []) refl (All-cons (Names kinds.SuspendedFourth) (codes "sus4") ([]) refl (All-nil _))
to_names kinds.SuspendedSecond = All-cons (Names kinds.SuspendedSecond) (codes "sus2") (codes "sus9" ∷ []) refl (All-cons (Names kinds.SuspendedSecond) (codes "sus9") ([]) refl (All-nil _))
to_names kinds.SeventhSuspendedFourth = All-cons (Names kinds.SeventhSuspendedFourth) (codes "7sus4") (codes "7sus" ∷ []) refl (All-cons (Names kinds.SeventhSuspendedFourth) (codes "7sus") ([]) refl (All-nil _))
to_names kinds.SeventhSuspendedSecond = All-cons (Names kinds.SeventhSuspendedSecond) (codes "7sus2") (codes "7sus9" ∷ []) refl (All-cons (Names kinds.SeventhSuspendedSecond) (codes "7sus9") ([]) refl (All-nil _))
to_names kinds.Fifth = All-cons (Names kinds.Fifth) (codes "5") ([]) refl (All-nil _)
to_names kinds.AddedNinth = All-cons (Names kinds.AddedNinth) (codes "add9") ([]) refl (All-nil _)
to_names kinds.AddedSecond = All-cons (Names kinds.AddedSecond) (codes "add2") ([]) refl (All-nil _)
to_names kinds.MinorAddedNinth = All-cons (Names kinds.MinorAddedNinth) (codes "madd9") ([]) refl (All-nil _)
to_names kinds.SixthNinth = All-cons (Names kinds.SixthNinth) (codes "69") (codes "6/9" ∷ []) refl (All-cons (Names kinds.SixthNinth) (codes "6/9") ([]) refl (All-nil _))
to_names kinds.SeventhFlatNinth = All-cons (Names kinds.SeventhFlatNinth) (codes "7b9") ([]) refl (All-nil _)
to_names kinds.SeventhSharpNinth = All-cons (Names kinds.SeventhSharpNinth) (codes "7#9") ([]) refl (All-nil _)
to_names kinds.SeventhFlatFifth = All-cons (Names kinds.SeventhFlatFifth) (codes "7b5") ([]) refl (All-nil _)
to_names kinds.MinorEleventh = All-cons (Names kinds.MinorEleventh) (codes "m11") ([]) refl (All-nil _)
to_names kinds.Thirteenth = All-cons (Names kinds.Thirteenth) (codes "13") ([]) refl (All-nil _)

pub reads : ReadsKinds
reads text value = (
  from_names text value,
  λ contained. All-contains (Names value) (names_of value) text (to_names value) contained,
)
