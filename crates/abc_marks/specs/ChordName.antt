-- Chord names, and the notes of their chords. ABC 2.1 section 4.18.
use Rattle.std.specs.Prelude.{ℕ, ◌<◌, List, [], ◌∷◌}
use Rattle.abc_marks.specs.declared.chord_name.ChordKind.{ChordKind}
use Rattle.abc_marks.specs.declared.chord_name.ChordKind.TheVariants as kinds
use Rattle.abc_marks.specs.declared.chord_name.ChordName.{ChordName}

-- The notes of a chord, in half tones above its root. ABC 2.1 section 4.18 has the names; the notes are those of harmony.
abbrev pub half_tones : ChordKind → List ℕ
half_tones kinds.Major = 0 ∷ 4 ∷ 7 ∷ []
half_tones kinds.Minor = 0 ∷ 3 ∷ 7 ∷ []
half_tones kinds.Seventh = 0 ∷ 4 ∷ 7 ∷ 10 ∷ []
half_tones kinds.MinorSeventh = 0 ∷ 3 ∷ 7 ∷ 10 ∷ []
half_tones kinds.MajorSeventh = 0 ∷ 4 ∷ 7 ∷ 11 ∷ []
half_tones kinds.MinorMajorSeventh = 0 ∷ 3 ∷ 7 ∷ 11 ∷ []
half_tones kinds.Sixth = 0 ∷ 4 ∷ 7 ∷ 9 ∷ []
half_tones kinds.MinorSixth = 0 ∷ 3 ∷ 7 ∷ 9 ∷ []
half_tones kinds.Augmented = 0 ∷ 4 ∷ 8 ∷ []
half_tones kinds.AugmentedSeventh = 0 ∷ 4 ∷ 8 ∷ 10 ∷ []
half_tones kinds.Diminished = 0 ∷ 3 ∷ 6 ∷ []
half_tones kinds.DiminishedSeventh = 0 ∷ 3 ∷ 6 ∷ 9 ∷ []
half_tones kinds.HalfDiminished = 0 ∷ 3 ∷ 6 ∷ 10 ∷ []
half_tones kinds.Ninth = 0 ∷ 4 ∷ 7 ∷ 10 ∷ 14 ∷ []
half_tones kinds.MinorNinth = 0 ∷ 3 ∷ 7 ∷ 10 ∷ 14 ∷ []
half_tones kinds.MajorNinth = 0 ∷ 4 ∷ 7 ∷ 11 ∷ 14 ∷ []
half_tones kinds.Eleventh = 0 ∷ 4 ∷ 7 ∷ 10 ∷ 14 ∷ 17 ∷ []
half_tones kinds.SuspendedFourth = 0 ∷ 5 ∷ 7 ∷ []
half_tones kinds.SuspendedSecond = 0 ∷ 2 ∷ 7 ∷ []
half_tones kinds.SeventhSuspendedFourth = 0 ∷ 5 ∷ 7 ∷ 10 ∷ []
half_tones kinds.SeventhSuspendedSecond = 0 ∷ 2 ∷ 7 ∷ 10 ∷ []
half_tones kinds.Fifth = 0 ∷ 7 ∷ []
half_tones kinds.AddedNinth = 0 ∷ 4 ∷ 7 ∷ 14 ∷ []
half_tones kinds.AddedSecond = 0 ∷ 2 ∷ 4 ∷ 7 ∷ []
half_tones kinds.MinorAddedNinth = 0 ∷ 3 ∷ 7 ∷ 14 ∷ []
half_tones kinds.SixthNinth = 0 ∷ 4 ∷ 7 ∷ 9 ∷ 14 ∷ []
half_tones kinds.SeventhFlatNinth = 0 ∷ 4 ∷ 7 ∷ 10 ∷ 13 ∷ []
half_tones kinds.SeventhSharpNinth = 0 ∷ 4 ∷ 7 ∷ 10 ∷ 15 ∷ []
half_tones kinds.SeventhFlatFifth = 0 ∷ 4 ∷ 6 ∷ 10 ∷ []
half_tones kinds.MinorEleventh = 0 ∷ 3 ∷ 7 ∷ 10 ∷ 14 ∷ 17 ∷ []
half_tones kinds.Thirteenth = 0 ∷ 4 ∷ 7 ∷ 10 ∷ 14 ∷ 21 ∷ []

-- A pitch without its octave: half tones above C.
abbrev pub IsPitchClass : ℕ → Type 0
IsPitchClass pitch = pitch < 12

-- A chord name: its root and its bass are pitches without their octaves.
pub record IsChordName (name : ChordName) : Type 0 where
  pub root : IsPitchClass name.root
  pub bass : IsPitchClass name.bass
