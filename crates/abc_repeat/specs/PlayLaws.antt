-- The play of a section by the rules, without the definitions that compute it. ABC 2.1 sections 4.8 to 4.10. ABC 2.1
-- does not define double bars, the places of strains and endings, and the number of passes.
use Rattle.std.specs.Prelude.{◌≡◌, ℕ, ◌+◌, ◌-◌, ◌/◌, ◌%◌, ◌^◌, ◌<◌, ◌≤◌, ◌⊎◌, Bool, true, ⊤, List, [], ◌∷◌, ◌++◌, length, All}
use Rattle.std.specs.Prelude.{Option, Some, None}
use Rattle.std.specs.List.{Contains}
use Rattle.abc_repeat.specs.declared.mark.Mark.{Mark}
use Rattle.abc_repeat.specs.declared.mark.Mark.TheVariants as marks
use Rattle.abc_repeat.specs.Play.{play_of}

-- The sign of an ending, as `[1`. ABC 2.1 section 4.9.
abbrev pub IsSign : Mark → Type 0
IsSign (marks.Ending numbers) = ⊤
IsSign _ = ⊥

-- A repeat bar: a bar line with colons before or after it. ABC 2.1 section 4.8.
abbrev pub IsRepeatBar : Mark → Type 0
IsRepeatBar (marks.Bar closes opens double) = (0 < closes) ⊎ (0 < opens)
IsRepeatBar _ = ⊥

-- A double bar: a bar line whose middle is not a single thin line. Not in ABC 2.1.
abbrev pub IsDoubleBar : Mark → Type 0
IsDoubleBar (marks.Bar closes opens double) = double ≡ true
IsDoubleBar _ = ⊥

-- A bar that ends an ending, or the common part of a strain that is not opened. Not in ABC 2.1.
abbrev pub IsEndBar : Mark → Type 0
IsEndBar m = IsRepeatBar m ⊎ IsDoubleBar m

-- A mark that ends an ending: the next sign, a repeat bar or a double bar. Not in ABC 2.1.
abbrev pub EndsEnding : Mark → Type 0
EndsEnding m = IsSign m ⊎ IsEndBar m

-- A bar that ends the common part of a strain. The bar before the strain has `before` colons after it; the strain is opened if
-- there are any, and then a double bar does not end its common part. Not in ABC 2.1.
abbrev pub IsCommonBar : ℕ → Mark → Type 0
IsCommonBar before m = IsRepeatBar m ⊎ (IsDoubleBar m × (before ≡ 0))

-- A mark that ends the common part of a strain: the first sign, or such a bar. Not in ABC 2.1.
abbrev pub EndsCommon : ℕ → Mark → Type 0
EndsCommon before m = IsSign m ⊎ IsCommonBar before m

-- A mark that is no played item, sign, repeat bar or double bar.
abbrev pub IsBetween : Mark → Type 0
IsBetween m = (¬ (m ≡ marks.Play)) × (¬ EndsEnding m)

-- The next sign comes after nothing but such marks.
abbrev pub SignComes : List Mark → Type 0
SignComes rest =
    (gap : List Mark) × (numbers : ℕ) × (following : List Mark) × All IsBetween gap
    × (rest ≡ gap ++ marks.Ending numbers ∷ following)

-- An ending in its section: its numbers, the place after its sign, and its marks from there on.
pub record PlacedEnding : Type 0 where
  pub numbers : ℕ
  pub from : ℕ
  pub run : List Mark

-- The ending whose sign is at a place.
abbrev pub placed_ending : ℕ → ℕ → List Mark → PlacedEnding
placed_ending at numbers run = record { numbers = numbers; from = at + 1; run = run }

-- The endings of a strain with the first sign at this place; their marks; and the bar that ends the last one, if the
-- section does not. An ending has a next one in the strain if the sign of the next ends it. So does a bar without
-- colons after it, if the sign is the next mark apart from single bars. Not in ABC 2.1.
pub data AreEndingsFrom : ℕ → List PlacedEnding → List Mark → Option Mark → Type 0 where
  until_end : (at numbers : ℕ) (body : List Mark) → All (λ m. ¬ EndsEnding m) body
      → AreEndingsFrom at (placed_ending at numbers body ∷ []) (marks.Ending numbers ∷ body) None
  until_bar : (at numbers : ℕ) (body : List Mark) (bar : Mark) → All (λ m. ¬ EndsEnding m) body → IsEndBar bar
      → AreEndingsFrom at (placed_ending at numbers (body ++ bar ∷ []) ∷ []) (marks.Ending numbers ∷ (body ++ bar ∷ [])) (Some bar)
  until_sign : (at numbers : ℕ) (body text : List Mark) (endings : List PlacedEnding) (closing : Option Mark)
      → All (λ m. ¬ EndsEnding m) body
      → AreEndingsFrom (at + 1 + length body) endings text closing
      → AreEndingsFrom at (placed_ending at numbers body ∷ endings) (marks.Ending numbers ∷ (body ++ text)) closing
  past_bar : (at numbers closes : ℕ) (double : Bool) (body gap text : List Mark) (endings : List PlacedEnding)
      (closing : Option Mark)
      → All (λ m. ¬ EndsEnding m) body → IsEndBar (marks.Bar closes 0 double) → All IsBetween gap
      → AreEndingsFrom (at + 1 + length (body ++ marks.Bar closes 0 double ∷ gap)) endings text closing
      → AreEndingsFrom at (placed_ending at numbers (body ++ marks.Bar closes 0 double ∷ gap) ∷ endings)
      (marks.Ending numbers ∷ ((body ++ marks.Bar closes 0 double ∷ gap) ++ text)) closing

-- An ending has a number from 1 to 32: bit 0 is number 1. ABC 2.1 section 4.10; the bound is not in ABC 2.1.
abbrev pub HasNumber : ℕ → ℕ → Type 0
HasNumber numbers i = (0 < i) × (i ≤ 32) × ((numbers / 2 ^ (i - 1)) % 2 ≡ 1)

-- The marks of a strain ask for this number of passes: one, one more than the colons before a bar, or the number of an
-- ending. Not in ABC 2.1.
pub data AsksFor (text : List Mark) : ℕ → Type 0 where
  once : AsksFor text 1
  by_bar : (closes opens : ℕ) (double : Bool) → Contains text (marks.Bar closes opens double) → AsksFor text (1 + closes)
  by_ending : (numbers i : ℕ) → Contains text (marks.Ending numbers) → HasNumber numbers i → AsksFor text i

-- The number of passes of a strain: the greatest number that its marks ask for. Not in ABC 2.1.
abbrev pub IsPassCount : List Mark → ℕ → Type 0
IsPassCount text passes = AsksFor text passes × ((i : ℕ) → AsksFor text i → i ≤ passes)

-- The places of the played items of some marks, the first of which is at this place.
abbrev pub turns_from : ℕ → List Mark → List ℕ
turns_from at [] = []
turns_from at (marks.Play ∷ ms) = at ∷ turns_from (at + 1) ms
turns_from at (marks.Bar closes opens double ∷ ms) = turns_from (at + 1) ms
turns_from at (marks.Ending numbers ∷ ms) = turns_from (at + 1) ms

-- A pass plays the first ending with its number, if there is one. ABC 2.1 section 4.9.
pub data PlaysEnding (pass : ℕ) : List PlacedEnding → List ℕ → Type 0 where
  none : PlaysEnding pass [] []
  first : (ending : PlacedEnding) (endings : List PlacedEnding) → HasNumber ending.numbers pass
      → PlaysEnding pass (ending ∷ endings) (turns_from ending.from ending.run)
  later : (ending : PlacedEnding) (endings : List PlacedEnding) (play : List ℕ) → ¬ HasNumber ending.numbers pass
      → PlaysEnding pass endings play → PlaysEnding pass (ending ∷ endings) play

-- The first passes of a strain: each plays the common part, then an ending. ABC 2.1 section 4.9.
pub data PlaysPasses (common : List ℕ) (endings : List PlacedEnding) : ℕ → List ℕ → Type 0 where
  not_yet : PlaysPasses common endings 0 []
  once_more : (passes : ℕ) (before ending : List ℕ) → PlaysPasses common endings passes before
      → PlaysEnding (passes + 1) endings ending
      → PlaysPasses common endings (passes + 1) (before ++ (common ++ ending))

-- The play of a strain with these marks: its common part is at this place.
pub record IsStrainPlay (at : ℕ) (text common : List Mark) (endings : List PlacedEnding) (play : List ℕ) : Type 0 where
  pub passes : ℕ
  pub count : IsPassCount text passes
  pub played : PlaysPasses (turns_from at common) endings passes play

-- The play of marks from the beginning of a strain to the section's end. The bar before them has `before` colons after
-- it; the first of them is at place `at`. The next strain begins after a bar that ends the common part. It also begins
-- after a bar that ends an ending, if the bar has colons after it or no sign comes. Not in ABC 2.1.
pub data IsPlayFrom : ℕ → ℕ → List Mark → List ℕ → Type 0 where
  ends_in_common : (before at : ℕ) (common : List Mark) (play : List ℕ) → All (λ m. ¬ EndsCommon before m) common
      → IsStrainPlay at common common [] play
      → IsPlayFrom before at common play
  ends_in_ending : (before at : ℕ) (common text : List Mark) (endings : List PlacedEnding) (play : List ℕ)
      → All (λ m. ¬ EndsCommon before m) common → AreEndingsFrom (at + length common) endings text None
      → IsStrainPlay at (common ++ text) common endings play
      → IsPlayFrom before at (common ++ text) play
  after_common : (before at closes opens : ℕ) (double : Bool) (body rest : List Mark) (play others : List ℕ)
      → All (λ m. ¬ EndsCommon before m) body → IsCommonBar before (marks.Bar closes opens double)
      → IsStrainPlay at (body ++ marks.Bar closes opens double ∷ []) (body ++ marks.Bar closes opens double ∷ []) [] play
      → IsPlayFrom opens (at + length (body ++ marks.Bar closes opens double ∷ [])) rest others
      → IsPlayFrom before at (body ++ marks.Bar closes opens double ∷ rest) (play ++ others)
  after_endings : (before at closes opens : ℕ) (double : Bool) (common text rest : List Mark) (endings : List PlacedEnding)
      (play others : List ℕ)
      → All (λ m. ¬ EndsCommon before m) common → AreEndingsFrom (at + length common) endings text
      (Some (marks.Bar closes opens double))
      → (0 < opens) ⊎ (¬ SignComes rest)
      → IsStrainPlay at (common ++ text) common endings play
      → IsPlayFrom opens (at + length (common ++ text)) rest others
      → IsPlayFrom before at ((common ++ text) ++ rest) (play ++ others)

-- The play of a section: no bar comes before its first strain.
abbrev pub IsPlayOfSection : List Mark → List ℕ → Type 0
IsPlayOfSection ms play = IsPlayFrom 0 0 ms play

-- The play of each section follows the rules.
abbrev pub IsByTheRules : Type 0
IsByTheRules = (ms : List Mark) → IsPlayOfSection ms (play_of ms)

-- No other play of a section follows the rules.
abbrev pub HasNoOtherPlay : Type 0
HasNoOtherPlay = (ms : List Mark) (play : List ℕ) → IsPlayOfSection ms play → play ≡ play_of ms
