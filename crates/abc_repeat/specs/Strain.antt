-- Strains: repeat bars, double bars and endings divide the marks of a voice in a section. ABC 2.1 sections 4.8 and 4.9;
-- the places of their beginnings and ends are not in ABC 2.1.
use Rattle.std.specs.Prelude.{◌≡◌, ℕ, Bool, true, false, not, ◌&&◌, ◌||◌, if◌then◌else◌, List, [], ◌∷◌, ◌++◌, map, Option, Some}
use Rattle.std.specs.Prelude.{None}
use Rattle.std.specs.List.{AllPass}
use Rattle.abc_repeat.specs.declared.mark.Mark.{Mark}
use Rattle.abc_repeat.specs.declared.mark.Mark.TheVariants as marks
use Rattle.abc_repeat.specs.Mark.{is_play, is_ending, is_single, opens_next, closes_common, closes_ending}

-- An ending: its numbers, and the marks after its sign up to the next ending's sign or the strain's end.
pub record Ending : Type 0 where
  pub numbers : ℕ
  pub run : List Mark

-- A strain: the common part of all its passes, then its endings. A bar that ends one of them is its last mark.
pub record Strain : Type 0 where
  pub common : List Mark
  pub endings : List Ending

-- A strain without endings.
abbrev pub without_endings : List Mark → Strain
without_endings common = record { common = common; endings = [] }

-- The marks of endings, each with its sign.
abbrev pub endings_text : List Ending → List Mark
endings_text [] = []
endings_text (ending ∷ endings) = marks.Ending ending.numbers ∷ (ending.run ++ endings_text endings)

-- The marks of a strain.
abbrev pub text_of : Strain → List Mark
text_of strain = strain.common ++ endings_text strain.endings

-- A mark that may be in a common part before its end. Not in ABC 2.1.
abbrev pub in_common : Bool → Mark → Bool
in_common opened m = not (is_ending m) && not (closes_common opened m)

-- A mark that may be in an ending before its end. Not in ABC 2.1.
abbrev pub in_ending : Mark → Bool
in_ending m = is_play m || is_single m

-- The next ending's sign comes after nothing but single bars.
abbrev pub leads_to_ending : List Mark → Bool
leads_to_ending [] = false
leads_to_ending (m ∷ rest) = is_ending m || (is_single m && leads_to_ending rest)

-- After a bar that ends an ending, another ending of the same strain comes. Not in ABC 2.1.
abbrev pub goes_on : Mark → List Mark → Bool
goes_on bar rest = not (opens_next bar) && leads_to_ending rest

-- The run of an ending before another one: up to the sign of that one, or up to a bar that opens nothing and single
-- bars after it. Not in ABC 2.1.
pub data IsInnerRun : List Mark → Type 0 where
  without_bar : (body : List Mark) → AllPass in_ending body → IsInnerRun body
  with_bar : (body gap : List Mark) (bar : Mark) → AllPass in_ending body → closes_ending bar ≡ true → opens_next bar ≡ false
      → AllPass is_single gap
      → IsInnerRun (body ++ bar ∷ gap)

-- The endings of a strain, and the bar that ends the last one, if the section does not. Not in ABC 2.1.
pub data AreEndings : List Ending → Option Mark → Type 0 where
  to_the_end : (numbers : ℕ) (body : List Mark) → AllPass in_ending body
      → AreEndings (record { numbers = numbers; run = body } ∷ []) None
  to_a_bar : (numbers : ℕ) (body : List Mark) (bar : Mark) → AllPass in_ending body → closes_ending bar ≡ true
      → AreEndings (record { numbers = numbers; run = body ++ bar ∷ [] } ∷ []) (Some bar)
  another : (numbers : ℕ) (run : List Mark) (endings : List Ending) (closing : Option Mark) → IsInnerRun run
      → AreEndings endings closing
      → AreEndings (record { numbers = numbers; run = run } ∷ endings) closing

-- The marks are these strains, one after another; the first is opened or not. The last one runs to the section's end.
-- Each other one ends with a bar, whose colons open the next strain or not.
pub data IsStrains : Bool → List Mark → List Strain → Type 0 where
  last_common : (opened : Bool) (common : List Mark) → AllPass (in_common opened) common
      → IsStrains opened common (without_endings common ∷ [])
  last_endings : (opened : Bool) (common : List Mark) (endings : List Ending) → AllPass (in_common opened) common
      → AreEndings endings None
      → IsStrains opened (common ++ endings_text endings) (record { common = common; endings = endings } ∷ [])
  common_part : (opened : Bool) (body rest : List Mark) (bar : Mark) (strains : List Strain) → AllPass (in_common opened) body
      → closes_common opened bar ≡ true → IsStrains (opens_next bar) rest strains
      → IsStrains opened (body ++ bar ∷ rest) (without_endings (body ++ bar ∷ []) ∷ strains)
  with_endings : (opened : Bool) (common rest : List Mark) (endings : List Ending) (bar : Mark) (strains : List Strain)
      → AllPass (in_common opened) common → AreEndings endings (Some bar) → goes_on bar rest ≡ false
      → IsStrains (opens_next bar) rest strains
      → IsStrains opened ((common ++ endings_text endings) ++ rest) (record { common = common; endings = endings } ∷ strains)

-- Whether a mark ends its strain, in its common part or inside an ending, with the rest after it.
abbrev pub ends_strain : Bool → Bool → Mark → List Mark → Bool
ends_strain opened inside m rest = if inside then closes_ending m && not (goes_on m rest) else closes_common opened m

-- A mark before the first of some texts.
abbrev pub put_first : Mark → List (List Mark) → List (List Mark)
put_first m [] = (m ∷ []) ∷ []
put_first m (text ∷ texts) = (m ∷ text) ∷ texts

-- The texts of the strains: cut after each mark that ends one.
abbrev pub texts_of : Bool → Bool → List Mark → List (List Mark)
texts_of opened inside [] = [] ∷ []
texts_of opened inside (m ∷ rest) =
    if ends_strain opened inside m rest then (m ∷ []) ∷ texts_of (opens_next m) false rest
    else put_first m (texts_of opened (inside || is_ending m) rest)

-- The first of some texts.
abbrev pub front_of : List (List Mark) → List Mark
front_of [] = []
front_of (text ∷ texts) = text

-- The marks of the first strain.
unfoldable pub first_text : Bool → List Mark → List Mark
first_text opened ms = front_of (texts_of opened false ms)

-- Whether the last of some marks opens the strain after them.
abbrev pub opens_after : Bool → List Mark → Bool
opens_after opened [] = opened
opens_after opened (m ∷ ms) = opens_after (opens_next m) ms

-- A mark before a strain: the common part after an ending's sign becomes the run of the ending.
abbrev pub with_mark : Mark → Strain → Strain
with_mark marks.Play strain = record strain { common = marks.Play ∷ strain.common }
with_mark (marks.Bar closes opens double) strain = record strain { common = marks.Bar closes opens double ∷ strain.common }
with_mark (marks.Ending numbers) strain =
    record { common = []; endings = record { numbers = numbers; run = strain.common } ∷ strain.endings }

-- The strain that a text is: cut before each ending's sign.
abbrev pub strain_of : List Mark → Strain
strain_of [] = without_endings []
strain_of (m ∷ text) = with_mark m (strain_of text)

-- The strains of the marks after a strain's end, or of a section's from its beginning.
abbrev pub strains_from : Bool → List Mark → List Strain
strains_from opened ms = map strain_of (texts_of opened false ms)

-- The strains of a section's marks. Its first strain is not opened.
abbrev pub strains_of : List Mark → List Strain
strains_of ms = strains_from false ms

-- Marks are strains in one way at least.
abbrev pub HasStrains : Type 0
HasStrains = (ms : List Mark) → IsStrains false ms (strains_of ms)

-- Marks are strains in one way at most.
abbrev pub HasOneReading : Type 0
HasOneReading = (ms : List Mark) (a b : List Strain) → IsStrains false ms a → IsStrains false ms b → a ≡ b
