-- The spellings of decorations. ABC 2.1 section 4.14.
use Rattle.std.specs.Prelude.{◌≡◌, ◌↔◌, ℕ, ◌||◌, if◌then◌else◌, List, [], ◌∷◌, codes, Option, Some, None}
use Rattle.std.specs.List.{Contains}
use Rattle.std.specs.Option.{option_or}
use Rattle.std.specs.Str.{bytes_eq}
use Rattle.abc_marks.specs.declared.decoration.Accent.TheVariants as accents
use Rattle.abc_marks.specs.declared.decoration.Ornament.TheVariants.{Trill, LowerMordent, UpperMordent, Turn, InvertedTurn, Roll, Slide}
use Rattle.abc_marks.specs.declared.decoration.Shortening.TheVariants.{Staccato, Wedge}
use Rattle.abc_marks_readers.specs.declared.decoration.Decoration.{Decoration}
use Rattle.abc_marks_readers.specs.declared.decoration.Decoration.TheVariants as decorations

-- How a decoration is spelled.
abbrev pub spellings : Decoration → List (List ℕ)
spellings decorations.Fermata = codes "H" ∷ codes "!fermata!" ∷ codes "!invertedfermata!" ∷ []
spellings (decorations.Ornament Trill) = codes "T" ∷ codes "!trill!" ∷ []
spellings (decorations.Ornament LowerMordent) = codes "M" ∷ codes "!mordent!" ∷ codes "!lowermordent!" ∷ []
spellings (decorations.Ornament UpperMordent) = codes "P" ∷ codes "!uppermordent!" ∷ codes "!pralltriller!" ∷ []
spellings (decorations.Ornament Roll) = codes "~" ∷ codes "!roll!" ∷ []
spellings (decorations.Accent accents.Accent) = codes "L" ∷ codes "!accent!" ∷ codes "!>!" ∷ codes "!emphasis!" ∷ []
spellings (decorations.Shortening Staccato) = codes "." ∷ codes "!staccato!" ∷ []
spellings (decorations.Ornament Turn) = codes "!turn!" ∷ []
spellings (decorations.Ornament InvertedTurn) = codes "!invertedturn!" ∷ []
spellings (decorations.Ornament Slide) = codes "!slide!" ∷ []
spellings (decorations.Accent accents.Marcato) = codes "!marcato!" ∷ codes "!^!" ∷ codes "!sfz!" ∷ []
spellings (decorations.Shortening Wedge) = codes "!wedge!" ∷ []
spellings decorations.Arpeggio = codes "!arpeggio!" ∷ []

-- The decorations of one letter.
unfoldable pub letter_of : List ℕ → Option Decoration
letter_of text =
    if bytes_eq text (codes "H") then Some decorations.Fermata
    else (if bytes_eq text (codes "T") then Some (decorations.Ornament Trill)
    else (if bytes_eq text (codes "M") then Some (decorations.Ornament LowerMordent)
    else (if bytes_eq text (codes "P") then Some (decorations.Ornament UpperMordent)
    else (if bytes_eq text (codes "~") then Some (decorations.Ornament Roll)
    else (if bytes_eq text (codes "L") then Some (decorations.Accent accents.Accent)
    else (if bytes_eq text (codes ".") then Some (decorations.Shortening Staccato)
    else None))))))

-- The ornaments between exclamation marks.
unfoldable pub ornament_of : List ℕ → Option Decoration
ornament_of text =
    if bytes_eq text (codes "!trill!") then Some (decorations.Ornament Trill)
    else (if bytes_eq text (codes "!mordent!") || bytes_eq text (codes "!lowermordent!") then Some (decorations.Ornament LowerMordent)
    else (if bytes_eq text (codes "!uppermordent!") || bytes_eq text (codes "!pralltriller!") then Some (decorations.Ornament UpperMordent)
    else (if bytes_eq text (codes "!turn!") then Some (decorations.Ornament Turn)
    else (if bytes_eq text (codes "!invertedturn!") then Some (decorations.Ornament InvertedTurn)
    else (if bytes_eq text (codes "!roll!") then Some (decorations.Ornament Roll)
    else (if bytes_eq text (codes "!slide!") then Some (decorations.Ornament Slide)
    else None))))))

-- The accents and shortenings between exclamation marks.
unfoldable pub stress_of : List ℕ → Option Decoration
stress_of text =
    if (bytes_eq text (codes "!accent!") || bytes_eq text (codes "!>!")) || bytes_eq text (codes "!emphasis!") then Some (decorations.Accent accents.Accent)
    else (if (bytes_eq text (codes "!marcato!") || bytes_eq text (codes "!^!")) || bytes_eq text (codes "!sfz!") then Some (decorations.Accent accents.Marcato)
    else (if bytes_eq text (codes "!staccato!") then Some (decorations.Shortening Staccato)
    else (if bytes_eq text (codes "!wedge!") then Some (decorations.Shortening Wedge)
    else None)))

-- The other decorations between exclamation marks.
unfoldable pub hold_of : List ℕ → Option Decoration
hold_of text =
    if bytes_eq text (codes "!fermata!") || bytes_eq text (codes "!invertedfermata!") then Some decorations.Fermata
    else (if bytes_eq text (codes "!arpeggio!") then Some decorations.Arpeggio
    else None)

-- The decoration that a text spells.
abbrev pub decoration_of : List ℕ → Option Decoration
decoration_of text = option_or (letter_of text) (option_or (ornament_of text) (option_or (stress_of text) (hold_of text)))

-- A text is read as a decoration exactly if it spells it: so no text spells two.
abbrev pub ReadsDecorations : Type 0
ReadsDecorations = (text : List ℕ) (decoration : Decoration) → (decoration_of text ≡ Some decoration) ↔ Contains (spellings decoration) text
