-- A text is read as a decoration exactly if it spells it.
use Rattle.std.proofs.Common.{◌≡◌, ℕ, List, [], ◌∷◌, Some, codes, refl, ⊎_elim, arith}
use Rattle.std.specs.List.{Contains}
use Rattle.std.specs.Prelude.{All}
use Rattle.std.proofs.lemmas.Bool.{or_cases}
use Rattle.std.proofs.lemmas.List.Elements.{All-nil, All-cons, All-contains}
use Rattle.abc_marks.specs.declared.decoration.Accent.TheVariants as accents
use Rattle.abc_marks.specs.declared.decoration.Ornament.TheVariants.{Trill, LowerMordent, UpperMordent, Turn, InvertedTurn, Roll, Slide}
use Rattle.abc_marks.specs.declared.decoration.Shortening.TheVariants.{Staccato, Wedge}
use Rattle.abc_marks_readers.specs.declared.decoration.Decoration.{Decoration}
use Rattle.abc_marks_readers.specs.declared.decoration.Decoration.TheVariants as decorations
use Rattle.abc_marks_readers.proofs.Names.{chosen, either, same}
use Rattle.abc_marks_readers.specs.Decoration.{spellings, decoration_of, ReadsDecorations, letter_of, ornament_of, stress_of, hold_of}

letter_of-from : (text : List ℕ) (value : Decoration) → letter_of text ≡ Some value → Contains (spellings value) text
unfolding letter_of
letter_of-from text value e =
    chosen spellings _ decorations.Fermata _ value text e (λ t. (0, omega arith, same text _ t)) (λ e.
    chosen spellings _ (decorations.Ornament Trill) _ value text e (λ t. (0, omega arith, same text _ t)) (λ e.
    chosen spellings _ (decorations.Ornament LowerMordent) _ value text e (λ t. (0, omega arith, same text _ t)) (λ e.
    chosen spellings _ (decorations.Ornament UpperMordent) _ value text e (λ t. (0, omega arith, same text _ t)) (λ e.
    chosen spellings _ (decorations.Ornament Roll) _ value text e (λ t. (0, omega arith, same text _ t)) (λ e.
    chosen spellings _ (decorations.Accent accents.Accent) _ value text e (λ t. (0, omega arith, same text _ t)) (λ e.
    chosen spellings _ (decorations.Shortening Staccato) _ value text e (λ t. (0, omega arith, same text _ t)) (λ e. cc)))))))

ornament_of-from : (text : List ℕ) (value : Decoration) → ornament_of text ≡ Some value → Contains (spellings value) text
unfolding ornament_of
ornament_of-from text value e =
    chosen spellings _ (decorations.Ornament Trill) _ value text e (λ t. (1, omega arith, same text _ t)) (λ e.
    chosen spellings _ (decorations.Ornament LowerMordent) _ value text e (λ t. ⊎_elim (λ t. (1, omega arith, same text _ t)) (λ t. (2, omega arith, same text _ t)) (or_cases _ _ t)) (λ e.
    chosen spellings _ (decorations.Ornament UpperMordent) _ value text e (λ t. ⊎_elim (λ t. (1, omega arith, same text _ t)) (λ t. (2, omega arith, same text _ t)) (or_cases _ _ t)) (λ e.
    chosen spellings _ (decorations.Ornament Turn) _ value text e (λ t. (0, omega arith, same text _ t)) (λ e.
    chosen spellings _ (decorations.Ornament InvertedTurn) _ value text e (λ t. (0, omega arith, same text _ t)) (λ e.
    chosen spellings _ (decorations.Ornament Roll) _ value text e (λ t. (1, omega arith, same text _ t)) (λ e.
    chosen spellings _ (decorations.Ornament Slide) _ value text e (λ t. (0, omega arith, same text _ t)) (λ e. cc)))))))

stress_of-from : (text : List ℕ) (value : Decoration) → stress_of text ≡ Some value → Contains (spellings value) text
unfolding stress_of
stress_of-from text value e =
    chosen spellings _ (decorations.Accent accents.Accent) _ value text e (λ t. ⊎_elim (λ t. ⊎_elim (λ t. (1, omega arith, same text _ t)) (λ t. (2, omega arith, same text _ t)) (or_cases _ _ t)) (λ t. (3, omega arith, same text _ t)) (or_cases _ _ t)) (λ e.
    chosen spellings _ (decorations.Accent accents.Marcato) _ value text e (λ t. ⊎_elim (λ t. ⊎_elim (λ t. (0, omega arith, same text _ t)) (λ t. (1, omega arith, same text _ t)) (or_cases _ _ t)) (λ t. (2, omega arith, same text _ t)) (or_cases _ _ t)) (λ e.
    chosen spellings _ (decorations.Shortening Staccato) _ value text e (λ t. (1, omega arith, same text _ t)) (λ e.
    chosen spellings _ (decorations.Shortening Wedge) _ value text e (λ t. (0, omega arith, same text _ t)) (λ e. cc))))

hold_of-from : (text : List ℕ) (value : Decoration) → hold_of text ≡ Some value → Contains (spellings value) text
unfolding hold_of
hold_of-from text value e =
    chosen spellings _ decorations.Fermata _ value text e (λ t. ⊎_elim (λ t. (1, omega arith, same text _ t)) (λ t. (2, omega arith, same text _ t)) (or_cases _ _ t)) (λ e.
    chosen spellings _ decorations.Arpeggio _ value text e (λ t. (0, omega arith, same text _ t)) (λ e. cc))

from_names : (text : List ℕ) (value : Decoration) → decoration_of text ≡ Some value → Contains (spellings value) text
from_names text value e =
    either spellings _ _ value text e (letter_of-from text value) (λ e.
    either spellings _ _ value text e (ornament_of-from text value) (λ e.
    either spellings _ _ value text e (stress_of-from text value) (λ e. hold_of-from text value e)))

abbrev Names : Decoration → List ℕ → Type 0
Names value text = decoration_of text ≡ Some value

to_names : (value : Decoration) → All (Names value) (spellings value)
unfolding letter_of ornament_of stress_of hold_of
to_names decorations.Fermata = All-cons (Names decorations.Fermata) (codes "H") (codes "!fermata!" ∷ codes "!invertedfermata!" ∷ []) refl (All-cons (Names decorations.Fermata) (codes "!fermata!") (codes "!invertedfermata!" ∷ []) refl (All-cons (Names decorations.Fermata) (codes "!invertedfermata!") ([]) refl (All-nil _)))
to_names (decorations.Ornament Trill) = All-cons (Names (decorations.Ornament Trill)) (codes "T") (codes "!trill!" ∷ []) refl (All-cons (Names (decorations.Ornament Trill)) (codes "!trill!") ([]) refl (All-nil _))
to_names (decorations.Ornament LowerMordent) = All-cons (Names (decorations.Ornament LowerMordent)) (codes "M") (codes "!mordent!" ∷ codes "!lowermordent!" ∷ []) refl (All-cons (Names (decorations.Ornament LowerMordent)) (codes "!mordent!") (codes "!lowermordent!" ∷ []) refl (All-cons (Names (decorations.Ornament LowerMordent)) (codes "!lowermordent!") ([]) refl (All-nil _)))
to_names (decorations.Ornament UpperMordent) = All-cons (Names (decorations.Ornament UpperMordent)) (codes "P") (codes "!uppermordent!" ∷ codes "!pralltriller!" ∷ []) refl (All-cons (Names (decorations.Ornament UpperMordent)) (codes "!uppermordent!") (codes "!pralltriller!" ∷ []) refl (All-cons (Names (decorations.Ornament UpperMordent)) (codes "!pralltriller!") ([]) refl (All-nil _)))
to_names (decorations.Ornament Roll) = All-cons (Names (decorations.Ornament Roll)) (codes "~") (codes "!roll!" ∷ []) refl (All-cons (Names (decorations.Ornament Roll)) (codes "!roll!") ([]) refl (All-nil _))
to_names (decorations.Accent accents.Accent) = All-cons (Names (decorations.Accent accents.Accent)) (codes "L") (codes "!accent!" ∷ codes "!>!" ∷ codes "!emphasis!" ∷ []) refl (All-cons (Names (decorations.Accent accents.Accent)) (codes "!accent!") (codes "!>!" ∷ codes "!emphasis!" ∷ []) refl (All-cons (Names (decorations.Accent accents.Accent)) (codes "!>!") (codes "!emphasis!" ∷ []) refl (All-cons (Names (decorations.Accent accents.Accent)) (codes "!emphasis!") ([]) refl (All-nil _))))
to_names (decorations.Shortening Staccato) = All-cons (Names (decorations.Shortening Staccato)) (codes ".") (codes "!staccato!" ∷ []) refl (All-cons (Names (decorations.Shortening Staccato)) (codes "!staccato!") ([]) refl (All-nil _))
to_names (decorations.Ornament Turn) = All-cons (Names (decorations.Ornament Turn)) (codes "!turn!") ([]) refl (All-nil _)
to_names (decorations.Ornament InvertedTurn) = All-cons (Names (decorations.Ornament InvertedTurn)) (codes "!invertedturn!") ([]) refl (All-nil _)
to_names (decorations.Ornament Slide) = All-cons (Names (decorations.Ornament Slide)) (codes "!slide!") ([]) refl (All-nil _)
to_names (decorations.Accent accents.Marcato) = All-cons (Names (decorations.Accent accents.Marcato)) (codes "!marcato!") (codes "!^!" ∷ codes "!sfz!" ∷ []) refl (All-cons (Names (decorations.Accent accents.Marcato)) (codes "!^!") (codes "!sfz!" ∷ []) refl (All-cons (Names (decorations.Accent accents.Marcato)) (codes "!sfz!") ([]) refl (All-nil _)))
to_names (decorations.Shortening Wedge) = All-cons (Names (decorations.Shortening Wedge)) (codes "!wedge!") ([]) refl (All-nil _)
to_names decorations.Arpeggio = All-cons (Names decorations.Arpeggio) (codes "!arpeggio!") ([]) refl (All-nil _)

pub reads : ReadsDecorations
reads text value = (
  from_names text value,
  λ contained. All-contains (Names value) (spellings value) text (to_names value) contained,
)
