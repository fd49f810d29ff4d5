-- Laws of letters and accidentals.
use Rattle.std.proofs.Common.{◌≡◌, ℕ, cond, List, Option, Some, None, refl, sym, ap, ◌∙◌, ⊎_elim}
use Rattle.std.specs.Prelude.{◌↔◌}
use Rattle.std.specs.Str.{bytes_eq}
use Rattle.std.proofs.lemmas.Bool.{cond-true, cond-false, cases_Bool}
use Rattle.std.proofs.lemmas.Slice.Eq.{bytes_eq-Decides}
use Rattle.std.proofs.lemmas.Grind.{common_steps}
use Rattle.std.proofs.Common.{arith}
use Rattle.abc_text.specs.declared.letter.Letter.{Letter}
use Rattle.abc_text.specs.declared.letter.Letter.TheVariants.{C, D, E, F, G, A, B}
use Rattle.abc_text.specs.declared.accidental.Accidental.{Accidental}
use Rattle.abc_text.specs.declared.accidental.Accidental.TheVariants.{DoubleFlat, Flat, Natural, Sharp, DoubleSharp}
use Rattle.abc_text.specs.Letter.{IsLetter, letter_of, capital, small}
use Rattle.abc_text.specs.Accidental.{spelling, accidental_of}

-- a letter is read from its capital and its small form
letter_of-forms : (letter : Letter) → (letter_of (capital letter) ≡ Some letter) × (letter_of (small letter) ≡ Some letter)
unfolding letter_of
letter_of-forms C = (refl, refl)
letter_of-forms D = (refl, refl)
letter_of-forms E = (refl, refl)
letter_of-forms F = (refl, refl)
letter_of-forms G = (refl, refl)
letter_of-forms A = (refl, refl)
letter_of-forms B = (refl, refl)

pub letter_of-capital : (letter : Letter) → letter_of (capital letter) ≡ Some letter
letter_of-capital letter = (letter_of-forms letter).0

-- and no letter is read from another byte
pub letter_of-is : (byte : ℕ) (letter : Letter) → letter_of byte ≡ Some letter → IsLetter byte letter
unfolding letter_of
letter_of-is byte letter e = grind (arith, common_steps)

pub letter_exact : (byte : ℕ) (letter : Letter) → (letter_of byte ≡ Some letter) ↔ IsLetter byte letter
letter_exact byte letter = (
  letter_of-is byte letter,
  λ is. ⊎_elim (λ e. ap letter_of e ∙ letter_of-capital letter) (λ e. ap letter_of e ∙ (letter_of-forms letter).1) is,
)

-- an accidental is read from its spelling, and from no other text
tried : (text : List ℕ) (known : Accidental) (others : Option Accidental) (accidental : Accidental) → cond (bytes_eq text (spelling known)) (Some known) others ≡ Some accidental
    → (others ≡ Some accidental → text ≡ spelling accidental) → text ≡ spelling accidental
tried text known others accidental e later = ⊎_elim
    (λ is.
    let found : Some known ≡ Some accidental = sym (cond-true (bytes_eq text (spelling known)) (Some known) others is) ∙ e in
    let same : known ≡ accidental = cc in
    (bytes_eq-Decides text (spelling known)).0 is ∙ ap spelling same)
    (λ other. later (sym (cond-false (bytes_eq text (spelling known)) (Some known) others other) ∙ e))
    (cases_Bool (bytes_eq text (spelling known)))

pub accidental_of-is : (text : List ℕ) (accidental : Accidental) → accidental_of text ≡ Some accidental → text ≡ spelling accidental
unfolding accidental_of
accidental_of-is text accidental e =
    tried text DoubleFlat _ accidental e (λ e.
    tried text Flat _ accidental e (λ e.
    tried text Natural _ accidental e (λ e.
    tried text Sharp _ accidental e (λ e.
    tried text DoubleSharp None accidental e (λ e. cc)))))
