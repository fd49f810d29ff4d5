-- Values that have the same parts.
use Rattle.std.proofs.Common.{◌≡◌, ℕ, suc, ◌<◌, List, [], ◌∷◌, Some, length, slice_get, refl, arith}
use Rattle.std.proofs.lemmas.Option.{same_Some}
use denote.Enum.Bare.{sameb, same_true, true_same}
use Rattle.abc_fields.specs.declared.shift.Shift.{Shift}
use Rattle.abc_fields.specs.declared.signature.Signature.{Signature}
use Rattle.abc_text.specs.contracts.letter.Letter.{the_type}
use Rattle.abc_text.specs.declared.letter.Letter.{Letter}
use Rattle.abc_bars_voice.specs.declared.accidentals.LetterAccidentals.{LetterAccidentals}
use Rattle.abc_bars_voice.specs.declared.tied_note.TiedNote.{TiedNote}
use Rattle.abc_bars_voice.specs.Equality.{Equality, by_parts, options, pairs, sevens, threes, integers}

-- What `==` compares of a signature, of a shift and of a tied note.
abbrev pub signatures : Equality Signature
signatures = by_parts (sevens integers) (λ s. (s.a, (s.b, (s.c, (s.d, (s.e, (s.f, s.g)))))))
    (λ p. record { a = p.0; b = p.1.0; c = p.1.1.0; d = p.1.1.1.0; e = p.1.1.1.1.0; f = p.1.1.1.1.1.0; g = p.1.1.1.1.1.1 }) (λ _. refl)

abbrev pub shifts : Equality Shift
shifts =
    by_parts (threes (options integers)) (λ s. (s.clef, (s.octave, s.transpose))) (λ p. record { clef = p.0; octave = p.1.0; transpose = p.1.1 }) (λ _. refl)

abbrev letters : Equality Letter
letters = record { same = sameb the_type; exact = λ a b. (same_true the_type tt a b, true_same the_type a b) }

abbrev pub tied_notes : Equality TiedNote
tied_notes = by_parts (pairs integers (pairs letters integers)) (λ t. (t.octave, (t.letter, t.alteration)))
    (λ p. record { octave = p.0; letter = p.1.0; alteration = p.1.1 }) (λ _. refl)

-- Accidentals that alter each letter in the same way are equal.
pub accidentals_of_parts : (x y : LetterAccidentals) → x.a ≡ y.a → x.b ≡ y.b → x.c ≡ y.c → x.d ≡ y.d → x.e ≡ y.e → x.f ≡ y.f → x.g ≡ y.g → x ≡ y
accidentals_of_parts x y a b c d e f g = λ i. record { a = a i; b = b i; c = c i; d = d i; e = e i; f = f i; g = g i }

-- Lists of the same length with the same element at each place are the same.
pub same_by_places : {X : Type 0} (xs ys : List X) → length xs ≡ length ys → ((k : ℕ) → k < length xs → slice_get xs k ≡ slice_get ys k) → xs ≡ ys
same_by_places [] [] long same = refl
same_by_places [] (y ∷ ys) long same = absurd (omega (arith, long))
same_by_places (x ∷ xs) [] long same = absurd (omega (arith, long))
same_by_places (x ∷ xs) (y ∷ ys) long same =
    let first : Some x ≡ Some y = same 0 (omega arith) in
    let rest : xs ≡ ys = same_by_places xs ys (omega (arith, long)) (λ k below. same (suc k) (omega (arith, below))) in
    λ i. same_Some x y first i ∷ rest i
