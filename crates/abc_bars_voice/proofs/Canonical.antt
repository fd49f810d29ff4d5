-- Accidentals are equal if they alter all notes in the same way.
use Rattle.std.proofs.Common.{Ordering, ◌≡◌, ◌∙◌, ℤ, int_eq, int_cmp, Bool, true, false, List, [], ◌∷◌, Option, Some, None, unwrap_or, refl, sym, ap, subst}
use Rattle.std.specs.Prelude.{option_map, pos}
use Rattle.std.specs.Ordering.{match_ordering}
use Rattle.std.specs.declared.cmp.Ordering.TheVariants.{Less, Equal, Greater}
use Rattle.std.specs.BTreeMap.{insert_entry}
use Rattle.std.proofs.lemmas.Bool.Decides.{Decides-int_eq}
use Rattle.std.proofs.lemmas.Cmp.{int_ranked}
use Rattle.std.specs.Int.Signed.{◌<ℤ◌}
use Rattle.abc_scan.specs.declared.length.WrittenLength.TheVariants.{Refused}
use Rattle.abc_scan.specs.declared.note.Note.{Note}
use Rattle.abc_text.specs.Accidental.{alteration as accidental_alteration}
use Rattle.abc_text.specs.declared.letter.Letter.{Letter}
use Rattle.abc_text.specs.declared.letter.Letter.TheVariants.{C, D, E, F, G, A, B}
use Rattle.abc_scan.specs.declared.directive.Reach.{Reach}
use Rattle.abc_scan.specs.declared.directive.Reach.TheVariants.{Not, Octave, Pitch}
use Rattle.abc_bars_voice.specs.declared.accidentals.Accidentals.{Accidentals}
use Rattle.abc_bars_voice.specs.declared.accidentals.Accidentals.TheVariants.{Own, InOctaves, OnLetters}
use Rattle.abc_bars_voice.specs.declared.accidentals.LetterAccidentals.{LetterAccidentals}
use Rattle.abc_bars_voice.specs.Accidentals.{letters_in, no_accidentals, no_letters, on_letter, reach_of, with_accidental, with_letter, with_octave, written_on}
use Rattle.abc_bars_voice.specs.Alteration.{with_own, with_written}
use Rattle.abc_bars_voice.specs.Reaching.{SameWhereHeardAlike, after_notes}
use Rattle.abc_bars_voice.specs.OctaveGroups.{AllAbove}
use Rattle.abc_bars_voice.proofs.Alike.{accidentals_of_parts}
use Rattle.abc_bars_voice.proofs.Groups.{above_more, above_put, none_below}
use Rattle.abc_bars_voice.proofs.Reaching.{none_in, on_its_letter, reach_stays}

abbrev Octaves : Type 0
Octaves = List (ℤ × LetterAccidentals)

-- the octaves rise, and each has an accidental
abbrev AreKept : Octaves → Type 0
AreKept [] = Unit {0}
AreKept (first ∷ octaves) = AllAbove first.0 octaves × (¬ (first.1 ≡ no_letters)) × AreKept octaves

kept_put_by : (octave : ℤ) (letters : LetterAccidentals) (first : ℤ × LetterAccidentals) (octaves : Octaves) (r : Ordering) → r ≡ int_cmp octave first.0
    → ¬ (letters ≡ no_letters) → AreKept (first ∷ octaves) → AreKept (insert_entry int_cmp octaves octave letters)
    → AreKept (match_ordering r ((octave, letters) ∷ first ∷ octaves) ((first.0, letters) ∷ octaves) (first ∷ insert_entry int_cmp octaves octave letters))
kept_put_by octave letters first octaves Less e some h rest =
    let below : octave <ℤ first.0 = int_ranked octave first.0 Less e in
    ((below, above_more octave first.0 octaves below h.0), some, h)
kept_put_by octave letters first octaves Equal e some h rest = (h.0, some, h.2)
kept_put_by octave letters first octaves Greater e some h rest =
    let above : first.0 <ℤ octave = int_ranked octave first.0 Greater e in
    (above_put first.0 octave letters octaves above h.0, h.1, rest)

kept_put : (octave : ℤ) (letters : LetterAccidentals) (octaves : Octaves) → ¬ (letters ≡ no_letters) → AreKept octaves → AreKept (insert_entry int_cmp octaves octave letters)
kept_put octave letters [] some h = (tt, some, tt)
kept_put octave letters (first ∷ octaves) some h =
    kept_put_by octave letters first octaves (int_cmp octave first.0) refl some h (kept_put octave letters octaves some h.2)

some_letter : (letters : LetterAccidentals) (letter : Letter) (by : ℤ) → ¬ (with_letter letters letter by ≡ no_letters)
some_letter letters letter by e =
    let heard : Some by ≡ None = sym (on_its_letter letters letter by letter refl) ∙ ap (λ l. on_letter l letter) e ∙ none_in letter in
    cc

-- the accidentals
abbrev IsKept : Accidentals → Type 0
IsKept Own = Unit {0}
IsKept (InOctaves octaves) = AreKept octaves
IsKept (OnLetters letters) = Unit {0}

kept_on : (accidentals : Accidentals) (note : Note) (by : ℤ) → IsKept accidentals → IsKept (with_accidental accidentals note by)
unfolding with_octave
kept_on Own note by h = tt
kept_on (InOctaves octaves) note by h = kept_put note.octave _ octaves (some_letter (letters_in octaves note.octave) note.letter by) h
kept_on (OnLetters letters) note by h = tt

kept_by : (accidentals : Accidentals) (note : Note) (by : Option ℤ) → IsKept accidentals → IsKept (with_written accidentals note by)
kept_by accidentals note None h = h
kept_by accidentals note (Some by) h = kept_on accidentals note by h

kept_after : (accidentals : Accidentals) (notes : List Note) → IsKept accidentals → IsKept (after_notes accidentals notes)
kept_after accidentals [] h = h
kept_after accidentals (note ∷ notes) h = kept_after (with_own accidentals note) notes (kept_by accidentals note (option_map accidental_alteration note.accidental) h)

none_kept : (reach : Reach) → IsKept (no_accidentals reach)
none_kept Not = tt
none_kept Octave = tt
none_kept Pitch = tt

-- Letters with the same alterations are equal.
same_letters : (letters others : LetterAccidentals) → ((letter : Letter) → on_letter letters letter ≡ on_letter others letter) → letters ≡ others
same_letters letters others h = accidentals_of_parts letters others (h A) (h B) (h C) (h D) (h E) (h F) (h G)

-- nothing is found below
none_heard_below : (octave : ℤ) (octaves : Octaves) → AllAbove octave octaves → letters_in octaves octave ≡ no_letters
unfolding letters_in
none_heard_below octave octaves h = ap (λ (o : Option LetterAccidentals). unwrap_or o no_letters) (none_below octave octaves h)

first_found : (first : ℤ × LetterAccidentals) (octaves : Octaves) → letters_in (first ∷ octaves) first.0 ≡ first.1
unfolding letters_in
first_found first octaves = rw ((Decides-int_eq first.0 first.0).1 refl) refl

rest_found : (octave : ℤ) (first : ℤ × LetterAccidentals) (octaves : Octaves) → int_eq octave first.0 ≡ false → letters_in (first ∷ octaves) octave ≡ letters_in octaves octave
unfolding letters_in
rest_found octave first octaves apart = rw apart refl

abbrev FoundAlike : Octaves → Octaves → Type 0
FoundAlike octaves others = (octave : ℤ) → letters_in octaves octave ≡ letters_in others octave

rest_by : (first : ℤ × LetterAccidentals) (octaves others : Octaves) (letters : LetterAccidentals) (octave : ℤ) (same : Bool) → int_eq octave first.0 ≡ same
    → AllAbove first.0 octaves → AllAbove first.0 others → FoundAlike (first ∷ octaves) ((first.0, letters) ∷ others) → letters_in octaves octave ≡ letters_in others octave
rest_by first octaves others letters octave true e above also alike =
    let is : octave ≡ first.0 = (Decides-int_eq octave first.0).0 e in
    ap (letters_in octaves) is ∙ none_heard_below first.0 octaves above ∙ sym (none_heard_below first.0 others also) ∙ ap (letters_in others) (sym is)
rest_by first octaves others letters octave false e above also alike =
    sym (rest_found octave first octaves e) ∙ alike octave ∙ rest_found octave (first.0, letters) others e

abbrev AreSame : Octaves → Octaves → Type 0
AreSame octaves others = AreKept octaves → AreKept others → FoundAlike octaves others → octaves ≡ others

same_first : (first other : ℤ × LetterAccidentals) (octaves others : Octaves) (r : Ordering) → r ≡ int_cmp first.0 other.0
    → AreSame octaves others → AreSame (first ∷ octaves) (other ∷ others)
same_first first other octaves others Less e later h k alike =
    let below : first.0 <ℤ other.0 = int_ranked first.0 other.0 Less e in
    absurd (h.1 (sym (first_found first octaves) ∙ alike first.0 ∙ none_heard_below first.0 (other ∷ others) (below, above_more first.0 other.0 others below k.0)))
same_first first other octaves others Greater e later h k alike =
    let below : other.0 <ℤ first.0 = int_ranked first.0 other.0 Greater e in
    absurd (k.1 (sym (first_found other others) ∙ sym (alike other.0) ∙ none_heard_below other.0 (first ∷ octaves) (below, above_more other.0 first.0 octaves below h.0)))
same_first first other octaves others Equal e later h k alike =
    let same : first.0 ≡ other.0 = int_ranked first.0 other.0 Equal e in
    let letters : first.1 ≡ other.1 = sym (first_found first octaves) ∙ alike first.0 ∙ ap (letters_in (other ∷ others)) same ∙ first_found other others in
    let above : AllAbove first.0 others = subst (λ o. AllAbove o others) (sym same) k.0 in
    let as_first : FoundAlike (first ∷ octaves) ((first.0, other.1) ∷ others) = λ octave. alike octave ∙ (λ i. letters_in ((sym same i, other.1) ∷ others) octave) in
    let rest = later h.2 k.2 (λ octave. rest_by first octaves others other.1 octave (int_eq octave first.0) refl h.0 above as_first) in
    λ i. (same i, letters i) ∷ rest i

same_octaves : (octaves others : Octaves) → AreSame octaves others
same_octaves [] [] h k alike = refl
same_octaves [] (other ∷ others) h k alike = absurd (k.1 (sym (first_found other others) ∙ sym (alike other.0) ∙ none_heard_below other.0 [] tt))
same_octaves (first ∷ octaves) [] h k alike = absurd (h.1 (sym (first_found first octaves) ∙ alike first.0 ∙ none_heard_below first.0 [] tt))
same_octaves (first ∷ octaves) (other ∷ others) h k alike = same_first first other octaves others (int_cmp first.0 other.0) refl (same_octaves octaves others) h k alike

-- a note of this letter in this octave
abbrev note_of : Letter → ℤ → Note
note_of letter octave = record { accidental = None; letter = letter; octave = octave; length = Refused }

same_accidentals : (accidentals others : Accidentals) → reach_of accidentals ≡ reach_of others → IsKept accidentals → IsKept others
    → ((note : Note) → written_on accidentals note ≡ written_on others note) → accidentals ≡ others
same_accidentals Own Own r h k alike = refl
same_accidentals (OnLetters letters) (OnLetters others) r h k alike = ap OnLetters (same_letters letters others (λ letter. alike (note_of letter (pos 0))))
same_accidentals (InOctaves octaves) (InOctaves others) r h k alike =
    ap InOctaves (same_octaves octaves others h k (λ octave. same_letters (letters_in octaves octave) (letters_in others octave) (λ letter. alike (note_of letter octave))))
same_accidentals Own (InOctaves others) r h k alike = cc
same_accidentals Own (OnLetters others) r h k alike = cc
same_accidentals (InOctaves octaves) Own r h k alike = cc
same_accidentals (InOctaves octaves) (OnLetters others) r h k alike = cc
same_accidentals (OnLetters letters) Own r h k alike = cc
same_accidentals (OnLetters letters) (InOctaves others) r h k alike = cc

pub same_where_heard_alike : SameWhereHeardAlike
same_where_heard_alike reach notes others alike =
    same_accidentals (after_notes (no_accidentals reach) notes) (after_notes (no_accidentals reach) others)
    (reach_stays (no_accidentals reach) notes ∙ sym (reach_stays (no_accidentals reach) others))
    (kept_after (no_accidentals reach) notes (none_kept reach)) (kept_after (no_accidentals reach) others (none_kept reach)) alike
