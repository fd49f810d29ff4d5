-- Changes one after another.
use Rattle.std.proofs.Common.{◌≡◌, ◌==◌, ℕ, true, length, List, [], ◌∷◌, Option, Some, None, refl, sym, ap, ◌∙◌, inl, inr, ⊎_elim, arith}
use Rattle.std.proofs.lemmas.Bool.{eqb-true}
use Rattle.std.proofs.lemmas.Int.{ints}
use Rattle.abc_text.specs.declared.accidental.Accidental.{Accidental}
use Rattle.abc_text.specs.declared.accidental.Accidental.TheVariants.{DoubleFlat, Flat, Natural, Sharp, DoubleSharp}
use Rattle.abc_text.specs.Accidental.{alteration}
use Rattle.abc_fields.specs.declared.accidental.SignatureChange.{SignatureChange}
use Rattle.abc_fields.specs.declared.signature.Signature.{Signature}
use Rattle.abc_fields.specs.Accidental.{changes_of}
use Rattle.abc_fields.specs.Spelling.Accidental.{AreChanges}
use Rattle.abc_fields.specs.Signature.{IsSignature, IsAlteration}
use Rattle.abc_fields.specs.Listed.{with_change, with_changes, changed_or, with_word, with_accidentals}
use Rattle.abc_fields.specs.Spelling.Listed.{IsChanged, AreListed}
use Rattle.abc_fields.proofs.Accidentals.{changes_exact}
use Rattle.abc_fields.proofs.Signatures.{altered_range}

-- no more changes
pub changed_all : (other signature : Signature) (text : List ℕ) → (length text == 0) ≡ true → changed_or other signature (changes_of text) ≡ signature
unfolding changes_of
changed_all other signature [] e = refl
changed_all other signature (b ∷ bs) e = absurd (let none : length (b ∷ bs) ≡ 0 = eqb-true (length (b ∷ bs)) 0 e in omega (arith, none))

-- one more word
pub accidentals_step : (signature : Signature) (words : List (List ℕ)) (word : List ℕ) (rest : List (List ℕ)) → words ≡ word ∷ rest
    → with_accidentals signature words ≡ with_accidentals (with_word signature word) rest
unfolding with_accidentals
accidentals_step signature words word rest e = ap (with_accidentals signature) e

pub accidentals_none : (signature : Signature) (words : List (List ℕ)) → words ≡ [] → with_accidentals signature words ≡ signature
unfolding with_accidentals
accidentals_none signature words e = ap (with_accidentals signature) e

-- the changes of a word, and their grammar
changed_by : (signature : Signature) (word : List ℕ) (o : Option (List SignatureChange)) → changes_of word ≡ o → IsChanged signature word (changed_or signature signature o)
changed_by signature word None e = inr ((λ changes are. let known : Some changes ≡ None = sym ((changes_exact word changes).1 are) ∙ e in cc), refl)
changed_by signature word (Some changes) e = inl (changes, (changes_exact word changes).0 e, refl)

changed_to : (signature : Signature) (word : List ℕ) (changed : Signature) (o : Option (List SignatureChange)) → changes_of word ≡ o → IsChanged signature word changed
    → changed ≡ changed_or signature signature o
changed_to signature word changed None e h = ⊎_elim
    (λ is. let known : Some is.0 ≡ None = sym ((changes_exact word is.0).1 is.1) ∙ e in cc)
    (λ is. is.1)
    h
changed_to signature word changed (Some changes) e h = ⊎_elim
    (λ is. let known : Some is.0 ≡ Some changes = sym ((changes_exact word is.0).1 is.1) ∙ e in let same : is.0 ≡ changes = cc in is.2 ∙ ap (with_changes signature) same)
    (λ is. absurd (is.0 changes ((changes_exact word changes).0 e)))
    h

-- the changes of words
pub listed_from : (words : List (List ℕ)) (signature : Signature) → AreListed signature words (with_accidentals signature words)
unfolding with_accidentals
listed_from [] signature = refl
listed_from (word ∷ words) signature = (with_word signature word, changed_by signature word (changes_of word) refl, listed_from words (with_word signature word))

pub listed_to : (words : List (List ℕ)) (signature changed : Signature) → AreListed signature words changed → changed ≡ with_accidentals signature words
unfolding with_accidentals
listed_to [] signature changed h = h
listed_to (word ∷ words) signature changed h =
    let next : h.0 ≡ with_word signature word = changed_to signature word h.0 (changes_of word) refl h.1 in
    listed_to words h.0 changed h.2 ∙ ap (λ s. with_accidentals s words) next

-- changes keep the bounds
alteration_range : (accidental : Accidental) → IsAlteration (alteration accidental)
alteration_range DoubleFlat = (omega (arith, ints), omega (arith, ints))
alteration_range Flat = (omega (arith, ints), omega (arith, ints))
alteration_range Natural = (omega (arith, ints), omega (arith, ints))
alteration_range Sharp = (omega (arith, ints), omega (arith, ints))
alteration_range DoubleSharp = (omega (arith, ints), omega (arith, ints))

changes_range : (changes : List SignatureChange) (word : List ℕ) (signature : Signature) → AreChanges word changes → IsSignature signature → IsSignature (with_changes signature changes)
changes_range [] word signature are h = h
changes_range (change ∷ changes) word signature are h =
    changes_range changes are.0 (with_change signature change) are.2
    (altered_range signature change.letter (alteration change.accidental) h (alteration_range change.accidental))

word_range : (signature : Signature) (word : List ℕ) (o : Option (List SignatureChange)) → changes_of word ≡ o → IsSignature signature → IsSignature (changed_or signature signature o)
word_range signature word None e h = h
word_range signature word (Some changes) e h = changes_range changes word signature ((changes_exact word changes).0 e) h

pub listed_range : (words : List (List ℕ)) (signature : Signature) → IsSignature signature → IsSignature (with_accidentals signature words)
unfolding with_accidentals
listed_range [] signature h = h
listed_range (word ∷ words) signature h = listed_range words (with_word signature word) (word_range signature word (changes_of word) refl h)
