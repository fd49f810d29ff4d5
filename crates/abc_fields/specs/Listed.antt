-- Signatures with listed accidentals. ABC 2.1 section 3.1.14.
use Rattle.std.specs.Prelude.{ℕ, List, fold, Option, Some, None}
use Rattle.abc_text.specs.Accidental.{alteration}
use Rattle.abc_fields.specs.declared.accidental.SignatureChange.{SignatureChange}
use Rattle.abc_fields.specs.declared.signature.Signature.{Signature}
use Rattle.abc_fields.specs.Accidental.{changes_of}
use Rattle.abc_fields.specs.Signature.{altered_signature}

-- A signature after a change.
abbrev pub with_change : Signature → SignatureChange → Signature
with_change signature change = altered_signature signature change.letter (alteration change.accidental)

-- A signature after changes: the later ones count.
abbrev pub with_changes : Signature → List SignatureChange → Signature
with_changes signature changes = fold with_change signature changes

-- A signature after the changes of a word, or another if the word lists none.
abbrev pub changed_or : Signature → Signature → Option (List SignatureChange) → Signature
changed_or other signature None = other
changed_or other signature (Some changes) = with_changes signature changes

-- A signature with the changes that a word lists. Any other word changes nothing.
abbrev pub with_word : Signature → List ℕ → Signature
with_word signature word = changed_or signature signature (changes_of word)

-- A signature with the changes that words list, one word after another.
unfoldable pub with_accidentals : Signature → List (List ℕ) → Signature
with_accidentals signature words = fold with_word signature words
