-- The changes of a signature by listed accidentals. ABC 2.1 section 3.1.14.
use Rattle.std.specs.Prelude.{ℕ, ◌≡◌, ◌⊎◌, List, [], ◌∷◌}
use Rattle.abc_fields.specs.declared.accidental.SignatureChange.{SignatureChange}
use Rattle.abc_fields.specs.declared.signature.Signature.{Signature}
use Rattle.abc_fields.specs.Listed.{with_changes}
use Rattle.abc_fields.specs.Spelling.Accidental.{AreChanges}

-- A word of accidentals changes a signature. Any other word changes nothing.
abbrev pub IsChanged : Signature → List ℕ → Signature → Type 0
IsChanged signature word changed =
    ((changes : List SignatureChange) × AreChanges word changes × (changed ≡ with_changes signature changes))
    ⊎ (((changes : List SignatureChange) → ¬ AreChanges word changes) × (changed ≡ signature))

-- Words change a signature, one word after another.
abbrev pub AreListed : Signature → List (List ℕ) → Signature → Type 0
AreListed signature [] changed = changed ≡ signature
AreListed signature (word ∷ words) changed =
    (next : Signature) × IsChanged signature word next × AreListed next words changed
