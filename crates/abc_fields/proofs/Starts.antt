-- The first word of a key without a tonic is read by its grammar.
use Rattle.std.proofs.Common.{◌≡◌, ◌==◌, ℕ, ℤ, suc, ◌⊎◌, true, ◌||◌, List, [], ◌∷◌, Option, Some, None, refl, ap, ◌∙◌, inl, inr, ⊎_elim, arith}
use Rattle.std.specs.List.{Contains, list_any}
use Rattle.std.specs.Option.{is_some}
use Rattle.std.proofs.lemmas.Bool.{or_cases, or_left, or_right, eqb-true, eq-eqb}
use Rattle.std.proofs.lemmas.List.Folds.{list_any_at}
use Rattle.abc_fields.specs.Clef.{mark_of, is_clef_name}
use Rattle.abc_fields.specs.Key.{sets_properties, begins_accidental}
use Rattle.abc_fields.specs.Spelling.Clef.{HasMark}
use Rattle.abc_fields.specs.Spelling.Key.{BeginsAccidental, SetsProperties}
use Rattle.abc_fields.proofs.Clefs.{mark_read, mark_known, name_from, name_to}

-- accidentals
pub begins_from : (word : List ℕ) → begins_accidental word ≡ true → BeginsAccidental word
begins_from [] e = cc
begins_from (b ∷ rest) e = (
  b,
  rest,
  refl,
  ⊎_elim
      (λ both. ⊎_elim (λ t. inl (eqb-true b 94 t)) (λ t. inr (inl (eqb-true b 95 t))) (or_cases (b == 94) (b == 95) both))
      (λ t. inr (inr (eqb-true b 61 t)))
      (or_cases ((b == 94) || (b == 95)) (b == 61) e),
)

mark_to : (b : ℕ) → (b ≡ 94) ⊎ ((b ≡ 95) ⊎ (b ≡ 61)) → ((b == 94) || (b == 95) || (b == 61)) ≡ true
mark_to b h = ⊎_elim
    (λ e. or_left ((b == 94) || (b == 95)) (b == 61) (or_left (b == 94) (b == 95) (eq-eqb b 94 e)))
    (λ h. ⊎_elim
    (λ e. or_left ((b == 94) || (b == 95)) (b == 61) (or_right (b == 94) (b == 95) (eq-eqb b 95 e)))
    (λ e. or_right ((b == 94) || (b == 95)) (b == 61) (eq-eqb b 61 e))
    h)
    h

pub begins_to : (word : List ℕ) → BeginsAccidental word → begins_accidental word ≡ true
begins_to word h = ap begins_accidental h.2 ∙ mark_to h.0 h.3

-- the mark of an octave
marked : (word : List ℕ) (o : Option ℤ) → mark_of word ≡ o → is_some o ≡ true → (n : ℤ) × HasMark word n
marked word None m e = cc
marked word (Some n) m e = (n, mark_read word n m)

marked_from : (word : List ℕ) → is_some (mark_of word) ≡ true → (n : ℤ) × HasMark word n
marked_from word e = marked word (mark_of word) refl e

marked_to : (word : List ℕ) → (n : ℤ) × HasMark word n → is_some (mark_of word) ≡ true
marked_to word h = ap is_some (mark_known word h.0 h.1)

-- properties
equals_from : (word : List ℕ) → list_any (λ b. b == 61) word ≡ true → Contains word 61
equals_from [] e = cc
equals_from (b ∷ bs) e = ⊎_elim
    (λ t. (0, omega arith, eqb-true b 61 t))
    (λ t. let more = equals_from bs t in (suc more.0, omega (arith, more.1), more.2))
    (or_cases (b == 61) (list_any (λ b. b == 61) bs) e)

equals_to : (word : List ℕ) → Contains word 61 → list_any (λ b. b == 61) word ≡ true
equals_to word h = list_any_at (λ b. b == 61) word h.0 61 h.1 (eq-eqb _ 61 h.2)

pub sets_from : (word : List ℕ) → sets_properties word ≡ true → SetsProperties word
sets_from word e = ⊎_elim
    (λ both. ⊎_elim (λ t. inl (equals_from word t)) (λ t. inr (inl (marked_from word t))) (or_cases (list_any (λ b. b == 61) word) (is_some (mark_of word)) both))
    (λ t. inr (inr (name_from word t)))
    (or_cases (list_any (λ b. b == 61) word || is_some (mark_of word)) (is_clef_name word) e)

pub sets_to : (word : List ℕ) → SetsProperties word → sets_properties word ≡ true
sets_to word h = ⊎_elim
    (λ k. or_left (list_any (λ b. b == 61) word || is_some (mark_of word)) (is_clef_name word) (or_left (list_any (λ b. b == 61) word) (is_some (mark_of word)) (equals_to word k)))
    (λ h. ⊎_elim
    (λ k. or_left (list_any (λ b. b == 61) word || is_some (mark_of word)) (is_clef_name word) (or_right (list_any (λ b. b == 61) word) (is_some (mark_of word)) (marked_to word k)))
    (λ k. or_right (list_any (λ b. b == 61) word || is_some (mark_of word)) (is_clef_name word) (name_to word k))
    h)
    h
