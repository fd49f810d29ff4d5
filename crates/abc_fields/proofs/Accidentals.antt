-- Laws of accidentals.
use Rattle.std.proofs.Common.{◌≡◌, ℕ, suc, ◌+◌, ◌<◌, ◌≤◌, true, false, ltb, List, [], ◌∷◌, ◌++◌, length, get_or, take, drop, Option, Some, None, refl, sym, ap, ◌∙◌, subst, inl, inr, ⊎_elim, arith}
use Rattle.std.proofs.Common.{append-nil, append_assoc, length-append}
use Rattle.std.specs.Prelude.{◌⊎◌, ◌↔◌, not, position, codes}
use Rattle.std.specs.List.{position_or_len}
use Rattle.std.specs.Option.{is_some, option_and_then}
use Rattle.std.proofs.lemmas.Bool.{cond-true, cond-false, cases_Bool, cases_lt, lt-ltb, ltb-true, not_from_false, not_from_true}
use Rattle.std.proofs.lemmas.List.Sums.{split_at_first}
use Rattle.std.proofs.lemmas.Option.{cond_some}
use Rattle.abc_text.specs.declared.accidental.Accidental.{Accidental}
use Rattle.abc_text.specs.declared.accidental.Accidental.TheVariants.{DoubleFlat, Flat, Natural, Sharp, DoubleSharp}
use Rattle.abc_text.specs.declared.letter.Letter.{Letter}
use Rattle.abc_text.specs.Accidental.{spelling as spelled, accidental_of}
use Rattle.abc_text.specs.Letter.{letter_of}
use Rattle.abc_text.proofs.Letters.{accidental_of-is, letter_exact}
use Rattle.abc_fields.specs.declared.accidental.SignatureChange.{SignatureChange}
use Rattle.abc_fields.specs.Accidental.{is_letter, and_change, at_letter, changes_with, changes_of}
use Rattle.abc_fields.specs.Spelling.Accidental.{IsChange, AreChanges}
use Rattle.abc_fields.proofs.Readings.{bound, map_some}

abbrev first : List ℕ → ℕ
first text = position_or_len is_letter text

-- the changes of a text that begins with a known letter after a known accidental
abbrev Following : Option Accidental → Option (List SignatureChange) → Letter → Option (List SignatureChange)
Following accidental following letter = option_and_then (and_change letter following) accidental

abbrev Read : List ℕ → List ℕ → ℕ → Option (List SignatureChange)
Read text marks n = option_and_then (Following (accidental_of (marks ++ take n text)) (changes_of (drop (n + 1) text))) (letter_of (get_or text n 0))

letter_there : (o : Option Letter) → is_some o ≡ true → (letter : Letter) × (o ≡ Some letter)
letter_there None e = cc
letter_there (Some letter) e = (letter, refl)

no_letter_there : (o : Option Letter) → is_some o ≡ false → o ≡ None
no_letter_there None e = refl
no_letter_there (Some letter) e = cc

-- marks in front of the first letter
marks_first : (text marks : List ℕ) → first text < length text → changes_with text marks ≡ Read text marks (first text)
unfolding changes_of
marks_first [] marks inside = absurd (omega arith)
marks_first (b ∷ bs) marks inside = ⊎_elim
    (λ letter.
    let n : first (b ∷ bs) ≡ 0 = cond-false (not (is_letter b)) (1 + first bs) 0 (not_from_true _ letter) in
    let known = letter_there (letter_of b) letter in
    let here : Read (b ∷ bs) marks 0 ≡ Following (accidental_of marks) (changes_of bs) known.0 =
    ap (λ o. option_and_then (Following (accidental_of (marks ++ [])) (changes_of bs)) o) known.1
    ∙ ap (λ l. Following (accidental_of l) (changes_of bs) known.0) (append-nil marks) in
    ap (λ o. at_letter o (accidental_of marks) (changes_with bs []) (changes_with bs (marks ++ b ∷ []))) known.1 ∙ sym here ∙ ap (Read (b ∷ bs) marks) (sym n))
    (λ other.
    let n : first (b ∷ bs) ≡ suc (first bs) = cond-true (not (is_letter b)) (1 + first bs) 0 (not_from_false _ other) ∙ omega arith in
    let k = first bs in
    let more : k + 1 ≡ suc k = omega arith in
    let more2 : suc k + 1 ≡ suc (suc k) = omega arith in
    let there : Read bs (marks ++ b ∷ []) k ≡ Read (b ∷ bs) marks (suc k) =
    (λ i. option_and_then (Following (accidental_of (append_assoc marks (b ∷ []) (take k bs) i)) (changes_of (drop (more i) bs))) (letter_of (get_or bs k 0)))
    ∙ ap (λ m. option_and_then (Following (accidental_of (marks ++ b ∷ take k bs)) (changes_of (drop m (b ∷ bs)))) (letter_of (get_or bs k 0))) (sym more2) in
    ap (λ o. at_letter o (accidental_of marks) (changes_with bs []) (changes_with bs (marks ++ b ∷ []))) (no_letter_there (letter_of b) other)
    ∙ marks_first bs (marks ++ b ∷ []) (omega (arith, n, inside)) ∙ there ∙ ap (Read (b ∷ bs) marks) (sym n))
    (cases_Bool (is_letter b))

-- marks without a letter
no_letter : (text marks : List ℕ) → length text ≤ first text → 0 < length marks + length text → changes_with text marks ≡ None
no_letter [] [] past some = absurd (omega arith)
no_letter [] (m ∷ ms) past some = refl
no_letter (b ∷ bs) marks past some = ⊎_elim
    (λ letter.
    let n : first (b ∷ bs) ≡ 0 = cond-false (not (is_letter b)) (1 + first bs) 0 (not_from_true _ letter) in
    absurd (omega (arith, n, past)))
    (λ other.
    let n : first (b ∷ bs) ≡ suc (first bs) = cond-true (not (is_letter b)) (1 + first bs) 0 (not_from_false _ other) ∙ omega arith in
    ap (λ o. at_letter o (accidental_of marks) (changes_with bs []) (changes_with bs (marks ++ b ∷ []))) (no_letter_there (letter_of b) other)
    ∙ no_letter bs (marks ++ b ∷ []) (omega (arith, n, past)) (omega (arith, length-append marks (b ∷ []))))
    (cases_Bool (is_letter b))

pub no_change : (text : List ℕ) → None ≡ position is_letter text → (text ≡ []) ⊎ (changes_of text ≡ None)
unfolding changes_of
no_change [] e = inl refl
no_change (b ∷ bs) e = inr (⊎_elim
    (λ inside. let found : Some (first (b ∷ bs)) ≡ None = sym (cond-true _ _ _ (lt-ltb _ _ inside)) ∙ sym e in cc)
    (λ past. no_letter (b ∷ bs) [] past (omega arith))
    (cases_lt (first (b ∷ bs)) (length (b ∷ bs))))

change_at : (text : List ℕ) (at : ℕ) → Some at ≡ position is_letter text → changes_of text ≡ Read text [] at
unfolding changes_of
change_at text at e =
    let found = cond_some (ltb (first text) (length text)) (first text) at (sym e) in
    subst (λ n. changes_with text [] ≡ Read text [] n) found.1 (marks_first text [] (ltb-true _ _ found.0))

none_after : (following : Option (List SignatureChange)) (o : Option Letter) → option_and_then (Following None following) o ≡ None
none_after following None = refl
none_after following (Some letter) = refl

pub no_accidental : (text : List ℕ) (at : ℕ) → Some at ≡ position is_letter text → None ≡ accidental_of (take at text) → changes_of text ≡ None
no_accidental text at e none =
    change_at text at e
    ∙ ap (λ a. option_and_then (Following a (changes_of (drop (at + 1) text))) (letter_of (get_or text at 0))) (sym none)
    ∙ none_after (changes_of (drop (at + 1) text)) (letter_of (get_or text at 0))

pub no_letter_at : (text : List ℕ) (at : ℕ) → Some at ≡ position is_letter text → None ≡ letter_of (get_or text at 0) → changes_of text ≡ None
no_letter_at text at e none =
    change_at text at e ∙ ap (option_and_then (Following (accidental_of (take at text)) (changes_of (drop (at + 1) text)))) (sym none)

pub change_first : (text : List ℕ) (at : ℕ) (accidental : Accidental) (letter : Letter) → Some at ≡ position is_letter text → Some accidental ≡ accidental_of (take at text)
    → Some letter ≡ letter_of (get_or text at 0)
    → changes_of text ≡ and_change letter (changes_of (drop (at + 1) text)) accidental
change_first text at accidental letter e is known =
    change_at text at e
    ∙ ap (λ a. option_and_then (Following a (changes_of (drop (at + 1) text))) (letter_of (get_or text at 0))) (sym is)
    ∙ ap (option_and_then (Following (Some accidental) (changes_of (drop (at + 1) text)))) (sym known)

-- changes are read as they are written
record First (text : List ℕ) (changes : List SignatureChange) : Type 0 where
  change : SignatureChange
  more : List SignatureChange
  rest : List ℕ
  here : IsChange text change rest
  there : changes_of rest ≡ Some more
  are : changes ≡ change ∷ more

first_of_changes : (text : List ℕ) (changes : List SignatureChange) → changes_of text ≡ Some changes → ((text ≡ []) × (changes ≡ [])) ⊎ First text changes
unfolding changes_of
first_of_changes [] changes e = inl (refl, cc)
first_of_changes (b ∷ bs) changes e = ⊎_elim
    (λ inside.
    let text = b ∷ bs in
    let at = first text in
    let following = changes_of (drop (at + 1) text) in
    let letter = bound (Following (accidental_of (take at text)) following) (letter_of (get_or text at 0)) changes (sym (marks_first text [] inside) ∙ e) in
    let accidental = bound (and_change letter.0 following) (accidental_of (take at text)) changes letter.2 in
    let change : SignatureChange = record { accidental = accidental.0; letter = letter.0 } in
    let more = map_some (λ (more : List SignatureChange). change ∷ more) following changes accidental.2 in
    inr record {
      change = change;
      more = more.0;
      rest = drop (at + 1) text;
      here = record {
        byte = get_or text at 0;
        spelling = split_at_first is_letter text 0 inside ∙ ap (λ marks. marks ++ get_or text at 0 ∷ drop (at + 1) text) (accidental_of-is (take at text) accidental.0 accidental.1);
        letter = (letter_exact (get_or text at 0) letter.0).0 letter.1;
      };
      there = more.1;
      are = more.2;
    })
    (λ past. let none : None ≡ Some changes = sym (no_letter (b ∷ bs) [] past (omega arith)) ∙ e in cc)
    (cases_lt (first (b ∷ bs)) (length (b ∷ bs)))

changes_read : (changes : List SignatureChange) (text : List ℕ) → changes_of text ≡ Some changes → AreChanges text changes
changes_read [] text e = ⊎_elim (λ h. h.0) (λ h. absurd (let are : [] ≡ h.change ∷ h.more = h.are in cc)) (first_of_changes text [] e)
changes_read (change ∷ changes) text e = ⊎_elim
    (λ h. absurd (let no : change ∷ changes ≡ [] = h.1 in cc))
    (λ h.
    let are : change ∷ changes ≡ h.change ∷ h.more = h.are in
    let same : h.change ≡ change = cc in
    let more : h.more ≡ changes = cc in
    (h.rest, subst (λ x. IsChange text x h.rest) same h.here, changes_read changes h.rest (h.there ∙ ap Some more)))
    (first_of_changes text (change ∷ changes) e)

known_by : (accidental : Accidental) (byte : ℕ) (letter : Letter) (rest : List ℕ) → letter_of byte ≡ Some letter
    → changes_of (spelled accidental ++ (byte ∷ rest)) ≡ and_change letter (changes_of rest) accidental
unfolding changes_of letter_of accidental_of
known_by DoubleFlat byte letter rest e = ap (λ o. at_letter o (Some DoubleFlat) (changes_with rest []) (changes_with rest (codes "__" ++ byte ∷ []))) e
known_by Flat byte letter rest e = ap (λ o. at_letter o (Some Flat) (changes_with rest []) (changes_with rest (codes "_" ++ byte ∷ []))) e
known_by Natural byte letter rest e = ap (λ o. at_letter o (Some Natural) (changes_with rest []) (changes_with rest (codes "=" ++ byte ∷ []))) e
known_by Sharp byte letter rest e = ap (λ o. at_letter o (Some Sharp) (changes_with rest []) (changes_with rest (codes "^" ++ byte ∷ []))) e
known_by DoubleSharp byte letter rest e = ap (λ o. at_letter o (Some DoubleSharp) (changes_with rest []) (changes_with rest (codes "^^" ++ byte ∷ []))) e

change_known : (text : List ℕ) (change : SignatureChange) (rest : List ℕ) → IsChange text change rest → changes_of text ≡ and_change change.letter (changes_of rest) change.accidental
change_known text change rest is = ap changes_of is.spelling ∙ known_by change.accidental is.byte change.letter rest ((letter_exact is.byte change.letter).1 is.letter)

changes_known : (changes : List SignatureChange) (text : List ℕ) → AreChanges text changes → changes_of text ≡ Some changes
unfolding changes_of
changes_known [] text are = ap changes_of are
changes_known (change ∷ changes) text are = change_known text change are.0 are.1 ∙ ap (λ more. and_change change.letter more change.accidental) (changes_known changes are.0 are.2)

pub changes_exact : (text : List ℕ) (changes : List SignatureChange) → (changes_of text ≡ Some changes) ↔ AreChanges text changes
changes_exact text changes = (changes_read changes text, changes_known changes text)
