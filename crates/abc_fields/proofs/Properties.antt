-- Laws of properties.
use Rattle.std.proofs.Common.{◌≡◌, ℕ, ℤ, suc, ◌+◌, ◌-◌, ◌≤◌, true, false, leb, eqb, List, [], ◌∷◌, ◌++◌, length, get_or, take, drop, Option, Some, None, refl, sym, ap, ◌∙◌, subst, inl, inr, ⊎_elim}
use Rattle.std.proofs.Common.{arith, length-append}
use Rattle.std.specs.Prelude.{◌⊎◌, ◌&&◌, pos, neg_ℤ}
use Rattle.std.specs.List.{slice_range}
use Rattle.std.specs.Option.{option_map, option_map_or}
use Rattle.std.proofs.Math.Seq.{take-append_seam, drop-append_seam, get_or-append_seam}
use Rattle.std.proofs.lemmas.Bool.{cond-true, cond-false, cases_Bool, le-leb, eqb-true, eq-eqb, ne_eqb, and_parts, and_from, true≢false, false_from_ne_true}
use Rattle.std.proofs.lemmas.List.{take-append-drop}
use Rattle.std.proofs.lemmas.List.Elements.{All-head}
use Rattle.std.proofs.lemmas.Slice.Eq.{bytes_eq-Decides}
use Rattle.std.specs.Char.{is_ascii_digit}
use Rattle.abc_text.specs.Number.{IsNumber, number_of}
use Rattle.abc_text.specs.Word.{begins_with}
use Rattle.abc_fields.specs.declared.property.Property.{Property}
use Rattle.abc_fields.specs.declared.property.Property.TheVariants.{Clef, Octave, Transpose, Other}
use Rattle.abc_fields.specs.Property.{clef_name, octave_name, transpose_name, is_quoted, unquote, signed_number, property_of}
use Rattle.abc_fields.specs.Spelling.Property.{IsUnquoted, IsSignedNumber, Gives, BeginsWith, HasNoName, IsProperty}
use Rattle.abc_fields.specs.Clef.{mark_of, clef_of}
use Rattle.abc_text.proofs.Fronts.{last_split}
use Rattle.abc_text.proofs.Numbers.{number_of-spells, number_of-spelled}
use Rattle.abc_fields.proofs.Clefs.{mark_read, mark_known, no_mark_read, no_mark_known, clef_by, clef_known}
use Rattle.abc_fields.proofs.Readings.{branches, map_some}

-- quotes
quoted_of : (text value : List ℕ) → text ≡ 34 ∷ (value ++ 34 ∷ []) → (is_quoted text ≡ true) × (slice_range text 1 (length text - 1) ≡ value)
quoted_of text value e =
    let long : length text ≡ suc (length value + 1) = ap length e ∙ ap suc (length-append value (34 ∷ [])) in
    let last : length text - 1 ≡ suc (length value) = omega (arith, long) in
    let count : length text - 1 - 1 ≡ length value = omega (arith, long) in
    let opens : get_or text 0 0 ≡ 34 = ap (λ l. get_or l 0 0) e in
    let closes : get_or text (length text - 1) 0 ≡ 34 = (λ i. get_or (e i) (last i) 0) ∙ get_or-append_seam value 34 [] 0 in (
      and_from _ _ (and_from _ _ (le-leb 2 (length text) (omega (arith, long))) (eq-eqb _ _ opens)) (eq-eqb _ _ closes),
      (λ i. take (count i) (drop 1 (e i))) ∙ take-append_seam value (34 ∷ []),
    )

quoted_is : (text : List ℕ) → is_quoted text ≡ true → text ≡ 34 ∷ (slice_range text 1 (length text - 1) ++ 34 ∷ [])
quoted_is [] test = cc
quoted_is (b ∷ []) test = cc
quoted_is (b ∷ c ∷ cs) test =
    let text = b ∷ c ∷ cs in
    let bs = c ∷ cs in
    let both = and_parts (leb 2 (length text) && eqb b 34) (eqb (get_or text (length text - 1) 0) 34) test in
    let opens : b ≡ 34 = eqb-true b 34 (and_parts (leb 2 (length text)) (eqb b 34) both.0).1 in
    let count : length text - 1 - 1 ≡ length bs - 1 = omega arith in
    let last : length text - 1 ≡ suc (length bs - 1) = omega arith in
    let closes : get_or bs (length bs - 1) 0 ≡ 34 = ap (λ n. get_or text n 0) (sym last) ∙ eqb-true _ 34 both.1 in
    (λ i. opens i ∷ last_split bs (omega arith) i) ∙ (λ i. 34 ∷ (take (sym count i) bs ++ closes i ∷ []))

unquoted_is : (text : List ℕ) → IsUnquoted text (unquote text)
unfolding unquote
unquoted_is text = ⊎_elim
    (λ test. inl (quoted_is text test ∙ ap (λ l. 34 ∷ (l ++ 34 ∷ [])) (sym (cond-true _ _ _ test))))
    (λ other. inr (sym (cond-false _ _ _ other), λ inner e. true≢false (sym (quoted_of text inner e).0 ∙ other)))
    (cases_Bool (is_quoted text))

unquoted_known : (text value : List ℕ) → IsUnquoted text value → unquote text ≡ value
unfolding unquote
unquoted_known text value is = ⊎_elim
    (λ e. let both = quoted_of text value e in cond-true _ _ _ both.0 ∙ both.1)
    (λ plain. ⊎_elim (λ test. absurd (plain.1 _ (quoted_is text test))) (λ other. cond-false _ _ _ other ∙ plain.0) (cases_Bool (is_quoted text)))
    is

-- signs and numbers
no_number : (n : ℕ) → IsNumber [] n → ⊥
no_number n is = let some : 1 ≤ 0 = is.some in omega arith

no_sign_first : (b : ℕ) (bs : List ℕ) (n : ℕ) → IsNumber (b ∷ bs) n → ((b ≡ 45) ⊎ (b ≡ 43)) → ⊥
no_sign_first b bs n is sign =
    let digit : is_ascii_digit b ≡ true = All-head (λ x. is_ascii_digit x ≡ true) b bs is.digits in
    ⊎_elim (λ e. true≢false (sym digit ∙ ap is_ascii_digit e)) (λ e. true≢false (sym digit ∙ ap is_ascii_digit e)) sign

abbrev Sign : List ℕ → List ℕ → ℤ → ℕ → Type 0
Sign text digits n size = ((text ≡ digits) × (n ≡ pos size)) ⊎ (((text ≡ 43 ∷ digits) × (n ≡ pos size)) ⊎ ((text ≡ 45 ∷ digits) × (n ≡ neg_ℤ (pos size))))

number_signed : (text digits : List ℕ) (n : ℤ) (f : ℕ → ℤ) → option_map f (number_of digits) ≡ Some n → ((size : ℕ) → n ≡ f size → Sign text digits n size) → IsSignedNumber text n
number_signed text digits n f e sign =
    let parts = map_some f (number_of digits) n e in
    record { digits = digits; size = parts.0; number = number_of-spells digits parts.0 parts.1; sign = sign parts.0 parts.2 }

signed_read : (text : List ℕ) (n : ℤ) → signed_number text ≡ Some n → IsSignedNumber text n
unfolding signed_number
signed_read [] n e = cc
signed_read (b ∷ bs) n e = ⊎_elim
    (λ h. number_signed (b ∷ bs) bs n (λ k. neg_ℤ (pos k)) h.1 (λ size is. inr (inr (ap (λ x. x ∷ bs) (eqb-true b 45 h.0), is))))
    (λ h. ⊎_elim
    (λ k. number_signed (b ∷ bs) bs n pos k.1 (λ size is. inr (inl (ap (λ x. x ∷ bs) (eqb-true b 43 k.0), is))))
    (λ k. number_signed (b ∷ bs) (b ∷ bs) n pos k.1 (λ size is. inl (refl, is)))
    (branches (eqb b 43) _ _ _ h.1))
    (branches (eqb b 45) _ _ _ e)

unsigned_known : (text : List ℕ) (size : ℕ) → IsNumber text size → signed_number text ≡ Some (pos size)
unfolding signed_number
unsigned_known [] size is = absurd (no_number size is)
unsigned_known (b ∷ bs) size is =
    let no_minus : eqb b 45 ≡ false = ne_eqb b 45 (λ e. no_sign_first b bs size is (inl e)) in
    let no_plus : eqb b 43 ≡ false = ne_eqb b 43 (λ e. no_sign_first b bs size is (inr e)) in
    cond-false _ _ _ no_minus ∙ cond-false _ _ _ no_plus ∙ ap (option_map pos) (number_of-spelled (b ∷ bs) size is)

signed_known : (text : List ℕ) (n : ℤ) → IsSignedNumber text n → signed_number text ≡ Some n
unfolding signed_number
signed_known text n is =
    let known : number_of is.digits ≡ Some is.size = number_of-spelled is.digits is.size is.number in
    ⊎_elim
    (λ h. ap signed_number h.0 ∙ unsigned_known is.digits is.size is.number ∙ ap Some (sym h.1))
    (⊎_elim
    (λ h. ap signed_number h.0 ∙ ap (option_map pos) known ∙ ap Some (sym h.1))
    (λ h. ap signed_number h.0 ∙ ap (option_map (λ k. neg_ℤ (pos k))) known ∙ ap Some (sym h.1)))
    is.sign

-- names
begins_true : (name word : List ℕ) → begins_with name word ≡ true → word ≡ name ++ drop (length name) word
begins_true name word e =
    let same : take (length name) word ≡ name = (bytes_eq-Decides (take (length name) word) name).0 e in
    sym (take-append-drop (length name) word) ∙ ap (λ l. l ++ drop (length name) word) same

begins_from : (name word text : List ℕ) → word ≡ name ++ text → begins_with name word ≡ true
begins_from name word text e = (bytes_eq-Decides (take (length name) word) name).1 (ap (take (length name)) e ∙ take-append_seam name text)

after_name : (name word text : List ℕ) → word ≡ name ++ text → drop (length name) word ≡ text
after_name name word text e = ap (drop (length name)) e ∙ drop-append_seam name text

begins_false : (name word : List ℕ) → ¬ BeginsWith name word → begins_with name word ≡ false
begins_false name word never = false_from_ne_true _ (λ e. never (drop (length name) word, begins_true name word e))

no_begin : (name word : List ℕ) → begins_with name word ≡ false → ¬ BeginsWith name word
no_begin name word fails begins = true≢false (sym (begins_from name word begins.0 begins.1) ∙ fails)

first_differs : (a b : ℕ) (xs ys text word : List ℕ) → (a ≡ b → ⊥) → word ≡ (a ∷ xs) ++ text → begins_with (b ∷ ys) word ≡ false
first_differs a b xs ys text word differ e = begins_false (b ∷ ys) word (λ begins. differ (ap (λ l. get_or l 0 0) (sym e ∙ begins.1)))

given : (name word : List ℕ) → begins_with name word ≡ true → Gives name word (unquote (drop (length name) word))
given name word e = record {
  text = drop (length name) word;
  spelling = begins_true name word e;
  unquote = unquoted_is (drop (length name) word);
}

value_known : (name word value : List ℕ) (g : Gives name word value) → unquote (drop (length name) word) ≡ value
value_known name word value g = ap unquote (after_name name word g.text g.spelling) ∙ unquoted_known g.text value g.unquote

-- a word is read by its grammar
plain_read : (word : List ℕ) (o : Option ℤ) → HasNoName word → mark_of word ≡ o → IsProperty word (option_map_or Clef o Other)
plain_read word None unnamed e = (unnamed, no_mark_read word e)
plain_read word (Some n) unnamed e = inr (unnamed, mark_read word n e)

pub property_read : (word : List ℕ) (p : Property) → property_of word ≡ Some p → IsProperty word p
unfolding property_of
property_read word p e = ⊎_elim
    (λ clef.
    let value = unquote (drop 5 word) in
    let same : Clef (clef_of value) ≡ p = (let chosen : Some (Clef (clef_of value)) ≡ Some p = clef.1 in cc) in
    subst (IsProperty word) same (inl (value, given clef_name word clef.0, clef_by value (mark_of value) refl)))
    (λ no_clef. ⊎_elim
    (λ octave.
    let value = unquote (drop 7 word) in
    let parts = map_some Octave (signed_number value) p octave.1 in
    subst (IsProperty word) (sym parts.2) (value, given octave_name word octave.0, signed_read value parts.0 parts.1))
    (λ no_octave. ⊎_elim
    (λ transpose.
    let value = unquote (drop 10 word) in
    let parts = map_some Transpose (signed_number value) p transpose.1 in
    subst (IsProperty word) (sym parts.2) (value, given transpose_name word transpose.0, signed_read value parts.0 parts.1))
    (λ none.
    let same : option_map_or Clef (mark_of word) Other ≡ p = (let chosen : Some (option_map_or Clef (mark_of word) Other) ≡ Some p = none.1 in cc) in
    subst (IsProperty word) same (plain_read word (mark_of word) (no_begin clef_name word no_clef.0, no_begin octave_name word no_octave.0, no_begin transpose_name word none.0) refl))
    (branches (begins_with transpose_name word) _ _ _ no_octave.1))
    (branches (begins_with octave_name word) _ _ _ no_clef.1))
    (branches (begins_with clef_name word) _ _ _ e)

clef_named : (word : List ℕ) → begins_with clef_name word ≡ true → property_of word ≡ Some (Clef (clef_of (unquote (drop 5 word))))
unfolding property_of
clef_named word clef = cond-true _ _ _ clef

octave_named : (word : List ℕ) → begins_with clef_name word ≡ false → begins_with octave_name word ≡ true → property_of word ≡ option_map Octave (signed_number (unquote (drop 7 word)))
unfolding property_of
octave_named word no_clef octave = cond-false _ _ _ no_clef ∙ cond-true _ _ _ octave

transpose_named : (word : List ℕ) → begins_with clef_name word ≡ false → begins_with octave_name word ≡ false → begins_with transpose_name word ≡ true
    → property_of word ≡ option_map Transpose (signed_number (unquote (drop 10 word)))
unfolding property_of
transpose_named word no_clef no_octave transpose = cond-false _ _ _ no_clef ∙ cond-false _ _ _ no_octave ∙ cond-true _ _ _ transpose

not_named : (word : List ℕ) → HasNoName word → property_of word ≡ Some (option_map_or Clef (mark_of word) Other)
unfolding property_of
not_named word unnamed =
    cond-false _ _ _ (begins_false clef_name word unnamed.0) ∙ cond-false _ _ _ (begins_false octave_name word unnamed.1) ∙ cond-false _ _ _ (begins_false transpose_name word unnamed.2)

pub property_known : (word : List ℕ) (p : Property) → IsProperty word p → property_of word ≡ Some p
property_known word (Clef n) is = ⊎_elim
    (λ h. clef_named word (begins_from clef_name word h.1.text h.1.spelling) ∙ ap (λ v. Some (Clef (clef_of v))) (value_known clef_name word h.0 h.1) ∙ ap (λ k. Some (Clef k)) (clef_known h.0 n h.2))
    (λ h. not_named word h.0 ∙ ap (λ o. Some (option_map_or Clef o Other)) (mark_known word n h.1))
    is
property_known word (Octave n) is =
    let no_clef : begins_with clef_name word ≡ false = first_differs 111 99 (drop 1 octave_name) (drop 1 clef_name) is.1.text word (λ e. omega arith) is.1.spelling in
    octave_named word no_clef (begins_from octave_name word is.1.text is.1.spelling)
    ∙ ap (λ v. option_map Octave (signed_number v)) (value_known octave_name word is.0 is.1)
    ∙ ap (option_map Octave) (signed_known is.0 n is.2)
property_known word (Transpose n) is =
    let no_clef : begins_with clef_name word ≡ false = first_differs 116 99 (drop 1 transpose_name) (drop 1 clef_name) is.1.text word (λ e. omega arith) is.1.spelling in
    let no_octave : begins_with octave_name word ≡ false = first_differs 116 111 (drop 1 transpose_name) (drop 1 octave_name) is.1.text word (λ e. omega arith) is.1.spelling in
    transpose_named word no_clef no_octave (begins_from transpose_name word is.1.text is.1.spelling)
    ∙ ap (λ v. option_map Transpose (signed_number v)) (value_known transpose_name word is.0 is.1)
    ∙ ap (option_map Transpose) (signed_known is.0 n is.2)
property_known word Other is = not_named word is.0 ∙ ap (λ o. Some (option_map_or Clef o Other)) (no_mark_known word is.1)
