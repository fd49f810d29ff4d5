-- Laws of tempo fields: the tempo read is the one that a value spells.
use Rattle.std.proofs.Common.{◌≡◌, ℕ, zero, suc, ◌*◌, ◌<◌, ◌≤◌, Bool, true, List, [], ◌∷◌, ◌++◌, length, Option, Some, None, option_map, Result, refl, sym, ap, ◌∙◌, subst, ◌⊎◌, inl, inr, arith}
use Rattle.std.proofs.Common.{length-append, append_assoc}
use Rattle.std.specs.Prelude.{◌==◌, not, option_and_then}
use Rattle.std.specs.List.{prefix_len, suffix_len, AllPass}
use Rattle.std.proofs.lemmas.Bool.{cond-false, ne_eqb}
use Rattle.std.proofs.lemmas.Bool.Decides.{nat_tests}
use Rattle.std.proofs.lemmas.Option.{same_Some}
use Rattle.std.proofs.lemmas.List.{append-nil}
use Rattle.std.proofs.lemmas.List.Elements.{All-nil, All-cons, All-append, All-weaker}
use Rattle.abc_time.specs.declared.ratio.Ratio.{Ratio}
use Rattle.abc_time.specs.Ratio.{IsRatio}
use Rattle.abc_fields.specs.declared.fault_code.FaultCode.{FaultCode}
use Rattle.abc_fields.specs.declared.fault_code.FaultCode.TheVariants.{BadTempo}
use Rattle.abc_fields.specs.declared.tempo.Tempo.{Tempo}
use Rattle.abc_fields.specs.declared.tempo.Tempo.TheVariants.{Unset, Units, Beat}
use Rattle.abc_text.specs.Blank.{is_blank, trim_start, trim_end}
use Rattle.abc_text.specs.Number.{number_of, IsNumber}
use Rattle.abc_text.specs.Cut.{cut_at}
use Rattle.abc_fields.specs.Tempo.{if_positive, positive_number, sum_of, lowest_terms, beats, bare_by, bare_tempo, tempo_around, tempo_by, tempo_in, tempo_of, IsInRange}
use Rattle.abc_fields.specs.Spelling.Tempo.{empty, text_alone, without_text, after_text, before_text, IsSum, IsBeats, IsBareTempo, IsQuoted, IsAfterText, IsBeforeText, IsTempo}
use Rattle.abc_text.proofs.Numbers.{number_of-spells, number_of-spelled, number_small}
use Rattle.abc_text.specs.Cut.{HasNoByte, IsCut}
use Rattle.abc_text.proofs.Fronts.{front_other}
use Rattle.abc_text.proofs.Cuts.{cut_at-found, cut_at-none, cut_at-cuts}
use Rattle.abc_text.proofs.Blanks.{back_other, trim_start-gap, trim_start-parts, trim_end-gap, trim_end-parts}
use Rattle.abc_fields.proofs.LowestTerms.{IsHalved, lowest_is, IsLowest-halve, lowest_terms-one}
use Rattle.abc_fields.proofs.Fractions.{number_bytes, sum_bytes, digit_visible, digit_other, sum_begins, sum_of-Some, sum_of-is, IsWithin, sum_within}
use Rattle.abc_fields.proofs.Readings.{bound, map_some, Reads, reads}

-- numbers from 1
pub record IsPositive (text : List ℕ) (n : ℕ) : Type 0 where
  pub number : IsNumber text n
  pub least : 1 ≤ n

positive_parts : (k n : ℕ) → if_positive k ≡ Some n → (k ≡ n) × (1 ≤ n)
positive_parts zero n e = cc
positive_parts (suc k) n e =
    let same : suc k ≡ n = same_Some (suc k) n (sym (cond-false (suc k == 0) None (Some (suc k)) (ne_eqb (suc k) 0 (λ h. absurd (omega arith)))) ∙ e) in
    (same, omega (arith, same))

if_positive-is : (n : ℕ) → 1 ≤ n → if_positive n ≡ Some n
if_positive-is n some = cond-false (n == 0) None (Some n) (ne_eqb n 0 (λ h. absurd (omega arith)))

pub positive_number-Some : (text : List ℕ) (n : ℕ) → positive_number text ≡ Some n → IsPositive text n
unfolding positive_number
positive_number-Some text n e =
    let found = bound if_positive (number_of text) n e in
    let parts = positive_parts found.0 n found.2 in
    record { number = subst (IsNumber text) parts.0 (number_of-spells text found.0 found.1); least = parts.1 }

pub positive_number-is : (text : List ℕ) (n : ℕ) → IsNumber text n → 1 ≤ n → positive_number text ≡ Some n
unfolding positive_number
positive_number-is text n is some = ap (option_and_then if_positive) (number_of-spelled text n is) ∙ if_positive-is n some

-- the first and last bytes of a tempo without a text, and the bytes that it does not contain
pub record IsPlain (text : List ℕ) : Type 0 where
  pub some : 1 ≤ length text
  pub no_quote : HasNoByte 34 text
  pub begins : prefix_len is_blank text ≡ 0
  pub ends : suffix_len is_blank text ≡ 0

blank_other : (byte b : ℕ) → 32 < byte → is_blank b ≡ true → not (b == byte) ≡ true
blank_other byte b high h = grind (arith, nat_tests)

number_visible : (text : List ℕ) (n : ℕ) → IsNumber text n → AllPass (λ b. not (is_blank b)) text
number_visible text n is = number_bytes (λ b. not (is_blank b)) digit_visible text n is

number_without : (byte : ℕ) → byte < 48 ⊎ 57 < byte → (text : List ℕ) (n : ℕ) → IsNumber text n → HasNoByte byte text
number_without byte other text n is = number_bytes (λ b. not (b == byte)) (λ b. digit_other byte b other) text n is

no_front : (p : ℕ → Bool) (text : List ℕ) → prefix_len p (text ++ []) ≡ 0 → prefix_len p text ≡ 0
no_front p text h = ap (prefix_len p) (sym (append-nil text)) ∙ h

units_IsPlain : (text : List ℕ) (n : ℕ) → IsNumber text n → IsPlain text
units_IsPlain text n is = record {
  some = is.some;
  no_quote = number_without 34 (inl (omega arith)) text n is;
  begins = no_front is_blank text (front_other is_blank text [] (number_visible text n is) is.some);
  ends = back_other [] text (number_visible text n is) is.some;
}

front_without : (byte : ℕ) → byte < 48 ⊎ 57 < byte → not (47 == byte) ≡ true → 32 < byte → (text : List ℕ) (sum : ℕ) → IsSum 16 text sum → HasNoByte byte text
front_without byte other slash high text sum is = sum_bytes (λ b. not (b == byte)) (λ b. digit_other byte b other) slash (λ b. blank_other byte b high) 16 text sum is

beats_IsPlain : (text : List ℕ) (beat : Ratio) (n : ℕ) → IsBeats text beat n → IsPlain text
beats_IsPlain text beat n is =
    let following = 61 ∷ (is.gap ++ is.number) in
    let begins = sum_begins 16 is.front is.sum is.front_is following in
    let long = ap length is.spelling ∙ length-append is.front following in
    let split : text ≡ (is.front ++ 61 ∷ is.gap) ++ is.number = is.spelling ∙ sym (append_assoc is.front (61 ∷ is.gap) is.number) in
    record {
      some = omega (arith, long);
      no_quote = subst (HasNoByte 34) (sym is.spelling)
          (All-append (λ b. not (b == 34) ≡ true) is.front following (front_without 34 (inl (omega arith)) refl (omega arith) is.front is.sum is.front_is)
          (All-cons (λ b. not (b == 34) ≡ true) 61 (is.gap ++ is.number) refl
          (All-append (λ b. not (b == 34) ≡ true) is.gap is.number
          (All-weaker (λ b. is_blank b ≡ true) (λ b. not (b == 34) ≡ true) (λ b. blank_other 34 b (omega arith)) is.gap is.gap_is)
          (number_without 34 (inl (omega arith)) is.number n is.number_is))));
      begins = ap (prefix_len is_blank) is.spelling ∙ begins.0;
      ends = ap (suffix_len is_blank) split ∙ back_other (is.front ++ 61 ∷ is.gap) is.number (number_visible is.number n is.number_is) is.number_is.some;
    }

pub bare_IsPlain : (text : List ℕ) (m : Tempo) → IsBareTempo text m → IsPlain text
bare_IsPlain text Unset is = absurd is
bare_IsPlain text (Units n) is = units_IsPlain text n is.0
bare_IsPlain text (Beat beat n) is = beats_IsPlain text beat n is

-- a tempo without a text
units_found : (text : List ℕ) (m : Tempo) → option_map (λ n. Units n) (positive_number text) ≡ Some m → IsBareTempo text m
units_found text m e =
    let number = map_some {A = ℕ} (λ n. Units n) (positive_number text) m e in
    let is = positive_number-Some text number.0 number.1 in
    subst (IsBareTempo text) (sym number.2) (is.number, is.least)

beats_found : (text : List ℕ) (m : Tempo) (parts : List ℕ × List ℕ) (sum : ℕ) → IsCut 61 text parts.0 parts.1 → IsSum 16 parts.0 sum
    → beats sum (positive_number (trim_start parts.1)) ≡ Some m → IsBareTempo text m
beats_found text m parts sum cut front e =
    let number = map_some {A = ℕ} (λ n. Beat (lowest_terms sum) n) (positive_number (trim_start parts.1)) m e in
    let is = positive_number-Some (trim_start parts.1) number.0 number.1 in
    let trim_blanks = trim_start-parts parts.1 in
    let terms = lowest_is sum in
    subst (IsBareTempo text) (sym number.2) (record {
      front = parts.0;
      gap = trim_blanks.0;
      number = trim_start parts.1;
      sum = sum;
      spelling = cut.spelling ∙ ap (λ l. parts.0 ++ 61 ∷ l) trim_blanks.1;
      front_is = front;
      gap_is = trim_blanks.2;
      number_is = is.number;
      number_least = is.least;
      value = terms.value;
      lowest_is = IsLowest-halve 9 sum (lowest_terms sum) terms;
    })

bare_found : (text : List ℕ) (m : Tempo) (o : Option (List ℕ × List ℕ)) → cut_at 61 text ≡ o → bare_by text o ≡ Some m → IsBareTempo text m
bare_found text m None cut e = units_found text m e
bare_found text m (Some parts) cut e =
    let found = bound (λ sum. beats sum (positive_number (trim_start parts.1))) (sum_of 16 parts.0) m e in
    beats_found text m parts found.0 (cut_at-cuts 61 text parts cut) (sum_of-Some 16 parts.0 found.0 found.1) found.2

pub bare_tempo-Some : (text : List ℕ) (m : Tempo) → bare_tempo text ≡ Some m → IsBareTempo text m
unfolding bare_tempo
bare_tempo-Some text m e = bare_found text m (cut_at 61 text) refl e

pub bare_tempo-is : (text : List ℕ) (m : Tempo) → IsBareTempo text m → bare_tempo text ≡ Some m
unfolding bare_tempo
bare_tempo-is text Unset is = absurd is
bare_tempo-is text (Units n) is =
    ap (bare_by text) (cut_at-none 61 text (number_without 61 (inr (omega arith)) text n is.0)) ∙ ap (option_map (λ n. Units n)) (positive_number-is text n is.0 is.1)
bare_tempo-is text (Beat beat n) is =
    let clean = front_without 61 (inr (omega arith)) refl (omega arith) is.front is.sum is.front_is in
    let cut : cut_at 61 text ≡ Some (is.front, is.gap ++ is.number) = ap (cut_at 61) is.spelling ∙ cut_at-found 61 is.front (is.gap ++ is.number) clean in
    let visible : prefix_len is_blank is.number ≡ 0 = no_front is_blank is.number (front_other is_blank is.number [] (number_visible is.number n is.number_is) is.number_is.some) in
    let number : positive_number (trim_start (is.gap ++ is.number)) ≡ Some n =
    ap positive_number (trim_start-gap is.gap is.number is.gap_is visible) ∙ positive_number-is is.number n is.number_is is.number_least in
    let same : beat ≡ lowest_terms is.sum = lowest_terms-one is.sum beat is.value is.lowest_is in
    ap (bare_by text) cut
    ∙ ap (option_and_then (λ sum. beats sum (positive_number (trim_start (is.gap ++ is.number))))) (sum_of-is 16 is.front is.sum is.front_is)
    ∙ ap (beats is.sum) number ∙ ap (λ r. Some (Beat r n)) (sym same)

-- a quoted text, and the texts around it
quoted_is : (inside : List ℕ) → HasNoByte 34 inside → IsQuoted (34 ∷ (inside ++ 34 ∷ []))
quoted_is inside h = record { inside = inside; spelling = refl; no_quote = h }

around_found : (text before inside following : List ℕ) (m : Tempo) → text ≡ before ++ 34 ∷ (inside ++ 34 ∷ following) → HasNoByte 34 inside → tempo_around before following ≡ Some m → IsTempo text m
unfolding tempo_around
around_found text [] inside [] m e h f = text_alone (record { inside = inside; spelling = e; no_quote = h }) (sym (same_Some Unset m f))
around_found text [] inside (b ∷ bs) m e h f =
    let trim_blanks = trim_start-parts (b ∷ bs) in
    after_text (record {
      quoted = 34 ∷ (inside ++ 34 ∷ []);
      gap = trim_blanks.0;
      tempo = trim_start (b ∷ bs);
      spelling = e ∙ ap (λ l. 34 ∷ l) (sym (append_assoc inside (34 ∷ []) (b ∷ bs))) ∙ ap (λ l. 34 ∷ ((inside ++ 34 ∷ []) ++ l)) trim_blanks.1;
      quoted_is = quoted_is inside h;
      gap_is = trim_blanks.2;
      tempo_is = bare_tempo-Some (trim_start (b ∷ bs)) m f;
    })
around_found text (b ∷ bs) inside [] m e h f =
    let trim_blanks = trim_end-parts (b ∷ bs) in
    before_text (record {
      tempo = trim_end (b ∷ bs);
      gap = trim_blanks.0;
      quoted = 34 ∷ (inside ++ 34 ∷ []);
      spelling = e ∙ ap (λ l. l ++ 34 ∷ (inside ++ 34 ∷ [])) trim_blanks.1 ∙ append_assoc (trim_end (b ∷ bs)) trim_blanks.0 (34 ∷ (inside ++ 34 ∷ []));
      tempo_is = bare_tempo-Some (trim_end (b ∷ bs)) m f;
      gap_is = trim_blanks.2;
      quoted_is = quoted_is inside h;
    })
around_found text (b ∷ bs) inside (d ∷ ds) m e h f = cc

value_found : (text : List ℕ) (m : Tempo) (o : Option (List ℕ × List ℕ)) → cut_at 34 text ≡ o → tempo_by text o ≡ Some m → IsTempo text m
value_found text m None cut e = without_text (bare_tempo-Some text m e)
value_found text m (Some parts) cut e =
    let found = bound (λ (more : List ℕ × List ℕ). tempo_around parts.0 more.1) (cut_at 34 parts.1) m e in
    let more : List ℕ × List ℕ = found.0 in
    let first = cut_at-cuts 34 text parts cut in
    let second = cut_at-cuts 34 parts.1 more found.1 in
    around_found text parts.0 more.0 more.1 m (first.spelling ∙ ap (λ l. parts.0 ++ 34 ∷ l) second.spelling) second.first found.2

tempo_in-Some : (text : List ℕ) (m : Tempo) → tempo_in text ≡ Some m → IsTempo text m
unfolding tempo_in
tempo_in-Some [] m e = empty refl (sym (same_Some Unset m e))
tempo_in-Some (b ∷ bs) m e = value_found (b ∷ bs) m (cut_at 34 (b ∷ bs)) refl e

-- the other way
tempo_in-by : (text : List ℕ) → 1 ≤ length text → tempo_in text ≡ tempo_by text (cut_at 34 text)
unfolding tempo_in
tempo_in-by [] some = absurd (omega arith)
tempo_in-by (b ∷ bs) some = refl

around_is : (text before inside following : List ℕ) (m : Tempo) → text ≡ before ++ 34 ∷ (inside ++ 34 ∷ following) → HasNoByte 34 before → HasNoByte 34 inside → tempo_around before following ≡ Some m
    → tempo_in text ≡ Some m
around_is text before inside following m e h g f =
    let long = ap length e ∙ length-append before (34 ∷ (inside ++ 34 ∷ following)) in
    let first : cut_at 34 text ≡ Some (before, inside ++ 34 ∷ following) = ap (cut_at 34) e ∙ cut_at-found 34 before (inside ++ 34 ∷ following) h in
    let some : 1 ≤ length text = omega (arith, long) in
    tempo_in-by text some ∙ ap (tempo_by text) first
    ∙ ap (option_and_then (λ (more : List ℕ × List ℕ). tempo_around before more.1)) (cut_at-found 34 inside following g) ∙ f

around_after : (following : List ℕ) → 1 ≤ length following → tempo_around [] following ≡ bare_tempo (trim_start following)
unfolding tempo_around
around_after [] some = absurd (omega arith)
around_after (b ∷ bs) some = refl

around_before : (before : List ℕ) → 1 ≤ length before → tempo_around before [] ≡ bare_tempo (trim_end before)
unfolding tempo_around
around_before [] some = absurd (omega arith)
around_before (b ∷ bs) some = refl

around_nothing : tempo_around [] [] ≡ Some Unset
unfolding tempo_around
around_nothing = refl

tempo_in-nothing : tempo_in [] ≡ Some Unset
unfolding tempo_in
tempo_in-nothing = refl

after_is : (text : List ℕ) (m : Tempo) → IsAfterText text m → tempo_in text ≡ Some m
after_is text m is =
    let q = is.quoted_is in
    let plain = bare_IsPlain is.tempo m is.tempo_is in
    let following = is.gap ++ is.tempo in
    let spelling : text ≡ 34 ∷ (q.inside ++ 34 ∷ following) = is.spelling ∙ ap (λ l. l ++ following) q.spelling ∙ ap (λ l. 34 ∷ l) (append_assoc q.inside (34 ∷ []) following) in
    let some : 1 ≤ length following = omega (arith, plain.some, length-append is.gap is.tempo) in
    around_is text [] q.inside following m spelling (All-nil _) q.no_quote
    (around_after following some ∙ ap bare_tempo (trim_start-gap is.gap is.tempo is.gap_is plain.begins) ∙ bare_tempo-is is.tempo m is.tempo_is)

before_is : (text : List ℕ) (m : Tempo) → IsBeforeText text m → tempo_in text ≡ Some m
before_is text m is =
    let q = is.quoted_is in
    let plain = bare_IsPlain is.tempo m is.tempo_is in
    let before = is.tempo ++ is.gap in
    let spelling : text ≡ before ++ 34 ∷ (q.inside ++ 34 ∷ []) = is.spelling ∙ ap (λ l. is.tempo ++ (is.gap ++ l)) q.spelling ∙ sym (append_assoc is.tempo is.gap (34 ∷ (q.inside ++ 34 ∷ []))) in
    let some : 1 ≤ length before = omega (arith, plain.some, length-append is.tempo is.gap) in
    let no_quote : HasNoByte 34 before = All-append (λ b. not (b == 34) ≡ true) is.tempo is.gap plain.no_quote
    (All-weaker (λ b. is_blank b ≡ true) (λ b. not (b == 34) ≡ true) (λ b. blank_other 34 b (omega arith)) is.gap is.gap_is) in
    around_is text before q.inside [] m spelling no_quote q.no_quote
    (around_before before some ∙ ap bare_tempo (trim_end-gap is.tempo is.gap is.gap_is plain.ends) ∙ bare_tempo-is is.tempo m is.tempo_is)

tempo_in-is : (text : List ℕ) (m : Tempo) → IsTempo text m → tempo_in text ≡ Some m
tempo_in-is text m (empty e f) = ap tempo_in e ∙ tempo_in-nothing ∙ ap Some (sym f)
tempo_in-is text m (text_alone q f) = around_is text [] q.inside [] m q.spelling (All-nil _) q.no_quote (around_nothing ∙ ap Some (sym f))
tempo_in-is text m (without_text is) =
    let plain = bare_IsPlain text m is in
    tempo_in-by text plain.some ∙ ap (tempo_by text) (cut_at-none 34 text plain.no_quote) ∙ bare_tempo-is text m is
tempo_in-is text m (after_text is) = after_is text m is
tempo_in-is text m (before_text is) = before_is text m is

-- the ranges of a tempo
beat_range : (sum : ℕ) (beat : Ratio) → IsWithin sum (16 * 262144) → IsHalved 9 sum (lowest_terms sum) → beat ≡ lowest_terms sum → IsRatio beat
beat_range sum beat within terms same = subst IsRatio (sym same) (record {
  num_least = terms.num_least within.least;
  num_most = omega (arith, terms.num_most, within.most);
  den_least = terms.den_least;
  den_most = omega (arith, terms.den_most);
})

bare_range : (text : List ℕ) (m : Tempo) → IsBareTempo text m → IsInRange m
bare_range text Unset is = tt
bare_range text (Units n) is = (is.1, number_small text n is.0)
bare_range text (Beat beat n) is =
    (beat_range is.sum beat (sum_within 16 is.front is.sum is.front_is) (lowest_is is.sum) (lowest_terms-one is.sum beat is.value is.lowest_is), is.number_least, number_small is.number n is.number_is)

range : (text : List ℕ) (m : Tempo) → IsTempo text m → IsInRange m
range text m (empty e f) = subst IsInRange (sym f) tt
range text m (text_alone q f) = subst IsInRange (sym f) tt
range text m (without_text is) = bare_range text m is
range text m (after_text is) = bare_range is.tempo m is.tempo_is
range text m (before_text is) = bare_range is.tempo m is.tempo_is

-- the reader answers the tempo
pub tempo_read : (text : List ℕ) (r : Result Tempo FaultCode) → r ≡ tempo_of text → Reads (IsTempo text) IsInRange BadTempo r
unfolding tempo_of
tempo_read text = reads (IsTempo text) IsInRange BadTempo (tempo_in text) (tempo_in-Some text) (tempo_in-is text) (range text)
