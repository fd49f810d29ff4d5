-- The token between delimiters, or the inline field, at the front of a text is the one that the grammar has there.
use Rattle.std.proofs.Common.{◌≡◌, ℕ, suc, ◌+◌, Some, None, List, [], ◌∷◌, ◌++◌, length, take, refl, sym, ap, ◌∙◌, inl, inr, ⊎_elim, arith, append_assoc, length-append, zero, true}
use Rattle.std.specs.Prelude.{IfSome}
use Rattle.std.specs.Option.{option_map}
use Rattle.abc_text.specs.Cut.{HasNoByte}
use Rattle.abc_scan.specs.Byte.{quote, exclamation, opening_brace, closing_brace, opening_bracket, closing_bracket, colon}
use Rattle.abc_scan.specs.KnownAbsent.{place_of}
use Rattle.abc_scan.specs.Delimited.{AreDelimiters, IsDelimited, closed_by, delimited_at}
use Rattle.abc_scan.proofs.Closings.{IsFirst, place_of-first, place-sound, closed_front, is_other}
use Rattle.abc_scan.proofs.Readings.{IsSized, mapped, byte_first, Finds, IsSpelled, byte_and}
use Rattle.std.specs.Char.{is_ascii_alphabetic}
use Rattle.std.proofs.lemmas.Bool.{cond-true, eqb-true, ne_eqb, and_parts, and_from, not_from_false, false≢true}
use Rattle.std.proofs.lemmas.List.Elements.{All-cons, All-tail}
use Rattle.abc_scan.specs.declared.field.Field.{Field}
use Rattle.abc_scan.specs.Field.{begins_field, field_of}
use Rattle.abc_scan.specs.InlineField.{IsInlineField, closed_field, inline_field_at}
use Rattle.abc_text.proofs.Fronts.{take_exact}

closed_read : (closing : ℕ) (inside rest : List ℕ) → HasNoByte closing inside → closed_by closing (inside ++ closing ∷ rest) ≡ Some (length inside + 2)
closed_read closing inside rest lacks = ap (option_map (λ place. place + 2)) (place_of-first closing inside rest lacks)

opened_read : (opening closing : ℕ) (rest : List ℕ) → AreDelimiters opening closing → delimited_at (opening ∷ rest) ≡ closed_by closing rest
unfolding delimited_at
opened_read opening closing rest is = ⊎_elim
    (λ quotes. (λ i. delimited_at (quotes.0 i ∷ rest)) ∙ ap (λ b. closed_by b rest) (sym quotes.1))
    (λ other. ⊎_elim
    (λ marks. (λ i. delimited_at (marks.0 i ∷ rest)) ∙ ap (λ b. closed_by b rest) (sym marks.1))
    (λ braces. (λ i. delimited_at (braces.0 i ∷ rest)) ∙ ap (λ b. closed_by b rest) (sym braces.1))
    other)
    is

-- a front between delimiters is read, whatever follows it: no text has two of them
pub delimited_longest : (front rest : List ℕ) → IsDelimited front → delimited_at (front ++ rest) ≡ Some (length front)
delimited_longest front rest is =
    let long : length is.inside + 2 ≡ length front = omega (arith, ap length is.spelling, length-append is.inside (is.closing ∷ [])) in
    ap (λ l. delimited_at (l ++ rest)) is.spelling
    ∙ ap (λ l. delimited_at (is.opening ∷ l)) (append_assoc is.inside (is.closing ∷ []) rest)
    ∙ opened_read is.opening is.closing (is.inside ++ is.closing ∷ rest) is.delimiters
    ∙ closed_read is.closing is.inside rest is.first_closing
    ∙ ap Some long

-- the token read is one of the grammar
closed_here : (opening closing : ℕ) (rest : List ℕ) (place : ℕ) → AreDelimiters opening closing → IsFirst closing rest place → IsSized IsDelimited (opening ∷ rest) (place + 2)
closed_here opening closing rest place delimiters first =
    let closed = closed_front closing rest place first in
    let sum : place + 2 ≡ suc (place + 1) = omega arith in (
      record { some = omega arith; inside = omega (arith, closed.0) },
      record {
        opening = opening;
        inside = take place rest;
        closing = closing;
        spelling = ap (λ n. take n (opening ∷ rest)) sum ∙ ap (λ l. opening ∷ l) closed.1;
        delimiters = delimiters;
        first_closing = first.lacks;
      },
    )

closed_sound : (opening closing : ℕ) (rest : List ℕ) → AreDelimiters opening closing → IfSome (closed_by closing rest) (IsSized IsDelimited (opening ∷ rest))
closed_sound opening closing rest delimiters =
    mapped (IsFirst closing rest) (IsSized IsDelimited (opening ∷ rest)) (λ place. place + 2) (place_of closing rest) (λ place first. closed_here opening closing rest place delimiters first)
    (place-sound closing rest)

pub delimited_sound : (text : List ℕ) → IfSome (delimited_at text) (IsSized IsDelimited text)
unfolding delimited_at
delimited_sound [] = tt
delimited_sound (b ∷ rest) =
    byte_first (IsSized IsDelimited) quote b rest (closed_by quote rest) _ (closed_sound quote quote rest (inl (refl, refl)))
    (byte_first (IsSized IsDelimited) exclamation b rest (closed_by exclamation rest) _ (closed_sound exclamation exclamation rest (inr (inl (refl, refl))))
    (byte_first (IsSized IsDelimited) opening_brace b rest (closed_by closing_brace rest) None (closed_sound opening_brace closing_brace rest (inr (inr (refl, refl)))) tt))

-- a letter is no bracket
letter_other : (letter : ℕ) → is_ascii_alphabetic letter ≡ true → is_other closing_bracket letter ≡ true
letter_other letter h = not_from_false _ (ne_eqb letter closing_bracket (λ e. false≢true (sym (ap is_ascii_alphabetic e) ∙ h)))

field_lacks : (letter : ℕ) (following : List ℕ) → is_ascii_alphabetic letter ≡ true → HasNoByte closing_bracket following → HasNoByte closing_bracket (letter ∷ colon ∷ following)
field_lacks letter following h lacks =
    All-cons (λ b. is_other closing_bracket b ≡ true) letter (colon ∷ following) (letter_other letter h) (All-cons (λ b. is_other closing_bracket b ≡ true) colon following refl lacks)

inline_read : (letter : ℕ) (following rest : List ℕ) → is_ascii_alphabetic letter ≡ true → HasNoByte closing_bracket following
    → inline_field_at (opening_bracket ∷ letter ∷ colon ∷ (following ++ closing_bracket ∷ rest)) ≡ Some (field_of (letter ∷ colon ∷ following), length following + 4)
unfolding inline_field_at
inline_read letter following rest h lacks =
    let own = letter ∷ colon ∷ following in
    let found : place_of closing_bracket (own ++ closing_bracket ∷ rest) ≡ Some (length own) = place_of-first closing_bracket own rest (field_lacks letter following h lacks) in
    let text : take (length own) (own ++ closing_bracket ∷ rest) ≡ own = take_exact (length own) own (closing_bracket ∷ rest) refl in
    let size : length own + 2 ≡ length following + 4 = omega arith in
    cond-true _ _ _ (and_from _ _ refl (and_from _ _ h refl))
    ∙ ap (option_map (λ place. (field_of (take place (own ++ closing_bracket ∷ rest)), place + 2))) found
    ∙ (λ i. Some (field_of (text i), size i))

pub inline_field_longest : (front rest : List ℕ) (field : Field) → IsInlineField front field → Finds (inline_field_at (front ++ rest)) front field
inline_field_longest front rest field is =
    let parts = ap (λ l. l ++ rest) is.spelling ∙ ap (λ l. opening_bracket ∷ field.letter ∷ colon ∷ l) (append_assoc is.following (closing_bracket ∷ []) rest) in
    record {
      found = field_of (field.letter ∷ colon ∷ is.following);
      size = length is.following + 4;
      is_read = ap inline_field_at parts ∙ inline_read field.letter is.following rest is.letter_is is.first_closing;
      long = omega (arith, ap length is.spelling, length-append is.following (closing_bracket ∷ []));
      same = λ _. (λ i. record { letter = field.letter; value = is.value_is i });
    }

-- the field read is one of the grammar
inline_here : (letter sign : ℕ) (rest : List ℕ) (place : ℕ) → is_ascii_alphabetic letter ≡ true → sign ≡ colon → IsFirst closing_bracket (letter ∷ sign ∷ rest) place
    → IsSpelled IsInlineField (opening_bracket ∷ letter ∷ sign ∷ rest) (field_of (take place (letter ∷ sign ∷ rest)), place + 2)
inline_here letter sign rest zero alphabetic is_colon first =
    let e : letter ≡ closing_bracket = (let cut : letter ∷ sign ∷ rest ≡ closing_bracket ∷ first.following = first.cut in cc) in
    absurd (false≢true (sym (ap is_ascii_alphabetic e) ∙ alphabetic))
inline_here letter sign rest (suc zero) alphabetic is_colon first =
    let e : sign ≡ closing_bracket = (let cut : letter ∷ sign ∷ rest ≡ letter ∷ closing_bracket ∷ first.following = first.cut in cc) in
    absurd (omega arith)
inline_here letter sign rest (suc (suc k)) alphabetic is_colon first =
    let text = letter ∷ sign ∷ rest in
    let closed = closed_front closing_bracket text (suc (suc k)) first in
    let sum : suc (suc k) + 2 ≡ suc (suc (suc k) + 1) = omega arith in (
      record { some = omega arith; inside = omega (arith, closed.0) },
      record {
        following = take k rest;
        spelling = ap (λ n. take n (opening_bracket ∷ text)) sum ∙ ap (λ l. opening_bracket ∷ l) closed.1 ∙ ap (λ x. opening_bracket ∷ letter ∷ x ∷ (take k rest ++ closing_bracket ∷ [])) is_colon;
        letter_is = alphabetic;
        first_closing = All-tail (λ b. is_other closing_bracket b ≡ true) sign (take k rest) (All-tail (λ b. is_other closing_bracket b ≡ true) letter (sign ∷ take k rest) first.lacks);
        value_is = refl;
      },
    )

inline_begun : (inside : List ℕ) → begins_field inside ≡ true → IfSome (closed_field inside) (IsSpelled IsInlineField (opening_bracket ∷ inside))
inline_begun [] begins = cc
inline_begun (letter ∷ []) begins = cc
inline_begun (letter ∷ sign ∷ rest) begins =
    let text = letter ∷ sign ∷ rest in
    let parts = and_parts _ _ begins in
    mapped (IsFirst closing_bracket text) (IsSpelled IsInlineField (opening_bracket ∷ text)) (λ place. (field_of (take place text), place + 2)) (place_of closing_bracket text)
    (λ place first. inline_here letter sign rest place parts.0 (eqb-true sign colon parts.1) first)
    (place-sound closing_bracket text)

pub inline_field_sound : (text : List ℕ) → IfSome (inline_field_at text) (IsSpelled IsInlineField text)
unfolding inline_field_at
inline_field_sound [] = tt
inline_field_sound (b ∷ inside) = byte_and (IsSpelled IsInlineField) opening_bracket b inside (begins_field inside) (closed_field inside) (λ begins. inline_begun inside begins)
