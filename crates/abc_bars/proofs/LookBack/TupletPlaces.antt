-- The tuplet that looking back finds is that of the last accepted mark, as long as fewer than r time tokens follow it.
use Rattle.std.proofs.Common.{◌≡◌, ◌∙◌, ℕ, ◌+◌, ◌-◌, ◌<◌, ◌≤◌, ◌==◌, Bool, true, false, cond, List, [], ◌∷◌, length, Option, Some, None, unwrap_or, refl, sym, ap, subst, inl, inr, ⊎_elim, arith}
use Rattle.std.specs.Prelude.{All, IfSome, ◌≢◌, ◌&&◌, ◌||◌, filter, nat_le, nat_lt}
use Rattle.std.proofs.lemmas.Bool.{and_from, and_parts, cases_lt, cond-false, cond-true, cond_both, eq-eqb, eqb-true, false_from_ne_true, le-leb, le-ltb, leb-true, lt-ltb, ltb-true, ne_eqb, or_cases}
use Rattle.std.proofs.lemmas.Bool.{or_from, or_left, or_right}
use Rattle.std.proofs.lemmas.List.Elements.{All-cons, All-nil}
use Rattle.abc_fields.specs.declared.meter.Meter.{Meter}
use Rattle.abc_fields.specs.declared.meter.Meter.TheVariants.{Free, Of}
use Rattle.abc_scan.specs.declared.token.TokenKind.{TokenKind}
use Rattle.abc_scan.specs.declared.token.TokenKind.TheVariants as kinds
use Rattle.abc_scan.specs.declared.tuplet.Tuplet.{Tuplet}
use Rattle.abc_bars_notes.specs.Broken.{is_time_token}
use Rattle.abc_bars_voice.specs.declared.voice_state.VoiceState.{VoiceState}
use Rattle.abc_bars_voice.specs.declared.tuplet.TheConstants.{LARGEST_TUPLET_NUMBER}
use Rattle.abc_bars_voice.specs.Tuplet.{IsOpen, IsTupletNumber, OpenTuplet, default_q, is_compound, is_tuplet_number}
use Rattle.abc_bars.specs.LookBack.Element.{Element}
use Rattle.abc_bars.specs.LookBack.TupletPlaces.{IsAccepted, IsAcceptedMark, IsCompound, IsLastMark, IsSizeOf, IsTimeOf, IsTupletAt, IsUsualTime, TupletsByMarks, inside, is_time, no_mark, past}
use Rattle.abc_bars.specs.LookBack.TupletPlaces.{time_count}
use Rattle.abc_bars.specs.LookBack.Voice.{left_after, meter_at, one_more_if, voice_state_at, tuplet_at, tuplet_from, tuplet_or, tuplet_said}

-- Numbers that a tuplet may have.
number-of : (n : ℕ) → is_tuplet_number n ≡ true → IsTupletNumber n
number-of n is =
    let both = and_parts (nat_le 1 n) (nat_le n LARGEST_TUPLET_NUMBER) is in
    record { least = leb-true 1 n both.0; most = leb-true n LARGEST_TUPLET_NUMBER both.1 }

number-is : (n : ℕ) → IsTupletNumber n → is_tuplet_number n ≡ true
number-is n is = and_from (nat_le 1 n) (nat_le n LARGEST_TUPLET_NUMBER) (le-leb 1 n is.least) (le-leb n LARGEST_TUPLET_NUMBER is.most)

-- q that is not written.
compound-is : (meter : Meter) → IsCompound meter → is_compound meter ≡ true
compound-is Free is = absurd is
compound-is (Of num den) is =
    and_from (den == 8) ((num == 6) || (num == 9) || (num == 12)) (eq-eqb den 8 is.0)
    (⊎_elim
    (λ six. or_left ((num == 6) || (num == 9)) (num == 12) (or_left (num == 6) (num == 9) (eq-eqb num 6 six)))
    (⊎_elim
    (λ nine. or_left ((num == 6) || (num == 9)) (num == 12) (or_right (num == 6) (num == 9) (eq-eqb num 9 nine)))
    (λ twelve. or_right ((num == 6) || (num == 9)) (num == 12) (eq-eqb num 12 twelve)))
    is.1)

is-compound : (meter : Meter) → is_compound meter ≡ true → IsCompound meter
is-compound Free is = absurd (cc)
is-compound (Of num den) is =
    let both = and_parts (den == 8) ((num == 6) || (num == 9) || (num == 12)) is in (
      eqb-true den 8 both.0,
      ⊎_elim
          (λ first. ⊎_elim (λ six. inl (eqb-true num 6 six)) (λ nine. inr (inl (eqb-true num 9 nine))) (or_cases (num == 6) (num == 9) first))
          (λ twelve. inr (inr (eqb-true num 12 twelve)))
          (or_cases ((num == 6) || (num == 9)) (num == 12) both.1),
    )

-- One of three choices.
abbrev Chosen : Bool → Bool → Bool → ℕ
Chosen a b c = cond a 3 (cond b 2 (cond c 3 2))

chosen-number : (a b c : Bool) → is_tuplet_number (Chosen a b c) ≡ true
chosen-number true b c = refl
chosen-number false true c = refl
chosen-number false false true = refl
chosen-number false false false = refl

chosen-last : (a b c : Bool) → a ≡ false → b ≡ false → Chosen a b c ≡ cond c 3 2
chosen-last a b c no_a no_b = cond-false a 3 (cond b 2 (cond c 3 2)) no_a ∙ cond-false b 2 (cond c 3 2) no_b

usual-number : (meter : Meter) (p : ℕ) → is_tuplet_number (default_q meter p) ≡ true
usual-number meter p = chosen-number ((p == 2) || (p == 4) || (p == 8)) ((p == 3) || (p == 6)) (is_compound meter)

usual-last : (meter : Meter) (p : ℕ) → p ≢ 2 → p ≢ 3 → p ≢ 4 → p ≢ 6 → p ≢ 8 → default_q meter p ≡ cond (is_compound meter) 3 2
usual-last meter p no_2 no_3 no_4 no_6 no_8 =
    chosen-last ((p == 2) || (p == 4) || (p == 8)) ((p == 3) || (p == 6)) (is_compound meter)
    (or_from ((p == 2) || (p == 4)) (p == 8) (or_from (p == 2) (p == 4) (ne_eqb p 2 no_2) (ne_eqb p 4 no_4)) (ne_eqb p 8 no_8))
    (or_from (p == 3) (p == 6) (ne_eqb p 3 no_3) (ne_eqb p 6 no_6))

usual : (meter : Meter) (p : ℕ) → IsUsualTime meter p (default_q meter p)
usual meter p = record {
  three = ⊎_elim (λ two. ap (default_q meter) two) (⊎_elim (λ four. ap (default_q meter) four) (λ eight. ap (default_q meter) eight));
  two = ⊎_elim (λ three. ap (default_q meter) three) (λ six. ap (default_q meter) six);
  compound = λ no_2 no_3 no_4 no_6 no_8 is.
      usual-last meter p no_2 no_3 no_4 no_6 no_8 ∙ cond-true (is_compound meter) 3 2 (compound-is meter is);
  simple = λ no_2 no_3 no_4 no_6 no_8 not.
      usual-last meter p no_2 no_3 no_4 no_6 no_8
      ∙ cond-false (is_compound meter) 3 2 (false_from_ne_true (is_compound meter) (λ is. not (is-compound meter is)));
}

time-of : (meter : Meter) (p : ℕ) (written : Option ℕ) → IsTimeOf meter p written (unwrap_or written (default_q meter p))
time-of meter p (Some q) = refl
time-of meter p None = usual meter p

size-of : (p : ℕ) (written : Option ℕ) → IsSizeOf p written (unwrap_or written p)
size-of p (Some r) = refl
size-of p None = refl

-- A written number is the one that counts.
written-is : (written : Option ℕ) (other n : ℕ) → IsTupletNumber (unwrap_or written other) → written ≡ Some n → IsTupletNumber n
written-is written other n is e = subst IsTupletNumber (ap (λ (o : Option ℕ). unwrap_or o other) e) is

number-or : (written : Option ℕ) (other : ℕ) → ((n : ℕ) → written ≡ Some n → IsTupletNumber n) → is_tuplet_number other ≡ true
    → is_tuplet_number (unwrap_or written other) ≡ true
number-or (Some n) other each is = number-is n (each n refl)
number-or None other each is = is

-- What a token begins: the tuplet of an accepted mark, or none.
data Begins (meter : Meter) (kind : TokenKind) (begun : Option OpenTuplet) : Type 0 where
  a_tuplet : (mark : Tuplet) (q r : ℕ) → kind ≡ kinds.Tuplet mark → IsAccepted mark → IsTimeOf meter mark.p mark.q q → IsSizeOf mark.p mark.r r
      → IsTupletNumber q → IsTupletNumber r → begun ≡ Some (record { p = mark.p; q = q; left = r }) → Begins meter kind begun
  no_tuplet : ¬ IsAcceptedMark kind → begun ≡ None → Begins meter kind begun

module _ (meter : Meter) (mark : Tuplet) where
  abbrev q_of : ℕ
  q_of = unwrap_or mark.q (default_q meter mark.p)

  abbrev r_of : ℕ
  r_of = unwrap_or mark.r mark.p

  mark-begins : (b : Bool) → (is_tuplet_number mark.p && is_tuplet_number q_of && is_tuplet_number r_of) ≡ b
      → Begins meter (kinds.Tuplet mark) (cond b (Some (record { p = mark.p; q = q_of; left = r_of })) None)
  mark-begins true are =
      let both = and_parts (is_tuplet_number mark.p && is_tuplet_number q_of) (is_tuplet_number r_of) are in
      let front = and_parts (is_tuplet_number mark.p) (is_tuplet_number q_of) both.0 in
      let q_is : IsTupletNumber q_of = number-of q_of front.1 in
      let r_is : IsTupletNumber r_of = number-of r_of both.1 in
      a_tuplet mark q_of r_of refl
      (record {
        p_is = number-of mark.p front.0;
        q_is = λ n e. written-is mark.q (default_q meter mark.p) n q_is e;
        r_is = λ n e. written-is mark.r mark.p n r_is e;
      })
      (time-of meter mark.p mark.q) (size-of mark.p mark.r) q_is r_is refl
  mark-begins false are =
      no_tuplet
      (λ accepted.
      let p_is : is_tuplet_number mark.p ≡ true = number-is mark.p accepted.p_is in
      let all : (is_tuplet_number mark.p && is_tuplet_number q_of && is_tuplet_number r_of) ≡ true =
      and_from (is_tuplet_number mark.p && is_tuplet_number q_of) (is_tuplet_number r_of)
      (and_from (is_tuplet_number mark.p) (is_tuplet_number q_of) p_is (number-or mark.q (default_q meter mark.p) accepted.q_is (usual-number meter mark.p)))
      (number-or mark.r mark.p accepted.r_is p_is) in
      let no : false ≡ true = sym are ∙ all in absurd (cc))
      refl

token-begins : (meter : Meter) (kind : TokenKind) → Begins meter kind (tuplet_said meter kind)
token-begins meter (kinds.Tuplet mark) =
    mark-begins meter mark (is_tuplet_number mark.p && is_tuplet_number (q_of meter mark) && is_tuplet_number (r_of meter mark)) refl
token-begins meter _ = no_tuplet (λ is. is) refl

-- Time tokens are counted as they pass.
time-same : (kind : TokenKind) → is_time_token kind ≡ is_time kind
time-same (kinds.Note note) = refl
time-same (kinds.Rest length) = refl
time-same (kinds.Chord chord) = refl
time-same _ = refl

passed-on : (b : Bool) (token : Element) (times : List Element) (passed : ℕ)
    → length times + one_more_if b passed ≡ length (cond b (token ∷ times) times) + passed
passed-on true token times passed = omega arith
passed-on false token times passed = refl

one-counted : (token : Element) (since : List Element) (passed : ℕ)
    → time_count since + one_more_if (is_time_token token.kind) passed ≡ time_count (token ∷ since) + passed
one-counted token since passed =
    let times : List Element = filter (λ (t : Element). is_time t.kind) since in
    ap (λ (b : Bool). length times + one_more_if b passed) (time-same token.kind) ∙ passed-on (is_time token.kind) token times passed

-- No token is an accepted mark.
abbrev Unmarked : Element → Type 0
Unmarked token = ¬ IsAcceptedMark token.kind

-- What looking back finds after a number of time tokens.
data From (opening : Meter) (passed : ℕ) (before : List Element) (found : Option OpenTuplet) : Type 0 where
  from_mark : (mark : Tuplet) (q r : ℕ) (since : List Element) → IsLastMark opening before mark q r since → IsTupletNumber q → IsTupletNumber r
      → found ≡ left_after (time_count since + passed) (record { p = mark.p; q = q; left = r }) → From opening passed before found
  from_none : All Unmarked before → found ≡ None → From opening passed before found

still-last : (opening : Meter) (token : Element) (before : List Element) (mark : Tuplet) (q r : ℕ) (since : List Element) → ¬ IsAcceptedMark token.kind
    → IsLastMark opening before mark q r since → IsLastMark opening (token ∷ before) mark q r (token ∷ since)
still-last opening token before mark q r since unmarked is = record {
  tied = is.tied;
  earlier = is.earlier;
  split = ap (λ l. token ∷ l) is.split;
  accepted = is.accepted;
  q_is = is.q_is;
  r_is = is.r_is;
  none = All-cons Unmarked token since unmarked is.none;
}

from-earlier : (opening : Meter) (passed : ℕ) (token : Element) (before : List Element) (found : Option OpenTuplet) → ¬ IsAcceptedMark token.kind
    → From opening (one_more_if (is_time_token token.kind) passed) before found → From opening passed (token ∷ before) found
from-earlier opening passed token before found unmarked (from_mark mark q r since last q_is r_is e) =
    from_mark mark q r (token ∷ since) (still-last opening token before mark q r since unmarked last) q_is r_is
    (e ∙ ap (λ n. left_after n (record { p = mark.p; q = q; left = r })) (one-counted token since passed))
from-earlier opening passed token before found unmarked (from_none none e) = from_none (All-cons Unmarked token before unmarked none) e

from-token : (opening : Meter) (passed : ℕ) (token : Element) (before : List Element) (begun earlier : Option OpenTuplet)
    → Begins (meter_at opening before) token.kind begun → From opening (one_more_if (is_time_token token.kind) passed) before earlier
    → From opening passed (token ∷ before) (tuplet_or begun passed earlier)
from-token opening passed token before begun earlier (a_tuplet mark q r is accepted q_of_it r_of_it q_is r_is e) rest =
    let start : passed ≡ 0 + passed = omega arith in
    from_mark mark q r []
    (record {
      tied = token.tied;
      earlier = before;
      split = λ i. record { kind = is i; tied = token.tied } ∷ before;
      accepted = accepted;
      q_is = q_of_it;
      r_is = r_of_it;
      none = All-nil Unmarked;
    })
    q_is r_is
    (ap (λ (o : Option OpenTuplet). tuplet_or o passed earlier) e ∙ ap (λ n. left_after n (record { p = mark.p; q = q; left = r })) start)
from-token opening passed token before begun earlier (no_tuplet unmarked e) rest =
    subst (From opening passed (token ∷ before)) (sym (ap (λ (o : Option OpenTuplet). tuplet_or o passed earlier) e))
    (from-earlier opening passed token before earlier unmarked rest)

from-all : (opening : Meter) (passed : ℕ) (before : List Element) → From opening passed before (tuplet_from opening passed before)
from-all opening passed [] = from_none (All-nil Unmarked) refl
from-all opening passed (token ∷ before) =
    from-token opening passed token before (tuplet_said (meter_at opening before) token.kind)
    (tuplet_from opening (one_more_if (is_time_token token.kind) passed) before)
    (token-begins (meter_at opening before) token.kind) (from-all opening (one_more_if (is_time_token token.kind) passed) before)

-- The tuplet of a place.
at-place : (opening : Meter) (before : List Element) (found : Option OpenTuplet) → From opening 0 before found → IsTupletAt opening before found
at-place opening before found (from_none none e) = no_mark none e
at-place opening before found (from_mark mark q r since last q_is r_is e) =
    let count : ℕ = time_count since in
    let whole : OpenTuplet = record { p = mark.p; q = q; left = r } in
    let rest : OpenTuplet = record { p = mark.p; q = q; left = r - count } in
    let sum : count + 0 ≡ count = omega arith in
    let counted : found ≡ left_after count whole = e ∙ ap (λ n. left_after n whole) sum in
    ⊎_elim
    (λ fewer.
    let back : r - count + count ≡ r = omega (arith, fewer) in
    inside rest (record { mark = mark; r = r; since = since; last = last; p_is = refl; fewer = fewer; left = back })
    (counted ∙ cond-true (nat_lt count r) (Some rest) None (lt-ltb count r fewer)))
    (λ enough.
    past (record { mark = mark; q = q; r = r; since = since; last = last; enough = enough })
    (counted ∙ cond-false (nat_lt count r) (Some rest) None (le-ltb count r enough)))
    (cases_lt count r)

pub tuplets_by_marks : TupletsByMarks
unfolding voice_state_at tuplet_at
tuplets_by_marks opening before = at-place opening.meter before (tuplet_from opening.meter 0 before) (from-all opening.meter 0 before)

-- A tuplet that is open has numbers that a tuplet may have.
left-open : (p q r passed : ℕ) → IsTupletNumber p → IsTupletNumber q → IsTupletNumber r → IfSome (left_after passed (record { p = p; q = q; left = r })) IsOpen
left-open p q r passed p_is q_is r_is =
    let some : OpenTuplet = record { p = p; q = q; left = r - passed } in
    cond_both (nat_lt passed r) (Some some) None (λ (o : Option OpenTuplet). IfSome o IsOpen)
    (λ is. let less : passed < r = ltb-true passed r is in
    let most : r ≤ LARGEST_TUPLET_NUMBER = r_is.most in
    record { p_is = p_is; q_is = q_is; left_is = record { least = omega arith; most = omega arith } })
    (λ is. tt)

open-from : (opening : Meter) (before : List Element) (found : Option OpenTuplet) → From opening 0 before found → IfSome found IsOpen
open-from opening before found (from_none none e) = subst (λ (o : Option OpenTuplet). IfSome o IsOpen) (sym e) tt
open-from opening before found (from_mark mark q r since last q_is r_is e) =
    subst (λ (o : Option OpenTuplet). IfSome o IsOpen) (sym e) (left-open mark.p q r (time_count since + 0) last.accepted.p_is q_is r_is)

pub open_there : (opening : VoiceState) (before : List Element) → IfSome (voice_state_at opening before).tuplet IsOpen
unfolding voice_state_at tuplet_at
open_there opening before = open-from opening.meter before (tuplet_from opening.meter 0 before) (from-all opening.meter 0 before)
