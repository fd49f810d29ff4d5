-- The first bytes of tokens, and the tokens read by them.
use Rattle.std.proofs.Common.{◌≡◌, ◌≢◌, ℕ, zero, suc, ◌<◌, ◌≤◌, Bool, true, false, Option, Some, None, List, [], ◌∷◌, ◌++◌, length, replicate, refl, sym, ap, ◌∙◌, subst, inl, inr, ⊎_elim, arith}
use Rattle.std.proofs.Common.{append_assoc}
use Rattle.std.specs.Prelude.{◌⊎◌, ◌==◌, ◌||◌, ◌&&◌, unwrap_or}
use Rattle.std.specs.Char.{is_ascii_alphabetic, is_ascii_digit}
use Rattle.std.specs.List.{AllPass}
use Rattle.std.proofs.lemmas.Bool.{cond-true, cond-false, cond_both, cases_Bool, eqb-true, eqb-false, and_parts, and_from, and_right, both_ways, false_from_ne_true, not-true}
use Rattle.std.proofs.lemmas.List.Elements.{All-head}
use Rattle.abc_scan.specs.declared.bar_line.BarLine.{BarLine}
use Rattle.abc_scan.specs.declared.broken.BrokenRhythm.{BrokenRhythm}
use Rattle.abc_scan.specs.declared.broken.Direction.{Direction}
use Rattle.abc_scan.specs.declared.broken.Direction.TheVariants.{Right, Left}
use Rattle.abc_scan.specs.declared.field.Field.{Field}
use Rattle.abc_scan.specs.declared.frame.Frame.{Frame}
use Rattle.abc_scan.specs.declared.length.WrittenLength.{WrittenLength}
use Rattle.abc_text.specs.declared.accidental.Accidental.{Accidental}
use Rattle.abc_text.specs.declared.accidental.Accidental.TheVariants.{Flat}
use Rattle.abc_text.specs.declared.letter.Letter.{Letter}
use Rattle.abc_text.specs.declared.letter.Letter.TheVariants.{C}
use Rattle.abc_scan.specs.declared.note.Note.{Note}
use Rattle.abc_scan.specs.declared.start.Start.{Start}
use Rattle.abc_scan.specs.declared.start.Start.TheVariants as starts
use Rattle.abc_scan.specs.declared.token.TokenKind.{TokenKind}
use Rattle.abc_scan.specs.declared.token.TokenKind.TheVariants as kinds
use Rattle.abc_scan.specs.declared.tuplet.Tuplet.{Tuplet}
use Rattle.abc_scan.specs.Bar.{Strokes, strokes_text, middle_text, HasStrokes, HasColons, IsBar}
use Rattle.abc_scan.specs.BarRest.{IsBarRest}
use Rattle.abc_scan.specs.Broken.{mark_of, IsBroken}
use Rattle.abc_scan.specs.Cutting.{as_kind, unmatched_at}
use Rattle.abc_scan.specs.Delimited.{IsDelimited}
use Rattle.abc_scan.specs.Ending.{IsEnding}
use Rattle.abc_scan.specs.Field.{begins_field}
use Rattle.abc_scan.specs.Frame.{is_inside, IsFrame}
use Rattle.abc_scan.specs.InlineField.{IsInlineField}
use Rattle.abc_text.specs.Digit.{is_digit}
use Rattle.abc_text.specs.Letter.{capital, small}
use Rattle.abc_text.specs.Blank.{is_blank}
use Rattle.abc_scan.specs.NoEffect.{IsExtraSpace, IsSingle, HasNoEffect}
use Rattle.abc_scan.specs.Note.{accidental_text, IsNote, IsRest, IsShort}
use Rattle.abc_scan.specs.Single.{IsBlankToken, IsTie}
use Rattle.abc_scan.specs.Start.{has_no_effect, begins_note, mark_start, byte_start, bracket_start, start_of}
use Rattle.abc_scan.specs.Token.{mark_by, reading_by, reading_at, line_kinds, ComesFirst}
use Rattle.abc_scan.specs.Tuplet.{IsTuplet}
use Rattle.abc_text.proofs.Decimals.{digit_range}
use Rattle.abc_scan.proofs.Endings.{ranges_text}
use Rattle.abc_scan.proofs.Marks.{two_known}
use Rattle.abc_scan.proofs.Readings.{Finds}

-- a text that begins with no field, bracket or delimiter is read as a mark
pub mark_reading : (start : Start) (after_bar : Bool) (text : List ℕ) → start ≢ starts.InlineField → start ≢ starts.Bracket → start ≢ starts.Delimited
    → reading_by start after_bar text ≡ mark_by start after_bar text
mark_reading starts.InlineField after_bar text a b c = absurd (a refl)
mark_reading starts.Bracket after_bar text a b c = absurd (b refl)
mark_reading starts.Delimited after_bar text a b c = absurd (c refl)
mark_reading _ after_bar text a b c = refl

-- the token read by the first bytes is the token read
pub by_start : {K : Type 0} (by : Start → Option (K × ℕ)) (text front : List ℕ) (kind : K) (start : Start) → start_of text ≡ start → Finds (by start) front kind → Finds (by (start_of text)) front kind
by_start by text front kind start e found = subst (λ s. Finds (by s) front kind) (sym e) found

by_cases : (P : ℕ → Type 0) (n d : ℕ) → P n → (d ≢ n → P d) → P d
by_cases P n d here other = ⊎_elim (λ e. subst P (sym (eqb-true d n e)) here) (λ ne. other (eqb-false d n ne)) (cases_Bool (d == n))

-- every digit, by the ten
pub digit_by : (P : ℕ → Type 0) → P 48 → P 49 → P 50 → P 51 → P 52 → P 53 → P 54 → P 55 → P 56 → P 57 → (d : ℕ) → is_digit d ≡ true → P d
digit_by P a b c e f g h i j k d is =
    let range = digit_range d is in
    by_cases P 48 d a (λ n0. by_cases P 49 d b (λ n1. by_cases P 50 d c (λ n2. by_cases P 51 d e (λ n3.
    by_cases P 52 d f (λ n4. by_cases P 53 d g (λ n5. by_cases P 54 d h (λ n6. by_cases P 55 d i (λ n7.
    by_cases P 56 d j (λ n8. by_cases P 57 d k (λ n9. absurd (omega (arith, range, n0, n1, n2, n3, n4, n5, n6, n7, n8, n9))))))))))))

-- the first bytes of each kind of token
letter_starts : (letter : Letter) (rest : List ℕ) → (start_of (capital letter ∷ rest) ≡ starts.Note) × (start_of (small letter ∷ rest) ≡ starts.Note)
unfolding byte_start
letter_starts C rest = (refl, refl)
letter_starts _ rest = (refl, refl)

pub signed_starts : (sign : Option Accidental) (letter : Letter) (b : ℕ) (rest : List ℕ) → (b ≡ capital letter) ⊎ (b ≡ small letter) → start_of (accidental_text sign ++ (b ∷ rest)) ≡ starts.Note
unfolding byte_start
signed_starts None letter b rest is = ⊎_elim (λ e. ap (λ x. start_of (x ∷ rest)) e ∙ (letter_starts letter rest).0) (λ e. ap (λ x. start_of (x ∷ rest)) e ∙ (letter_starts letter rest).1) is
signed_starts (Some Flat) letter b rest is = refl
signed_starts _ letter b rest is = refl

pub note_starts : (front rest : List ℕ) (note : Note) → IsNote front note → start_of (front ++ rest) ≡ starts.Note
note_starts front rest note is =
    let sign = accidental_text note.accidental in
    ap (λ l. start_of (l ++ rest)) is.spelling ∙ ap start_of (append_assoc sign (is.letter ∷ (is.marks ++ is.written)) rest)
    ∙ signed_starts note.accidental note.letter is.letter ((is.marks ++ is.written) ++ rest) is.letter_is

two_start : (front rest written : List ℕ) (b m n : ℕ) (start : Start) → front ≡ b ∷ written → (b ≡ m) ⊎ (b ≡ n) → start_of (m ∷ (written ++ rest)) ≡ start → start_of (n ∷ (written ++ rest)) ≡ start
    → start_of (front ++ rest) ≡ start
two_start front rest written b m n start spelled is one other =
    ap (λ l. start_of (l ++ rest)) spelled
    ∙ ⊎_elim (λ e. ap (λ x. start_of (x ∷ (written ++ rest))) e ∙ one) (λ e. ap (λ x. start_of (x ∷ (written ++ rest))) e ∙ other) is

pub rest_starts : (front rest : List ℕ) (value : WrittenLength) → IsRest front value → start_of (front ++ rest) ≡ starts.Rest
unfolding byte_start
rest_starts front rest value is = two_start front rest is.written is.letter 122 120 starts.Rest is.spelling is.letter_is refl refl

pub bar_rest_starts : (front rest : List ℕ) (bars : Option ℕ) → IsBarRest front bars → start_of (front ++ rest) ≡ starts.BarRest
unfolding byte_start
bar_rest_starts front rest bars is = two_start front rest is.written is.letter 90 88 starts.BarRest is.spelling is.letter_is refl refl

stroke_starts : (rest : List ℕ) → start_of (91 ∷ 124 ∷ rest) ≡ starts.BarLine
unfolding bracket_start
stroke_starts [] = refl
stroke_starts (b ∷ bs) = refl

group_starts : (opened : Bool) (more : ℕ) (closed : Bool) (groups following : List ℕ)
    → start_of ((strokes_text (record { opened = opened; more = more; closed = closed }) ++ groups) ++ following) ≡ starts.BarLine
unfolding byte_start
group_starts true more closed groups following = stroke_starts _
group_starts false more closed groups following = refl

strokes_start : (closes : ℕ) (groups : List Strokes) (following : List ℕ) → 0 < length groups → start_of (replicate closes 58 ++ (middle_text groups ++ following)) ≡ starts.BarLine
unfolding byte_start
strokes_start zero [] following some = absurd (omega arith)
strokes_start zero (g ∷ gs) following some = group_starts g.opened g.more g.closed (middle_text gs) following
strokes_start (suc n) groups following some = refl

colons_start : (count : ℕ) (following : List ℕ) → 2 ≤ count → start_of (replicate count 58 ++ following) ≡ starts.BarLine
unfolding byte_start
colons_start zero following several = absurd (omega arith)
colons_start (suc n) following several = refl

pub bar_starts : (front rest : List ℕ) (bar : BarLine) → IsBar front bar → start_of (front ++ rest) ≡ starts.BarLine
bar_starts front rest bar is = ⊎_elim
    (λ (s : HasStrokes front bar).
    let closing = replicate bar.closes 58 in
    let opening = replicate bar.opens 58 in
    ap (λ l. start_of (l ++ rest)) s.spelling
    ∙ ap start_of (append_assoc closing (middle_text s.groups ++ opening) rest ∙ ap (λ l. closing ++ l) (append_assoc (middle_text s.groups) opening rest))
    ∙ strokes_start bar.closes s.groups (opening ++ rest) s.some)
    (λ (c : HasColons front bar). ap (λ l. start_of (l ++ rest)) c.spelling ∙ colons_start c.count rest c.several)
    is

letter_bracket : (letter : ℕ) (rest : List ℕ) → is_ascii_alphabetic letter ≡ true → start_of (91 ∷ letter ∷ 58 ∷ rest) ≡ starts.InlineField
unfolding bracket_start
letter_bracket letter rest is =
    let no_stroke : (letter == 124) ≡ false = false_from_ne_true (letter == 124) (λ same. both_ways (is_ascii_alphabetic letter) (ap is_ascii_alphabetic (eqb-true letter 124 same)) is) in
    cond-false _ _ _ no_stroke ∙ cond-true _ _ _ (and_from (is_ascii_alphabetic letter) true is refl)

pub field_starts : (front rest : List ℕ) (field : Field) → IsInlineField front field → start_of (front ++ rest) ≡ starts.InlineField
field_starts front rest field is = ap (λ l. start_of (l ++ rest)) is.spelling ∙ letter_bracket field.letter ((is.following ++ 93 ∷ []) ++ rest) is.letter_is

inside_other : (b : ℕ) → is_inside b ≡ true → (b == 124) ≡ false
inside_other b is = let parts = and_parts _ _ is in let more = and_parts _ _ parts.1 in not-true _ more.1

inside_bracket : (inside more : List ℕ) → AllPass is_inside inside → begins_field inside ≡ false → start_of (91 ∷ (inside ++ 93 ∷ more)) ≡ starts.Bracket
unfolding bracket_start
inside_bracket [] [] all none = refl
inside_bracket [] (d ∷ ds) all none = refl
inside_bracket (b ∷ []) more all none =
    cond-false _ _ _ (inside_other b (All-head (λ x. is_inside x ≡ true) b [] all)) ∙ cond-false _ _ _ (and_right (is_ascii_alphabetic b) false refl)
inside_bracket (b ∷ c ∷ rest) more all none =
    cond-false _ _ _ (inside_other b (All-head (λ x. is_inside x ≡ true) b (c ∷ rest) all)) ∙ cond-false _ _ _ none

pub chord_starts : (front rest : List ℕ) (frame : Frame) → IsFrame front frame → start_of (front ++ rest) ≡ starts.Bracket
chord_starts front rest frame is =
    ap (λ l. start_of (l ++ rest)) is.spelling ∙ ap (λ l. start_of (91 ∷ l)) (append_assoc is.inside (93 ∷ is.written) rest)
    ∙ inside_bracket is.inside (is.written ++ rest) is.inside_is is.no_field

digit_starts : (d : ℕ) (rest : List ℕ) → is_digit d ≡ true → start_of (d ∷ rest) ≡ starts.Digit
unfolding byte_start
digit_starts d rest is = digit_by (λ x. start_of (x ∷ rest) ≡ starts.Digit) refl refl refl refl refl refl refl refl refl refl d is

bracket_digit : (d : ℕ) (rest : List ℕ) → is_digit d ≡ true → start_of (91 ∷ d ∷ rest) ≡ starts.Bracket
unfolding bracket_start
bracket_digit d [] is = digit_by (λ x. start_of (91 ∷ x ∷ []) ≡ starts.Bracket) refl refl refl refl refl refl refl refl refl refl d is
bracket_digit d (c ∷ rest) is = digit_by (λ x. start_of (91 ∷ x ∷ c ∷ rest) ≡ starts.Bracket) refl refl refl refl refl refl refl refl refl refl d is

-- an ending begins with `[` or with a digit
pub ending_starts : (after_bar : Bool) (front rest : List ℕ) (passes : Option ℕ) → (is : IsEnding after_bar front passes)
    → ((front ≡ 91 ∷ is.written) × (start_of (front ++ rest) ≡ starts.Bracket)) ⊎ (start_of (front ++ rest) ≡ starts.Digit)
ending_starts after_bar front rest passes is =
    let (all, (digit, more, first, digit_is)) = ranges_text is.ranges is.written is.ranges_are in
    ⊎_elim
    (λ (one : is.bracket ≡ 91 ∷ []).
    let spelled : front ≡ 91 ∷ is.written = is.spelling ∙ ap (λ l. l ++ is.written) one in
    inl (spelled, ap (λ l. start_of (l ++ rest)) (spelled ∙ ap (λ l. 91 ∷ l) first) ∙ bracket_digit digit (more ++ rest) digit_is))
    (λ (none : (is.bracket ≡ []) × (after_bar ≡ true)).
    inr (ap (λ l. start_of (l ++ rest)) (is.spelling ∙ ap (λ l. l ++ is.written) none.0 ∙ first) ∙ digit_starts digit (more ++ rest) digit_is))
    is.bracket_is

pub tuplet_starts : (front rest : List ℕ) (tuplet : Tuplet) → IsTuplet front tuplet → start_of (front ++ rest) ≡ starts.Parenthesis
unfolding byte_start
tuplet_starts front rest tuplet is = ap (λ l. start_of (l ++ rest)) is.spelling

marks_start : (marks : ℕ) (direction : Direction) (rest : List ℕ) → 1 ≤ marks → start_of (replicate marks (mark_of direction) ++ rest) ≡ starts.Broken
unfolding byte_start
marks_start zero direction rest some = absurd (omega arith)
marks_start (suc n) Right rest some = refl
marks_start (suc n) Left rest some = refl

pub broken_starts : (front rest : List ℕ) (value : BrokenRhythm) → IsBroken front value → start_of (front ++ rest) ≡ starts.Broken
broken_starts front rest value is = ap (λ l. start_of (l ++ rest)) is.spelling ∙ marks_start value.marks value.direction rest is.some

pub tie_starts : (front rest : List ℕ) → IsTie front → start_of (front ++ rest) ≡ starts.Tie
unfolding byte_start
tie_starts front rest is = ap (λ l. start_of (l ++ rest)) is

pub blank_starts : (front rest : List ℕ) → IsBlankToken front → start_of (front ++ rest) ≡ starts.Blank
unfolding byte_start
blank_starts front rest is = two_start front rest [] is.byte 32 9 starts.Blank is.spelling (two_known is.byte 32 9 is.blank) refl refl

pub delimited_starts : (front rest : List ℕ) → IsDelimited front → start_of (front ++ rest) ≡ starts.Delimited
unfolding byte_start
delimited_starts front rest is =
    let following = (is.inside ++ is.closing ∷ []) ++ rest in
    ap (λ l. start_of (l ++ rest)) is.spelling
    ∙ ⊎_elim (λ e. ap (λ x. start_of (x ∷ following)) e.0) (λ other. ⊎_elim (λ e. ap (λ x. start_of (x ∷ following)) e.0) (λ e. ap (λ x. start_of (x ∷ following)) e.0) other) is.delimiters

space_starts : (front rest : List ℕ) → IsExtraSpace front → start_of (front ++ rest) ≡ starts.Space
unfolding byte_start
space_starts front rest is = ap (λ l. start_of (l ++ rest)) is.spelling

-- one byte without effect is a `(` or another
single_starts : (b : ℕ) (rest : List ℕ) → has_no_effect b ≡ true → (start_of (b ∷ rest) ≡ starts.Parenthesis) ⊎ (start_of (b ∷ rest) ≡ starts.Single)
unfolding byte_start
single_starts b rest is =
    let no_bracket : (b == 91) ≡ false = false_from_ne_true (b == 91) (λ same. both_ways (has_no_effect b) (ap has_no_effect (eqb-true b 91 same)) is) in
    ⊎_elim
    (λ yes. inl (cond-false _ _ _ no_bracket ∙ cond-true _ _ _ yes))
    (λ fails. inr (cond-false _ _ _ no_bracket ∙ cond-false _ _ _ fails ∙ cond-true _ _ _ is))
    (cases_Bool (b == 40))

-- a token without effect is found at each of its possible first bytes
pub silent_by : {K : Type 0} (by : Start → Option (K × ℕ)) (front rest : List ℕ) (kind : K) → HasNoEffect front → (IsDelimited front → Finds (by starts.Delimited) front kind)
    → (IsExtraSpace front → Finds (by starts.Space) front kind) → (length front ≡ 1 → Finds (by starts.Parenthesis) front kind) → (length front ≡ 1 → Finds (by starts.Single) front kind)
    → Finds (by (start_of (front ++ rest))) front kind
silent_by by front rest kind is delimited space parenthesis single =
    let text = front ++ rest in
    ⊎_elim
    (λ (d : IsDelimited front). by_start by text front kind starts.Delimited (delimited_starts front rest d) (delimited d))
    (λ other. ⊎_elim
    (λ (s : IsExtraSpace front). by_start by text front kind starts.Space (space_starts front rest s) (space s))
    (λ (one : IsSingle front).
    let long : length front ≡ 1 = ap length one.spelling in
    let here = ap (λ l. start_of (l ++ rest)) one.spelling in
    ⊎_elim
    (λ e. by_start by text front kind starts.Parenthesis (here ∙ e) (parenthesis long))
    (λ e. by_start by text front kind starts.Single (here ∙ e) (single long))
    (single_starts one.byte rest one.silent))
    other)
    is

-- the first byte, by the kind of token that it begins
abbrev pub Known : ℕ → Start → Type 0
Known b starts.Parenthesis = b ≡ 40
Known b starts.Tie = b ≡ 45
Known b starts.Blank = is_blank b ≡ true
Known b starts.Single = has_no_effect b ≡ true
Known b _ = Unit {0}

mark_known : (b : ℕ) → Known b (mark_start b)
mark_known b =
    cond_both ((b == 122) || (b == 120)) _ _ (Known b) (λ _. tt)
    (λ _. cond_both ((b == 90) || (b == 88)) _ _ (Known b) (λ _. tt)
    (λ _. cond_both ((b == 124) || (b == 58)) _ _ (Known b) (λ _. tt)
    (λ _. cond_both ((b == 62) || (b == 60)) _ _ (Known b) (λ _. tt)
    (λ _. cond_both (b == 45) _ _ (Known b) (λ e. eqb-true b 45 e)
    (λ _. cond_both ((b == 34) || (b == 33) || (b == 123)) _ _ (Known b) (λ _. tt)
    (λ _. cond_both (b == 121) _ _ (Known b) (λ _. tt) (λ _. tt)))))))

byte_known : (b : ℕ) → Known b (byte_start b)
unfolding byte_start
byte_known b =
    cond_both (b == 40) _ _ (Known b) (λ e. eqb-true b 40 e)
    (λ _. cond_both (has_no_effect b) _ _ (Known b) (λ e. e)
    (λ _. cond_both (is_ascii_digit b) _ _ (Known b) (λ _. tt)
    (λ _. cond_both (is_blank b) _ _ (Known b) (λ e. e)
    (λ _. cond_both (begins_note b) _ _ (Known b) (λ _. tt)
    (λ _. mark_known b)))))

bracket_known : (b : ℕ) (rest : List ℕ) → Known b (bracket_start rest)
unfolding bracket_start
bracket_known b [] = tt
bracket_known b (c ∷ []) = cond_both (c == 124) _ _ (Known b) (λ _. tt) (λ _. tt)
bracket_known b (c ∷ d ∷ rest) = cond_both (c == 124) _ _ (Known b) (λ _. tt) (λ _. cond_both (is_ascii_alphabetic c && (d == 58)) _ _ (Known b) (λ _. tt) (λ _. tt))

pub start_known : (b : ℕ) (rest : List ℕ) → Known b (start_of (b ∷ rest))
start_known b rest = cond_both (b == 91) _ _ (Known b) (λ _. bracket_known b rest) (λ _. byte_known b)

-- blanks and short notes come first in a text, whether a bar line is before it or not
abbrev read_as : List ℕ → Option (TokenKind × ℕ) → TokenKind × ℕ
read_as text found = unwrap_or found (unmatched_at line_kinds text, 1)

pub blank_first : (rest : List ℕ) → ComesFirst (kinds.Blank, 1) (32 ∷ rest)
unfolding reading_at byte_start
blank_first rest after_bar = refl

pub note_first : (text : List ℕ) (read : Note × ℕ) → IsShort text read → ComesFirst (kinds.Note read.0, read.1) text
unfolding reading_at
note_first text read is after_bar =
    let start : start_of text ≡ starts.Note = ap start_of is.spelling ∙ signed_starts None read.0.letter is.byte is.rest is.letter in
    ap (read_as text) (ap (λ s. reading_by s after_bar text) start ∙ ap (as_kind kinds.Note) is.is_read)
