-- The places and the lengths of the tokens of a line.
use Rattle.std.proofs.Common.{◌≡◌, ℕ, Bool, false, ◌+◌, ◌^◌, ◌<◌, ◌≤◌, Option, Some, None, List, [], ◌∷◌, length, refl, sym, ap, ◌∙◌, subst, arith, length-append, ltb-false}
use Rattle.std.specs.Prelude.{All, nat_lt, ◌==◌, ◌&&◌, not}
use Rattle.std.specs.List.{AllPass}
use Rattle.std.proofs.Math.Nat.{pow-le-pow_right}
use Rattle.std.proofs.lemmas.Nat.{pow_pos}
use Rattle.std.proofs.lemmas.Bool.{cond-false, cond_both, eqb-false, and_left}
use Rattle.std.proofs.lemmas.List.Elements.{All-nil, All-cons}
use Rattle.abc_scan.specs.declared.line_class.LineClass.{LineClass}
use Rattle.abc_scan.specs.declared.line_class.LineClass.TheVariants as classes
use Rattle.abc_scan.specs.declared.chord.Chord.{Chord}
use Rattle.abc_scan.specs.declared.length.TheConstants.{MOST_SLASHES}
use Rattle.abc_scan.specs.declared.length.WrittenLength.{WrittenLength}
use Rattle.abc_scan.specs.declared.chord_part.ChordPartKind.{ChordPartKind}
use Rattle.abc_scan.specs.declared.chord_part.ChordPartKind.TheVariants as parts
use Rattle.abc_scan.specs.declared.spanned.Spanned.{Spanned}
use Rattle.abc_scan.specs.declared.token.TokenKind.{TokenKind}
use Rattle.abc_scan.specs.declared.token.TokenKind.TheVariants as kinds
use Rattle.abc_scan.specs.Class.{class_of, IsFieldLine}
use Rattle.abc_scan.specs.Length.{number_or, factor, written_length, IsLength, HasFactor}
use Rattle.abc_scan.specs.Directive.{IsDirectiveLine, directive_of}
use Rattle.abc_scan.specs.Field.{field_of}
use Rattle.abc_scan.specs.Text.{before_comment, without_comment}
use Rattle.abc_scan.specs.Chord.{SpellsPart, part_kinds, inside_of, IsChord}
use Rattle.abc_scan.specs.Cutting.{unmatched_at, IsCuttingFrom, IsSpan, JoinFromTo}
use Rattle.abc_scan.specs.Line.{cutting_of, directive_token, tokens_in, tokens_of, covered_in, covered_of, HasPartLength, HasLength}
use Rattle.abc_scan.specs.Token.{Spells, opens, is_bar, line_kinds, line_grammar, reading_at, next_token}
use Rattle.abc_text.specs.Digit.{is_digit, decimal}
use Rattle.abc_text.specs.LineEnd.{without_return}
use Rattle.abc_text.proofs.Decimals.{decimal-lt}
use Rattle.abc_text.proofs.LineEnds.{without_return-le}
use Rattle.abc_scan.proofs.ClassLaws.{laws, field_visible}
use Rattle.abc_scan.proofs.Directives.{directive-read, directive-percent}
use Rattle.abc_scan.proofs.Cuttings.{next_only, next_size, cut-all}
use Rattle.abc_scan.proofs.TokenLaws.{reads_tokens, cuts_each}

-- an accepted number is from 1 to 999,999,999
abbrev InRange : Option ℕ → Type 0
InRange None = Unit {0}
InRange (Some n) = (1 ≤ n) × (n ≤ 999999999)

number_or-range : (digits : List ℕ) (other : ℕ) → AllPass is_digit digits → InRange (Some other) → InRange (number_or digits other)
number_or-range [] other all range = range
number_or-range (d ∷ ds) other all range =
    cond_both (nat_lt 9 (length (d ∷ ds))) _ _ InRange (λ _. tt)
    (λ few. cond_both (decimal (d ∷ ds) == 0) _ _ InRange (λ _. tt)
    (λ some. let below = decimal-lt (d ∷ ds) all (ltb-false 9 (length (d ∷ ds)) few) in let positive = eqb-false (decimal (d ∷ ds)) 0 some in (omega (arith, positive), omega (arith, below))))

factor-range : (num den : Option ℕ) → InRange num → InRange den → HasFactor (factor num den)
factor-range None den m n = tt
factor-range (Some num) None m n = tt
factor-range (Some num) (Some den) m n = record { num_least = m.0; num_most = m.1; den_least = n.0; den_most = n.1 }

halves-range : (k : ℕ) → k ≤ MOST_SLASHES → InRange (Some (2 ^ k))
halves-range k few = let most : 2 ^ k ≤ 2 ^ 29 = pow-le-pow_right (omega arith) few in let least = pow_pos k in (omega (arith, least), omega (arith, most))

written-range : (over : List ℕ) (slashes : ℕ) (under : List ℕ) → AllPass is_digit over → AllPass is_digit under → HasFactor (written_length over slashes under)
written-range over slashes under over_digits under_digits =
    cond_both (nat_lt MOST_SLASHES slashes) _ _ HasFactor (λ _. tt)
    (λ few. factor-range (number_or over 1) (number_or under (2 ^ slashes)) (number_or-range over 1 over_digits (omega arith, omega arith))
    (number_or-range under (2 ^ slashes) under_digits (halves-range slashes (ltb-false MOST_SLASHES slashes few))))

length-range : (text : List ℕ) (value : WrittenLength) → IsLength text value → HasFactor value
length-range text value is = subst HasFactor (sym is.value_is) (written-range is.over is.slashes is.under is.over_digits is.under_digits)

part-range : (after_bar : Bool) (text : List ℕ) (kind : ChordPartKind) → SpellsPart after_bar text kind → HasPartLength kind
part-range after_bar text (parts.Note note) is = length-range is.written note.length is.length_is
part-range after_bar text _ is = tt

part-alone : (text : List ℕ) → HasPartLength (unmatched_at part_kinds text)
part-alone [] = tt
part-alone (b ∷ bs) = tt

chord-range : (text : List ℕ) (chord : Chord) → IsChord text chord → HasFactor chord.length × All (λ p. HasPartLength p.kind) chord.parts
chord-range text chord is = (
  subst HasFactor (sym is.length_is) (length-range is.framed.written is.frame.length is.framed.length_is),
  cut-all part_kinds SpellsPart HasPartLength part-range part-alone false 1 (inside_of is.frame text) chord.parts is.parts_are,
)

token-range : (after_bar : Bool) (text : List ℕ) (kind : TokenKind) → Spells after_bar text kind → HasLength kind
token-range after_bar text (kinds.Note note) is = length-range is.written note.length is.length_is
token-range after_bar text (kinds.Rest value) is = length-range is.written value is.length_is
token-range after_bar text (kinds.Chord chord) is = chord-range text chord is
token-range after_bar text _ is = tt

token-alone : (text : List ℕ) → HasLength (unmatched_at line_kinds text)
token-alone [] = tt
token-alone (b ∷ bs) = cond_both (opens b) kinds.Unclosed kinds.BadByte HasLength (λ _. tt) (λ _. tt)

-- of every cutting
pub record Laid (at : ℕ) (tokens : List (Spanned TokenKind)) (end len : ℕ) : Type 0 where
  pub spans : All (IsSpan len) tokens
  pub joined : JoinFromTo at tokens end
  pub lengths : All (λ t. HasLength t.kind) tokens

laid_cut : (after_bar : Bool) (at : ℕ) (text : List ℕ) (tokens : List (Spanned TokenKind)) (len : ℕ) → IsCuttingFrom line_grammar after_bar at text tokens → at + length text ≤ len
    → All (IsSpan len) tokens × JoinFromTo at tokens (at + length text)
laid_cut after_bar at text [] len is fits = (All-nil (IsSpan len), let none = ap length is in omega (arith, none))
laid_cut after_bar at text (t ∷ ts) len (front, rest, cut, first, from, to, more) fits =
    let only : (next_token after_bar text).1 ≡ length front = ap (λ (x : TokenKind × ℕ). x.1) (next_only line_kinds Spells reading_at reads_tokens after_bar text front rest t.kind cut first) in
    let some = next_size line_kinds Spells reading_at reads_tokens after_bar text in
    let total : length text ≡ length front + length rest = ap length cut ∙ length-append front rest in
    let end : t.to + length rest ≡ at + length text = omega (arith, to, total) in
    let l = laid_cut (is_bar t.kind) t.to rest ts len more (omega (arith, end)) in (
      All-cons (IsSpan len) t ts (omega (arith, from, to, only, some), omega (arith, end)) l.0,
      (from, subst (JoinFromTo t.to ts) end l.1),
    )

-- the text read of a line is no longer than the line, and of a field not empty
before_comment-le : (before : ℕ) (text : List ℕ) → length (before_comment before text) ≤ length text
before_comment-le before [] = omega arith
before_comment-le before (b ∷ bs) =
    cond_both ((b == 37) && not (before == 92)) [] (b ∷ before_comment b bs) (λ l. length l ≤ length (b ∷ bs)) (λ _. omega arith) (λ _. let rest = before_comment-le b bs in omega (arith, rest))

read-le : (line : List ℕ) → length (without_comment (without_return line)) ≤ length line
read-le line = let a = before_comment-le 32 (without_return line) in let b = without_return-le line in omega (arith, a, b)

field_some : (text : List ℕ) (letter : ℕ) → IsFieldLine text letter → 0 < length (without_comment text)
field_some text letter is =
    let seen = field_visible text letter is in
    let kept : without_comment text ≡ letter ∷ before_comment letter (58 ∷ is.value) = ap without_comment is.spelling ∙ cond-false _ _ _ (and_left (letter == 37) (not (32 == 92)) seen.1) in
    subst (λ l. 0 < length l) (sym kept) (omega arith)

-- no token, and one token that is not empty and has no length
none_laid : (len : ℕ) → Laid 0 [] 0 len
none_laid len = record { spans = All-nil (IsSpan len); joined = refl; lengths = All-nil (λ t. HasLength t.kind) }

one_laid : (kind : TokenKind) (size len : ℕ) → 0 < size → size ≤ len → HasLength kind → Laid 0 (record { kind = kind; from = 0; to = size } ∷ []) size len
one_laid kind size len some fits has = record {
  spans = All-cons (IsSpan len) _ [] (some, fits) (All-nil (IsSpan len));
  joined = (refl, refl);
  lengths = All-cons (λ t. HasLength t.kind) _ [] has (All-nil (λ t. HasLength t.kind));
}

directive-laid : (text : List ℕ) (len : ℕ) → IsDirectiveLine text → length text ≤ len → Laid 0 (directive_token (directive_of text) (length text)) (length text) len
directive-laid text len is fits =
    let first = directive-percent text is in
    subst (λ o. Laid 0 (directive_token o (length text)) (length text) len) (sym (directive-read text is.0 is.1))
    (one_laid (kinds.Directive is.0) (length text) len (omega (arith, ap length first.1)) fits tt)

laid_in : (line : List ℕ) (class : LineClass) → class_of line ≡ class → Laid 0 (tokens_in class (without_return line)) (covered_in class (without_return line)) (length line)
laid_in line (classes.Field letter) e =
    let text = without_return line in
    let field = ((laws text (class_of line) refl).field letter).0 e in
    one_laid (kinds.Field (field_of (without_comment text))) (length (without_comment text)) (length line) (field_some text letter field) (read-le line) tt
laid_in line classes.Directive e =
    directive-laid (without_return line) (length line) ((laws (without_return line) (class_of line) refl).directive.0 e) (without_return-le line)
laid_in line classes.Music e =
    let text = without_comment (without_return line) in
    let short = read-le line in
    let sum : 0 + length text ≡ length text = omega arith in
    let is = cuts_each text in
    let l = laid_cut false 0 text (cutting_of text) (length line) is (omega (arith, short)) in
    record {
      spans = l.0;
      joined = subst (JoinFromTo 0 (cutting_of text)) sum l.1;
      lengths = cut-all line_kinds Spells HasLength token-range token-alone false 0 text (cutting_of text) is;
    }
laid_in line _ e = none_laid (length line)

pub laid : (line : List ℕ) → Laid 0 (tokens_of line) (covered_of line) (length line)
unfolding tokens_of covered_of
laid line = laid_in line (class_of line) refl
