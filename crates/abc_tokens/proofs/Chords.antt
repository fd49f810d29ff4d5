-- The parts of a chord lie within the chord.
use Rattle.std.proofs.Common.{◌≡◌, ℕ, suc, ◌+◌, ◌<◌, Bool, Option, Some, None, List, [], ◌∷◌, length, drop, sym, ap, ◌∙◌, subst, ⊎_elim, arith, length-append, length-take}
use Rattle.std.specs.Prelude.{All}
use Rattle.std.proofs.lemmas.Bool.{cond_both}
use Rattle.std.proofs.lemmas.List.Elements.{All-nil, All-cons}
use Rattle.abc_text.specs.LineEnd.{without_return}
use Rattle.abc_scan.specs.declared.line_class.LineClass.{LineClass}
use Rattle.abc_scan.specs.declared.line_class.LineClass.TheVariants as classes
use Rattle.abc_scan.specs.declared.chord.Chord.{Chord}
use Rattle.abc_scan.specs.declared.chord_part.ChordPartKind.{ChordPartKind}
use Rattle.abc_scan.specs.declared.directive.Directive.{Directive}
use Rattle.abc_scan.specs.declared.spanned.Spanned.{Spanned}
use Rattle.abc_scan.specs.declared.token.TokenKind.{TokenKind}
use Rattle.abc_scan.specs.declared.token.TokenKind.TheVariants as kinds
use Rattle.abc_scan.specs.Chord.{SpellsPart, part_kinds, part_grammar, part_reader, part_reading_at, inside_of, IsChord}
use Rattle.abc_scan.specs.Class.{class_of}
use Rattle.abc_scan.specs.Cutting.{unmatched_at, IsCuttingFrom, next}
use Rattle.abc_scan.specs.Directive.{directive_of}
use Rattle.abc_scan.specs.Line.{cutting_of, directive_token, tokens_in, tokens_of}
use Rattle.abc_scan.specs.Text.{without_comment}
use Rattle.abc_scan.specs.Token.{Spells, opens, is_bar, line_kinds, line_grammar}
use Rattle.abc_scan.proofs.Chords.{reads_parts}
use Rattle.abc_scan.proofs.Cuttings.{next_only, next_size}
use Rattle.abc_scan.proofs.TokenLaws.{cuts_each}
use Rattle.abc_tokens.specs.Columns.{IsPartWithin, HasPartsWithin, HoldsParts}

-- the parts into which a text is cut lie in it
parts_lie : (after_bar : Bool) (at : ℕ) (text : List ℕ) (ps : List (Spanned ChordPartKind)) (from to : ℕ) → IsCuttingFrom part_grammar after_bar at text ps
    → 0 < at → from + (at + length text) < to → All (IsPartWithin from to) ps
parts_lie after_bar at text [] from to is some fits = All-nil (IsPartWithin from to)
parts_lie after_bar at text (p ∷ ps) from to (front, rest, cut, first, begins, ends, more) some fits =
    let only : (next part_reader after_bar text).1 ≡ length front =
    ap (λ (x : ChordPartKind × ℕ). x.1) (next_only part_kinds SpellsPart part_reading_at reads_parts after_bar text front rest p.kind cut first) in
    let size : 0 < (next part_reader after_bar text).1 = next_size part_kinds SpellsPart part_reading_at reads_parts after_bar text in
    let total : length text ≡ length front + length rest = ap length cut ∙ length-append front rest in
    let begun : 0 < p.from = omega (arith, begins, some) in
    let grows : p.from < p.to = omega (arith, begins, ends, only, size) in
    let ended : from + p.to < to = omega (arith, ends, total, fits) in
    let left : from + (p.to + length rest) < to = omega (arith, ends, total, fits) in
    All-cons (IsPartWithin from to) p ps (begun, grows, ended)
    (parts_lie (part_kinds.is_bar p.kind) p.to rest ps from to more (omega (arith, begun, grows)) left)

chord_lies : (text : List ℕ) (chord : Chord) (from to : ℕ) → IsChord text chord → to ≡ from + length text → All (IsPartWithin from to) chord.parts
chord_lies text chord from to is end =
    let f = is.framed in
    let size : length text ≡ suc (length f.inside + suc (length f.written)) = ap length f.spelling ∙ ap suc (length-append f.inside (93 ∷ f.written)) in
    let few = length-take is.frame.inside (drop 1 text) in
    let same = f.size_is in
    let fits : from + (1 + length (inside_of is.frame text)) < to = omega (arith, size, few, same, end) in
    parts_lie _ 1 (inside_of is.frame text) chord.parts from to is.parts_are (omega arith) fits

token_holds : (after_bar : Bool) (front : List ℕ) (from to : ℕ) (kind : TokenKind) → Spells after_bar front kind → to ≡ from + length front → HasPartsWithin from to kind
token_holds after_bar front from to (kinds.Chord chord) is end = chord_lies front chord from to is end
token_holds after_bar front from to _ is end = tt

alone_holds : (text : List ℕ) (from to : ℕ) → HasPartsWithin from to (unmatched_at line_kinds text)
alone_holds [] from to = tt
alone_holds (b ∷ bs) from to = cond_both (opens b) kinds.Unclosed kinds.BadByte (HasPartsWithin from to) (λ _. tt) (λ _. tt)

cut_holds : (after_bar : Bool) (at : ℕ) (text : List ℕ) (ts : List (Spanned TokenKind)) → IsCuttingFrom line_grammar after_bar at text ts → All HoldsParts ts
cut_holds after_bar at text [] is = All-nil HoldsParts
cut_holds after_bar at text (t ∷ ts) (front, rest, cut, first, begins, ends, more) =
    let end : t.to ≡ t.from + length front = omega (arith, begins, ends) in
    All-cons HoldsParts t ts
    (⊎_elim (λ longest. token_holds after_bar front t.from t.to t.kind longest.spelled end)
    (λ none. subst (HasPartsWithin t.from t.to) (sym none.2) (alone_holds text t.from t.to)) first)
    (cut_holds (is_bar t.kind) t.to rest ts more)

directive_holds : (directive : Option Directive) (size : ℕ) → All HoldsParts (directive_token directive size)
directive_holds None size = All-nil HoldsParts
directive_holds (Some directive) size = All-cons HoldsParts _ [] tt (All-nil HoldsParts)

held_in : (class : LineClass) (text : List ℕ) → All HoldsParts (tokens_in class text)
held_in (classes.Field letter) text = All-cons HoldsParts _ [] tt (All-nil HoldsParts)
held_in classes.Directive text = directive_holds (directive_of text) (length text)
held_in classes.Music text = cut_holds _ 0 (without_comment text) (cutting_of (without_comment text)) (cuts_each (without_comment text))
held_in _ text = All-nil HoldsParts

-- the parts of the tokens of a line lie within them
pub all_hold : (line : List ℕ) → All HoldsParts (tokens_of line)
unfolding tokens_of
all_hold line = held_in (class_of line) (without_return line)

pub found_hold : (line : List ℕ) (found : List (Spanned TokenKind)) → found ≡ tokens_of line → All HoldsParts found
found_hold line found are = subst (All HoldsParts) (sym are) (all_hold line)
