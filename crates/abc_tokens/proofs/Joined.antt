-- The tokens of a line lie end to end in it, and the parts of chords within their chords.
use Rattle.std.proofs.Common.{◌≡◌, ℕ, ◌+◌, ◌≤◌, Bool, ◌&&◌, not, ◌==◌, Option, Some, None, List, [], ◌∷◌, ◌++◌, length, refl, sym, ap, ◌∙◌, subst, arith, append_assoc, ltb-false}
use Rattle.std.specs.Prelude.{All, nat_lt, map, flat_map}
use Rattle.std.proofs.lemmas.Bool.{cond_both}
use Rattle.std.proofs.lemmas.List.Elements.{All-head, All-tail, filter-append}
use Rattle.abc_text.specs.LineEnd.{without_return}
use Rattle.abc_scan.specs.declared.line_class.LineClass.{LineClass}
use Rattle.abc_scan.specs.declared.line_class.LineClass.TheVariants as classes
use Rattle.abc_scan.specs.declared.chord_part.ChordPartKind.{ChordPartKind}
use Rattle.abc_scan.specs.declared.spanned.Spanned.{Spanned}
use Rattle.abc_scan.specs.declared.token.TokenKind.{TokenKind}
use Rattle.abc_scan.specs.declared.token.TokenKind.TheVariants as kinds
use Rattle.abc_scan.specs.Class.{class_of}
use Rattle.abc_scan.specs.Cutting.{IsSpan, JoinFromTo}
use Rattle.abc_scan.specs.Line.{covered_in, covered_of, tokens_of}
use Rattle.abc_scan.specs.Text.{before_comment}
use Rattle.abc_scan.proofs.Spans.{laid}
use Rattle.abc_tokens.specs.declared.line_token.LineToken.{LineToken}
use Rattle.abc_tokens.specs.declared.line_token.LineTokenKind.{LineTokenKind}
use Rattle.abc_tokens.specs.declared.line_token.LineTokenKind.TheVariants as of_line
use Rattle.abc_tokens.specs.Columns.{IsPartWithin, HasPartsWithin, HoldsParts, JoinColumns, PartsLieWithin, outer_tokens}
use Rattle.abc_tokens.specs.LineTokens.{comment_between, cut_tokens, end_after, line_token, line_tokens, part_token, part_tokens, tokens_by, whole_kind, whole_line, with_parts}
use Rattle.abc_tokens.proofs.Chords.{all_hold}

-- a token that is no part
abbrev is_outer : LineToken → Bool
is_outer t = t.depth == 0

-- parts of chords are no outer tokens
no_outer : (line : List ℕ) (at : ℕ) (ps : List (Spanned ChordPartKind)) → outer_tokens (map (part_token line at) ps) ≡ []
no_outer line at [] = refl
no_outer line at (p ∷ ps) = no_outer line at ps

no_outer_of : (line : List ℕ) (at : ℕ) (kind : TokenKind) → outer_tokens (part_tokens line at kind) ≡ []
no_outer_of line at (kinds.Chord chord) = no_outer line at chord.parts
no_outer_of line at _ = refl

outer_after : (line : List ℕ) (at : ℕ) (kind : TokenKind) (more last : List LineToken)
    → outer_tokens ((part_tokens line at kind ++ more) ++ last) ≡ outer_tokens (more ++ last)
outer_after line at kind more last =
    let ps = part_tokens line at kind in
    ap outer_tokens (append_assoc ps more last) ∙ filter-append is_outer ps (more ++ last) ∙ ap (λ l. l ++ outer_tokens (more ++ last)) (no_outer_of line at kind)

joined : (line : List ℕ) (len at end to : ℕ) (ts : List (Spanned TokenKind)) (last : List LineToken) → All (IsSpan len) ts → JoinFromTo at ts end
    → JoinColumns (end + 1) (outer_tokens last) to → JoinColumns (at + 1) (outer_tokens (flat_map (with_parts line) ts ++ last)) to
joined line len at end to [] last spans j rest = subst (λ n. JoinColumns (n + 1) (outer_tokens last) to) (sym j) rest
joined line len at end to (t ∷ ts) last spans j rest =
    let grows = (All-head (IsSpan len) t ts spans).0 in
    let begins = j.0 in
    let more = joined line len t.to end to ts last (All-tail (IsSpan len) t ts spans) j.1 rest in
    let there = outer_after line t.from t.kind (flat_map (with_parts line) ts) last in (
      ap (λ n. n + 1) j.0,
      omega (arith, grows, begins),
      subst (λ l. JoinColumns (t.to + 1) l to) (sym there) more,
    )

-- the last token ends where the tokens do
end_is : (at end : ℕ) (ts : List (Spanned TokenKind)) → JoinFromTo at ts end → end_after at ts ≡ end
end_is at end [] j = j
end_is at end (t ∷ ts) j = end_is t.to end ts j.1

comment_joins : (from to : ℕ) → from ≤ to → JoinColumns (from + 1) (outer_tokens (comment_between from to)) (to + 1)
comment_joins from to le =
    cond_both (nat_lt from to) (line_token of_line.Comment 0 from to ∷ []) [] (λ l. JoinColumns (from + 1) (outer_tokens l) (to + 1))
    (λ e. (refl, omega (arith, le), refl)) (λ e. let n = ltb-false from to e in omega (arith, le, n))

-- what the tokens of a line cover is no longer than the line without its carriage return
read_le : (before : ℕ) (text : List ℕ) → length (before_comment before text) ≤ length text
read_le before [] = omega arith
read_le before (b ∷ bs) =
    cond_both ((b == 37) && not (before == 92)) [] (b ∷ before_comment b bs) (λ l. length l ≤ length (b ∷ bs)) (λ _. omega arith) (λ _. let rest = read_le b bs in omega (arith, rest))

covered_le_in : (class : LineClass) (text : List ℕ) → covered_in class text ≤ length text
covered_le_in (classes.Field letter) text = read_le 32 text
covered_le_in classes.Directive text = omega arith
covered_le_in classes.Music text = read_le 32 text
covered_le_in _ text = omega arith

covered_le : (line : List ℕ) → covered_of line ≤ length (without_return line)
unfolding covered_of
covered_le line = covered_le_in (class_of line) (without_return line)

-- the columns of a line from the first on
abbrev Covers : List ℕ → List LineToken → Type 0
Covers line tokens = JoinColumns 1 (outer_tokens tokens) (length (without_return line) + 1)

cut_covers : (line : List ℕ) → Covers line (cut_tokens line)
cut_covers line =
    let l = laid line in
    let end = length (without_return line) in
    subst (λ n. Covers line (flat_map (with_parts line) (tokens_of line) ++ comment_between n end)) (sym (end_is 0 (covered_of line) (tokens_of line) l.joined))
    (joined line (length line) 0 (covered_of line) (end + 1) (tokens_of line) (comment_between (covered_of line) end) l.spans l.joined
    (comment_joins (covered_of line) end (covered_le line)))

whole_covers : (kind : LineTokenKind) (line : List ℕ) → Covers line (whole_line kind line)
whole_covers kind line = (refl, omega arith, refl)

covers_by : (kind : Option LineTokenKind) (line : List ℕ) → Covers line (tokens_by kind line)
covers_by None line = cut_covers line
covers_by (Some kind) line = whole_covers kind line

pub line_covered : (is_compiled : Bool) (line : List ℕ) → JoinColumns 1 (outer_tokens (line_tokens is_compiled line)) (length (without_return line) + 1)
line_covered is_compiled line = covers_by (whole_kind is_compiled (class_of line)) line

parts_in : (line : List ℕ) (from to : ℕ) (ps : List (Spanned ChordPartKind)) (tail : List LineToken) → All (IsPartWithin from to) ps
    → PartsLieWithin (from + 1) (to + 1) tail → PartsLieWithin (from + 1) (to + 1) (map (part_token line from) ps ++ tail)
parts_in line from to [] tail all rest = rest
parts_in line from to (p ∷ ps) tail all rest =
    let here = All-head (IsPartWithin from to) p ps all in
    let begun = here.0 in
    let grows = here.1 in
    let ends = here.2 in (
      λ _. (refl, omega (arith, begun), omega (arith, grows), omega (arith, ends)),
      parts_in line from to ps tail (All-tail (IsPartWithin from to) p ps all) rest,
    )

kind_in : (line : List ℕ) (kind : TokenKind) (from to : ℕ) (tail : List LineToken) → HasPartsWithin from to kind → PartsLieWithin (from + 1) (to + 1) tail
    → PartsLieWithin (from + 1) (to + 1) (part_tokens line from kind ++ tail)
kind_in line (kinds.Chord chord) from to tail held rest = parts_in line from to chord.parts tail held rest
kind_in line _ from to tail held rest = rest

within : (line : List ℕ) (ts : List (Spanned TokenKind)) (last : List LineToken) → All HoldsParts ts → ((a b : ℕ) → PartsLieWithin a b last) → (a b : ℕ)
    → PartsLieWithin a b (flat_map (with_parts line) ts ++ last)
within line [] last held rest a b = rest a b
within line (t ∷ ts) last held rest a b =
    let more = flat_map (with_parts line) ts in
    let later = kind_in line t.kind t.from t.to (more ++ last) (All-head HoldsParts t ts held)
    (within line ts last (All-tail HoldsParts t ts held) rest (t.from + 1) (t.to + 1)) in (
      λ part. absurd (part refl),
      subst (PartsLieWithin (t.from + 1) (t.to + 1)) (sym (append_assoc (part_tokens line t.from t.kind) more last)) later,
    )

one_in : (kind : LineTokenKind) (from to a b : ℕ) → PartsLieWithin a b (line_token kind 0 from to ∷ [])
one_in kind from to a b = (λ part. absurd (part refl), tt)

comment_in : (from to a b : ℕ) → PartsLieWithin a b (comment_between from to)
comment_in from to a b =
    cond_both (nat_lt from to) (line_token of_line.Comment 0 from to ∷ []) [] (PartsLieWithin a b) (λ _. one_in of_line.Comment from to a b) (λ _. tt)

cut_in : (line : List ℕ) → PartsLieWithin 0 0 (cut_tokens line)
cut_in line =
    let end = length (without_return line) in
    within line (tokens_of line) (comment_between (end_after 0 (tokens_of line)) end) (all_hold line) (λ a b. comment_in (end_after 0 (tokens_of line)) end a b) 0 0

whole_in : (kind : LineTokenKind) (line : List ℕ) → PartsLieWithin 0 0 (whole_line kind line)
whole_in kind line = one_in kind 0 (length (without_return line)) 0 0

in_by : (kind : Option LineTokenKind) (line : List ℕ) → PartsLieWithin 0 0 (tokens_by kind line)
in_by None line = cut_in line
in_by (Some kind) line = whole_in kind line

pub line_parts_within : (is_compiled : Bool) (line : List ℕ) → PartsLieWithin 0 0 (line_tokens is_compiled line)
line_parts_within is_compiled line = in_by (whole_kind is_compiled (class_of line)) line
