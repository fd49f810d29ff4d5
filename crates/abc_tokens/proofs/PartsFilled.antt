-- The parts of each chord of a line lie end to end from its `[` to its `]`.
use Rattle.std.proofs.Common.{◌≡◌, ℕ, ◌+◌, ◌-◌, ◌==◌, Bool, true, false, Option, Some, None, List, [], ◌∷◌, ◌++◌, length, take, drop, slice_get, refl, sym, ap, ◌∙◌}
use Rattle.std.proofs.Common.{subst, ⊎_elim, arith, length-append, append_assoc}
use Rattle.std.specs.Prelude.{map, flat_map, nat_lt}
use Rattle.std.proofs.Math.Seq.{take-append_seam}
use Rattle.std.proofs.lemmas.Bool.{cond_both}
use Rattle.abc_text.specs.Blank.{is_blank}
use Rattle.abc_text.specs.LineEnd.{without_return}
use Rattle.abc_scan.specs.declared.chord_part.ChordPartKind.{ChordPartKind}
use Rattle.abc_scan.specs.declared.directive.Directive.{Directive}
use Rattle.abc_scan.specs.declared.line_class.LineClass.{LineClass}
use Rattle.abc_scan.specs.declared.line_class.LineClass.TheVariants as classes
use Rattle.abc_scan.specs.declared.spanned.Spanned.{Spanned}
use Rattle.abc_scan.specs.declared.token.TokenKind.{TokenKind}
use Rattle.abc_scan.specs.declared.token.TokenKind.TheVariants as kinds
use Rattle.abc_scan.specs.Chord.{inside_of, part_grammar, part_kinds}
use Rattle.abc_scan.specs.Class.{class_of}
use Rattle.abc_scan.specs.Cutting.{IsCuttingFrom, unmatched_at}
use Rattle.abc_scan.specs.Directive.{directive_of}
use Rattle.abc_scan.specs.Field.{field_of}
use Rattle.abc_scan.specs.Line.{cutting_of, directive_token, tokens_in, tokens_of}
use Rattle.abc_scan.specs.Text.{without_comment}
use Rattle.abc_scan.specs.Token.{Spells, is_bar, line_grammar, line_kinds, opens}
use Rattle.abc_scan.proofs.Comments.{cuts_comments}
use Rattle.abc_scan.proofs.TokenLaws.{cuts_each}
use Rattle.abc_tokens.specs.declared.line_token.LineToken.{LineToken}
use Rattle.abc_tokens.specs.declared.line_token.LineTokenKind.{LineTokenKind}
use Rattle.abc_tokens.specs.declared.line_token.LineTokenKind.TheVariants as of_line
use Rattle.abc_tokens.specs.Columns.{IsClosed, PartsFill, opened_at}
use Rattle.abc_tokens.specs.LineTokens.{comment_between, cut_tokens, end_after, field_kind, line_token, line_tokens, no_effect_kind, part_token, part_tokens, token_kind}
use Rattle.abc_tokens.specs.LineTokens.{tokens_by, tokens_with_parts, whole_kind, with_parts}
use Rattle.abc_tokens.proofs.KindLaws.{return_tail}

-- tokens of these kinds have no parts
no_effect_closed : (text : List ℕ) (column : ℕ) → opened_at (no_effect_kind text) column ≡ None
no_effect_closed [] column = refl
no_effect_closed (b ∷ bs) column =
    cond_both (is_blank b) of_line.Blank _ (λ k. opened_at k column ≡ None) (λ _. refl)
    (λ _. cond_both (b == 34) of_line.Quoted _ (λ k. opened_at k column ≡ None) (λ _. refl)
    (λ _. cond_both (b == 33) of_line.Decoration _ (λ k. opened_at k column ≡ None) (λ _. refl)
    (λ _. cond_both (b == 123) of_line.Grace _ (λ k. opened_at k column ≡ None) (λ _. refl)
    (λ _. cond_both (b == 121) of_line.Space of_line.NoEffect (λ k. opened_at k column ≡ None) (λ _. refl) (λ _. refl)))))

field_closed : (letter column : ℕ) → opened_at (field_kind letter) column ≡ None
field_closed letter column =
    cond_both (letter == 88) of_line.NumberField _ (λ k. opened_at k column ≡ None) (λ _. refl)
    (λ _. cond_both (letter == 84) of_line.TitleField _ (λ k. opened_at k column ≡ None) (λ _. refl)
    (λ _. cond_both (letter == 75) of_line.KeyField of_line.OtherField (λ k. opened_at k column ≡ None) (λ _. refl) (λ _. refl)))

-- the byte after others
at_seam : (before : List ℕ) (byte : ℕ) (rest : List ℕ) → slice_get (before ++ byte ∷ rest) (length before) ≡ Some byte
at_seam [] byte rest = refl
at_seam (other ∷ before) byte rest = at_seam before byte rest

module _ (line : List ℕ) where
  -- tokens that fill their chords, whatever chord is before them
  abbrev Fills : List LineToken → Type 0
  Fills tokens = (column : Option ℕ) → IsClosed line column → PartsFill line column tokens

  parts_fill : (start : ℕ) (after_bar : Bool) (at : ℕ) (text : List ℕ) (ps : List (Spanned ChordPartKind)) (before tail : List ℕ) (more : List LineToken)
      → IsCuttingFrom part_grammar after_bar at text ps → line ≡ before ++ (text ++ 93 ∷ tail) → start + at ≡ length before → Fills more
      → PartsFill line (Some ((start + at) + 1)) (map (part_token line start) ps ++ more)
  parts_fill start after_bar at text [] before tail more is here place fills =
      let first : ((start + at) + 1) - 1 ≡ length before = omega (arith, place) in
      fills (Some ((start + at) + 1))
      ((λ i. slice_get (here i) (first i)) ∙ ap (λ l. slice_get (before ++ (l ++ 93 ∷ tail)) (length before)) is ∙ at_seam before 93 tail)
  parts_fill start after_bar at text (p ∷ ps) before tail more (front, rest, cut, first, begins, ends, later) here place fills =
      let there : line ≡ (before ++ front) ++ (rest ++ 93 ∷ tail) =
      here ∙ ap (λ l. before ++ l) (ap (λ l. l ++ 93 ∷ tail) cut ∙ append_assoc front rest (93 ∷ tail)) ∙ sym (append_assoc before front (rest ++ 93 ∷ tail)) in
      let long = length-append before front in
      let at_end : start + p.to ≡ length (before ++ front) = omega (arith, long, begins, ends, place) in
      let same : (start + at) + 1 ≡ (start + p.from) + 1 = omega (arith, begins) in (
        (λ none. absurd (omega (arith, none)), λ _. ap Some same),
        parts_fill start (part_kinds.is_bar p.kind) p.to rest ps (before ++ front) tail more later there at_end fills,
      )

  token_fills : (bytes front rest before : List ℕ) (at : ℕ) (after_bar : Bool) (kind : TokenKind) (more : List LineToken) → line ≡ before ++ (front ++ rest) → at ≡ length before
      → Spells after_bar front kind → Fills more → PartsFill line (opened_at (token_kind bytes kind) ((at + 1) + 1)) (part_tokens line at kind ++ more)
  token_fills bytes front rest before at after_bar (kinds.Chord chord) more here place is fills =
      let f = is.framed in
      let inside : inside_of is.frame front ≡ f.inside =
      (λ i. take (f.size_is i) (drop 1 (f.spelling i))) ∙ take-append_seam f.inside (93 ∷ f.written) in
      let tail = f.written ++ rest in
      let there : line ≡ (before ++ 91 ∷ []) ++ (inside_of is.frame front ++ 93 ∷ tail) =
      here ∙ ap (λ l. before ++ (l ++ rest)) f.spelling ∙ ap (λ l. before ++ (91 ∷ l)) (append_assoc f.inside (93 ∷ f.written) rest)
      ∙ sym (append_assoc before (91 ∷ []) (f.inside ++ 93 ∷ tail)) ∙ ap (λ l. (before ++ 91 ∷ []) ++ (l ++ 93 ∷ tail)) (sym inside) in
      parts_fill at _ 1 (inside_of is.frame front) chord.parts (before ++ 91 ∷ []) tail more is.parts_are there
      (let long = length-append before (91 ∷ []) in omega (arith, long, place)) fills
  token_fills bytes front rest before at after_bar kinds.NoEffect more here place is fills =
      subst (λ (column : Option ℕ). PartsFill line column more) (sym (no_effect_closed bytes ((at + 1) + 1))) (fills None tt)
  token_fills bytes front rest before at after_bar (kinds.Field field) more here place is fills = absurd is
  token_fills bytes front rest before at after_bar _ more here place is fills = fills None tt

  alone_fills : (bytes text : List ℕ) (at : ℕ) (more : List LineToken) → Fills more
      → PartsFill line (opened_at (token_kind bytes (unmatched_at line_kinds text)) ((at + 1) + 1)) (part_tokens line at (unmatched_at line_kinds text) ++ more)
  alone_fills bytes [] at more fills = fills None tt
  alone_fills bytes (b ∷ bs) at more fills =
      cond_both (opens b) kinds.Unclosed kinds.BadByte (λ k. PartsFill line (opened_at (token_kind bytes k) ((at + 1) + 1)) (part_tokens line at k ++ more))
      (λ _. fills None tt) (λ _. fills None tt)

  tokens_fill : (after_bar : Bool) (at : ℕ) (text : List ℕ) (ts : List (Spanned TokenKind)) (before tail : List ℕ) (last : List LineToken)
      → IsCuttingFrom line_grammar after_bar at text ts → line ≡ before ++ (text ++ tail) → at ≡ length before → Fills last → Fills (flat_map (with_parts line) ts ++ last)
  tokens_fill after_bar at text [] before tail last is here place fills column closed = fills column closed
  tokens_fill after_bar at text (t ∷ ts) before tail last (front, rest, cut, first, begins, ends, later) here place fills column closed =
      let there : line ≡ before ++ (front ++ (rest ++ tail)) = here ∙ ap (λ l. before ++ l) (ap (λ l. l ++ tail) cut ∙ append_assoc front rest tail) in
      let from : t.from ≡ length before = begins ∙ place in
      let long = length-append before front in
      let at_end : t.to ≡ length (before ++ front) = omega (arith, long, begins, ends, place) in
      let bytes = take (t.to - t.from) (drop t.from line) in
      let more = flat_map (with_parts line) ts in
      let fill : Fills (more ++ last) = tokens_fill (is_bar t.kind) t.to rest ts (before ++ front) tail last later (there ∙ sym (append_assoc before front (rest ++ tail))) at_end fills in
      let own : PartsFill line (opened_at (token_kind bytes t.kind) ((t.from + 1) + 1)) (part_tokens line t.from t.kind ++ (more ++ last)) =
      ⊎_elim (λ longest. token_fills bytes front (rest ++ tail) before t.from after_bar t.kind (more ++ last) there from longest.spelled fill)
      (λ none. subst (λ k. PartsFill line (opened_at (token_kind bytes k) ((t.from + 1) + 1)) (part_tokens line t.from k ++ (more ++ last))) (sym none.2)
      (alone_fills bytes text t.from (more ++ last) fill)) first in (
        (λ _. closed, λ part. absurd (part refl)),
        subst (PartsFill line (opened_at (token_kind bytes t.kind) ((t.from + 1) + 1))) (sym (append_assoc (part_tokens line t.from t.kind) more last)) own,
      )

  -- one token without parts, and then others
  one_fills : (kind : LineTokenKind) (from to : ℕ) (more : List LineToken) → ((column : ℕ) → opened_at kind column ≡ None) → Fills more → Fills (line_token kind 0 from to ∷ more)
  one_fills kind from to more plain fills column closed = (
    (λ _. closed, λ part. absurd (part refl)),
    subst (λ (next : Option ℕ). PartsFill line next more) (sym (plain ((from + 1) + 1))) (fills None tt),
  )

  none_fills : Fills []
  none_fills column closed = closed

  comment_fills : (from to : ℕ) → Fills (comment_between from to)
  comment_fills from to =
      cond_both (nat_lt from to) (line_token of_line.Comment 0 from to ∷ []) [] Fills (λ _. one_fills of_line.Comment from to [] (λ _. refl) none_fills) (λ _. none_fills)

  directive_fills : (found : Option Directive) (size : ℕ) → Fills (tokens_with_parts line (directive_token found size))
  directive_fills None size = comment_fills 0 (length (without_return line))
  directive_fills (Some directive) size =
      one_fills of_line.Directive 0 size (comment_between size (length (without_return line))) (λ _. refl) (comment_fills size (length (without_return line)))

  class_fills : (class : LineClass) → Fills (tokens_with_parts line (tokens_in class (without_return line)))
  class_fills (classes.Field letter) =
      let read = without_comment (without_return line) in
      one_fills (field_kind (field_of read).letter) 0 (length read) (comment_between (length read) (length (without_return line))) (field_closed (field_of read).letter)
      (comment_fills (length read) (length (without_return line)))
  class_fills classes.Directive = directive_fills (directive_of (without_return line)) (length (without_return line))
  class_fills classes.Music =
      let read = without_comment (without_return line) in
      let cut = cuts_comments (without_return line) in
      let tail = return_tail line in
      let here : line ≡ [] ++ (read ++ (cut.comment ++ tail.0)) = tail.1 ∙ ap (λ l. l ++ tail.0) cut.spelling ∙ append_assoc read cut.comment tail.0 in
      tokens_fill false 0 read (cutting_of read) [] (cut.comment ++ tail.0) _ (cuts_each read) here refl
      (comment_fills (end_after 0 (cutting_of read)) (length (without_return line)))
  class_fills _ = comment_fills 0 (length (without_return line))

  cut_fills : Fills (cut_tokens line)
  unfolding tokens_of
  cut_fills = class_fills (class_of line)

  fills_by : (class : LineClass) (compiled : Bool) → Fills (tokens_by (whole_kind compiled class) line)
  fills_by classes.Blank compiled = one_fills of_line.Blank 0 (length (without_return line)) [] (λ _. refl) none_fills
  fills_by classes.Comment compiled = one_fills of_line.Comment 0 (length (without_return line)) [] (λ _. refl) none_fills
  fills_by _ true = cut_fills
  fills_by _ false = one_fills of_line.FreeText 0 (length (without_return line)) [] (λ _. refl) none_fills

pub line_fills : (compiled : Bool) (line : List ℕ) → PartsFill line None (line_tokens compiled line)
line_fills compiled line = fills_by line (class_of line) compiled None tt
