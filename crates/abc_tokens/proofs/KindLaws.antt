-- Each token of a line has the kind that its bytes have there.
use Rattle.std.proofs.Common.{◌≡◌, ℕ, ◌+◌, ◌-◌, ◌==◌, ◌&&◌, not, Bool, true, false, cond, ◌⊎◌, Option, Some, None, is_some, List, [], ◌∷◌, ◌++◌, length, take, drop, refl, sym, ap, ◌∙◌}
use Rattle.std.proofs.Common.{subst, inl, inr, ⊎_elim, arith, length-append, append_assoc}
use Rattle.std.specs.Prelude.{All, IfSome, map, flat_map, nat_lt, slice_index, slice_range}
use Rattle.std.proofs.Math.Seq.{drop-append_seam, take-append_seam}
use Rattle.std.proofs.lemmas.Bool.{cases_Bool, cond-true, cond_both, eqb-true, eqb-false, false≢true, ltb-true, or_from}
use Rattle.std.proofs.lemmas.List.{append-nil, take-append-drop}
use Rattle.std.proofs.lemmas.List.Elements.{All-append, All-cons, All-nil}
use Rattle.abc_text.specs.Blank.{is_blank}
use Rattle.abc_text.specs.Cut.{HasNoByte}
use Rattle.abc_text.specs.LineEnd.{without_return}
use Rattle.abc_scan.specs.declared.chord_part.ChordPartKind.{ChordPartKind}
use Rattle.abc_scan.specs.declared.chord_part.ChordPartKind.TheVariants as parts
use Rattle.abc_scan.specs.declared.directive.Directive.{Directive}
use Rattle.abc_scan.specs.declared.dynamic.Dynamic.{Dynamic}
use Rattle.abc_scan.specs.declared.line_class.LineClass.{LineClass}
use Rattle.abc_scan.specs.declared.line_class.LineClass.TheVariants as classes
use Rattle.abc_scan.specs.declared.spanned.Spanned.{Spanned}
use Rattle.abc_scan.specs.declared.token.TokenKind.{TokenKind}
use Rattle.abc_scan.specs.declared.token.TokenKind.TheVariants as kinds
use Rattle.abc_scan.specs.Chord.{SpellsPart, inside_of, part_grammar, part_kinds}
use Rattle.abc_scan.specs.Class.{IsFieldLine, class_of}
use Rattle.abc_scan.specs.Cutting.{IsCuttingFrom, unmatched_at}
use Rattle.abc_scan.specs.Delimited.{IsDelimited}
use Rattle.abc_scan.specs.Directive.{directive_of}
use Rattle.abc_scan.specs.Dynamic.{IsDynamic, dynamic_of}
use Rattle.abc_scan.specs.Line.{cutting_of, directive_token, tokens_in, tokens_of}
use Rattle.abc_scan.specs.NoEffect.{HasNoEffect, IsExtraSpace, IsSingle}
use Rattle.abc_scan.specs.Single.{IsBlankToken}
use Rattle.abc_scan.specs.Start.{has_no_effect}
use Rattle.abc_scan.specs.Text.{before_comment, without_comment}
use Rattle.abc_scan.specs.Token.{Spells, is_bar, line_grammar, line_kinds, opens}
use Rattle.abc_scan.proofs.ClassLaws.{field_visible, laws}
use Rattle.abc_scan.proofs.Comments.{cuts_comments}
use Rattle.abc_scan.proofs.Directives.{line-directive}
use Rattle.abc_scan.proofs.Dynamics.{dynamic-read, dynamic-sound}
use Rattle.abc_scan.proofs.TokenLaws.{cuts_each}
use Rattle.abc_tokens.specs.declared.line_token.LineToken.{LineToken}
use Rattle.abc_tokens.specs.declared.line_token.LineTokenKind.{LineTokenKind}
use Rattle.abc_tokens.specs.declared.line_token.LineTokenKind.TheVariants as of_line
use Rattle.abc_tokens.specs.Kinds.{Begins, HasKind, IsBetween, IsFieldOfKind, IsMusicOfKind, IsOfKind, IsPartOfKind, IsTokenOfKind, token_text}
use Rattle.abc_tokens.specs.LineTokens.{comment_between, cut_tokens, end_after, field_kind, line_token, line_tokens, no_effect_kind, outer_token, part_kind, part_token, part_tokens, token_kind}
use Rattle.abc_tokens.specs.LineTokens.{tokens_by, tokens_with_parts, whole_kind, whole_line, with_parts}

-- a part of a list, by what is before it
raw_slice : (line before part tail : List ℕ) (from to : ℕ) → line ≡ before ++ (part ++ tail) → from ≡ length before → to ≡ from + length part → slice_range line from to ≡ part
raw_slice line before part tail from to is begins ends =
    let size : to - from ≡ length part = omega (arith, ends) in
    (λ i. take (size i) (drop (begins i) (is i))) ∙ ap (take (length part)) (drop-append_seam before (part ++ tail)) ∙ take-append_seam part tail

slice_is : (line before part tail : List ℕ) (from to : ℕ) → line ≡ before ++ (part ++ tail) → from ≡ length before → to ≡ from + length part
    → slice_range line ((from + 1) - 1) ((to + 1) - 1) ≡ part
slice_is line before part tail from to is begins ends =
    raw_slice line before part tail ((from + 1) - 1) ((to + 1) - 1) is (omega (arith, begins)) (omega (arith, ends))

-- one byte
one_byte : (text : List ℕ) → length text ≡ 1 → (byte : ℕ) × (text ≡ byte ∷ [])
one_byte [] one = absurd (omega (arith, one))
one_byte (byte ∷ []) one = (byte, refl)
one_byte (byte ∷ next ∷ more) one = absurd (omega (arith, one))

-- a token without effect, in a chord and outside
abbrev Both : List ℕ → LineTokenKind → Type 0
Both text kind = IsPartOfKind text kind × IsTokenOfKind text kind

other_byte : (byte n : ℕ) → has_no_effect n ≡ false → has_no_effect byte ≡ true → (byte == n) ≡ false
other_byte byte n heard silent = ⊎_elim
    (λ same. let e : byte ≡ n = eqb-true byte n same in absurd (false≢true (sym heard ∙ ap has_no_effect (sym e) ∙ silent)))
    (λ e. e)
    (cases_Bool (byte == n))

single_kind : (byte : ℕ) → has_no_effect byte ≡ true → no_effect_kind (byte ∷ []) ≡ of_line.NoEffect
single_kind byte silent =
    let blank : is_blank byte ≡ false = or_from (byte == 32) (byte == 9) (other_byte byte 32 refl silent) (other_byte byte 9 refl silent) in
    λ i. cond (blank i) of_line.Blank
    (cond (other_byte byte 34 refl silent i) of_line.Quoted
    (cond (other_byte byte 33 refl silent i) of_line.Decoration
    (cond (other_byte byte 123 refl silent i) of_line.Grace
    (cond (other_byte byte 121 refl silent i) of_line.Space of_line.NoEffect))))

between : (text : List ℕ) (d : IsDelimited text) (opening closing : ℕ) → d.opening ≡ opening → d.closing ≡ closing → IsBetween opening closing text
between text d opening closing begins ends = record {
  inside = d.inside;
  spelling = d.spelling ∙ (λ i. begins i ∷ (d.inside ++ ends i ∷ []));
  first_closing = subst (λ (b : ℕ). HasNoByte b d.inside) ends d.first_closing;
}

delimited_kind : (text : List ℕ) → IsDelimited text → ((dynamic : Dynamic) → ¬ IsDynamic text dynamic) → Both text (no_effect_kind text)
delimited_kind text d none =
    ⊎_elim
    (λ quoted. let is = between text d 34 34 quoted.0 quoted.1 in
    subst (Both text) (sym (ap no_effect_kind is.spelling)) (is, is))
    (λ others. ⊎_elim
    (λ mark. let is = between text d 33 33 mark.0 mark.1 in
    subst (Both text) (sym (ap no_effect_kind is.spelling)) ((is, none), (is, none)))
    (λ grace. let is = between text d 123 125 grace.0 grace.1 in
    subst (Both text) (sym (ap no_effect_kind is.spelling)) (is, is))
    others)
    d.delimiters

silent_kind : (text : List ℕ) → HasNoEffect text → ((dynamic : Dynamic) → ¬ IsDynamic text dynamic) → Both text (no_effect_kind text)
silent_kind text is none =
    ⊎_elim
    (λ d. delimited_kind text d none)
    (λ others. ⊎_elim
    (λ (space : IsExtraSpace text). subst (Both text) (sym (ap no_effect_kind space.spelling)) (space, space))
    (λ (single : IsSingle text). subst (Both text) (sym (ap no_effect_kind single.spelling ∙ single_kind single.byte single.silent)) (single, single))
    others)
    is

blank_kind : (text : List ℕ) (is : IsBlankToken text) → IsPartOfKind text (no_effect_kind text)
blank_kind text is =
    let kind : no_effect_kind text ≡ of_line.Blank = ap no_effect_kind is.spelling ∙ cond-true _ _ _ is.blank in
    subst (IsPartOfKind text) (sym kind) is

-- the kind of what is spelled
token_spelled : (after_bar : Bool) (text : List ℕ) (kind : TokenKind) → Spells after_bar text kind → IsTokenOfKind text (token_kind text kind)
token_spelled after_bar text (kinds.Note note) is = (note, is)
token_spelled after_bar text (kinds.Rest value) is = (value, is)
token_spelled after_bar text (kinds.BarRest bars) is = (bars, is)
token_spelled after_bar text (kinds.Chord chord) is = (chord, is)
token_spelled after_bar text (kinds.InlineField field) is = (field, is)
token_spelled after_bar text (kinds.Bar bar) is = (bar, is)
token_spelled after_bar text (kinds.Ending passes) is = (after_bar, passes, is)
token_spelled after_bar text (kinds.Tuplet tuplet) is = (tuplet, is)
token_spelled after_bar text (kinds.Broken broken) is = (broken, is)
token_spelled after_bar text kinds.Tie is = is
token_spelled after_bar text kinds.Blank is = is
token_spelled after_bar text (kinds.Dynamic dynamic) is = (dynamic, is)
token_spelled after_bar text kinds.NoEffect is = (silent_kind text is.0 is.1).1
token_spelled after_bar text _ is = absurd is

token_alone : (text front rest : List ℕ) (kind : TokenKind) → text ≡ front ++ rest → length front ≡ 1 → kind ≡ unmatched_at line_kinds text → IsTokenOfKind front (token_kind front kind)
token_alone text front rest kind cut one is =
    let byte = one_byte front one in
    let first : unmatched_at line_kinds text ≡ cond (opens byte.0) kinds.Unclosed kinds.BadByte =
    ap (unmatched_at line_kinds) (cut ∙ ap (λ l. l ++ rest) byte.1) in
    subst (λ (k : TokenKind). IsTokenOfKind front (token_kind front k)) (sym (is ∙ first))
    (cond_both (opens byte.0) kinds.Unclosed kinds.BadByte (λ (k : TokenKind). IsTokenOfKind front (token_kind front k))
    (λ e. (byte.0, byte.1, e)) (λ e. (byte.0, byte.1, e)))

found_dynamic : (text : List ℕ) (found : Option Dynamic) → is_some found ≡ true → IfSome found (IsDynamic text) → (dynamic : Dynamic) × IsDynamic text dynamic
found_dynamic text None some is = absurd (false≢true some)
found_dynamic text (Some dynamic) some is = (dynamic, is)

no_dynamic : (text : List ℕ) → is_some (dynamic_of text) ≡ false → (dynamic : Dynamic) → ¬ IsDynamic text dynamic
no_dynamic text none dynamic is = false≢true (sym none ∙ ap is_some (dynamic-read text dynamic is))

part_spelled : (after_bar : Bool) (text : List ℕ) (kind : ChordPartKind) → SpellsPart after_bar text kind → IsPartOfKind text (part_kind text kind)
part_spelled after_bar text (parts.Note note) is = (note, is)
part_spelled after_bar text parts.Tie is = is
part_spelled after_bar text parts.NoEffect is =
    cond_both (is_some (dynamic_of text)) of_line.Dynamic (no_effect_kind text) (IsPartOfKind text)
    (λ some. found_dynamic text (dynamic_of text) some (dynamic-sound text))
    (λ none. ⊎_elim (λ blank. blank_kind text blank) (λ silent. (silent_kind text silent (no_dynamic text none)).0) is)
part_spelled after_bar text parts.BadByte is = absurd is

part_alone : (text front rest : List ℕ) (kind : ChordPartKind) → text ≡ front ++ rest → length front ≡ 1 → kind ≡ unmatched_at part_kinds text → IsPartOfKind front (part_kind front kind)
part_alone text front rest kind cut one is =
    let byte = one_byte front one in
    let first : unmatched_at part_kinds text ≡ parts.BadByte = ap (unmatched_at part_kinds) (cut ∙ ap (λ l. l ++ rest) byte.1) in
    subst (λ (k : ChordPartKind). IsPartOfKind front (part_kind front k)) (sym (is ∙ first)) byte

module _ (line : List ℕ) where
  abbrev Music : LineToken → Type 0
  Music t = IsMusicOfKind t.depth (token_text line t) t.kind

  -- the parts of a chord that begins at this place
  parts_of_kind : (start : ℕ) (after_bar : Bool) (at : ℕ) (text : List ℕ) (ps : List (Spanned ChordPartKind)) (before tail : List ℕ) → IsCuttingFrom part_grammar after_bar at text ps
      → line ≡ before ++ (text ++ tail) → start + at ≡ length before → All Music (map (part_token line start) ps)
  parts_of_kind start after_bar at text [] before tail is here place = All-nil Music
  parts_of_kind start after_bar at text (p ∷ ps) before tail (front, rest, cut, first, begins, ends, more) here place =
      let there : line ≡ before ++ (front ++ (rest ++ tail)) = here ∙ ap (λ l. before ++ l) (ap (λ l. l ++ tail) cut ∙ append_assoc front rest tail) in
      let from : start + p.from ≡ length before = omega (arith, begins, place) in
      let to : start + p.to ≡ (start + p.from) + length front = omega (arith, begins, ends) in
      let own : token_text line (part_token line start p) ≡ front = slice_is line before front (rest ++ tail) (start + p.from) (start + p.to) there from to in
      let raw : slice_range line (start + p.from) (start + p.to) ≡ front = raw_slice line before front (rest ++ tail) (start + p.from) (start + p.to) there from to in
      let is : IsPartOfKind front (part_kind front p.kind) = ⊎_elim (λ longest. part_spelled after_bar front p.kind longest.spelled)
      (λ none. part_alone text front rest p.kind cut none.1 none.2) first in
      All-cons Music (part_token line start p) (map (part_token line start) ps)
      (subst (λ (x : List ℕ × List ℕ). IsPartOfKind x.0 (part_kind x.1 p.kind)) (λ i. (sym own i, sym raw i)) is)
      (parts_of_kind start (part_kinds.is_bar p.kind) p.to rest ps (before ++ front) tail more
      (there ∙ sym (append_assoc before front (rest ++ tail))) (let long = length-append before front in omega (arith, long, from, to)))

  -- a token and its parts
  parts_of_token : (front rest before : List ℕ) (at : ℕ) (after_bar : Bool) (kind : TokenKind) → line ≡ before ++ (front ++ rest) → at ≡ length before → Spells after_bar front kind
      → All Music (part_tokens line at kind)
  parts_of_token front rest before at after_bar (kinds.Chord chord) here place is =
      let f = is.framed in
      let inside : inside_of is.frame front ≡ f.inside =
      (λ i. take (f.size_is i) (drop 1 (f.spelling i))) ∙ take-append_seam f.inside (93 ∷ f.written) in
      let tail = (93 ∷ f.written) ++ rest in
      let there : line ≡ (before ++ 91 ∷ []) ++ (inside_of is.frame front ++ tail) =
      here ∙ ap (λ l. before ++ (l ++ rest)) f.spelling ∙ ap (λ l. before ++ (91 ∷ l)) (append_assoc f.inside (93 ∷ f.written) rest)
      ∙ sym (append_assoc before (91 ∷ []) (f.inside ++ tail)) ∙ ap (λ l. (before ++ 91 ∷ []) ++ (l ++ tail)) (sym inside) in
      parts_of_kind at _ 1 (inside_of is.frame front) chord.parts (before ++ 91 ∷ []) tail is.parts_are there
      (let long = length-append before (91 ∷ []) in omega (arith, long, place))
  parts_of_token front rest before at after_bar _ here place is = All-nil Music

  no_parts : (at : ℕ) (text : List ℕ) → All Music (part_tokens line at (unmatched_at line_kinds text))
  no_parts at [] = All-nil Music
  no_parts at (b ∷ bs) = cond_both (opens b) kinds.Unclosed kinds.BadByte (λ k. All Music (part_tokens line at k)) (λ _. All-nil Music) (λ _. All-nil Music)

  -- the tokens of music
  tokens_of_kind : (after_bar : Bool) (at : ℕ) (text : List ℕ) (ts : List (Spanned TokenKind)) (before tail : List ℕ) → IsCuttingFrom line_grammar after_bar at text ts
      → line ≡ before ++ (text ++ tail) → at ≡ length before → All Music (flat_map (with_parts line) ts)
  tokens_of_kind after_bar at text [] before tail is here place = All-nil Music
  tokens_of_kind after_bar at text (t ∷ ts) before tail (front, rest, cut, first, begins, ends, more) here place =
      let there : line ≡ before ++ (front ++ (rest ++ tail)) = here ∙ ap (λ l. before ++ l) (ap (λ l. l ++ tail) cut ∙ append_assoc front rest tail) in
      let from : t.from ≡ length before = begins ∙ place in
      let to : t.to ≡ t.from + length front = omega (arith, begins, ends) in
      let own : token_text line (outer_token line t) ≡ front = slice_is line before front (rest ++ tail) t.from t.to there from to in
      let raw : slice_range line t.from t.to ≡ front = raw_slice line before front (rest ++ tail) t.from t.to there from to in
      let is : IsTokenOfKind front (token_kind front t.kind) = ⊎_elim (λ longest. token_spelled after_bar front t.kind longest.spelled)
      (λ none. token_alone text front rest t.kind cut none.1 none.2) first in
      let parts = ⊎_elim (λ longest. parts_of_token front (rest ++ tail) before t.from after_bar t.kind there from longest.spelled)
      (λ none. subst (λ k. All Music (part_tokens line t.from k)) (sym none.2) (no_parts t.from text)) first in
      All-append Music (with_parts line t) (flat_map (with_parts line) ts)
      (All-cons Music (outer_token line t) (part_tokens line t.from t.kind)
      (subst (λ (x : List ℕ × List ℕ). IsTokenOfKind x.0 (token_kind x.1 t.kind)) (λ i. (sym own i, sym raw i)) is) parts)
      (tokens_of_kind (is_bar t.kind) t.to rest ts (before ++ front) tail more
      (there ∙ sym (append_assoc before front (rest ++ tail))) (let long = length-append before front in omega (arith, long, from, to)))

  -- what is after the text of a line
  pub return_tail : (tail : List ℕ) × (line ≡ without_return line ++ tail)
  return_tail = cond_both _ (take (length line - 1) line) line (λ (text : List ℕ). (tail : List ℕ) × (line ≡ text ++ tail))
      (λ _. (drop (length line - 1) line, sym (take-append-drop (length line - 1) line))) (λ _. ([], sym (append-nil line)))

  module _ (P : ℕ → List ℕ → LineTokenKind → Type 0) (comments : (text : List ℕ) → Begins 37 text → P 0 text of_line.Comment) where
    abbrev Told : LineToken → Type 0
    Told t = P t.depth (token_text line t) t.kind

    comment_told : (read comment : List ℕ) → without_return line ≡ read ++ comment → (comment ≡ []) ⊎ Begins 37 comment
        → All Told (comment_between (length read) (length (without_return line)))
    comment_told read comment split is =
        let tail = return_tail in
        let here : line ≡ read ++ (comment ++ tail.0) = tail.1 ∙ ap (λ l. l ++ tail.0) split ∙ append_assoc read comment tail.0 in
        let size : length (without_return line) ≡ length read + length comment = ap length split ∙ length-append read comment in
        let own = slice_is line read comment tail.0 (length read) (length (without_return line)) here refl size in
        cond_both (nat_lt (length read) (length (without_return line))) (line_token of_line.Comment 0 (length read) (length (without_return line)) ∷ []) [] (All Told)
        (λ less. All-cons Told _ []
        (subst (λ (text : List ℕ). P 0 text of_line.Comment) (sym own) (comments comment
        (⊎_elim (λ none. let e : length comment ≡ 0 = ap length none in let more = ltb-true (length read) (length (without_return line)) less in absurd (omega (arith, e, size, more)))
        (λ begins. begins) is)))
        (All-nil Told))
        (λ _. All-nil Told)

    -- the comment after the text that is read
    comment_after : (end : ℕ) → end ≡ length (without_comment (without_return line)) → All Told (comment_between end (length (without_return line)))
    comment_after end is =
        let read = cuts_comments (without_return line) in
        subst (λ (n : ℕ). All Told (comment_between n (length (without_return line)))) (sym is)
        (comment_told (without_comment (without_return line)) read.comment read.spelling
        (⊎_elim (λ none. inl none) (λ begins. inr (begins.0, begins.1)) read.begins))

-- the kind of a field by its letter
field_kind_of : (letter : ℕ) (text : List ℕ) → Begins letter text → IsFieldOfKind letter text (field_kind letter)
field_kind_of letter text begins =
    cond_both (letter == 88) of_line.NumberField _ (IsFieldOfKind letter text) (λ e. (eqb-true letter 88 e, begins))
    (λ no_x. cond_both (letter == 84) of_line.TitleField _ (IsFieldOfKind letter text) (λ e. (eqb-true letter 84 e, begins))
    (λ no_t. cond_both (letter == 75) of_line.KeyField of_line.OtherField (IsFieldOfKind letter text) (λ e. (eqb-true letter 75 e, begins))
    (λ no_k. (eqb-false letter 88 no_x, eqb-false letter 84 no_t, eqb-false letter 75 no_k, begins))))

-- the text of a field begins with its letter
field_read : (text : List ℕ) (letter : ℕ) → IsFieldLine text letter → Begins letter (without_comment text)
field_read text letter is =
    let seen = (field_visible text letter is).1 in
    let rest = 58 ∷ is.value in
    (before_comment letter rest, ap without_comment is.spelling ∙ ap (λ b. cond (b && not (32 == 92)) [] (letter ∷ before_comment letter rest)) seen)

-- the tokens of a line that is cut, by its class
module _ (line : List ℕ) where
  abbrev Of : LineClass → Bool → LineToken → Type 0
  Of class compiled t = IsOfKind class compiled t.depth (token_text line t) t.kind

  abbrev All_of : LineClass → List LineToken → Type 0
  All_of class tokens = All (Of class true) tokens

  -- one token for the whole line
  whole : (class : LineClass) (compiled : Bool) (kind : LineTokenKind) → ((text : List ℕ) → IsOfKind class compiled 0 text kind) → All (Of class compiled) (whole_line kind line)
  whole class compiled kind is =
      let one = line_token kind 0 0 (length (without_return line)) in
      All-cons (Of class compiled) one [] (is (token_text line one)) (All-nil (Of class compiled))

  field_tokens : (letter : ℕ) → classes.Field letter ≡ class_of line → All_of (classes.Field letter) (tokens_with_parts line (tokens_in (classes.Field letter) (without_return line)))
  field_tokens letter class =
      let read = without_comment (without_return line) in
      let begins = field_read (without_return line) letter (((laws (without_return line) (classes.Field letter) class).field letter).0 refl) in
      let cut = cuts_comments (without_return line) in
      let tail = return_tail line in
      let here : line ≡ [] ++ (read ++ (cut.comment ++ tail.0)) = tail.1 ∙ ap (λ l. l ++ tail.0) cut.spelling ∙ append_assoc read cut.comment tail.0 in
      let own = slice_is line [] read (cut.comment ++ tail.0) 0 (length read) here refl (omega arith) in
      let first : slice_index read 0 ≡ letter = ap (λ l. slice_index l 0) begins.1 in
      All-cons (Of (classes.Field letter) true) (line_token (field_kind (slice_index read 0)) 0 0 (length read)) (comment_between (length read) (length (without_return line)))
      (subst (λ (x : List ℕ × ℕ). IsFieldOfKind letter x.0 (field_kind x.1)) (λ i. (sym own i, sym first i)) (field_kind_of letter read begins))
      (comment_after line (λ depth bytes kind. IsFieldOfKind letter bytes kind) (λ bytes is. is) (length read) refl)

  -- where the tokens of music end
  cut_end : (after_bar : Bool) (at : ℕ) (text : List ℕ) (ts : List (Spanned TokenKind)) → IsCuttingFrom line_grammar after_bar at text ts → end_after at ts ≡ at + length text
  cut_end after_bar at text [] is = let none = ap length is in omega (arith, none)
  cut_end after_bar at text (t ∷ ts) (front, rest, cut, first, begins, ends, more) =
      let later = cut_end (is_bar t.kind) t.to rest ts more in
      let total = ap length cut ∙ length-append front rest in
      omega (arith, later, total, begins, ends)

  music_tokens : All_of classes.Music (tokens_with_parts line (tokens_in classes.Music (without_return line)))
  music_tokens =
      let read = without_comment (without_return line) in
      let cut = cuts_comments (without_return line) in
      let tail = return_tail line in
      let here : line ≡ [] ++ (read ++ (cut.comment ++ tail.0)) = tail.1 ∙ ap (λ l. l ++ tail.0) cut.spelling ∙ append_assoc read cut.comment tail.0 in
      let own = cuts_each read in
      All-append (Music line) (flat_map (with_parts line) (cutting_of read)) (comment_between (end_after 0 (cutting_of read)) (length (without_return line)))
      (tokens_of_kind line false 0 read (cutting_of read) [] (cut.comment ++ tail.0) own here refl)
      (comment_after line IsMusicOfKind (λ bytes is. is) (end_after 0 (cutting_of read)) (let ends = cut_end false 0 read (cutting_of read) own in omega (arith, ends)))

  directive_tokens : (found : Option Directive) → is_some found ≡ true → All_of classes.Directive (tokens_with_parts line (directive_token found (length (without_return line))))
  directive_tokens None some = absurd (false≢true some)
  directive_tokens (Some directive) some =
      let end = length (without_return line) in
      All-cons (Of classes.Directive true) (line_token of_line.Directive 0 0 end) (comment_between end end) refl
      (cond_both (nat_lt end end) (line_token of_line.Comment 0 end end ∷ []) [] (All_of classes.Directive)
      (λ less. let more = ltb-true end end less in absurd (omega (arith, more))) (λ _. All-nil (Of classes.Directive true)))

  cut_tokens_of : (class : LineClass) → class ≡ class_of line → All_of class (tokens_with_parts line (tokens_in class (without_return line))) → All_of class (cut_tokens line)
  unfolding tokens_of
  cut_tokens_of class is told = subst (λ c. All_of class (tokens_with_parts line (tokens_in c (without_return line)))) is told

  kinds_by : (class : LineClass) (compiled : Bool) → class ≡ class_of line
      → All (Of class compiled) (tokens_by (whole_kind compiled class) line)
  kinds_by classes.Blank compiled is = whole classes.Blank compiled of_line.Blank (λ text. refl)
  kinds_by classes.Comment compiled is = whole classes.Comment compiled of_line.Comment (λ text. refl)
  kinds_by (classes.Field letter) true is = cut_tokens_of (classes.Field letter) is (field_tokens letter is)
  kinds_by classes.Directive true is =
      let line_is = ((laws (without_return line) classes.Directive is).directive).0 refl in
      cut_tokens_of classes.Directive is (directive_tokens (directive_of (without_return line)) (line-directive (without_return line) line_is))
  kinds_by classes.Music true is = cut_tokens_of classes.Music is music_tokens
  kinds_by (classes.Field letter) false is = whole (classes.Field letter) false of_line.FreeText (λ text. refl)
  kinds_by classes.Directive false is = whole classes.Directive false of_line.FreeText (λ text. refl)
  kinds_by classes.Music false is = whole classes.Music false of_line.FreeText (λ text. refl)

pub line_of_kinds : (compiled : Bool) (line : List ℕ) → All (HasKind compiled line) (line_tokens compiled line)
line_of_kinds compiled line = kinds_by line (class_of line) compiled refl
