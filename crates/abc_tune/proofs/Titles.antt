-- The title of a tune of lines is in one of them, so no limit but of size is passed.
use Rattle.std.proofs.Common.{◌≡◌, ◌≤◌, ℕ, Bool, true, false, cond, List, [], ◌∷◌, length, drop, Option, Some, None, sym, subst, arith, length-drop}
use Rattle.std.specs.Prelude.{All, IfSome, nat_le, not, ◌==◌}
use Rattle.std.specs.List.{flat_map, list_all, list_any}
use Rattle.std.proofs.lemmas.Bool.{and_parts, cond_both, leb-true}
use Rattle.std.proofs.lemmas.List.Elements.{All-nil, All-cons, All-head, All-tail, All-append}
use Rattle.abc_bars_body.specs.Mentioned.{items_of_cells}
use Rattle.abc_bars_body.specs.Step.{field_in, field_line}
use Rattle.abc_bars.specs.Titles.{titles_said}
use Rattle.abc_bars_header.specs.declared.defaults.Defaults.{Defaults}
use Rattle.abc_bars.proofs.Titles.{says_titles_of_header, titles_pass}
use Rattle.abc_lines.specs.Text.{is_line}
use Rattle.abc_bars_items.specs.declared.item.Item.{Item}
use Rattle.abc_bars_items.specs.declared.item.Item.TheVariants as items
use Rattle.abc_scan.specs.Cell.{cells_of, ends_cell, put_first}
use Rattle.abc_scan.specs.Class.{class_of}
use Rattle.abc_scan.specs.Cutting.{unmatched_at, IsSpan}
use Rattle.abc_scan.specs.Directive.{directive_of}
use Rattle.abc_scan.specs.Line.{cutting_of, directive_token, tokens_in, tokens_of}
use Rattle.abc_scan.specs.Text.{content}
use Rattle.abc_scan.specs.Token.{Spells, unmatched_byte, line_kinds, opens}
use Rattle.abc_scan.specs.declared.line_class.LineClass.{LineClass}
use Rattle.abc_scan.specs.declared.line_class.LineClass.TheVariants as classes
use Rattle.abc_scan.specs.declared.directive.Directive.{Directive}
use Rattle.abc_scan.specs.declared.field.Field.{Field}
use Rattle.abc_scan.specs.declared.spanned.Spanned.{Spanned}
use Rattle.abc_scan.specs.declared.token.TokenKind.{TokenKind}
use Rattle.abc_scan.specs.declared.token.TokenKind.TheVariants as kinds
use Rattle.abc_scan.proofs.Cuttings.{cut-all}
use Rattle.abc_scan.proofs.TokenLaws.{cuts_each}
use Rattle.abc_scan.proofs.Spans.{laid}
use Rattle.abc_text.specs.Byte.{line_feed}
use Rattle.abc_text.specs.LineEnd.{without_return}
use Rattle.abc_text.proofs.Blanks.{trim_blanks-le}
use Rattle.abc_tune.specs.Abc.{cells_in}
use Rattle.abc_tune.specs.Lines.{HasShortTitle, IsTooLarge, IsTooLongBySize, items_of_lines, by_sections, by_places, by_time}
use Rattle.abc_tune.proofs.Mentions.{few_voices}
use Rattle.abc_voices.specs.Opening.{title_of}
use Rattle.abc_voices.specs.TooLong.{PassesALimit, of_sections, of_places, of_time, of_voices, of_title}
use Rattle.abc_voices.proofs.TooLong.{by_a_limit}

abbrev most : ℕ
most = 65535

-- the value of a field line is no longer than a line may be
abbrev IsShort : Option Field → Type 0
IsShort field = IfSome field (λ f. length f.value ≤ most)

abbrev IsCellShort : List (Spanned TokenKind) → Type 0
IsCellShort cell = IsShort (field_in cell)

abbrev IsKindShort : TokenKind → Type 0
IsKindShort kind = IsShort (field_line kind)

-- no token of music is a field line
spelled_short : (after_bar : Bool) (text : List ℕ) (kind : TokenKind) → Spells after_bar text kind → IsKindShort kind
spelled_short after_bar text (kinds.Field field) is = absurd is
spelled_short after_bar text _ is = tt

byte_short : (b : ℕ) → IsKindShort (unmatched_byte b)
byte_short b = cond_both (opens b) kinds.Unclosed kinds.BadByte IsKindShort (λ _. tt) (λ _. tt)

alone_short : (text : List ℕ) → IsKindShort (unmatched_at line_kinds text)
alone_short [] = tt
alone_short (b ∷ bs) = byte_short b

-- a directive line is none
directive_short : (o : Option Directive) (size : ℕ) → All (λ token. IsKindShort token.kind) (directive_token o size)
directive_short None size = All-nil (λ token. IsKindShort token.kind)
directive_short (Some directive) size = All-cons (λ token. IsKindShort token.kind) _ [] tt (All-nil (λ token. IsKindShort token.kind))

-- the tokens of a line, by its class
tokens_short : (line : List ℕ) (class : LineClass) → length line ≤ most → All (IsSpan (length line)) (tokens_in class (without_return line))
    → All (λ token. IsKindShort token.kind) (tokens_in class (without_return line))
tokens_short line classes.Blank short spans = All-nil (λ token. IsKindShort token.kind)
tokens_short line classes.Comment short spans = All-nil (λ token. IsKindShort token.kind)
tokens_short line (classes.Field letter) short spans =
    let inside = (All-head (IsSpan (length line)) _ [] spans).1 in
    let value = trim_blanks-le (drop 2 (content line)) in
    All-cons (λ token. IsKindShort token.kind) _ [] (omega (arith, short, inside, value, length-drop 2 (content line))) (All-nil (λ token. IsKindShort token.kind))
tokens_short line classes.Directive short spans = directive_short (directive_of (without_return line)) (length (without_return line))
tokens_short line classes.Music short spans =
    cut-all line_kinds Spells IsKindShort spelled_short alone_short false 0 (content line) (cutting_of (content line)) (cuts_each (content line))

-- its cells
first_short : (token : Spanned TokenKind) (bar : Bool) (cells : List (List (Spanned TokenKind))) → IsKindShort token.kind → All IsCellShort cells
    → All IsCellShort (cond bar ((token ∷ []) ∷ cells) (put_first token cells))
first_short token true cells own all = All-cons IsCellShort (token ∷ []) cells own all
first_short token false [] own all = All-cons IsCellShort (token ∷ []) [] own all
first_short token false (cell ∷ cells) own all = All-cons IsCellShort (token ∷ cell) cells own (All-tail IsCellShort cell cells all)

cells_short : (tokens : List (Spanned TokenKind)) → All (λ token. IsKindShort token.kind) tokens → All IsCellShort (cells_of tokens)
cells_short [] all = All-nil IsCellShort
cells_short (token ∷ tokens) all =
    first_short token (ends_cell token) (cells_of tokens) (All-head (λ t. IsKindShort t.kind) token tokens all)
    (cells_short tokens (All-tail (λ t. IsKindShort t.kind) token tokens all))

line_short : (line : List ℕ) → length line ≤ most → All IsCellShort (cells_in line)
unfolding tokens_of
line_short line short = cells_short (tokens_in (class_of line) (without_return line)) (tokens_short line (class_of line) short (laid line).spans)

lines_short : (lines : List (List ℕ)) → list_all is_line lines ≡ true → All IsCellShort (flat_map cells_in lines)
lines_short [] are = All-nil IsCellShort
lines_short (line ∷ lines) are =
    let both = and_parts (is_line line) (list_all is_line lines) are in
    All-append IsCellShort (cells_in line) (flat_map cells_in lines)
    (line_short line (leb-true (length line) most (and_parts (nat_le (length line) most) (not (list_any (λ byte. byte == line_feed) line)) both.0).0))
    (lines_short lines both.1)

-- the title of a tune is the first of those that it says
first_title : (tune : List Item) → All (λ title. length title ≤ most) (titles_said tune) → length (title_of tune) ≤ most
first_title [] all = omega arith
first_title (items.Title text ∷ tune) all = All-head (λ title. length title ≤ most) text (titles_said tune) all
first_title (_ ∷ tune) all = first_title tune all

pub short_title : HasShortTitle
short_title opening lines are =
    let cells = flat_map cells_in lines in
    first_title (items_of_cells opening cells)
    (subst (All (λ title. length title ≤ most)) (sym (says_titles_of_header opening cells)) (titles_pass (λ title. length title ≤ most) cells (lines_short lines are)))

-- so only the other limits are passed
large : (opening : Defaults) (lines : List (List ℕ)) → list_all is_line lines ≡ true → PassesALimit (items_of_lines opening lines)
    → IsTooLarge (items_of_lines opening lines)
large opening lines are (of_sections h) = by_sections h
large opening lines are (of_places h) = by_places h
large opening lines are (of_time h) = by_time h
large opening lines are (of_voices h) = let few = few_voices opening lines in absurd (omega (arith, h, few))
large opening lines are (of_title h) = let short = short_title opening lines are in absurd (omega (arith, h, short))

limited : (tune : List Item) → IsTooLarge tune → PassesALimit tune
limited tune (by_sections h) = of_sections h
limited tune (by_places h) = of_places h
limited tune (by_time h) = of_time h

pub by_size : IsTooLongBySize
by_size opening lines are =
    let tune = items_of_lines opening lines in
    (λ long. large opening lines are ((by_a_limit tune).0 long), λ is. (by_a_limit tune).1 (limited tune is))
