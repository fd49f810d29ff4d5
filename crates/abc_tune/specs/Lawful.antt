-- What a session relies on of the compiler of ABC.
use Rattle.std.specs.Prelude.{◌≡◌, ◌↔◌, ◌⊎◌, ℕ, Bool, true, false, ◌&&◌, not, ◌==◌, if◌then◌else◌, List, [], ◌∷◌, length}
use Rattle.std.specs.Prelude.{Option, Some, None, is_some, refl, IsTrue}
use Rattle.std.proofs.Common.{inl, inr, sym, ap, ◌∙◌}
use Rattle.std.proofs.lemmas.Bool.{eqb-true, false≢true}
use Rattle.abc_bars_body.specs.Entry.{defaults_of, opening_after}
use Rattle.abc_bars_header.specs.SameDefaults.{same_defaults, same_defaults_decides}
use Rattle.abc_bars_body.specs.SameEntry.{bar_steps, same_entry_decides}
use Rattle.abc_bars_header.specs.declared.defaults.Defaults.{Defaults}
use Rattle.abc_bars_body.specs.declared.entry.Entry.TheVariants as entries
use Rattle.abc_tune_compiler.specs.Lawful.{AreLawful}
use Rattle.abc_scan.specs.Byte.{space, percent, backslash}
use Rattle.abc_scan.specs.Cell.{cells_of, ends_cell, put_first}
use Rattle.abc_scan.specs.Class.{class_of, class_of_text, class_by, first_visible, field_letter, field_or_music}
use Rattle.abc_scan.specs.Directive.{directive_of, is_directive}
use Rattle.abc_scan.specs.Line.{directive_token, tokens_in, tokens_of, cutting_of}
use Rattle.abc_scan.specs.Text.{before_comment, without_comment}
use Rattle.abc_scan.specs.declared.line_class.LineClass.{LineClass}
use Rattle.abc_scan.specs.declared.line_class.LineClass.TheVariants.{Blank, Comment, Field, Directive, Music}
use Rattle.abc_scan.specs.declared.directive.Directive.{Directive as DirectiveRead}
use Rattle.abc_scan.specs.declared.spanned.Spanned.{Spanned}
use Rattle.abc_scan.specs.declared.token.TokenKind.{TokenKind}
use Rattle.abc_text.specs.LineEnd.{without_return}
use Rattle.abc_tune.specs.Abc.{cells_in, rules_of_abc}

-- A class of lines without cells.
abbrev IsSilent : LineClass → Type 0
IsSilent class = (class ≡ Blank) ⊎ (class ≡ Comment)

-- Nothing is true only of nothing.
is_some_list : {A : Type 0} → List A → Bool
is_some_list [] = false
is_some_list (x ∷ xs) = true

some_first : {A : Type 0} (x : A) (xs : List A) → x ∷ xs ≡ [] → ⊥
unfolding is_some_list
some_first x xs is = false≢true (sym (ap is_some_list is))

-- Tokens without cells are none.
put_some : (token : Spanned TokenKind) (cells : List (List (Spanned TokenKind))) → put_first token cells ≡ [] → ⊥
put_some token [] is = some_first (token ∷ []) [] is
put_some token (cell ∷ cells) is = some_first (token ∷ cell) cells is

first_some : (bar : Bool) (token : Spanned TokenKind) (cells : List (List (Spanned TokenKind)))
    → (if bar then (token ∷ []) ∷ cells else put_first token cells) ≡ [] → ⊥
first_some true token cells is = some_first (token ∷ []) cells is
first_some false token cells is = put_some token cells is

no_tokens : (tokens : List (Spanned TokenKind)) → cells_of tokens ≡ [] → tokens ≡ []
no_tokens [] is = refl
no_tokens (token ∷ tokens) is = absurd (first_some (ends_cell token) token (cells_of tokens) is)

-- A text of which nothing is cut is empty.
no_cutting : (text : List ℕ) → cutting_of text ≡ [] → text ≡ []
no_cutting [] is = refl
no_cutting (b ∷ bs) is = absurd (some_first _ _ is)

-- Music is never read as nothing: what begins with a comment is none.
percent_by : (directive : Bool) → (if directive then Directive else Comment) ≡ Music → ⊥
percent_by true is = absurd cc
percent_by false is = absurd cc

percent_first : (text : List ℕ) → first_visible text ≡ Some percent → class_of_text text ≡ Music → ⊥
percent_first text first is =
    percent_by (is_directive text) (sym (ap (λ seen. class_by seen (field_letter text) (is_directive text)) first) ∙ is)

nothing_by : (byte : ℕ) (bytes : List ℕ) (found : Bool) → (byte == percent) ≡ found
    → (if found && not (space == backslash) then [] else byte ∷ before_comment byte bytes) ≡ []
    → class_of_text (byte ∷ bytes) ≡ Music → ⊥
nothing_by byte bytes true is none music =
    percent_first (byte ∷ bytes) (ap (λ b. first_visible (b ∷ bytes)) (eqb-true byte percent is)) music
nothing_by byte bytes false is none music = some_first byte (before_comment byte bytes) none

nothing_read : (text : List ℕ) → without_comment text ≡ [] → class_of_text text ≡ Music → ⊥
nothing_read [] none music = absurd cc
nothing_read (byte ∷ bytes) none music = nothing_by byte bytes (byte == percent) refl none music

-- A line of directives has a token.
not_by : (letter : Option ℕ) → field_or_music letter ≡ Directive → ⊥
not_by None is = absurd cc
not_by (Some letter) is = absurd cc

read_by : (found directive : Bool) (letter : Option ℕ) → (if found then
    (if directive then Directive else Comment) else field_or_music letter) ≡ Directive → directive ≡ true
read_by true true letter is = refl
read_by true false letter is = absurd cc
read_by false directive letter is = absurd (not_by letter is)

directive_read : (seen letter : Option ℕ) (directive : Bool) → class_by seen letter directive ≡ Directive → directive ≡ true
directive_read None letter directive is = absurd cc
directive_read (Some byte) letter directive is = read_by (byte == percent) directive letter is

token_read : (read : Option DirectiveRead) (size : ℕ) → is_some read ≡ true → directive_token read size ≡ [] → ⊥
token_read None size some none = false≢true some
token_read (Some directive) size some none = some_first _ _ none

-- The lines without tokens.
silent_in : (line : List ℕ) (class : LineClass) → class_of line ≡ class → tokens_in class (without_return line) ≡ []
    → IsSilent class
silent_in line Blank own is = inl refl
silent_in line Comment own is = inr refl
silent_in line (Field letter) own is = absurd (some_first _ _ is)
silent_in line Directive own is =
    let text = without_return line in
    absurd (token_read (directive_of text) (length text) (directive_read (first_visible text) (field_letter text)
    (is_directive text) own) is)
silent_in line Music own is =
    absurd (nothing_read (without_return line) (no_cutting (without_comment (without_return line)) is) own)

no_cells : (line : List ℕ) (class : LineClass) → class_of line ≡ class → IsSilent class
    → cells_of (tokens_in class (without_return line)) ≡ []
no_cells line class own (inl blank) = ap (λ k. cells_of (tokens_in k (without_return line))) blank
no_cells line class own (inr comment) = ap (λ k. cells_of (tokens_in k (without_return line))) comment

-- Blank lines and comments are the lines without cells.
without_cells : (line : List ℕ) → (cells_in line ≡ []) ↔ IsSilent (class_of line)
unfolding tokens_of
without_cells line = (
  λ none. silent_in line (class_of line) refl (no_tokens (tokens_in (class_of line) (without_return line)) none),
  λ silent. no_cells line (class_of line) refl silent,
)

-- What a session relies on of the compiler of ABC.
pub abc_lawful : AreLawful bar_steps rules_of_abc
abc_lawful = record {
  equal_defaults = λ a b alike. ap defaults_of ((same_entry_decides a b).0 alike);
  alike_openings = λ a b same. (same_entry_decides (opening_after (Some a)) (opening_after (Some b))).1 (ap entries.Opening same);
  without_header = (same_entry_decides (opening_after None) (opening_after (Some rules_of_abc.header))).1 refl;
  without_cells = without_cells;
}

-- Two values that file headers set compare equal only if they are equal.
pub abc_eq_is_sound : (a b : Defaults) → IsTrue (same_defaults a b) → a ≡ b
abc_eq_is_sound a b same = (same_defaults_decides a b).0 same
