-- The tokens of a line. ABC 2.1 section 4.
use Rattle.std.specs.Prelude.{◌≡◌, ℕ, Bool, true, false, Option, Some, None, List, [], ◌∷◌, length, All}
use Rattle.abc_text.specs.LineEnd.{without_return}
use Rattle.abc_scan.specs.declared.line_class.LineClass.{LineClass}
use Rattle.abc_scan.specs.declared.line_class.LineClass.TheVariants as classes
use Rattle.abc_scan.specs.declared.directive.Directive.{Directive}
use Rattle.abc_scan.specs.declared.chord_part.ChordPartKind.{ChordPartKind}
use Rattle.abc_scan.specs.declared.chord_part.ChordPartKind.TheVariants as parts
use Rattle.abc_scan.specs.declared.spanned.Spanned.{Spanned}
use Rattle.abc_scan.specs.declared.token.TokenKind.{TokenKind}
use Rattle.abc_scan.specs.declared.token.TokenKind.TheVariants as kinds
use Rattle.abc_scan.specs.Cutting.{IsCuttingFrom, cutting_from}
use Rattle.abc_scan.specs.Directive.{directive_of}
use Rattle.abc_scan.specs.Field.{field_of}
use Rattle.abc_scan.specs.Length.{HasFactor}
use Rattle.abc_scan.specs.Class.{class_of}
use Rattle.abc_scan.specs.Text.{without_comment}
use Rattle.abc_scan.specs.Token.{line_grammar, line_reader}

-- The tokens are the whole text of a line cut up.
abbrev pub IsCutting : List ℕ → List (Spanned TokenKind) → Type 0
IsCutting text tokens = IsCuttingFrom line_grammar false 0 text tokens

-- A text cut from left to right.
abbrev pub cutting_of : List ℕ → List (Spanned TokenKind)
cutting_of text = cutting_from line_reader false 0 0 text

-- One token for a whole text of `size` bytes.
abbrev pub whole_token : TokenKind → ℕ → List (Spanned TokenKind)
whole_token kind size = record { kind = kind; from = 0; to = size } ∷ []

-- One token for the whole text of a field.
abbrev pub field_token : List ℕ → List (Spanned TokenKind)
field_token text = whole_token (kinds.Field (field_of text)) (length text)

-- One token of `size` bytes: the directive that is read.
abbrev pub directive_token : Option Directive → ℕ → List (Spanned TokenKind)
directive_token None size = []
directive_token (Some directive) size = whole_token (kinds.Directive directive) size

-- Whether lines of a class have tokens: blank lines and comments have none.
abbrev pub has_tokens : LineClass → Bool
has_tokens classes.Blank = false
has_tokens classes.Comment = false
has_tokens _ = true

-- The tokens of a text of this class: a field without its comment is one, a directive with its comment is one, a blank
-- line and a comment have none.
abbrev pub tokens_in : LineClass → List ℕ → List (Spanned TokenKind)
tokens_in (classes.Field letter) text = field_token (without_comment text)
tokens_in classes.Directive text = directive_token (directive_of text) (length text)
tokens_in classes.Music text = cutting_of (without_comment text)
tokens_in _ text = []

-- The tokens of a line, by its class and its text without the carriage return. ABC 2.1 sections 2.2, 4 and 11.
unfoldable pub tokens_of : List ℕ → List (Spanned TokenKind)
tokens_of line = tokens_in (class_of line) (without_return line)

-- The number of bytes of a text that its tokens cover: none of a blank line or a comment.
abbrev pub covered_in : LineClass → List ℕ → ℕ
covered_in (classes.Field letter) text = length (without_comment text)
covered_in classes.Directive text = length text
covered_in classes.Music text = length (without_comment text)
covered_in _ text = 0

-- The number of bytes that the tokens of a line cover.
unfoldable pub covered_of : List ℕ → ℕ
covered_of line = covered_in (class_of line) (without_return line)

-- The length of a chord's part is refused, or a ratio of accepted numbers.
abbrev pub HasPartLength : ChordPartKind → Type 0
HasPartLength (parts.Note note) = HasFactor note.length
HasPartLength _ = Unit {0}

-- Each length of a token, a chord's notes included, is refused, or a ratio of accepted numbers.
abbrev pub HasLength : TokenKind → Type 0
HasLength (kinds.Note note) = HasFactor note.length
HasLength (kinds.Rest value) = HasFactor value
HasLength (kinds.Chord chord) = HasFactor chord.length × All (λ p. HasPartLength p.kind) chord.parts
HasLength _ = Unit {0}

-- `cutting_of` gives a cutting of the text.
abbrev pub CutsEachText : Type 0
CutsEachText = (text : List ℕ) → IsCutting text (cutting_of text)

-- A text has one cutting.
abbrev pub CutsOnce : Type 0
CutsOnce = (text : List ℕ) (a b : List (Spanned TokenKind)) → IsCutting text a → IsCutting text b → a ≡ b
