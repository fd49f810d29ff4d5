-- The class of a line, by its own bytes.
use Rattle.std.specs.Prelude.{◌≡◌, ℕ, Bool, false, ◌&&◌, ◌||◌, not, Option, Some, None, List, [], ◌∷◌, ◌++◌, if◌then◌else◌, ◌==◌}
use Rattle.std.specs.Prelude.{nat_le, find, IsTrue}
use Rattle.std.specs.Char.{is_ascii_alphabetic}
use Rattle.abc_text.specs.Blank.{AreBlanks, is_blank}
use Rattle.abc_text.specs.LineEnd.{without_return}
use Rattle.abc_scan.specs.declared.line_class.LineClass.{LineClass}
use Rattle.abc_scan.specs.declared.line_class.LineClass.TheVariants.{Blank, Comment, Field, Directive, Music}
use Rattle.abc_scan.specs.Byte.{percent, plus_sign, colon, bar_stroke}
use Rattle.abc_scan.specs.Directive.{is_directive, IsDirectiveLine}

-- The first byte of a text that is no blank.
abbrev pub first_visible : List ℕ → Option ℕ
first_visible text = find (λ b. not (is_blank b)) text

-- A letter, or the `+` of a continued field. ABC 2.1 sections 3 and 3.3.
abbrev pub names_field : ℕ → Bool
names_field b = is_ascii_alphabetic b || (b == plus_sign)

-- A letter of a note or of a rest: A to G, a to g, x or z. ABC 2.1 sections 4.1 and 4.5.
abbrev pub is_music_letter : ℕ → Bool
is_music_letter b = (nat_le 65 b && nat_le b 71) || (nat_le 97 b && nat_le b 103) || (b == 120) || (b == 122)

-- The text begins with `|` or `:`.
abbrev pub begins_bar : List ℕ → Bool
begins_bar [] = false
begins_bar (b ∷ bs) = (b == bar_stroke) || (b == colon)

-- The letter of the field that a text is: a letter, a colon, and a value. A note or rest before a repeat bar, as `C:|`,
-- is no field. ABC 2.1 section 3; the exception is not in ABC 2.1.
abbrev pub field_letter : List ℕ → Option ℕ
field_letter [] = None
field_letter (letter ∷ []) = None
field_letter (letter ∷ sign ∷ rest) =
    if names_field letter && (sign == colon) && not (is_music_letter letter && begins_bar rest) then Some letter else None

-- A field with this letter, or music without one.
abbrev pub field_or_music : Option ℕ → LineClass
field_or_music None = Music
field_or_music (Some letter) = Field letter

-- The class by the first visible byte, the field's letter, and whether it is a directive.
abbrev pub class_by : Option ℕ → Option ℕ → Bool → LineClass
class_by None letter directive = Blank
class_by (Some b) letter directive =
    if b == percent then (if directive then Directive else Comment) else field_or_music letter

-- The class of a text that has no carriage return at its end.
abbrev pub class_of_text : List ℕ → LineClass
class_of_text text = class_by (first_visible text) (field_letter text) (is_directive text)

-- The class of a line. ABC 2.1 sections 2.2 and 11.
abbrev pub class_of : List ℕ → LineClass
class_of line = class_of_text (without_return line)

-- Blanks, a `%`, and anything. ABC 2.1 section 2.2.
abbrev pub BeginsWithPercent : List ℕ → Type 0
BeginsWithPercent text = (blanks : List ℕ) × (rest : List ℕ) × AreBlanks blanks × (text ≡ blanks ++ percent ∷ rest)

-- A comment line that is no directive. ABC 2.1 sections 2.2 and 11: unknown directives are ignored.
abbrev pub IsCommentLine : List ℕ → Type 0
IsCommentLine text = BeginsWithPercent text × ¬ IsDirectiveLine text

-- A field with this letter: the letter, a colon, and a value. After a letter of a note or rest the value does not begin
-- with `|` or `:`. ABC 2.1 section 3; the exception is not in ABC 2.1.
pub record IsFieldLine (text : List ℕ) (letter : ℕ) : Type 0 where
  pub value : List ℕ
  pub spelling : text ≡ letter ∷ colon ∷ value
  pub named : IsTrue (names_field letter)
  pub no_repeat : IsTrue (is_music_letter letter) → IsTrue (begins_bar value) → ⊥

-- Any other line.
abbrev pub IsMusicLine : List ℕ → Type 0
IsMusicLine text =
    ¬ AreBlanks text × ¬ IsCommentLine text × ¬ IsDirectiveLine text × ((letter : ℕ) → ¬ IsFieldLine text letter)
