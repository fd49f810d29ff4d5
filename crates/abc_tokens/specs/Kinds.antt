-- What the kind of a token says of its bytes and of its line, by the grammar of the tokens of music. ABC 2.1 sections 2.2, 3, 4 and
-- 11; which tokens have a kind of their own is not in ABC 2.1.
use Rattle.std.specs.Prelude.{◌≡◌, ◌≢◌, ℕ, zero, suc, ◌-◌, Bool, true, false, List, [], ◌∷◌, ◌++◌, Option, slice_range}
use Rattle.abc_scan.specs.declared.bar_line.BarLine.{BarLine}
use Rattle.abc_scan.specs.declared.broken.BrokenRhythm.{BrokenRhythm}
use Rattle.abc_scan.specs.declared.chord.Chord.{Chord}
use Rattle.abc_scan.specs.declared.dynamic.Dynamic.{Dynamic}
use Rattle.abc_scan.specs.declared.field.Field.{Field}
use Rattle.abc_scan.specs.declared.length.WrittenLength.{WrittenLength}
use Rattle.abc_scan.specs.declared.line_class.LineClass.{LineClass}
use Rattle.abc_scan.specs.declared.line_class.LineClass.TheVariants as classes
use Rattle.abc_scan.specs.declared.note.Note.{Note}
use Rattle.abc_scan.specs.declared.tuplet.Tuplet.{Tuplet}
use Rattle.abc_text.specs.Cut.{HasNoByte}
use Rattle.abc_scan.specs.Bar.{IsBar}
use Rattle.abc_scan.specs.BarRest.{IsBarRest}
use Rattle.abc_scan.specs.Broken.{IsBroken}
use Rattle.abc_scan.specs.Byte.{quote, exclamation, opening_brace, closing_brace, percent}
use Rattle.abc_scan.specs.Chord.{IsChord}
use Rattle.abc_scan.specs.Class.{class_of}
use Rattle.abc_scan.specs.Dynamic.{IsDynamic}
use Rattle.abc_scan.specs.Ending.{IsEnding}
use Rattle.abc_scan.specs.InlineField.{IsInlineField}
use Rattle.abc_scan.specs.NoEffect.{IsExtraSpace, IsSingle}
use Rattle.abc_scan.specs.Note.{IsNote, IsRest}
use Rattle.abc_scan.specs.Single.{IsBlankToken, IsTie}
use Rattle.abc_scan.specs.Token.{opens}
use Rattle.abc_scan.specs.Tuplet.{IsTuplet}
use Rattle.abc_tokens.specs.declared.line_token.LineToken.{LineToken}
use Rattle.abc_tokens.specs.declared.line_token.LineTokenKind.{LineTokenKind}
use Rattle.abc_tokens.specs.declared.line_token.LineTokenKind.TheVariants as of_line

-- The bytes of a token of a line. Columns count from 1.
abbrev pub token_text : List ℕ → LineToken → List ℕ
token_text line t = slice_range line (t.from - 1) (t.to - 1)

-- A text begins with this byte.
abbrev pub Begins : ℕ → List ℕ → Type 0
Begins byte text = (rest : List ℕ) × (text ≡ byte ∷ rest)

-- An opening byte, bytes other than its closing byte, and the closing byte.
pub record IsBetween (opening closing : ℕ) (text : List ℕ) : Type 0 where
  pub inside : List ℕ
  pub spelling : text ≡ opening ∷ (inside ++ closing ∷ [])
  pub first_closing : HasNoByte closing inside

-- The bytes of a part of a chord of this kind. ABC 2.1 sections 4.1, 4.11, 4.12, 4.14, 4.17 to 4.19 and 6.1.2.
abbrev pub IsPartOfKind : List ℕ → LineTokenKind → Type 0
IsPartOfKind text of_line.Note = (note : Note) × IsNote text note
IsPartOfKind text of_line.Tie = IsTie text
IsPartOfKind text of_line.Dynamic = (dynamic : Dynamic) × IsDynamic text dynamic
IsPartOfKind text of_line.Blank = IsBlankToken text
IsPartOfKind text of_line.Quoted = IsBetween quote quote text
IsPartOfKind text of_line.Decoration = IsBetween exclamation exclamation text × ((dynamic : Dynamic) → ¬ IsDynamic text dynamic)
IsPartOfKind text of_line.Grace = IsBetween opening_brace closing_brace text
IsPartOfKind text of_line.Space = IsExtraSpace text
IsPartOfKind text of_line.NoEffect = IsSingle text
IsPartOfKind text of_line.BadByte = (byte : ℕ) × (text ≡ byte ∷ [])
IsPartOfKind text _ = ⊥

-- The bytes of a token of this kind in a line of music. A bad byte opens nothing, and an unclosed one does.
abbrev pub IsTokenOfKind : List ℕ → LineTokenKind → Type 0
IsTokenOfKind text of_line.Rest = (value : WrittenLength) × IsRest text value
IsTokenOfKind text of_line.BarRest = (bars : Option ℕ) × IsBarRest text bars
IsTokenOfKind text of_line.Chord = (chord : Chord) × IsChord text chord
IsTokenOfKind text of_line.InlineField = (field : Field) × IsInlineField text field
IsTokenOfKind text of_line.BarLine = (bar : BarLine) × IsBar text bar
IsTokenOfKind text of_line.Ending = (after_bar : Bool) × (passes : Option ℕ) × IsEnding after_bar text passes
IsTokenOfKind text of_line.Tuplet = (tuplet : Tuplet) × IsTuplet text tuplet
IsTokenOfKind text of_line.BrokenRhythm = (broken : BrokenRhythm) × IsBroken text broken
IsTokenOfKind text of_line.BadByte = (byte : ℕ) × (text ≡ byte ∷ []) × (opens byte ≡ false)
IsTokenOfKind text of_line.Unclosed = (byte : ℕ) × (text ≡ byte ∷ []) × (opens byte ≡ true)
IsTokenOfKind text of_line.Comment = Begins percent text
IsTokenOfKind text kind = IsPartOfKind text kind

-- The same by the depth of the token: parts of chords have the depth 1.
abbrev pub IsMusicOfKind : ℕ → List ℕ → LineTokenKind → Type 0
IsMusicOfKind zero text kind = IsTokenOfKind text kind
IsMusicOfKind (suc depth) text kind = IsPartOfKind text kind

-- The bytes of a token of this kind in a line that is a field of this letter: the field itself, or its comment. `X`, `T` and `K` have
-- kinds of their own. ABC 2.1 sections 2.2 and 3.
abbrev pub IsFieldOfKind : ℕ → List ℕ → LineTokenKind → Type 0
IsFieldOfKind letter text of_line.NumberField = (letter ≡ 88) × Begins letter text
IsFieldOfKind letter text of_line.TitleField = (letter ≡ 84) × Begins letter text
IsFieldOfKind letter text of_line.KeyField = (letter ≡ 75) × Begins letter text
IsFieldOfKind letter text of_line.OtherField = (letter ≢ 88) × (letter ≢ 84) × (letter ≢ 75) × Begins letter text
IsFieldOfKind letter text of_line.Comment = Begins percent text
IsFieldOfKind letter text _ = ⊥

-- The kind of a token with these bytes, by the class of its line and by whether that is compiled. ABC 2.1 section 2.2.
abbrev pub IsOfKind : LineClass → Bool → ℕ → List ℕ → LineTokenKind → Type 0
IsOfKind classes.Blank compiled depth text kind = kind ≡ of_line.Blank
IsOfKind classes.Comment compiled depth text kind = kind ≡ of_line.Comment
IsOfKind (classes.Field letter) true depth text kind = IsFieldOfKind letter text kind
IsOfKind classes.Directive true depth text kind = kind ≡ of_line.Directive
IsOfKind classes.Music true depth text kind = IsMusicOfKind depth text kind
IsOfKind _ false depth text kind = kind ≡ of_line.FreeText

-- A token of a line has the kind that its bytes have there.
abbrev pub HasKind : Bool → List ℕ → LineToken → Type 0
HasKind compiled line t = IsOfKind (class_of line) compiled t.depth (token_text line t) t.kind
