-- Each place of a cell of a line, after any file header, is one of which the rule of lengths speaks.
use Rattle.std.proofs.Common.{◌≡◌, ◌≤◌, ℕ, zero, suc, Bool, true, false, List, [], ◌∷◌, ◌++◌, length, Option, Some, None, unwrap_or, bytes_eq, Result, Ok, Err, refl, sym, subst}
use Rattle.std.specs.Prelude.{All, IfSome, nat_lt, ◌*◌}
use Rattle.std.specs.List.{list_any}
use Rattle.std.specs.Option.{option_or}
use Rattle.std.specs.Result.{result_ok}
use Rattle.std.proofs.lemmas.Bool.{cond_both}
use Rattle.std.proofs.lemmas.List.Elements.{All-cons, All-contains, All-head, All-nil, All-tail}
use Rattle.abc_fields.specs.declared.fault_code.FaultCode.{FaultCode}
use Rattle.abc_fields.specs.declared.key.Key.{Key}
use Rattle.abc_fields.specs.declared.meter.Meter.{Meter}
use Rattle.abc_fields.specs.declared.meter.Meter.TheVariants.{Free, Of}
use Rattle.abc_fields.specs.declared.shift.Shift.{Shift}
use Rattle.abc_fields.specs.Shift.{no_shift}
use Rattle.abc_fields.specs.Unit.{unit_of}
use Rattle.abc_fields.proofs.Units.{unit_read}
use Rattle.abc_time.specs.declared.ratio.Ratio.{Ratio}
use Rattle.abc_scan.specs.declared.broken.BrokenRhythm.{BrokenRhythm}
use Rattle.abc_scan.specs.declared.line_class.LineClass.{LineClass}
use Rattle.abc_scan.specs.declared.line_class.LineClass.TheVariants as classes
use Rattle.abc_scan.specs.declared.directive.Directive.{Directive}
use Rattle.abc_scan.specs.declared.field.Field.{Field}
use Rattle.abc_scan.specs.declared.spanned.Spanned.{Spanned}
use Rattle.abc_scan.specs.declared.token.TokenKind.{TokenKind}
use Rattle.abc_scan.specs.declared.token.TokenKind.TheVariants as kinds
use Rattle.abc_scan.specs.Cell.{cells_of, ends_cell, put_first}
use Rattle.abc_scan.specs.Class.{class_of}
use Rattle.abc_scan.specs.Cutting.{unmatched_at}
use Rattle.abc_scan.specs.Directive.{directive_of}
use Rattle.abc_scan.specs.Line.{cutting_of, directive_token, tokens_in, tokens_of}
use Rattle.abc_scan.specs.Text.{without_comment}
use Rattle.abc_scan.specs.Token.{Spells, unmatched_byte, line_kinds, opens}
use Rattle.abc_scan.proofs.Cuttings.{cut-all}
use Rattle.abc_scan.proofs.TokenLaws.{cuts_each}
use Rattle.abc_text.specs.LineEnd.{without_return}
use Rattle.abc_bars_header.specs.declared.defaults.Defaults.{Defaults}
use Rattle.abc_bars_header.specs.declared.field_kind.FieldKind.{FieldKind}
use Rattle.abc_bars_header.specs.declared.field_kind.FieldKind.TheVariants as fields
use Rattle.abc_bars_header.specs.FieldKind.{kind_of}
use Rattle.abc_bars_header.specs.HeaderLine.{HeaderLine, FieldLine, DirectiveLine}
use Rattle.abc_bars_notes.specs.Acting.{IsMarkAt, IsTimeAt}
use Rattle.abc_bars_notes.specs.Broken.{is_time_token}
use Rattle.abc_bars_notes.specs.Lasting.{IsPlace}
use Rattle.abc_bars_voice.specs.declared.voice_state.VoiceState.{VoiceState}
use Rattle.abc_bars_voice.specs.UnitLength.{IsUnitPart, unit_by}
use Rattle.abc_bars_voice.proofs.WholeParts.{eighth, read_part, sixteenth}
use Rattle.abc_bars.specs.LookBack.Along.{CellTokens, lines_after, values_of_header}
use Rattle.abc_bars.specs.LookBack.ByName.{naming_at, opening_of}
use Rattle.abc_bars.specs.LookBack.CellPlace.{CellPlace, before_place, cell_with, voice_place_at}
use Rattle.abc_bars.specs.LookBack.Defaults.{defaults_at, last_set, said_by_line, unit_said}
use Rattle.abc_bars.specs.LookBack.Element.{Element, field_of}
use Rattle.abc_bars.specs.LookBack.Header.{declared_names, declared_shift}
use Rattle.abc_bars.specs.LookBack.Lengths.{state_there}
use Rattle.abc_bars.specs.LookBack.LineLengths.{ChordsOfLinesLast, IsInLine, NotesOfLinesLast, RestsOfLinesLast}
use Rattle.abc_bars.specs.LookBack.Openings.{VoiceOpens}
use Rattle.abc_bars.specs.LookBack.Place.{opening_at}
use Rattle.abc_bars.specs.LookBack.Voice.{last_said, said_by_field, said_in, voice_state_at, unit_at}
use Rattle.abc_bars.proofs.LookBack.Lengths.{chords_last_there, notes_last_there, rests_last_there}
use Rattle.abc_bars.proofs.LookBack.Openings.{declared_voices_open, other_voices_open}
use Rattle.abc_bars.proofs.LookBack.TupletPlaces.{open_there}
use Rattle.abc_bars.proofs.Names.{is_among, is_apart}

-- Marks of broken rhythm are three together at most.
abbrev HasFewMarks : TokenKind → Type 0
HasFewMarks (kinds.Broken mark) = mark.marks ≤ 3
HasFewMarks _ = Unit {0}

abbrev AreFew : Spanned TokenKind → Type 0
AreFew token = HasFewMarks token.kind

spelled-few : (after_bar : Bool) (text : List ℕ) (kind : TokenKind) → Spells after_bar text kind → HasFewMarks kind
spelled-few after_bar text (kinds.Broken mark) is = is.few
spelled-few after_bar text _ is = tt

byte-few : (b : ℕ) → HasFewMarks (unmatched_byte b)
byte-few b = cond_both (opens b) kinds.Unclosed kinds.BadByte HasFewMarks (λ _. tt) (λ _. tt)

alone-few : (text : List ℕ) → HasFewMarks (unmatched_at line_kinds text)
alone-few [] = tt
alone-few (b ∷ bs) = byte-few b

directive-few : (o : Option Directive) (size : ℕ) → All AreFew (directive_token o size)
directive-few None size = All-nil AreFew
directive-few (Some directive) size = All-cons AreFew _ [] tt (All-nil AreFew)

class-few : (class : LineClass) (text : List ℕ) → All AreFew (tokens_in class text)
class-few classes.Blank text = All-nil AreFew
class-few classes.Comment text = All-nil AreFew
class-few (classes.Field letter) text = All-cons AreFew _ [] tt (All-nil AreFew)
class-few classes.Directive text = directive-few (directive_of text) (length text)
class-few classes.Music text =
    cut-all line_kinds Spells HasFewMarks spelled-few alone-few false 0 (without_comment text) (cutting_of (without_comment text)) (cuts_each (without_comment text))

line-few : (line : List ℕ) → All AreFew (tokens_of line)
unfolding tokens_of
line-few line = class-few (class_of line) (without_return line)

-- What holds of each token holds of those of each cell.
put-all : (token : Spanned TokenKind) (cells : List CellTokens) → AreFew token → All (All AreFew) cells → All (All AreFew) (put_first token cells)
put-all token [] few rest = All-cons (All AreFew) (token ∷ []) [] (All-cons AreFew token [] few (All-nil AreFew)) (All-nil (All AreFew))
put-all token (cell ∷ cells) few rest =
    All-cons (All AreFew) (token ∷ cell) cells (All-cons AreFew token cell few (All-head (All AreFew) cell cells rest)) (All-tail (All AreFew) cell cells rest)

cells-few : (tokens : CellTokens) → All AreFew tokens → All (All AreFew) (cells_of tokens)
cells-few [] few = All-nil (All AreFew)
cells-few (token ∷ tokens) few =
    let this : AreFew token = All-head AreFew token tokens few in
    let rest : All (All AreFew) (cells_of tokens) = cells-few tokens (All-tail AreFew token tokens few) in
    cond_both (ends_cell token) ((token ∷ []) ∷ cells_of tokens) (put_first token (cells_of tokens)) (All (All AreFew))
    (λ _. All-cons (All AreFew) (token ∷ []) (cells_of tokens) (All-cons AreFew token [] this (All-nil AreFew)) rest)
    (λ _. put-all token (cells_of tokens) this rest)

few-at : (cell : CellTokens) → All AreFew cell → (mark : BrokenRhythm) (at : ℕ) → IsMarkAt cell at mark → mark.marks ≤ 3
few-at [] few mark at is = absurd is
few-at (token ∷ cell) few mark zero is = subst HasFewMarks is (All-head AreFew token cell few)
few-at (token ∷ cell) few mark (suc at) is = few-at cell (All-tail AreFew token cell few) mark at is

-- A time token is at the place at which it is put.
time-at : (front ahead : CellTokens) (token : Spanned TokenKind) → is_time_token token.kind ≡ true → IsTimeAt (front ++ token ∷ ahead) (length front)
time-at [] ahead token is = is
time-at (first ∷ front) ahead token is = time-at front ahead token is

-- An accepted unit note length is a part of a whole note.
read-unit : (value : List ℕ) (r : Result Ratio FaultCode) → unit_of value ≡ r → IfSome (result_ok r) IsUnitPart
read-unit value (Ok part) read = read_part value part (((unit_read value (Ok part) (sym read)).ok part).0 refl)
read-unit value (Err fault) read = tt

unit-said : (kind : FieldKind) (value : List ℕ) → IfSome (unit_said kind value) IsUnitPart
unit-said fields.UnitLength value = read-unit value (unit_of value) refl
unit-said _ value = tt

line-unit : (line : HeaderLine) → IfSome (said_by_line unit_said line) IsUnitPart
line-unit (FieldLine field) = unit-said (kind_of field.letter) field.value
line-unit (DirectiveLine directive) = tt

or-unit : (said earlier : Option Ratio) → IfSome said IsUnitPart → IfSome earlier IsUnitPart → IfSome (option_or said earlier) IsUnitPart
or-unit (Some part) earlier is others = is
or-unit None earlier is others = others

set-unit : (opening : Option Ratio) (lines : List HeaderLine) → IfSome opening IsUnitPart → IfSome (last_set (said_by_line unit_said) opening lines) IsUnitPart
set-unit opening [] is = is
set-unit opening (line ∷ before) is =
    or-unit (said_by_line unit_said line) (last_set (said_by_line unit_said) opening before) (line-unit line) (set-unit opening before is)

values-unit : (header : Option (List CellTokens)) → IfSome (values_of_header header).unit IsUnitPart
values-unit None = tt
values-unit (Some cells) = set-unit None (lines_after cells []) tt

meter-unit : (meter : Meter) → IsUnitPart (unit_by meter)
meter-unit Free = eighth
meter-unit (Of num den) = cond_both (nat_lt (4 * num) (3 * den)) (record { num = 1; den = 16 }) (record { num = 1; den = 8 }) IsUnitPart (λ _. sixteenth) (λ _. eighth)

else-unit : (set : Option Ratio) (other : Ratio) → IfSome set IsUnitPart → IsUnitPart other → IsUnitPart (unwrap_or set other)
else-unit (Some part) other is others = is
else-unit None other is others = others

field-unit : (o : Option Field) → IfSome (said_in unit_said o) IsUnitPart
field-unit None = tt
field-unit (Some field) = unit-said (kind_of field.letter) field.value

body-unit : (opening : Ratio) (before : List Element) → IsUnitPart opening → IsUnitPart (last_said (said_by_field unit_said) opening before)
body-unit opening [] is = is
body-unit opening (element ∷ before) is =
    else-unit (said_by_field unit_said element.kind) (last_said (said_by_field unit_said) opening before) (field-unit (field_of element.kind)) (body-unit opening before is)

module _ (header : Option (List CellTokens)) (lines : List HeaderLine) (key : Key) (name : List ℕ) where
  abbrev values : Defaults
  values = values_of_header header

  -- What the voice of the name begins with.
  opens-by : (b : Bool) → list_any (bytes_eq name) (declared_names lines) ≡ b → (said : Shift) × VoiceOpens values lines key said name
  opens-by true is = (
    declared_shift lines name,
    declared_voices_open values lines key name (is_among name (declared_names lines) is),
  )
  opens-by false is = (no_shift, other_voices_open values lines key name (is_apart name (declared_names lines) is))

  opening-unit : IsUnitPart (opening_of (opening_at values lines key) name).unit
  opening-unit =
      let state : VoiceState = opening_of (opening_at values lines key) name in
      let opens = opens-by (list_any (bytes_eq name) (declared_names lines)) refl in
      let set : Option Ratio = (defaults_at values lines).unit in
      subst IsUnitPart (sym opens.1.unit)
      (else-unit set (unit_by state.meter) (set-unit values.unit lines (values-unit header)) (meter-unit state.meter))

unit-there : (opening : VoiceState) (before : List Element) → IsUnitPart opening.unit → IsUnitPart (voice_state_at opening before).unit
unfolding voice_state_at unit_at
unit-there opening before is = body-unit opening.unit before is

-- A time token of a line is at a place of which the rule speaks.
pub is-place : (place : CellPlace) (kind : TokenKind) → is_time_token kind ≡ true → IsInLine place kind
    → IsPlace (state_there place) (cell_with place kind) (length place.front)
is-place place kind time within =
    let name : List ℕ = (naming_at (opening_at place.values place.fields place.key) (before_place place)).current in
    record {
      time = time-at place.front place.ahead (record { kind = kind; from = place.from; to = place.to }) time;
      marks = few-at (cell_with place kind) (All-contains (All AreFew) (cells_of (tokens_of within.line)) (cell_with place kind) (cells-few (tokens_of within.line) (line-few within.line))
          within.cell);
      unit = unit-there (voice_place_at place).opening (voice_place_at place).before
          (subst (λ (v : Defaults). IsUnitPart (opening_of (opening_at v place.fields place.key) name).unit) (sym within.values)
          (opening-unit within.header place.fields place.key name));
      tuplet = open_there (voice_place_at place).opening (voice_place_at place).before;
    }

pub notes_of_lines_last : NotesOfLinesLast
notes_of_lines_last place note within = notes_last_there place note (is-place place (kinds.Note note) refl within)

pub rests_of_lines_last : RestsOfLinesLast
rests_of_lines_last place written within = rests_last_there place written (is-place place (kinds.Rest written) refl within)

pub chords_of_lines_last : ChordsOfLinesLast
chords_of_lines_last place chord some within = chords_last_there place chord some (is-place place (kinds.Chord chord) some within)
