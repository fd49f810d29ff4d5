-- The faults of fields, bytes and lengths in the cells of a body, token by token and in the words of the rules. ABC 2.1 sections
-- 3.1, 4.3, 4.5, 4.9, 4.17 and 7.1; the faults are not in ABC 2.1.
use Rattle.std.specs.Prelude.{◌≡◌, ◌⊎◌, ◌==◌, ◌||◌, ℕ, ◌+◌, ◌<◌, ◌≤◌, Bool, List, [], ◌∷◌, ◌++◌, length, filter, take, slice_range}
use Rattle.std.specs.Prelude.{Option, Some, None, option_to_list}
use Rattle.std.specs.List.{Contains}
use Rattle.abc_fields.specs.declared.fault_code.FaultCode.{FaultCode}
use Rattle.abc_fields.specs.declared.fault_code.FaultCode.TheVariants.{BadByte, BadEnding, BadKey, BadLength, BadMeter, BadPart}
use Rattle.abc_fields.specs.declared.fault_code.FaultCode.TheVariants.{
  BadProgram,
  BadTempo,
  BadUnit,
  BadVoice,
  BigChord,
  TempoRange,
  TooManyVoices,
  Unclosed,
}
use Rattle.abc_fields.specs.declared.key.Key.{Key}
use Rattle.abc_fields.specs.declared.meter.Meter.{Meter}
use Rattle.abc_fields.specs.declared.meter.Meter.TheVariants.{Free, Of}
use Rattle.abc_fields.specs.declared.tempo.Tempo.{Tempo}
use Rattle.abc_fields.specs.declared.tempo.Tempo.TheVariants.{Unset, Units, Beat}
use Rattle.abc_fields.specs.declared.voice.Voice.{Voice}
use Rattle.abc_fields.specs.Fault.{number_of}
use Rattle.abc_fields.specs.Meter.{HasMeterRange}
use Rattle.abc_fields.specs.Spelling.Key.{IsKey}
use Rattle.abc_fields.specs.Spelling.Meter.{IsMeter}
use Rattle.abc_fields.specs.Spelling.Tempo.{IsTempo}
use Rattle.abc_fields.specs.Spelling.Unit.{IsUnit}
use Rattle.abc_fields.specs.Spelling.Voice.{IsVoice}
use Rattle.abc_scan.specs.declared.chord.Chord.{Chord}
use Rattle.abc_scan.specs.declared.directive.Directive.{Directive}
use Rattle.abc_scan.specs.declared.directive.Directive.TheVariants as directives
use Rattle.abc_scan.specs.declared.field.Field.{Field}
use Rattle.abc_scan.specs.declared.chord_part.ChordPartKind.{ChordPartKind}
use Rattle.abc_scan.specs.declared.chord_part.ChordPartKind.TheVariants as parts
use Rattle.abc_scan.specs.declared.spanned.Spanned.{Spanned}
use Rattle.abc_scan.specs.declared.token.TokenKind.{TokenKind}
use Rattle.abc_scan.specs.declared.token.TokenKind.TheVariants as kinds
use Rattle.abc_time.specs.declared.ratio.Ratio.{Ratio}
use Rattle.abc_time.specs.Tempo.{IsQuarter}
use Rattle.abc_bars_header.specs.FieldKind.{kind_of}
use Rattle.abc_bars_header.specs.HeaderLine.{HeaderLine}
use Rattle.abc_bars_header.specs.declared.defaults.Defaults.{Defaults}
use Rattle.abc_bars_header.specs.declared.field_kind.FieldKind.{FieldKind}
use Rattle.abc_bars_header.specs.declared.field_kind.FieldKind.TheVariants as fields
use Rattle.abc_bars_items.specs.Column.{column_of}
use Rattle.abc_bars_notes.specs.BarRest.{AreBars}
use Rattle.abc_bars_notes.specs.ChordFaults.{AreFaultsOf}
use Rattle.abc_bars_notes.specs.ChordNotes.{big_at, notes_of}
use Rattle.abc_bars_notes.specs.Lasting.{IsPlace, Lasts}
use Rattle.abc_bars.specs.LookBack.ByName.{naming_at}
use Rattle.abc_bars.specs.LookBack.CellPlace.{CellPlace, before_place, cell_with, voice_place_at}
use Rattle.abc_bars.specs.LookBack.Element.{Element, field_of}
use Rattle.abc_bars.specs.LookBack.Lengths.{state_there}
use Rattle.abc_bars.specs.LookBack.Place.{result_in_body, opening_at}
use Rattle.abc_bars.specs.LookBack.Voice.{meter_at, unit_at}

-- Faults, each with its column.
abbrev pub Faults : Type 0
Faults = List (ℕ × FaultCode)

-- The place of a cell: the values, the lines and the key with which its body begins, and what precedes it there, newest first.
pub record CellStart : Type 0 where
  pub values : Defaults
  pub fields : List HeaderLine
  pub key : Key
  pub before : List Element

-- The place of a token after these of its cell and before those.
abbrev pub place_in : CellStart → List (Spanned TokenKind) → Spanned TokenKind → List (Spanned TokenKind) → CellPlace
place_in start front token ahead = record {
  values = start.values;
  fields = start.fields;
  key = start.key;
  before = start.before;
  front = front;
  from = token.from;
  to = token.to;
  ahead = ahead;
}

-- The faults of the tokens of a cell after these: for each token those that it has at its place, in the order of the tokens, and no
-- others.
abbrev pub AreFaultsAfter : (CellPlace → TokenKind → Faults → Type 0) → CellStart → List (Spanned TokenKind)
    → List (Spanned TokenKind) → Faults → Type 0
AreFaultsAfter Has start front [] faults = faults ≡ []
AreFaultsAfter Has start front (token ∷ ahead) faults =
    (own : Faults) × (others : Faults) × (faults ≡ own ++ others)
    × Has (place_in start front token ahead) token.kind own
    × AreFaultsAfter Has start (front ++ token ∷ []) ahead others

-- Of the faults of each cell of each body those that pass a test are just these.
abbrev pub AreFaultsOfCells : (FaultCode → Bool) → (CellPlace → TokenKind → Faults → Type 0) → Type 0
AreFaultsOfCells passes Has =
    (start : CellStart) (cell : List (Spanned TokenKind))
    → AreFaultsAfter Has start [] cell
    (filter (λ fault. passes fault.1) (result_in_body start.values start.fields start.key start.before cell).faults)

-- BadByte, Unclosed, BadEnding and BadProgram.
abbrev pub is_of_spelling : FaultCode → Bool
is_of_spelling code =
    let number = number_of code in
    (number == number_of BadByte) || (number == number_of Unclosed) || (number == number_of BadEnding)
    || (number == number_of BadProgram)

-- BadByte of a byte inside a chord that begins no part of one.
abbrev pub byte_fault : ℕ → ChordPartKind → Faults
byte_fault place parts.BadByte = (column_of place, BadByte) ∷ []
byte_fault place _ = []

abbrev pub byte_faults : ℕ → List (Spanned ChordPartKind) → Faults
byte_faults from [] = []
byte_faults from (part ∷ rest) = byte_fault (from + part.from) part.kind ++ byte_faults from rest

-- BadEnding of the sign of an ending of which a number is out of range.
abbrev pub ending_faults : ℕ → Option ℕ → Faults
ending_faults from None = (column_of from, BadEnding) ∷ []
ending_faults from (Some passes) = []

-- BadProgram of a number above 127.
abbrev pub IsProgramFault : ℕ → Directive → Faults → Type 0
IsProgramFault from (directives.Program number) own =
    ((127 < number) × (own ≡ (column_of from, BadProgram) ∷ [])) ⊎ ((number ≤ 127) × (own ≡ []))
IsProgramFault from (directives.Reach reach) own = own ≡ []

-- What a token has of these.
abbrev pub HasSpellingFaults : CellPlace → TokenKind → Faults → Type 0
HasSpellingFaults place (kinds.Chord chord) own = own ≡ byte_faults place.from chord.parts
HasSpellingFaults place (kinds.Ending passes) own = own ≡ ending_faults place.from passes
HasSpellingFaults place (kinds.Directive directive) own = IsProgramFault place.from directive own
HasSpellingFaults place kinds.Unclosed own = own ≡ (column_of place.from, Unclosed) ∷ []
HasSpellingFaults place kinds.BadByte own = own ≡ (column_of place.from, BadByte) ∷ []
HasSpellingFaults place _ own = own ≡ []

-- BigChord.
abbrev pub is_big_chord : FaultCode → Bool
is_big_chord code = number_of code == number_of BigChord

-- BigChord of a chord with more than sixteen notes: at the seventeenth.
abbrev pub HasBigChord : CellPlace → TokenKind → Faults → Type 0
HasBigChord place (kinds.Chord chord) own = own ≡ option_to_list (big_at place.from chord)
HasBigChord place _ own = own ≡ []

-- BadLength.
abbrev pub is_bad_length_code : FaultCode → Bool
is_bad_length_code code = number_of code == number_of BadLength

-- BadLength at a column if the rule says no length.
pub record IsLengthFault (Lasting : ℕ → Type 0) (column : ℕ) (own : Faults) : Type 0 where
  pub accepted : (g : ℕ) → Lasting g → own ≡ []
  pub refused : ((g : ℕ) → ¬ Lasting g) → own ≡ (column, BadLength) ∷ []

-- BadLength of a rest of bars in this meter: its number is 0 or too many bars.
abbrev pub IsBarsFault : Meter → Option ℕ → ℕ → Faults → Type 0
IsBarsFault Free bars column own = own ≡ []
IsBarsFault (Of num den) None column own = own ≡ []
IsBarsFault (Of num den) (Some bars) column own = HasMeterRange num den → IsLengthFault (AreBars num den bars) column own

-- Of a chord: of each of its first sixteen notes, as long as the chord's length, the tuplet and broken rhythm make it.
pub record IsChordFault (place : CellPlace) (chord : Chord) (own : Faults) : Type 0 where
  pub none : notes_of chord ≡ [] → own ≡ []
  pub some : IsPlace (state_there place) (cell_with place (kinds.Chord chord)) (length place.front)
      → AreFaultsOf (λ note. Lasts (state_there place) (cell_with place (kinds.Chord chord)) (length place.front) note.length
      (Some chord.length))
      place.from (take 16 (notes_of chord)) own

-- What a token has of it, by the unit, the tuplet and the meter of its voice and by the marks that act on it in its cell.
abbrev pub HasLengthFaults : CellPlace → TokenKind → Faults → Type 0
HasLengthFaults place (kinds.Note note) own =
    let cell = cell_with place (kinds.Note note) in
    IsPlace (state_there place) cell (length place.front)
    → IsLengthFault (Lasts (state_there place) cell (length place.front) note.length None) (column_of place.from) own
HasLengthFaults place (kinds.Rest written) own =
    let cell = cell_with place (kinds.Rest written) in
    IsPlace (state_there place) cell (length place.front)
    → IsLengthFault (Lasts (state_there place) cell (length place.front) written None) (column_of place.from) own
HasLengthFaults place (kinds.BarRest bars) own =
    IsBarsFault (meter_at (voice_place_at place).opening.meter (voice_place_at place).before) bars (column_of place.from) own
HasLengthFaults place (kinds.Chord chord) own = IsChordFault place chord own
HasLengthFaults place _ own = own ≡ []

-- The faults of fields in a body.
abbrev pub is_of_field : FaultCode → Bool
is_of_field code =
    let number = number_of code in
    (number == number_of BadMeter) || (number == number_of BadUnit) || (number == number_of BadTempo)
    || (number == number_of TempoRange)
    || (number == number_of BadKey) || (number == number_of BadPart) || (number == number_of BadVoice)
    || (number == number_of TooManyVoices)

-- The unit note length of the current voice at a place.
abbrev pub unit_there : CellPlace → Ratio
unit_there place = unit_at (voice_place_at place).opening.unit (voice_place_at place).before

-- The names of the voices that are mentioned before a place.
abbrev pub names_there : CellPlace → List (List ℕ)
names_there place = (naming_at (opening_at place.values place.fields place.key) (before_place place)).names

-- No tempo event can say a tempo; a number alone counts unit notes.
abbrev pub IsOutOfRange : Ratio → Tempo → Type 0
IsOutOfRange unit Unset = ⊥
IsOutOfRange unit (Units n) = (micros : ℕ) → ¬ IsQuarter unit n micros
IsOutOfRange unit (Beat beat n) = (micros : ℕ) → ¬ IsQuarter beat n micros

-- The first byte of a value is one of A to Z.
abbrev pub NamesPart : List ℕ → Type 0
NamesPart value = (letter : ℕ) × (rest : List ℕ) × (value ≡ letter ∷ rest) × (65 ≤ letter) × (letter ≤ 90)

-- A voice of this name would be one too many: fifteen are mentioned, and it is not among them.
abbrev pub IsOneTooMany : List (List ℕ) → List ℕ → Type 0
IsOneTooMany names name = (15 ≤ length names) × (¬ Contains names name)

-- A field of this kind and value has a fault: its value does not fit its grammar, its tempo is out of range, or its voice is one
-- too many.
abbrev pub IsFaultOfField : CellPlace → FieldKind → List ℕ → FaultCode → Type 0
IsFaultOfField place fields.Meter value code = (code ≡ BadMeter) × ((meter : Meter) → ¬ IsMeter value meter)
IsFaultOfField place fields.UnitLength value code = (code ≡ BadUnit) × ((unit : Ratio) → ¬ IsUnit value unit)
IsFaultOfField place fields.Tempo value code =
    ((code ≡ BadTempo) × ((tempo : Tempo) → ¬ IsTempo value tempo))
    ⊎ ((code ≡ TempoRange) × ((tempo : Tempo) × IsTempo value tempo × IsOutOfRange (unit_there place) tempo))
IsFaultOfField place fields.Key value code = (code ≡ BadKey) × ((key : Key) → ¬ IsKey value key)
IsFaultOfField place fields.Parts value code = (code ≡ BadPart) × (¬ NamesPart value)
IsFaultOfField place fields.Voice value code =
    ((code ≡ BadVoice) × ((voice : Voice) → ¬ IsVoice value voice))
    ⊎ ((code ≡ TooManyVoices) × ((voice : Voice) × IsVoice value voice
    × IsOneTooMany (names_there place) (slice_range value voice.from voice.to)))
IsFaultOfField place _ value code = ⊥

-- There is one fault if it is one of these, and else none.
pub record IsOnlyFault (Is : FaultCode → Type 0) (column : ℕ) (own : Faults) : Type 0 where
  pub some : (code : FaultCode) → Is code → own ≡ (column, code) ∷ []
  pub none : ((code : FaultCode) → ¬ Is code) → own ≡ []

-- The fault of a field at its place, if it has one.
abbrev pub IsFaultOfOption : CellPlace → Option Field → Faults → Type 0
IsFaultOfOption place None own = own ≡ []
IsFaultOfOption place (Some field) own =
    IsOnlyFault (IsFaultOfField place (kind_of field.letter) field.value) (column_of place.from) own

-- What a token has of these, a field line or an inline field.
abbrev pub HasFieldFaults : CellPlace → TokenKind → Faults → Type 0
HasFieldFaults place kind own = IsFaultOfOption place (field_of kind) own
