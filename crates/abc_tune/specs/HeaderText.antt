-- The properties of a tune that its header decides, by the text of its lines. ABC 2.1 sections 3.1.1, 3.1.7, 3.1.8 and 3.1.14.
use Rattle.std.specs.Prelude.{◌≡◌, ◌≢◌, ◌≤◌, ℕ, ◌*◌, Bool, true, false, not, ◌||◌, nat_lt, if◌then◌else◌, is_none, List, []}
use Rattle.std.specs.Prelude.{◌∷◌, Option, Some, None, unwrap_or}
use Rattle.std.specs.List.{list_any}
use Rattle.abc_bars.specs.LookBack.Along.{CellTokens}
use Rattle.abc_bars.specs.LookBack.Defaults.{defaults_at}
use Rattle.abc_bars_body.specs.SameEntry.{bar_steps}
use Rattle.abc_bars_body.specs.Step.{field_in, line_in}
use Rattle.abc_bars_body.specs.declared.entry.Entry.TheVariants as entries
use Rattle.abc_fields.specs.declared.fault_code.FaultCode.{FaultCode}
use Rattle.abc_fields.specs.declared.fault_code.FaultCode.TheVariants as codes
use Rattle.abc_fields.specs.declared.meter.Meter.{Meter}
use Rattle.abc_fields.specs.declared.meter.Meter.TheVariants.{Free, Of}
use Rattle.abc_fields.specs.declared.tempo.Tempo.{Tempo}
use Rattle.abc_fields.specs.declared.tempo.Tempo.TheVariants.{Unset, Units, Beat}
use Rattle.abc_fold.specs.Steps.{items_from}
use Rattle.abc_bars_header.specs.FieldKind.{kind_of}
use Rattle.abc_bars_header.specs.HeaderLine.{HeaderLine, FieldLine, DirectiveLine}
use Rattle.abc_bars_header.specs.declared.defaults.Defaults.{Defaults}
use Rattle.abc_bars_header.specs.declared.field_kind.FieldKind.{FieldKind}
use Rattle.abc_bars_header.specs.declared.field_kind.FieldKind.TheVariants as kinds
use Rattle.abc_scan.specs.declared.field.Field.{Field}
use Rattle.abc_bars_items.specs.Item.{Items}
use Rattle.abc_text.specs.Number.{IsNumber}
use Rattle.abc_time.specs.Tempo.{quarter_micros_of}
use Rattle.abc_time.specs.declared.ratio.Ratio.{Ratio}
use Rattle.abc_tune.specs.Abc.{rules_of_abc}
use Rattle.abc_tune.specs.Built.{build_faults_of}
use Rattle.abc_tune_compiler.specs.Tune.{first_of}

-- What the cells of a tune give, if the file header sets these values.
abbrev pub items_of_tune : Defaults → List CellTokens → List Items
items_of_tune opening cells = items_from bar_steps (entries.Opening opening) cells

-- Whether a line is a K:.
abbrev pub is_key : FieldKind → Bool
is_key kinds.Key = true
is_key _ = false

abbrev pub is_key_line : HeaderLine → Bool
is_key_line (FieldLine field) = is_key (kind_of field.letter)
is_key_line (DirectiveLine directive) = false

-- Whether a tune has a K: before all music, from this line or from music on.
abbrev pub has_key_from : Option HeaderLine → Bool → Bool
has_key_from None following = false
has_key_from (Some line) following = is_key_line line || following

-- Whether a tune has a K: before all music.
abbrev pub has_key : List CellTokens → Bool
has_key [] = false
has_key (cell ∷ cells) = has_key_from (line_in cell) (has_key cells)

-- The lines of a header up to this one or to music, newest first, or all of them: a K: is the last one.
abbrev pub header_up_to : Option HeaderLine → List HeaderLine → List HeaderLine → List HeaderLine
header_up_to None before all = before
header_up_to (Some line) before all = if is_key_line line then line ∷ before else all

-- The lines that are before a line among those of a header, and that line, if it is one.
abbrev pub and_line : Option HeaderLine → List HeaderLine → List HeaderLine
and_line None before = before
and_line (Some line) before = line ∷ before

-- The lines of a tune's header up to its K: or to music, newest first, before them these.
abbrev pub header_lines : List HeaderLine → List CellTokens → List HeaderLine
header_lines before [] = before
header_lines before (cell ∷ cells) = header_up_to (line_in cell) before (header_lines (and_line (line_in cell) before) cells)

-- The unit note length of a tune whose header does not set one: a sixteenth in a meter below 3/4, else an eighth.
abbrev pub unit_of_meter : Option Meter → Ratio
unit_of_meter None = record { num = 1; den = 8 }
unit_of_meter (Some Free) = record { num = 1; den = 8 }
unit_of_meter (Some (Of num den)) =
    if nat_lt (4 * num) (3 * den) then record { num = 1; den = 16 } else record { num = 1; den = 8 }

-- Whether no tempo event can say a tempo. A number alone counts unit notes, which is not in ABC 2.1.
abbrev pub is_out_of_range : Ratio → Option Tempo → Bool
is_out_of_range unit None = false
is_out_of_range unit (Some Unset) = false
is_out_of_range unit (Some (Units n)) = is_none (quarter_micros_of unit n)
is_out_of_range unit (Some (Beat beat n)) = is_none (quarter_micros_of beat n)

-- Whether no tempo event can say the tempo that these values set, with the unit note length that they set.
abbrev pub sets_out_of_range : Defaults → Bool
sets_out_of_range values = is_out_of_range (unwrap_or values.unit (unit_of_meter values.meter)) values.tempo

abbrev pub is_missing_key : FaultCode → Bool
is_missing_key codes.MissingKey = true
is_missing_key _ = false

abbrev pub is_tempo_range : FaultCode → Bool
is_tempo_range codes.TempoRange = true
is_tempo_range _ = false

-- A tune has the fault MissingKey exactly if no K: is before all music.
abbrev pub MissesKeyByText : Type 0
MissesKeyByText = (opening : Defaults) (cells : List CellTokens)
    → list_any is_missing_key (build_faults_of (items_of_tune opening cells)) ≡ not (has_key cells)

-- A tune has the fault TempoRange exactly if no tempo event can hold the tempo with which it begins. That is the tempo of the
-- last Q: of its header that sets one, else that of the file header. A number alone counts unit notes: those of the header's
-- last L:, else of the file header, else of the header's meter. Each tune begins with a header line, its X:.
abbrev pub TempoRangeByText : Type 0
TempoRangeByText = (opening : Defaults) (line : HeaderLine) (first : CellTokens) (cells : List CellTokens)
    → line_in first ≡ Some line
    → list_any is_tempo_range (build_faults_of (items_of_tune opening (first ∷ cells)))
    ≡ sets_out_of_range (defaults_at opening (header_lines [] (first ∷ cells)))

-- The reference number of an X: with the value `value`: a number from 1. It is 0 if the value is empty or anything else; both
-- exceptions are not in ABC 2.1.
pub data IsReference (value : List ℕ) (number : ℕ) : Type 0 where
  empty : value ≡ [] → number ≡ 0 → IsReference value number
  written : IsNumber value number → 1 ≤ number → IsReference value number
  refused : value ≢ [] → ((n : ℕ) → IsNumber value n → 1 ≤ n → ⊥) → number ≡ 0 → IsReference value number

-- The number of a tune in its book is that of the X: with which it begins.
abbrev pub NumberByText : Type 0
NumberByText = (opening : Defaults) (field : Field) (first : CellTokens) (cells : List CellTokens)
    → field_in first ≡ Some field → kind_of field.letter ≡ kinds.Reference
    → IsReference field.value (first_of rules_of_abc.number 0 (items_of_tune opening (first ∷ cells)))
