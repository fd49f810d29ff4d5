-- How long notes and rests last, by what is round them: apart from how it is computed.
-- ABC 2.1 sections 4.3, 4.4, 4.5 and 4.13.
use Rattle.std.specs.Prelude.{◌≡◌, ◌≤◌, ◌↔◌, ◌⊎◌, ℕ, ◌+◌, ◌*◌, ◌^◌, Bool, true, false, List, [], ◌∷◌, drop, Option, Some, None}
use Rattle.std.specs.Prelude.{IfSome}
use Rattle.std.specs.List.{Contains}
use Rattle.abc_fields.specs.declared.fault_code.FaultCode.{FaultCode}
use Rattle.abc_fields.specs.declared.fault_code.FaultCode.TheVariants.{BadLength, FreeBarRest}
use Rattle.abc_fields.specs.declared.meter.Meter.TheVariants.{Free, Of}
use Rattle.abc_fields.specs.Meter.{HasMeterRange}
use Rattle.abc_scan.specs.declared.broken.BrokenRhythm.{BrokenRhythm}
use Rattle.abc_scan.specs.declared.broken.Direction.{Direction}
use Rattle.abc_scan.specs.declared.broken.Direction.TheVariants.{Right, Left}
use Rattle.abc_scan.specs.declared.length.WrittenLength.{WrittenLength}
use Rattle.abc_scan.specs.declared.length.WrittenLength.TheVariants.{Factor}
use Rattle.abc_scan.specs.declared.note.Note.{Note}
use Rattle.abc_scan.specs.declared.spanned.Spanned.{Spanned}
use Rattle.abc_scan.specs.declared.token.TokenKind.{TokenKind}
use Rattle.abc_time.specs.declared.grains.Grains.{Grains}
use Rattle.abc_time.specs.declared.ratio.Ratio.{Ratio}
use Rattle.abc_time.specs.Grains.{grains_of_the_longest_length}
use Rattle.abc_time.specs.Length.{IsLength}
use Rattle.abc_time.specs.Ratio.{IsRatio}
use Rattle.abc_bars_notes.specs.declared.broken.TheConstants.{MOST_MARKS}
use Rattle.abc_bars_items.specs.declared.item.Item.{Item}
use Rattle.abc_bars_items.specs.declared.item.Item.TheVariants as items
use Rattle.abc_bars_voice.specs.declared.voice_state.VoiceState.{VoiceState}
use Rattle.abc_bars_notes.specs.Acting.{IsTimeAt, IsMarkAt, ActsBefore, ActsAfter, preceding_at}
use Rattle.abc_bars_notes.specs.BarRest.{AreBars, bar_rest_of}
use Rattle.abc_bars_notes.specs.Broken.{factors_of}
use Rattle.abc_bars_items.specs.Column.{column_of}
use Rattle.abc_bars_notes.specs.TimeTokens.{play_note, play_rest, first_length}
use Rattle.abc_bars_voice.specs.Tuplet.{IsOpen, OpenTuplet}
use Rattle.abc_bars_voice.specs.UnitLength.{IsUnitPart}

-- The factor that changes nothing.
abbrev pub once : Ratio
once = record { num = 1; den = 1 }

-- A length text says a factor of two numbers, each from 1 and of nine digits at most. ABC 2.1 section 4.3;
-- the bounds are not in ABC 2.1.
pub record SaysFactor (written : WrittenLength) (factor : Ratio) : Type 0 where
  pub says : written ≡ Factor factor.num factor.den
  pub range : IsRatio factor

-- What is written after a chord multiplies each of its notes. ABC 2.1 section 4.17.
abbrev pub IsOuterFactor : Option WrittenLength → Ratio → Type 0
IsOuterFactor None factor = factor ≡ once
IsOuterFactor (Some outer) factor = SaysFactor outer factor

-- A tuplet puts p notes into the time of q. ABC 2.1 section 4.13.
abbrev pub IsTupletFactor : Option OpenTuplet → Ratio → Type 0
IsTupletFactor None factor = factor ≡ once
IsTupletFactor (Some tuplet) factor = (factor.num ≡ tuplet.q) × (factor.den ≡ tuplet.p)

-- What k marks of broken rhythm make of the note that they lengthen: 2 - 1/2^k. ABC 2.1 section 4.4.
pub record IsLengthened (k : ℕ) (factor : Ratio) : Type 0 where
  pub num : factor.num + 1 ≡ 2 * 2 ^ k
  pub den : factor.den ≡ 2 ^ k

-- What k marks make of the note that they shorten: 1/2^k. ABC 2.1 section 4.4.
pub record IsShortened (k : ℕ) (factor : Ratio) : Type 0 where
  pub num : factor.num ≡ 1
  pub den : factor.den ≡ 2 ^ k

-- `>` lengthens the note before it, `<` shortens it.
abbrev pub IsFirstFactor : Direction → ℕ → Ratio → Type 0
IsFirstFactor Right k factor = IsLengthened k factor
IsFirstFactor Left k factor = IsShortened k factor

-- `>` shortens the note after it, `<` lengthens it.
abbrev pub IsSecondFactor : Direction → ℕ → Ratio → Type 0
IsSecondFactor Right k factor = IsShortened k factor
IsSecondFactor Left k factor = IsLengthened k factor

-- The factor of the mark that acts on a place and a time token before it, if there is one.
abbrev pub IsFactorBefore : List (Spanned TokenKind) → ℕ → Ratio → Type 0
IsFactorBefore cell place factor =
    (((mark : BrokenRhythm) → ¬ ActsBefore cell mark place) × (factor ≡ once))
    ⊎ ((mark : BrokenRhythm) × ActsBefore cell mark place × IsSecondFactor mark.direction mark.marks factor)

-- The factor of the mark that acts on a place and the next time token, if there is one.
abbrev pub IsFactorAfter : List (Spanned TokenKind) → ℕ → Ratio → Type 0
IsFactorAfter cell place factor =
    (((mark : BrokenRhythm) → ¬ ActsAfter cell mark place) × (factor ≡ once))
    ⊎ ((mark : BrokenRhythm) × ActsAfter cell mark place × IsFirstFactor mark.direction mark.marks factor)

-- A note or rest with the length text `own` lasts g grains at a place of a cell; `outer` is the length text after its chord.
-- This is the exact product of the unit, both texts, the tuplet and the marks of broken rhythm that act there, and at
-- most 1,024 whole notes. The bound is not in ABC 2.1.
pub record Lasts (state : VoiceState) (cell : List (Spanned
    TokenKind)) (place : ℕ) (own : WrittenLength) (outer : Option WrittenLength) (g : ℕ) : Type 0 where
  pub own_factor : Ratio
  pub outer_factor : Ratio
  pub tuplet_factor : Ratio
  pub before_factor : Ratio
  pub after_factor : Ratio
  pub own_is : SaysFactor own own_factor
  pub outer_is : IsOuterFactor outer outer_factor
  pub tuplet_is : IsTupletFactor state.tuplet tuplet_factor
  pub before_is : IsFactorBefore cell place before_factor
  pub after_is : IsFactorAfter cell place after_factor
  pub exact : IsLength state.unit (own_factor ∷ outer_factor ∷ tuplet_factor ∷ before_factor ∷ after_factor ∷ []) g
  pub short : g ≤ grains_of_the_longest_length

-- The length of a note: the one of the rule, else that of one unit, which is not in ABC 2.1.
pub record IsGiven (Lasting : ℕ → Type 0) (unit : Ratio) (length : Grains) : Type 0 where
  pub accepted : (g : ℕ) → Lasting g → length.0 ≡ g
  pub refused : ((g : ℕ) → ¬ Lasting g) → IsLength unit [] length.0

-- BadLength is at the column exactly if the rule says no length. Not in ABC 2.1.
abbrev pub HasLengthFault : (ℕ → Type 0) → ℕ → List (ℕ × FaultCode) → Type 0
HasLengthFault Lasting column faults = Contains faults (column, BadLength) ↔ ((g : ℕ) → ¬ Lasting g)

-- A place of a cell with a note, chord or rest, and the state of its voice there. Each mark of broken rhythm in the cell
-- has at most three signs, as in each text. The state is one that a voice can have.
pub record IsPlace (state : VoiceState) (cell : List (Spanned TokenKind)) (place : ℕ) : Type 0 where
  pub time : IsTimeAt cell place
  pub marks : (mark : BrokenRhythm) (at : ℕ) → IsMarkAt cell at mark → mark.marks ≤ MOST_MARKS
  pub unit : IsUnitPart state.unit
  pub tuplet : IfSome state.tuplet IsOpen

-- The factors of broken rhythm as they are read at a place of a cell.
abbrev pub factors_at : List (Spanned TokenKind) → ℕ → List Ratio
factors_at cell place = factors_of (preceding_at cell place) (drop (place + 1) cell)

-- An item is one tone of this length, and takes so long.
abbrev pub IsOneTone : Item → Grains → Type 0
IsOneTone (items.Tone tones length) given = (length ≡ given) × (first_length tones ≡ given)
IsOneTone _ given = ⊥

-- A note is as long as the rule says, and has BadLength if it says nothing.
abbrev pub NotesLast : Type 0
NotesLast =
    (state : VoiceState) (cell : List (Spanned TokenKind)) (place from : ℕ) (note : Note) (tied : Bool) → IsPlace state cell place
    → (item : Item) × (given : Grains)
    × ((play_note state (factors_at cell place) tied from note).items ≡ item ∷ [])
    × IsOneTone item given
    × IsGiven (Lasts state cell place note.length None) state.unit given
    × HasLengthFault (Lasts state cell place note.length None) (column_of from) (play_note state (factors_at cell place) tied from
    note).faults

-- A rest is as long as the rule says, and has BadLength if it says nothing.
abbrev pub RestsLast : Type 0
RestsLast =
    (state : VoiceState) (cell : List (Spanned TokenKind)) (place from : ℕ) (written : WrittenLength) → IsPlace state cell place
    → (given : Grains)
    × ((play_rest state (factors_at cell place) from written).items ≡ items.Rest given false ∷ [])
    × IsGiven (Lasts state cell place written None) state.unit given
    × HasLengthFault (Lasts state cell place written None) (column_of from) (play_rest state (factors_at cell place) from
    written).faults

-- The item of a rest of bars in a meter. Its number of bars is one if none is written. If that number of bars has no length,
-- the item is one bar, with the fault BadLength. What is refused is not in ABC 2.1.
pub record RestsForBars (num den : ℕ) : Type 0 where
  pub bar : ℕ
  pub bar_is : AreBars num den 1 bar
  pub alone : bar_rest_of (Of num den) None ≡ (items.Rest (record { 0 = bar }) true, None)
  pub counted : (n g : ℕ) → AreBars num den n g → bar_rest_of (Of num den) (Some n) ≡ (items.Rest (record { 0 = g }) true, None)
  pub refused : (n : ℕ) → ((g : ℕ) → ¬ AreBars num den n g) → bar_rest_of (Of num den) (Some n)
      ≡ (items.Rest (record { 0 = bar }) true, Some BadLength)

-- A rest of bars lasts as many bars as it says.
abbrev pub BarRestsLast : Type 0
BarRestsLast = (num den : ℕ) → HasMeterRange num den → RestsForBars num den

-- In free meter a rest of bars takes no time, whatever its number is. Not in ABC 2.1.
abbrev pub FreeBarRests : Type 0
FreeBarRests = (bars : Option ℕ) → bar_rest_of Free bars ≡ (items.Rest (record { 0 = 0 }) true, Some FreeBarRest)
